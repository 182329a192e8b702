-- What a tick of a slot finds due, and what is due in some slot.
use Rattle.std.proofs.Common.{◌≡◌, ℕ, zero, suc, Bool, true, false, ◌&&◌, List, [], ◌∷◌, slice_get, Option, Some, None, refl, sym, ◌∙◌}
use Rattle.std.specs.List.{list_all}
use Rattle.std.proofs.lemmas.Bool.{and_parts}
use Rattle.chaos_conn.specs.State.{is_inactive}
use Rattle.chaos_conn.specs.View.{ConnView}
use Rattle.chaos_conn.specs.declared.state.State.{State}
use Rattle.chaos_conn.specs.declared.state.State.TheVariants as st
use Rattle.chaos_conn.specs.NextDue.{is_quiet, is_quiet_at, is_before}
use Rattle.chaos_host.specs.declared.slot.Slot.{Slot}
use Rattle.chaos_host.specs.NextDue.{TellsDue}
use Rattle.chaos_host.specs.Tick.{tick_slot, host_tick}
use Rattle.chaos_host.specs.View.{HostView}

-- ---- one slot

-- nothing is due at an inactive connection
idle : (s : State) (conn : ConnView) (now : ℕ) → conn.state ≡ s → is_inactive s ≡ true → is_quiet_at conn now ≡ true
idle st.Inactive conn now e h = rw e refl
idle st.RfcSent conn now e h = absurd (cc)
idle st.RfcReceived conn now e h = absurd (cc)
idle st.Open conn now e h = absurd (cc)
idle st.Answered conn now e h = absurd (cc)
idle st.ClsReceived conn now e h = absurd (cc)
idle st.LosReceived conn now e h = absurd (cc)
idle st.HostDown conn now e h = absurd (cc)
idle st.Forwarded conn now e h = absurd (cc)

-- a tick of a slot answers as its connection would, in use or free
ticked_by : (v : HostView) (place now : ℕ) (slot : Slot) (inactive : Bool) → is_inactive slot.conn.state ≡ inactive
    → is_quiet (tick_slot v place now (Some slot)).answer ≡ is_quiet_at slot.conn now
ticked_by v place now slot true e = rw e (sym (idle slot.conn.state slot.conn now refl e))
ticked_by v place now slot false e = rw e refl

ticked : (v : HostView) (place now : ℕ) (slot : Slot)
    → is_quiet (tick_slot v place now (Some slot)).answer ≡ is_quiet_at slot.conn now
ticked v place now slot = ticked_by v place now slot (is_inactive slot.conn.state) refl

-- ---- all slots

module _ {X : Type 0} (p : X → Bool) where
  -- what passes for all passes at each place
  passes : (xs : List X) (i : ℕ) (x : X) → list_all p xs ≡ true → slice_get xs i ≡ Some x → p x ≡ true
  passes [] i x h there = absurd (cc)
  passes (y ∷ xs) zero x h there = let same : y ≡ x = cc in rw (← same) ((and_parts (p y) (list_all p xs) h).0)
  passes (y ∷ xs) (suc i) x h there = passes xs i x ((and_parts (p y) (list_all p xs) h).1) there

  -- what doesn't pass for all fails at some place
  abbrev FailsAt : List X → Type 0
  FailsAt xs = (i : ℕ) × (x : X) × (slice_get xs i ≡ Some x) × (p x ≡ false)

  fails_by : (b : Bool) (x : X) (xs : List X) → p x ≡ b → (b && list_all p xs) ≡ false
      → (list_all p xs ≡ false → FailsAt xs) → FailsAt (x ∷ xs)
  fails_by true x xs e h later = let rest = later h in (suc rest.0, rest.1, rest.2, rest.3)
  fails_by false x xs e h later = (0, x, refl, e)

  fails : (xs : List X) → list_all p xs ≡ false → FailsAt xs
  fails [] h = absurd (cc)
  fails (x ∷ xs) h = fails_by (p x) x xs refl h (fails xs)

module _ (v : HostView) (now : ℕ) where
  quiet_slot : (place : ℕ) (o : Option Slot) → slice_get v.slots place ≡ o
      → list_all (λ slot. is_quiet_at slot.conn now) v.slots ≡ true
      → is_quiet (tick_slot v place now o).answer ≡ true
  quiet_slot place None e h = refl
  quiet_slot place (Some slot) e h =
      ticked v place now slot ∙ passes (λ s. is_quiet_at s.conn now) v.slots place slot h e

  some_slot : list_all (λ slot. is_quiet_at slot.conn now) v.slots ≡ false
      → (place : ℕ) × (is_quiet (host_tick v place now).answer ≡ false)
  some_slot h =
      let found = fails (λ s. is_quiet_at s.conn now) v.slots h in
      (found.0, rw found.2 (ticked v found.0 now found.1 ∙ found.3))

  -- The next moment is told where each slot is quiet before it, and not each from then on.
  pub tells : (due : Option ℕ) → list_all (λ slot. is_quiet_at slot.conn now) v.slots ≡ is_before now due
      → TellsDue v due now
  tells due e = record {
    before = λ h place. quiet_slot place (slice_get v.slots place) refl (e ∙ h);
    after = λ h. some_slot (e ∙ h);
  }
