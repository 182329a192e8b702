-- A walk over the slots in use alone: a free slot changes nothing.
use Rattle.std.proofs.Common.{◌≡◌, zero, suc, ℕ, ◌+◌, ◌<◌, ◌≤◌, Bool, true, false, if◌then◌else◌, List, ◌++◌, length, slice_get, Option, Some, None, arith, inl, inr, refl, ap, sym, ◌∙◌, append-nil, subst}
use Rattle.std.proofs.lemmas.Bool.{cases_lt}
use Rattle.chaos_packet.specs.Packet.{PacketView}
use Rattle.chaos_host.specs.NextInUse.{IsFirstInUse}
use Rattle.chaos_host.specs.Slot.{is_used_in, is_used_at}
use Rattle.chaos_host.specs.Tick.{tick_slot}
use Rattle.chaos_conn.specs.View.{ConnView}
use Rattle.chaos_host.specs.View.{HostView, conn_at, conn_in, id_at, id_in}
use Rattle.chaos_host.specs.declared.slot.Slot.{Slot}
use Rattle.chaos_link.specs.declared.link.Link.{Ghosts}
use Rattle.chaos_node.specs.InTurn.{TurnDoes}
use Rattle.chaos_node.specs.Phase.{Effect, and_then, effect_singly_of, no_effect_on, over_slots}
use Rattle.chaos_node.specs.Slots.{tick_at}
use Rattle.chaos_node.specs.Timer.{holds_in, resends_at, resends_in, tick_by}
use Rattle.chaos_node.specs.declared.timer.RetransmitTimer.{RetransmitTimer}
use Rattle.chaos_node.specs.declared.turn.Turn.{Turn}
use Rattle.chaos_node.proofs.InTurn.{then_does}

-- A phase leaves a host as it is at a slot that is free, and sends nothing.
abbrev pub PassesFree : (ℕ → HostView → Effect) → Type 0
PassesFree phase = (place : ℕ) (h : HostView) → is_used_at h.slots place ≡ false → phase place h ≡ no_effect_on h

-- ---- phases at a free slot

free_in : (place : ℕ) (o : Option Slot) → is_used_in o ≡ false → id_in place o ≡ None
free_in place None free = refl
free_in place (Some slot) free = rw free refl

-- no index is of a free slot
pub id_of_free : (h : HostView) (place : ℕ) → is_used_at h.slots place ≡ false → id_at h place ≡ None
id_of_free h place free = free_in place (slice_get h.slots place) free

-- a phase that goes by the index in a slot
pub by_index : (phase : ℕ → HostView → Option ℕ → Effect)
    → ((place : ℕ) (h : HostView) → phase place h None ≡ no_effect_on h)
    → PassesFree (λ place h. phase place h (id_at h place))
by_index phase none place h free = ap (phase place h) (id_of_free h place free) ∙ none place h

tick_free : (h : HostView) (place now : ℕ) (o : Option Slot) → is_used_in o ≡ false
    → effect_singly_of (tick_slot h place now o) ≡ no_effect_on h
tick_free h place now None free = refl
tick_free h place now (Some slot) free = rw free refl

-- a free slot has nothing due
pub ticks_pass : (now : ℕ) → PassesFree (tick_at now)
ticks_pass now place h free = tick_free h place now (slice_get h.slots place) free

-- no connection is in a free slot
pub conn_free : (place : ℕ) (o : Option Slot) → is_used_in o ≡ false → conn_in place o ≡ None
conn_free place None free = refl
conn_free place (Some slot) free = rw free refl

held_free : (now : ℕ) (t : Option RetransmitTimer) (c : Option (ℕ × ConnView)) → c ≡ None → holds_in now t c ≡ false
held_free now None c none = refl
held_free now (Some t) c none = rw none refl

resends_none : (now : ℕ) (t : Option RetransmitTimer) (c : Option (ℕ × ConnView)) → c ≡ None → resends_in now t c ≡ false
resends_none now None c none = refl
resends_none now (Some t) c none = rw none refl

-- a free slot sends nothing again
pub resends_free : (ts : List RetransmitTimer) (now : ℕ) (h : HostView) (place : ℕ) → is_used_at h.slots place ≡ false
    → resends_at ts now h place ≡ false
resends_free ts now h place free =
    resends_none now (slice_get ts place) (conn_at h place) (conn_free place (slice_get h.slots place) free)

-- no timer holds back what isn't there, and a free slot has nothing due
pub timed_pass : (ts : List RetransmitTimer) (now : ℕ) → PassesFree (tick_by ts now)
timed_pass ts now place h free =
    ap (λ (held : Bool). if held then no_effect_on h else tick_at now place h)
    (held_free now (slice_get ts place) (conn_at h place) (conn_free place (slice_get h.slots place) free))
    ∙ ticks_pass now place h free

-- ---- walks

-- the next number, as an addition
pub next_number : (place : ℕ) → suc place ≡ place + 1
next_number place = omega arith

then_nothing : (first : Effect) (next : HostView → Effect) → next first.host ≡ no_effect_on first.host
    → and_then first next ≡ first
then_nothing first next nothing =
    ap (λ (x : Effect). record { host = x.host; lots = first.lots ++ x.lots }) nothing
    ∙ ap (λ (lots : List (List PacketView)). record { host = first.host; lots = lots }) (append-nil first.lots)

-- a phase over slots, of which the last are free
pub passed : (phase : ℕ → HostView → Effect) (m n : ℕ) (h : HostView) → PassesFree phase → m ≤ n
    → ((k : ℕ) → m ≤ k → k < n → is_used_at (over_slots phase m h).host.slots k ≡ false)
    → over_slots phase n h ≡ over_slots phase m h
passed phase m zero h passes within free =
    let none : m ≡ 0 = omega arith in ap (λ (k : ℕ). over_slots phase k h) (sym none)
passed phase m (suc n) h passes within free =
    elim (cases_lt n m) as (λ _. over_slots phase (suc n) h ≡ over_slots phase m h) [
      | inl all ↦ let same : suc n ≡ m = omega arith in ap (λ (k : ℕ). over_slots phase k h) same
      | inr less ↦
          let below : n < suc n = omega arith in
          ap (λ (x : Effect). and_then x (phase n))
          (passed phase m n h passes less (λ k from under. free k from (omega arith)))
          ∙ then_nothing (over_slots phase m h) (phase n)
          (passes n (over_slots phase m h).host (free n less below))
    ]

module _ {L : Type 0} {G : Ghosts L} where
  passes_to : (phase : ℕ → HostView → Effect) (a b : Turn L G) (m n : ℕ) (sent : Bool) → PassesFree phase
      → TurnDoes a b (over_slots phase m a.host.now) sent → m ≤ n
      → ((k : ℕ) → m ≤ k → k < n → is_used_at b.host.now.slots k ≡ false)
      → TurnDoes a b (over_slots phase n a.host.now) sent
  passes_to phase a b m n sent passes done within free =
      let here = λ (k : ℕ) (from : m ≤ k) (under : k < n).
      subst (λ (h : HostView). is_used_at h.slots k ≡ false) done.0.host (free k from under) in
      subst (λ (x : Effect). TurnDoes a b x sent) (sym (passed phase m n a.host.now passes within here)) done

  -- the first slots were walked over, and then the next that is in use
  pub then_next : (a b c : Turn L G) (phase : ℕ → ℕ → HostView → Effect) (from place : ℕ) (sent more all : Bool)
      → PassesFree (phase a.now) → TurnDoes a b (over_slots (phase a.now) from a.host.now) sent
      → IsFirstInUse b.host.now from place → TurnDoes b c (phase b.now place b.host.now) more
      → all ≡ (if more then true else sent)
      → TurnDoes a c (over_slots (phase a.now) (place + 1) a.host.now) all
  then_next a b c phase from place sent more all passes done next one e =
      let here = passes_to (phase a.now) a b from place sent passes done next.behind next.free in
      subst (λ (n : ℕ). TurnDoes a c (over_slots (phase a.now) n a.host.now) all) (next_number place)
      (then_does a b c (over_slots (phase a.now) place a.host.now) (λ (now : ℕ). phase now place) sent more all here one
      e)

  -- none is left that is in use
  pub then_none : (a b : Turn L G) (phase : ℕ → HostView → Effect) (from : ℕ) (sent : Bool) → PassesFree phase
      → TurnDoes a b (over_slots phase from a.host.now) sent → from ≤ length a.host.now.slots
      → ((k : ℕ) → from ≤ k → is_used_at b.host.now.slots k ≡ false)
      → TurnDoes a b (over_slots phase (length a.host.now.slots) a.host.now) sent
  then_none a b phase from sent passes done within free =
      passes_to phase a b from (length a.host.now.slots) sent passes done within (λ k behind below. free k behind)
