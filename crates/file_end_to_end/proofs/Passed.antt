-- Slots that are free again, once a server has passed over indices.
use Rattle.std.proofs.Common.{◌≡◌, ℕ, zero, suc, ◌<◌, ◌≤◌, ◌==◌, ◌&&◌, Bool, true, false, not, if◌then◌else◌, List, [], length, get_or, replicate, codes, Option, Some, None, Err, refl, sym, ap, ◌∙◌, subst, ⊎_elim, arith}
use Rattle.std.specs.Prelude.{slice_get, slice_set, nat_lt, unwrap_or}
use Rattle.std.proofs.lemmas.Bool.{false≢true, cases_Bool, cond-true, cond-false, eq-eqb, eqb-true}
use Rattle.std.proofs.lemmas.List.{length-set}
use Rattle.std.proofs.lemmas.Option.{slice_get_within, slice_get-get_or}
use Rattle.chaos_packet.specs.declared.limits.TheConstants.{MAX_DATA}
use Rattle.chaos_conn.specs.Act.Call.{Close, Request}
use Rattle.chaos_conn.specs.Config.{ConfigView}
use Rattle.chaos_host.specs.Acted.{HostActed, no_effect, slot_after_call, with_slot}
use Rattle.chaos_host.specs.Calls.{end_slot}
use Rattle.chaos_host.specs.Connect.{ConnectAnswer, connect_at, connect_slot}
use Rattle.chaos_host.specs.Slot.{after_ending, free_place, index_of, is_free, is_used, named_slot, place_of, with_index}
use Rattle.chaos_host.specs.View.{HostView, new_slot, own_end}
use Rattle.chaos_host.specs.declared.fault.ConnectFault.TheVariants as connecting
use Rattle.chaos_host.specs.declared.slot.Slot.{Slot}
use Rattle.chaos_host.proofs.Deeds.{free_there}
use Rattle.chaos_net.proofs.Next.{set_other, set_same}
use Rattle.chaos_node.specs.Passing.{after_passing, given_up, pass_slots}

-- At this place stands the same slot, if the slot was in use, and a free slot, if the slot was free.
record IsBackAt (slots : List Slot) (place : ℕ) (a : Slot) : Type 0 where
  slot : Slot
  there : slice_get slots place ≡ Some slot
  used : is_free a ≡ false → slot ≡ a
  free : is_free a ≡ true → is_free slot ≡ true

-- So it is at each place.
record IsBack (before after : List Slot) : Type 0 where
  size : length after ≡ length before
  at : (place : ℕ) (a : Slot) → slice_get before place ≡ Some a → IsBackAt after place a

same_back : (slots : List Slot) → IsBack slots slots
same_back slots = record {
  size = refl;
  at = λ place a is. record { slot = a; there = is; used = λ _. refl; free = λ free. free };
}

-- a free slot was taken, all others are back, and then the slot is free again
taken_back : (s t u : List Slot) (place : ℕ) (a new last : Slot) → slice_get s place ≡ Some a → is_free a ≡ true
    → IsBack (slice_set s place new) t → length u ≡ length t → slice_get u place ≡ Some last → is_free last ≡ true
    → ((q : ℕ) → (q ≡ place → ⊥) → slice_get u q ≡ slice_get t q) → IsBack s u
taken_back s t u place a new last is free back size there freed others = record {
  size = size ∙ back.size ∙ length-set s place new;
  at = λ q c was.
      ⊎_elim
      (λ (same : (q == place) ≡ true).
      let e : q ≡ place = eqb-true q place same in
      let c_is : c ≡ a = ap (λ (o : Option Slot). unwrap_or o a) (sym was ∙ ap (slice_get s) e ∙ is) in
      record {
        slot = last;
        there = ap (slice_get u) e ∙ there;
        used = λ used. absurd (false≢true (sym used ∙ ap is_free c_is ∙ free));
        free = λ _. freed;
      })
      (λ (apart : (q == place) ≡ false).
      let far : q ≡ place → ⊥ = λ e. false≢true (sym apart ∙ eq-eqb q place e) in
      let kept = back.at q c (set_other s place q new far ∙ was) in
      record { slot = kept.slot; there = others q far ∙ kept.there; used = kept.used; free = kept.free })
      (cases_Bool (q == place));
}

module _ (to k : ℕ) (h : HostView) (few : length h.slots ≤ 255)
    (next : (g : HostView) → length g.slots ≤ 255 → IsBack g.slots (pass_slots to k g).slots) where
  -- what was asked for, and is given up in the end
  abbrev Goes : HostActed ConnectAnswer → Type 0
  Goes acted = IsBack h.slots (given_up acted.answer (pass_slots to k acted.view)).slots

  either : (b : Bool) (x y : HostActed ConnectAnswer) → Goes x → Goes y → Goes (if b then x else y)
  either true x y p q = p
  either false x y p q = q

  at_slot : (place : ℕ) (slot : Slot) → free_place h.slots ≡ Some place → slice_get h.slots place ≡ Some slot
      → Goes (connect_slot h place to (codes "NONE") 0 0 (Some slot))
  at_slot place slot lowest is =
      let new : Slot = slot_after_call slot (Request (own_end h place slot) to (codes "NONE") 0 0) in
      let taken : HostView = with_slot h place new in
      let id : ℕ = index_of place slot in
      let last : HostView = pass_slots to k taken in
      let size : length taken.slots ≡ length h.slots = length-set h.slots place new in
      let back : IsBack taken.slots last.slots = next taken (omega (arith, size, few)) in
      let free : is_free slot ≡ true = free_there h.slots place slot lowest is in
      let within : place < length h.slots = slice_get_within h.slots place slot is in
      let named : place_of id ≡ place = omega (arith, within, few) in
      let kept = back.at place new (set_same h.slots place new slot is) in
      let at_id : slice_get last.slots (place_of id) ≡ Some kept.slot = ap (slice_get last.slots) named ∙ kept.there in
      let found : named_slot last.slots id ≡ with_index id (Some kept.slot) = ap (with_index id) at_id in
      ⊎_elim
      (λ (still : is_free new ≡ true).
      let none : named_slot last.slots id ≡ None =
      found ∙ cond-false (is_used kept.slot && (index_of (place_of id) kept.slot == id)) (Some kept.slot) None
      (ap (λ b. not b && (index_of (place_of id) kept.slot == id)) (kept.free still)) in
      subst (λ (o : Option Slot). IsBack h.slots (end_slot last id (Close []) o).view.slots) (sym none)
      (taken_back h.slots last.slots last.slots place slot new kept.slot is free back refl kept.there (kept.free still) (λ q far. refl)))
      (λ (used : is_free new ≡ false).
      let same : kept.slot ≡ new = kept.used used in
      let own : (index_of (place_of id) new == id) ≡ true =
      eq-eqb (index_of (place_of id) new) id (ap (λ p. index_of p new) named) in
      let some : named_slot last.slots id ≡ Some new =
      found ∙ ap (λ s. with_index id (Some s)) same
      ∙ cond-true (is_used new && (index_of (place_of id) new == id)) (Some new) None
      (ap (λ b. not b && (index_of (place_of id) new == id)) used ∙ own) in
      let freed : Slot = after_ending (slot_after_call new (Close [])) in
      subst (λ (o : Option Slot). IsBack h.slots (end_slot last id (Close []) o).view.slots) (sym some)
      (taken_back h.slots last.slots (slice_set last.slots (place_of id) freed) place slot new freed is free back
      (length-set last.slots (place_of id) freed)
      (ap (slice_get (slice_set last.slots (place_of id) freed)) (sym named) ∙ set_same last.slots (place_of id) freed kept.slot at_id)
      refl
      (λ q far. set_other last.slots (place_of id) q freed (λ e. far (e ∙ named)))))
      (cases_Bool (is_free new))

  at_place : (place : ℕ) (o : Option Slot) → free_place h.slots ≡ Some place → slice_get h.slots place ≡ o
      → Goes (connect_slot h place to (codes "NONE") 0 0 o)
  at_place place None lowest is = next h few
  at_place place (Some slot) lowest is = at_slot place slot lowest is

  one_more : (o : Option ℕ) → free_place h.slots ≡ o → Goes (connect_at h to (codes "NONE") 0 0 o)
  one_more None is = next h few
  one_more (Some place) is =
      either (nat_lt MAX_DATA (length (codes "NONE"))) (no_effect h (Err connecting.TooLong))
      (if to == 0 then no_effect h (Err connecting.BadAddress) else connect_slot h place to (codes "NONE") 0 0 (slice_get h.slots place))
      (next h few)
      (either (to == 0) (no_effect h (Err connecting.BadAddress))
      (connect_slot h place to (codes "NONE") 0 0 (slice_get h.slots place)) (next h few)
      (at_place place (slice_get h.slots place) is refl))

slots_back : (to k : ℕ) (h : HostView) → length h.slots ≤ 255 → IsBack h.slots (pass_slots to k h).slots
slots_back to zero h few = same_back h.slots
slots_back to (suc k) h few =
    one_more to k h few (λ (g : HostView) (fits : length g.slots ≤ 255). slots_back to k g fits) (free_place h.slots) refl

-- each slot is free
abbrev pub AreFree : List Slot → Type 0
AreFree slots = (place : ℕ) (a : Slot) → slice_get slots place ≡ Some a → is_free a ≡ true

free_back : (s t : List Slot) → IsBack s t → AreFree s → AreFree t
free_back s t back free place a is =
    let size = back.size in
    let inside = slice_get_within t place a is in
    let b : Slot = get_or s place a in
    let was : slice_get s place ≡ Some b = slice_get-get_or s place a (omega (arith, size, inside)) in
    let kept = back.at place b was in
    let same : a ≡ kept.slot = ap (λ (o : Option Slot). unwrap_or o a) (sym is ∙ kept.there) in
    ap is_free same ∙ kept.free (free place b was)

-- each slot of a new host
pub new_are_free : (config : ConfigView) (n : ℕ) → AreFree (replicate n (new_slot config))
new_are_free config zero place a is = absurd (cc)
new_are_free config (suc n) zero a is =
    ap (λ (o : Option Slot). is_free (unwrap_or o (new_slot config))) (sym is)
new_are_free config (suc n) (suc place) a is = new_are_free config n place a is

-- behind a host that passed over indices
pub passed_are_free : (to count : ℕ) (h : HostView) → length h.slots ≤ 255 → AreFree h.slots
    → (length (after_passing to count h).slots ≡ length h.slots) × AreFree (after_passing to count h).slots
passed_are_free to zero h few free = (refl, free)
passed_are_free to (suc count) h few free =
    let (size, freed) = passed_are_free to count h few free in
    let back = slots_back to (length h.slots) (after_passing to count h) (omega (arith, size, few)) in
    (back.size ∙ size, free_back (after_passing to count h).slots _ back freed)
