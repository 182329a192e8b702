-- An own index names the slot in use that has it.
use Rattle.std.proofs.Common.{◌≡◌, ℕ, ◌&&◌, ◌==◌, if◌then◌else◌, Bool, true, false, slice_get, Option, Some, None, refl, arith}
use Rattle.std.proofs.lemmas.Bool.{eq-eqb, eqb-true}
use Rattle.std.proofs.lemmas.Option.{slice_get_within}
use Rattle.chaos_host.specs.declared.slot.Slot.{Slot}
use Rattle.chaos_host.specs.Slot.{is_used, index_of, place_of, with_index}
use Rattle.chaos_host.specs.Law.{IndexNames, IndexIsOf}

pub index_names : IndexNames
index_names slots place id slot few there used index =
    let within = slice_get_within slots place slot there in
    let at_place : place_of id ≡ place = omega (arith, index, within, few) in
    let found : slice_get slots (place_of id) ≡ Some slot = rw at_place there in
    let same : (index_of (place_of id) slot == id) ≡ true = rw at_place (eq-eqb (index_of place slot) id index) in
    rw found (rw (used, same) refl)

chosen : {X : Type 0} (b : Bool) (s x : X) → (if b then Some s else None) ≡ Some x → (b ≡ true) × (s ≡ x)
chosen true s x h = (refl, cc)
chosen false s x h = absurd (cc)

both : (a b : Bool) → (a && b) ≡ true → (a ≡ true) × (b ≡ true)
both true b h = (refl, h)
both false b h = absurd (cc)

pub named_is : (id : ℕ) (o : Option Slot) (slot : Slot) → with_index id o ≡ Some slot
    → (o ≡ Some slot) × (is_used slot ≡ true) × (index_of (place_of id) slot ≡ id)
named_is id None slot h = absurd (cc)
named_is id (Some s) slot h =
    let picked = chosen (is_used s && (index_of (place_of id) s == id)) s slot h in
    let tests = both (is_used s) (index_of (place_of id) s == id) picked.0 in
    let same = picked.1 in
    rw (← same) (refl, tests.0, eqb-true (index_of (place_of id) s) id tests.1)

pub index_is_of : IndexIsOf
index_is_of slots id slot h =
    let is = named_is id (slice_get slots (place_of id)) slot h in
    (place_of id, is.0, is.1, is.2)
