use Rattle.std.proofs.Common.{◌≡◌, ◌∙◌, true, ap, sym, slice_get, Some}
use Rattle.chaos_host.specs.Slot.{is_used_at, is_used_in, named_slot}
use Rattle.chaos_host.specs.View.{HostView, look_slot}
use Rattle.chaos_host.proofs.Indices.{index_names}
use Rattle.chaos_host.proofs.Places.{stands, used_within}
use Rattle.chaos_host.proofs.host.Host.next_conn.Goals as goal
use Rattle.chaos_host.proofs.host.Host.next_conn.Goals.{then-is_used_at, else-is_used_at+then-from-len+in_ok-place}

pub returns-clause-named : goal.returns-clause-named
returns-clause-named c =
    let slots = c.self.inside.slots.items in
    let place = c.if-is_used_at.place in
    let slot = c.index-used.result.now in
    let used : is_used_at slots place ≡ true =
    elim c.if-is_used_at.branch as (λ _. is_used_at slots place ≡ true)
    [ then-is_used_at w ↦ rw w.place-is (sym c.is_used_at.ensures.used ∙ w.if-is_used_at.true) | else-is_used_at+then-from-len+in_ok-place w ↦ rw w.place-is (sym (c.self.invariant.in_use w.in_ok-place.place) ∙ w.in_ok-place.ensures.there) ] in
    let there : slice_get slots place ≡ Some slot =
    stands slots place slot (used_within slots place used) c.index-used.ensures in
    ap (λ (h : HostView). look_slot (λ conn. conn) (named_slot h.slots c.index_at.result)) (sym c.self.view_is)
    ∙ ap (look_slot (λ conn. conn))
    (index_names slots place c.index_at.result slot c.self.invariant.host.table.few there
    (sym (ap is_used_in there) ∙ used) (sym c.index_at.ensures))
