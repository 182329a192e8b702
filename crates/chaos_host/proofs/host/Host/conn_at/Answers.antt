use Rattle.std.proofs.Common.{◌≡◌, ◌∙◌, List, ap, sym, not, Some, length, slice_get, refl}
use Rattle.std.proofs.lemmas.Option.{slice_get_read}
use Rattle.chaos_host.specs.Slot.{named_slot}
use Rattle.chaos_host.specs.View.{HostView, look_slot}
use Rattle.chaos_host.specs.declared.slot.Slot.{Slot}
use Rattle.chaos_host.proofs.Indices.{index_names}
use Rattle.chaos_host.proofs.host.Host.conn_at.Goals as goal

pub returns-clause-named : goal.returns-clause-named
returns-clause-named c =
    let read = c.deref.result.now in
    let slots = c.self.inside.slots.items in
    let slot = c.in_ok-used.used.now in
    let found = c.in_ok-used.ensures.lookup in
    let there : slice_get slots c.args.slot ≡ Some slot =
    ap (λ (xs : List Slot). slice_get xs c.args.slot) (sym c.deref.ensures.value)
    ∙ slice_get_read read (length read) c.args.slot slot refl found.3.0 found.1 in
    let used = ap not (sym c.is_free.ensures ∙ c.if-is_free.false) in
    ap (λ (h : HostView). look_slot (λ conn. conn) (named_slot h.slots c.index_at.result)) (sym c.self.view_is)
    ∙ ap (look_slot (λ conn. conn))
    (index_names slots c.args.slot c.index_at.result slot c.self.invariant.host.table.few there used
    (sym c.index_at.ensures))
