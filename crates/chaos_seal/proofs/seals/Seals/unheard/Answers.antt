use Rattle.std.proofs.Common.{◌∙◌, ap, sym}
use Rattle.chaos_seal.specs.Peers.{SealsView}
use Rattle.chaos_seal.proofs.Table.{heard_some, seen, unheard_none, unheard_some}
use Rattle.chaos_seal.proofs.seals.Seals.unheard.Goals as goal

pub returns-in_err-place : goal.returns-in_err-place
returns-in_err-place c =
    c.from_residual.ensures
    ∙ sym (unheard_none c.args.address c.args.self.now (sym c.place_of.ensures.place ∙ c.in_err-place.was))

pub returns-then-is_unheard : goal.returns-then-is_unheard
returns-then-is_unheard c =
    let (at, found) =
    seen c.args.address c.args.self.now.peers c.as_slice.result.now c.in_ok-place.place c.index-as_slice-place.result
    (sym c.place_of.ensures.place ∙ c.in_ok-place.was)
    (c.as_slice.ensures.value ∙ ap (λ (v : SealsView). v.peers) c.self.view_is) c.index-as_slice-place.is in
    sym
    (unheard_some c.args.address c.args.self.now c.index-as_slice-place.result found
    (sym c.is_unheard.ensures ∙ c.if-is_unheard.true))

pub returns-else-is_unheard : goal.returns-else-is_unheard
returns-else-is_unheard c =
    let (at, found) =
    seen c.args.address c.args.self.now.peers c.as_slice.result.now c.in_ok-place.place c.index-as_slice-place.result
    (sym c.place_of.ensures.place ∙ c.in_ok-place.was)
    (c.as_slice.ensures.value ∙ ap (λ (v : SealsView). v.peers) c.self.view_is) c.index-as_slice-place.is in
    sym
    (heard_some c.args.address c.args.self.now c.index-as_slice-place.result found
    (sym c.is_unheard.ensures ∙ c.if-is_unheard.false))
