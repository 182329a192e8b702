use Rattle.std.proofs.Common.{◌∙◌, ap, sym, take}
use Rattle.chaos_seal.specs.Peers.{SealsView}
use Rattle.chaos_seal.specs.declared.peer.SealPeer.{SealPeer}
use Rattle.chaos_seal.proofs.Sealed.{can_seal, cannot, exact_bytes, if_one, keeps_so, no_some, sealed_for}
use Rattle.chaos_seal.proofs.Table.{seen}
use Rattle.chaos_seal.specs.Sending.{newest}
use Rattle.chaos_seal.proofs.Sealed.{one_host}
use Rattle.chaos_seal.proofs.seals.Seals.seal.Goals as goal

pub returns-in_err-place-clause-some : goal.returns-in_err-place-clause-some
returns-in_err-place-clause-some c = (
  λ some. absurd (no_some c.from_residual.result c.from_residual.ensures some),
  λ can. absurd (cannot c.args.self.now c.args.to (sym c.place_of.ensures.place ∙ c.in_err-place.was) can.0),
)

pub returns-clause-sealed : goal.returns-clause-sealed
returns-clause-sealed c =
    let first = sym c.place_of.ensures.place ∙ c.in_ok-place.was in
    let (at, found) =
    seen c.args.to c.args.self.now.peers c.as_slice.result.now c.in_ok-place.place c.index-as_slice-place.result first
    (c.as_slice.ensures.value ∙ ap (λ (v : SealsView). v.peers) c.self.view_is) c.index-as_slice-place.is in
    if_one c.write.result _ _
    (λ n. sealed_for c.args.self.now c.args.to c.in_ok-place.place first c.write.new.self _ newest c.args.payload.now _
    (λ p there. ap (λ (q : SealPeer). q.session) (sym c.index-as_slice-place.is ∙ one_host _ c.index-as_slice-place.result p at there)))
    c.write.ensures.sealed

pub returns-clause-exact : goal.returns-clause-exact
returns-clause-exact c =
    if_one c.write.result _ _
    (λ n. exact_bytes c.args.self.now c.write.new.self c.args.to newest c.args.payload.now _)
    (returns-clause-sealed c)

pub returns-clause-some : goal.returns-clause-some
returns-clause-some c =
    let can =
    can_seal c.args.self.now c.args.to c.in_ok-place.place (sym c.place_of.ensures.place ∙ c.in_ok-place.was) c.args.payload.now in
    (λ some. can.0 (c.write.ensures.some.0 some), λ may. c.write.ensures.some.1 (can.1 may))

pub returns-clause-keeps : goal.returns-clause-keeps
returns-clause-keeps c =
    keeps_so c.args.self.now c.write.new.self c.args.to newest c.args.payload.now (λ n. take n c.write.new.room) c.write.result _
    (returns-clause-sealed c) c.write.ensures.none
