use Rattle.chaos_seal.proofs.Sealed.{if_both, sealed_at}
use Rattle.chaos_seal.proofs.seals.Seals.write.Goals as goal

pub returns-clause-sealed : goal.returns-clause-sealed
returns-clause-sealed c =
    if_both c.seal.result _ _ _
    (λ n. sealed_at c.args.self.now c.self.inside.me c.self.inside.session c.self.inside.is_closed c.self.inside.peers.items
    c.as_mut_slice.result.now c.self.inside.peers.len c.self.inside.peers.ok.0 c.args.place c.index-as_mut_slice-place.result c.seal.new.self c.self.view_is
    c.as_mut_slice.ensures.value c.requires c.index-as_mut_slice-place.is c.args.named c.args.payload.now _)
    c.seal.ensures.sealed c.seal.ensures.next
