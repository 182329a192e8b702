use Rattle.chaos_seal.proofs.Sealed.{heard_at, if_err, on_both, there_now}
use Rattle.chaos_seal.proofs.seals.Seals.hear.Goals as goal

pub returns-clause-heard : goal.returns-clause-heard
returns-clause-heard c =
    on_both c.hear.result _ _ _
    (heard_at c.args.self.now c.self.inside.me c.self.inside.session c.self.inside.is_closed c.self.inside.peers.items c.as_mut_slice.result.now c.self.inside.peers.len c.self.inside.peers.ok.0
    c.args.place c.index-as_mut_slice-place.result c.hear.new.self c.self.view_is c.as_mut_slice.ensures.value c.requires
    c.index-as_mut_slice-place.is c.args.session c.args.counter)
    c.hear.ensures.timely c.hear.ensures.heard

pub returns-clause-late : goal.returns-clause-late
returns-clause-late c =
    if_err c.hear.result _ _
    (λ fault late. (
      _,
      there_now c.args.self.now c.self.inside.me c.self.inside.session c.self.inside.is_closed c.self.inside.peers.items c.as_mut_slice.result.now c.self.inside.peers.len c.self.inside.peers.ok.0
          c.args.place c.index-as_mut_slice-place.result c.hear.new.self c.self.view_is c.as_mut_slice.ensures.value c.requires
          c.index-as_mut_slice-place.is,
      late,
    ))
    c.hear.ensures.late
