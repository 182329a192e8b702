use Rattle.std.proofs.Common.{ap, arith}
use Rattle.chaos_seal.specs.Peers.{SealsView}
use Rattle.chaos_seal.specs.Seal.{payload_of}
use Rattle.chaos_seal.proofs.Answered.{after_at, given}
use Rattle.chaos_seal.proofs.Parts.{long}
use Rattle.chaos_seal.proofs.Sealed.{on_ok}
use Rattle.chaos_seal.proofs.seals.Seals.take_sealed.Goals as goal

pub greet-requires : goal.greet-requires
greet-requires c = omega (arith, long c.requires.comes.sealed)

pub give-requires : goal.give-requires
give-requires c = omega (arith, long c.requires.comes.sealed)

pub returns : goal.returns
returns c =
    given c.args.self.now c.hear.new.self c.args.bytes.now c.requires.peer c.args.head.now (payload_of c.args.bytes.now)
    c.give.result c.requires.comes
    (after_at c.args.self.now c.hear.new.self c.args.bytes.now c.args.place c.args.head.now c.requires
    (on_ok c.hear.result _ c.in_default.not-Err c.hear.ensures.heard)
    (omega (arith, c.if-head-self.false, ap (λ (v : SealsView). v.session) c.self.view_is)))
    c.give.ensures
