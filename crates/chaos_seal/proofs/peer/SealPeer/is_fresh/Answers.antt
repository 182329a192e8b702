use Rattle.std.proofs.Common.{arith}
use Rattle.chaos_seal.proofs.Answered.{fresh_in_newer}
use Rattle.chaos_seal.proofs.peer.SealPeer.is_fresh.Goals as goal

pub returns-then-session-self : goal.returns-then-session-self
returns-then-session-self c =
    fresh_in_newer c.args.self.now c.args.session c.args.counter (omega (arith, c.if-session-self.true))
