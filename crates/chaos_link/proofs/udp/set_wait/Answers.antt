use Rattle.std.proofs.Common.{[], ◌∷◌, refl}
use Rattle.chaos_link.specs.Udp.{Wait, WaitAtMost}
use Rattle.chaos_link.proofs.Asked.{asks_both}
use Rattle.chaos_link.proofs.udp.set_wait.Goals as goal
use Rattle.chaos_link.proofs.udp.set_wait.Goals.{then-is_none+in_default, else-is_none}

pub returns-in-Err-set_waits-clause-nothing : goal.returns-in-Err-set_waits-clause-nothing
returns-in-Err-set_waits-clause-nothing g c =
    elim c.if-is_none.branch [
      | then-is_none+in_default w ↦ (
        WaitAtMost _ ∷ Wait c.args.waits ∷ [],
        refl,
        asks_both _ _ _ _ _ w.set_wait.ensures.asked (rw w.socket-is at c.set_waits.ensures.asked),
      )
      | else-is_none w ↦ (Wait c.args.waits ∷ [], refl, rw w.socket-is at c.set_waits.ensures.asked)
    ]

pub returns-clause-nothing : goal.returns-clause-nothing
returns-clause-nothing g c =
    elim c.if-is_none.branch [
      | then-is_none+in_default w ↦ (
        WaitAtMost _ ∷ Wait c.args.waits ∷ [],
        refl,
        asks_both _ _ _ _ _ w.set_wait.ensures.asked (rw w.socket-is at c.set_waits.ensures.asked),
      )
      | else-is_none w ↦ (Wait c.args.waits ∷ [], refl, rw w.socket-is at c.set_waits.ensures.asked)
    ]
