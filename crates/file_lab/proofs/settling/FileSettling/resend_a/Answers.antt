use Rattle.chaos_lab.specs.declared.side.Side.TheVariants.{A}
use Rattle.chaos_lab.specs.Settling.{resend_moment}
use Rattle.file_lab.specs.Events.{file_event}
use Rattle.file_lab.specs.Settling.{homing}
use Rattle.file_lab.proofs.Stepping.{resends_as}
use Rattle.file_lab.proofs.settling.FileSettling.resend_a.Goals as goal

pub returns : goal.returns
returns c =
    resends_as A (resend_moment A c.args.lab.now.lab) homing c.args.lab.now (file_event c.resending.result)
    c.resending.ensures
