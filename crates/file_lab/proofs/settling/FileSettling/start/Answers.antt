use Rattle.std.proofs.Common.{length, ap}
use Rattle.file_lab.specs.Events.{file_event}
use Rattle.file_lab.specs.Settling.{homing}
use Rattle.file_lab.proofs.Stepping.{starts_as}
use Rattle.file_lab.proofs.settling.FileSettling.start.Goals as goal

pub returns : goal.returns
returns c =
    starts_as homing c.args.lab.now (file_event c.announcement.result) (length c.copies.result.now)
    c.announcement.ensures (ap length c.copies.ensures)
