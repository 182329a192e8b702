use Rattle.std.proofs.Common.{length, ap}
use Rattle.chaos_lab.specs.declared.side.Side.TheVariants.{A}
use Rattle.file_lab.specs.Events.{file_event}
use Rattle.file_lab.specs.SettlingLeft.{answers}
use Rattle.file_lab.proofs.Stepping.{tells_as}
use Rattle.file_lab.proofs.settling.FileSettling.tell.Goals as goal

pub returns : goal.returns
returns c =
    tells_as A (answers c.args.self.now) c.args.lab.now (file_event c.announcement.result) (length c.copies.result.now)
    c.announcement.ensures (ap length c.copies.ensures)
