use Rattle.std.proofs.Common.{rules, ◌≡◌, false}
use Rattle.chaosd_io.proofs.Runs.{went_well}
use Rattle.chaosd_lab.proofs.Plays.{waits_more}
use Rattle.chaosd_lab.proofs.FileSettling.{refused_line}
use Rattle.chaosd_lab.proofs.file_settle.settle.Goals as goal

pub returns-then-not-can_settle-clause-settled : goal.returns-then-not-can_settle-clause-settled
returns-then-not-can_settle-clause-settled g c =
    let no : c.can_settle.result ≡ false = search rules in
    refused_line c.args.lab.now c.can_settle.result _ _ c.can_settle.ensures no
    (waits_more (g.W.Write.contents c.args.writer.now) c.args.out.now c.put_line.new.out _
    (went_well _ _ _ c.written.ensures c.in_ok-written.was c.put_line.ensures))
