use Rattle.std.proofs.Common.{◌≤◌, ◌≡◌}
use Rattle.file_copy.specs.Copy.{upto}
use Rattle.file_copy.specs.Talk.{Since}
use Rattle.file_copy.specs.Row.{row_command}
use Rattle.file_copy.specs.Ends.{put_received}
use Rattle.file_copy.proofs.put.write_all.Given as goal

abbrev pub invariant-loop-i : goal.invariant-loop-i
invariant-loop-i g l = record {
  sent : l.flight.sent ≤ l.row.count;
  asked : l.i ≤ l.flight.sent;
  place : l.flight.received ≡ l.i;
  unfailed : (g.T.Talk.course l.talk).failures ≤ (g.T.Talk.course l.fn.talk).failures;
  patient : (g.T.Talk.course l.talk).patience ≡ (g.T.Talk.course l.fn.talk).patience;
  talk : Since (g.T.Talk.talked l.fn.talk) (g.T.Talk.talked l.talk) (upto (row_command l.row) l.flight.sent)
      (upto (put_received l.first l.bytes) l.i);
}
