use Rattle.std.proofs.Common.{◌≤◌, ◌≡◌, ◌*◌, length}
use Rattle.std.specs.Prelude.{min}
use Rattle.chaos_file.specs.declared.limits.TheConstants.{MAX_CHUNK}
use Rattle.file_copy.specs.Copy.{upto}
use Rattle.file_copy.specs.Talk.{Since}
use Rattle.file_copy.specs.Row.{row_command}
use Rattle.file_copy.specs.Ends.{read_received}
use Rattle.file_copy.proofs.get.read_all.Given as goal

abbrev pub invariant-loop-i : goal.invariant-loop-i
invariant-loop-i g l = record {
  sent : l.flight.sent ≤ l.row.count;
  asked : l.i ≤ l.flight.sent;
  place : l.flight.received ≡ l.i;
  unfailed : (g.T.Talk.course l.talk).failures ≤ (g.T.Talk.course l.fn.talk).failures;
  patient : (g.T.Talk.course l.talk).patience ≡ (g.T.Talk.course l.fn.talk).patience;
  size : length l.bytes.items ≡ min (MAX_CHUNK * l.i) l.len;
  talk : Since (g.T.Talk.talked l.fn.talk) (g.T.Talk.talked l.talk) (upto (row_command l.row) l.flight.sent)
      (upto (read_received l.first l.bytes.items) l.i);
}
