use Rattle.std.proofs.Common.{◌≡◌}
use Rattle.file_copy.specs.Copy.{upto}
use Rattle.file_copy.specs.Talk.{SendsOn, Unheard}
use Rattle.file_copy.specs.Row.{row_command}
use Rattle.file_copy.proofs.window.send_more.Given as goal

abbrev pub invariant-loop-i : goal.invariant-loop-i
invariant-loop-i g l = record {
  talk : SendsOn g.T.Talk.talked l.fn.talk l.talk (upto (row_command l.row) l.fn.sent) (upto (row_command l.row) l.i);
  quiet : Unheard (g.T.Talk.talked l.fn.talk) (g.T.Talk.talked l.talk);
  still : (g.T.Talk.course l.talk).turns ≡ (g.T.Talk.course l.fn.talk).turns;
  unfailed : (g.T.Talk.course l.talk).failures ≡ (g.T.Talk.course l.fn.talk).failures;
  patient : (g.T.Talk.course l.talk).patience ≡ (g.T.Talk.course l.fn.talk).patience;
}
