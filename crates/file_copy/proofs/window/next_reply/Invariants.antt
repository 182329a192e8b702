use Rattle.std.proofs.Common.{◌≤◌, ◌≡◌, ◌+◌, max}
use Rattle.file_copy.specs.Copy.{upto}
use Rattle.file_copy.specs.Talk.{SendsOn, Turned, Unheard}
use Rattle.file_copy.specs.Row.{row_command}
use Rattle.file_copy.proofs.window.next_reply.Given as goal

abbrev pub invariant-loop-turns : goal.invariant-loop-turns
invariant-loop-turns g l = record {
  within : l.flight.sent ≤ l.row.count;
  place : l.flight.received ≡ l.fn.flight.received;
  few : l.flight.sent ≤ max l.fn.flight.sent (l.flight.received + l.flight.pace.window);
  talk : SendsOn g.T.Talk.talked l.fn.talk l.talk (upto (row_command l.row) l.fn.flight.sent)
      (upto (row_command l.row) l.flight.sent);
  quiet : Unheard (g.T.Talk.talked l.fn.talk) (g.T.Talk.talked l.talk);
  unfailed : (g.T.Talk.course l.talk).failures ≤ (g.T.Talk.course l.fn.talk).failures;
  patient : (g.T.Talk.course l.talk).patience ≡ (g.T.Talk.course l.fn.talk).patience;
  turned : Turned l.turns (g.T.Talk.course l.fn.talk).turns (g.T.Talk.course l.talk).turns;
}
