use Rattle.std.proofs.Common.{◌≡◌, rules}
use Rattle.chaos_node.specs.Arrive.{answer_to}
use Rattle.file_client.proofs.clock_driver.ClockDriverDriver.turn.Goals as goal

pub returns-in-LinkFault-clause-timed : goal.returns-in-LinkFault-clause-timed
returns-in-LinkFault-clause-timed g c = (
  c.waits-may_wait.result,
  c.waits-may_wait.ensures,
  c.timed_client_turn.result,
  answer_to c.timed_client_turn.new.told,
  c.timed_client_turn.ensures.turn,
)

pub returns-in_default : goal.returns-in_default
returns-in_default g c = record {
  looked = search rules;
  timed = (
    c.waits-may_wait.result,
    c.waits-may_wait.ensures,
    c.timed_client_turn.result,
    answer_to c.timed_client_turn.new.told,
    c.timed_client_turn.ensures.turn,
  );
  sent = search rules;
  same_link = search rules;
  same_clock = search rules;
  well = search rules;
  faults = search rules;
  failed = search rules;
}
