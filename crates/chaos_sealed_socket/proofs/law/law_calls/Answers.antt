use Rattle.chaos_sealed_socket.proofs.SomeCalls.{has_one_destination, something_is_answered, something_is_received, something_is_sent}
use Rattle.chaos_sealed_socket.proofs.law.law_calls.Goals as goal

pub returns-clause-received : goal.returns-clause-received
returns-clause-received c = something_is_received

pub returns-clause-sent : goal.returns-clause-sent
returns-clause-sent c = something_is_sent

pub returns-clause-answers : goal.returns-clause-answers
returns-clause-answers c = something_is_answered

pub returns-clause-destination : goal.returns-clause-destination
returns-clause-destination c = has_one_destination
