use Rattle.chaos_net.proofs.TwoConnections.{calls_are_taken, item_comes, other_is_there}
use Rattle.chaos_net.proofs.law.law_two_connections.Goals as goal

pub returns-clause-item : goal.returns-clause-item
returns-clause-item c = item_comes

pub returns-clause-other : goal.returns-clause-other
returns-clause-other c = other_is_there

pub returns-clause-calls : goal.returns-clause-calls
returns-clause-calls c = calls_are_taken
