use Rattle.chaos_net.specs.Turns.{client_host, client_turns, client_upon}
use Rattle.chaos_net.proofs.Behind.{new_systems_stand, stays, systems_hold}
use Rattle.chaos_net.proofs.ClientTurns.{client_turns_are_runs}
use Rattle.chaos_net.proofs.system_law.law_nodes.Goals as goal

pub returns : goal.returns
returns c = record {
  begin = new_systems_stand client_host;
  stay = stays client_host client_upon client_turns client_turns_are_runs;
  law = systems_hold client_host c.law_network.ensures;
}
