use Rattle.chaos_link.specs.Link.{Asks}
use Rattle.chaos_net.proofs.ClientTurns.{client_turns_are_runs, runs_are_runs}
use Rattle.chaos_net.proofs.system_law.law_client_turns.Goals as goal

pub returns : goal.returns
returns g c = record {
  turns = client_turns_are_runs;
  runs = λ old new. runs_are_runs (Asks (g.L.Link.asked old) (g.L.Link.asked new));
}
