use Rattle.chaos_link.specs.Link.{Asks}
use Rattle.chaos_net.specs.TurnHalves.{node_turns}
use Rattle.chaos_net.specs.Turns.{client_host, client_upon}
use Rattle.chaos_net.proofs.Behind.{stays}
use Rattle.chaos_net.proofs.TurnHalves.{arrivals_are_steps, node_turns_are_runs, ticks_are_steps}
use Rattle.chaos_net.proofs.system_law.law_halves.Goals as goal

pub returns : goal.returns
returns g c = record {
  turns = node_turns_are_runs;
  stay = stays client_host client_upon node_turns node_turns_are_runs;
  arrivals = λ old new. arrivals_are_steps (Asks (g.L.Link.asked old) (g.L.Link.asked new));
  ticks = λ old new. ticks_are_steps (Asks (g.L.Link.asked old) (g.L.Link.asked new));
}
