use Rattle.chaos_link.specs.Link.{Asks}
use Rattle.chaos_host.specs.View.{HostView}
use Rattle.chaos_net.proofs.Queue.{queues_carry, turns_are_steps}
use Rattle.chaos_net.proofs.system_law.law_queues.Goals as goal

pub returns : goal.returns
returns g c = record {
  carry = λ old new. queues_carry (Asks (g.L.Link.asked old) (g.L.Link.asked new)) HostView;
  steps = λ old new. turns_are_steps (Asks (g.L.Link.asked old) (g.L.Link.asked new));
}
