-- Eleven steps of two nodes over sealed links, by which something is read. So the premises of the law of such nodes can be met.
--
-- The steps are those of two nodes without seals. The seal of each node seals every datagram once, in order.
--
--      A                                                B
--                                                       listens to HELLO
--      connects
--      a turn       -- datagram 0, counter 1: RFC -->   a turn
--                                                       accepts
--      a turn       <-- datagram 0, counter 1: OPN --   a turn
--      writes `Hello`
--      a turn       -- datagram 2, counter 3: data ->   a turn
--                                                       reads it
use Rattle.std.specs.Prelude.{◌≡◌, ℕ, suc, List, [], ◌∷◌, Some, codes}
use Rattle.chaos_packet.specs.Opcode.{op_data}
use Rattle.chaos_conn.specs.Opening.{rfc_item}
use Rattle.chaos_host.specs.View.{HostView}
use Rattle.chaos_lab.specs.declared.side.Side.{Side}
use Rattle.chaos_lab.specs.declared.side.Side.TheVariants.{B}
use Rattle.chaos_net.specs.Hello.{first_name, two_hosts}
use Rattle.chaos_net.specs.Net.{Net, Run, after_events}
use Rattle.chaos_net.specs.Present.{read_of}
use Rattle.chaos_net.specs.System.{IsNewSeat, StandsFor, Step, Steps, System, Turn}
use Rattle.chaos_net.specs.SystemHello.{Stride, after_step, hello_steps, two_nodes}
use Rattle.chaos_net.specs.TurnHalves.{node_turns}
use Rattle.chaos_net.specs.Turns.{client_host}
use Rattle.chaos_sealed_net.specs.SealedNodes.{AreRising, Counters, IsInTime, IsNearStep, newest_by}

-- each datagram has one counter, which is greater by one than the datagram's number
abbrev pub once_each : Counters
once_each x number = suc number ∷ []

-- the counter under which a datagram comes in a step; 0 if no datagram comes
abbrev pub counter_in : Step → ℕ
counter_in (Turn x (Some number) start now) = suc number
counter_in step = 0

-- The steps lead from one system and net to another system and net: each is a step of the system, what comes in the step is in time and
-- near in the net before the step, and the events of the step are a run.
abbrev pub AreSealedSteps : System HostView → (Side → ℕ) → Net → List Stride → System HostView → Net → Type 0
AreSealedSteps s newest n [] t m = (t ≡ s) × (m ≡ n)
AreSealedSteps s newest n (one ∷ steps) t m =
    Steps client_host node_turns s one.step (after_step s one.step)
    × IsInTime once_each newest one.step (counter_in one.step) × IsNearStep n s one.step
    × Run n one.run (after_events n one.run)
    × AreSealedSteps (after_step s one.step) (newest_by newest one.step (counter_in one.step)) (after_events n one.run) steps t m

-- The counters rise and the nodes are new. The steps lead to a system in which B has read a request and `Hello`, and the net stands for
-- that system.
pub record SomethingIsReadBySealedNodes : Type 0 where
  pub rising : AreRising once_each
  pub new : (x : Side) → IsNewSeat client_host (two_nodes x)
  pub system : System HostView
  pub net : Net
  pub steps : AreSealedSteps two_nodes (λ x. 0) two_hosts hello_steps system net
  pub stands : StandsFor client_host system net
  pub read : read_of ((net B).story first_name)
      ≡ rfc_item (codes "HELLO") ∷ record { op = op_data; body = codes "Hello" } ∷ []
