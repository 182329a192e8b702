-- Eleven steps of two nodes. At the end B has read a request and data, so the law of systems isn't empty.
--
--      A, host 401 octal                    B, host 402
--                                           listens to HELLO
--      connects
--      a turn       -- datagram 0, RFC -->  a turn
--                                           accepts
--      a turn       <-- datagram 0, OPN --  a turn
--      writes `Hello`
--      a turn       -- datagram 2, data ->  a turn
--                                           reads it
use Rattle.std.specs.Prelude.{◌≡◌, ℕ, List, [], ◌∷◌, ◌++◌, Some, None, codes}
use Rattle.chaos_packet.specs.Opcode.{op_data}
use Rattle.chaos_conn.specs.Config.{usual_config}
use Rattle.chaos_conn.specs.Opening.{rfc_item}
use Rattle.chaos_conn.specs.Act.Call.{Accept, Write, Read}
use Rattle.chaos_host.specs.Deeds.{HostEvent, host_made}
use Rattle.chaos_host.specs.Deeds.HostEvent.{Listens, Connects, Ticks, Calls as Asks}
use Rattle.chaos_host.specs.View.{HostView, new_host}
use Rattle.chaos_lab.specs.declared.side.Side.{Side}
use Rattle.chaos_lab.specs.declared.side.Side.TheVariants.{A, B}
use Rattle.chaos_lab.specs.Machine.{other}
use Rattle.chaos_link.specs.declared.carriage.Carriage.TheVariants.{One}
use Rattle.chaos_net.specs.Hello.{first_name, two_hosts}
use Rattle.chaos_net.specs.Net.{Net, NetEvent, Run, after_events}
use Rattle.chaos_net.specs.Net.NetEvent.{At, Arrives}
use Rattle.chaos_net.specs.Present.{read_of}
use Rattle.chaos_node.specs.Arrive.{Arrival}
use Rattle.chaos_node.specs.Link.{sent_by}
use Rattle.chaos_node.specs.Turn.{client_phases}
use Rattle.chaos_net.specs.System.{Seat, System, Step, Turn, Calls, Steps, IsFreshStep, StandsFor, handed}
use Rattle.chaos_net.specs.Turns.{client_host, client_turns, client_upon}

-- ---- the nodes after a step, with version 1 of the carriage and without timers

abbrev pub turned : Seat HostView → Arrival → ℕ → Seat HostView
turned s came now = record {
  program = (client_phases [] came now s.program).host;
  waiting = [];
  posts = s.posts ++ sent_by One (s.waiting ∷ (client_phases [] came now s.program).lots);
}

abbrev pub called : Seat HostView → HostEvent → Seat HostView
called s event = record {
  program = (host_made s.program event).view;
  waiting = s.waiting ++ (host_made s.program event).packets;
  posts = s.posts;
}

abbrev pub with_seat : System HostView → Side → Seat HostView → System HostView
with_seat s A seat A = seat
with_seat s A seat B = s B
with_seat s B seat B = seat
with_seat s B seat A = s A

abbrev pub after_step : System HostView → Step → System HostView
after_step s (Turn x number start now) = with_seat s x (turned (s x) (handed (s (other x)).posts number) now)
after_step s (Calls x event) = with_seat s x (called (s x) event)

-- ---- the steps, and the events of each step

abbrev pub two_nodes : System HostView
two_nodes A = record { program = new_host 257 1 usual_config; waiting = []; posts = [] }
two_nodes B = record { program = new_host 258 1 usual_config; waiting = []; posts = [] }

-- a step, and the run of events that the step is
pub record Stride : Type 0 where
  pub step : Step
  pub run : List NetEvent

abbrev pub by : Step → List NetEvent → Stride
by step run = record { step = step; run = run }

abbrev pub hello_steps : List Stride
hello_steps =
    by (Calls B (Listens (codes "HELLO"))) (At B (Listens (codes "HELLO")) ∷ [])
    ∷ by (Calls A (Connects 258 (codes "HELLO") 100 1)) (At A (Connects 258 (codes "HELLO") 100 1) ∷ [])
    ∷ by (Turn A None 0 2) (At A (Ticks 0 2) ∷ [])
    ∷ by (Turn B (Some 0) 0 3) (Arrives B 0 3 ∷ At B (Ticks 0 3) ∷ [])
    ∷ by (Calls B (Asks 1 (Accept 200 4))) (At B (Asks 1 (Accept 200 4)) ∷ [])
    ∷ by (Turn B None 0 5) (At B (Ticks 0 5) ∷ [])
    ∷ by (Turn A (Some 0) 0 6) (Arrives A 0 6 ∷ At A (Ticks 0 6) ∷ [])
    ∷ by (Calls A (Asks 1 (Write op_data (codes "Hello") 7))) (At A (Asks 1 (Write op_data (codes "Hello") 7)) ∷ [])
    ∷ by (Turn A None 0 8) (At A (Ticks 0 8) ∷ [])
    ∷ by (Turn B (Some 2) 0 9) (Arrives B 2 9 ∷ At B (Ticks 0 9) ∷ [])
    ∷ by (Calls B (Asks 1 Read)) (At B (Asks 1 Read) ∷ [])
    ∷ []

-- The steps lead from one system and net to another system and net: each is a step of the system, what comes in the step
-- is fresh in the net before the step, and the events of the step are a run.
abbrev pub AreSteps : System HostView → Net → List Stride → System HostView → Net → Type 0
AreSteps s n [] t m = (t ≡ s) × (m ≡ n)
AreSteps s n (one ∷ steps) t m =
    Steps client_host client_turns s one.step (after_step s one.step) × IsFreshStep client_upon n s one.step
    × Run n one.run (after_events n one.run)
    × AreSteps (after_step s one.step) (after_events n one.run) steps t m

-- The steps lead to a system in which B has read a request and `Hello`, and the net stands for that system.
pub record SomethingIsRead : Type 0 where
  pub system : System HostView
  pub net : Net
  pub steps : AreSteps two_nodes two_hosts hello_steps system net
  pub stands : StandsFor client_host system net
  pub read : read_of ((net B).story first_name)
      ≡ rfc_item (codes "HELLO") ∷ record { op = op_data; body = codes "Hello" } ∷ []
