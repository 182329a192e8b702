-- Two nodes, and the sealed datagrams between them.
--
-- The seal of a node gives counters to the datagrams that the node posts, and no more is seen of a seal here.
--
--       A posted datagrams      0    1    2    3         by their numbers
--       and the seal gave       1    -    2,4  7         datagram 1 was lost, and datagram 2 was sealed again
use Rattle.std.specs.Prelude.{◌≡◌, ℕ, zero, suc, ◌+◌, ◌<◌, ◌≤◌, max, List, ◌∷◌, Some, Ok, slice_get, ⊤}
use Rattle.chaos_packet.specs.Packet.{PacketView}
use Rattle.chaos_host.specs.View.{HostView}
use Rattle.chaos_lab.specs.declared.side.Side.{Side}
use Rattle.chaos_lab.specs.declared.side.Side.TheVariants.{A, B}
use Rattle.chaos_lab.specs.Machine.{other}
use Rattle.chaos_net.specs.Net.{Sent, Net, NetEvent, Run, happens}
use Rattle.chaos_net.specs.Net.NetEvent.{Arrives}
use Rattle.chaos_net.specs.System.{System, Step, Steps, StandsFor, IsNewSeat, handed, numbers_of}
use Rattle.chaos_net.specs.System.Step.{Turn, Calls}
use Rattle.chaos_net.specs.TurnHalves.{node_turns}
use Rattle.chaos_net.specs.Turns.{client_host}
use Rattle.chaos_node.specs.Arrive.{Arrival}
use Rattle.chaos_sealed_net.specs.SealedNet.{IsNear, seal_window}

-- ---- counters

-- The counters that the seal of each node gave to the datagram with a number, among all that the node posted: several, if
-- the datagram was sealed again, and none, if the datagram was lost or was for a third host.
abbrev pub Counters : Type 0
Counters = Side → ℕ → List ℕ

-- No counter is 0. A datagram that is sealed again has a greater counter then. A later datagram has greater counters.
pub record AreRising (counters : Counters) : Type 0 where
  pub some : (x : Side) (m i c : ℕ) → slice_get (counters x m) i ≡ Some c → 1 ≤ c
  pub again : (x : Side) (m i j c d : ℕ) → i < j → slice_get (counters x m) i ≡ Some c
      → slice_get (counters x m) j ≡ Some d → c < d
  pub later : (x : Side) (m n i j c d : ℕ) → m < n → slice_get (counters x m) i ≡ Some c
      → slice_get (counters x n) j ≡ Some d → c < d

-- ---- which datagrams may come

-- a node hears a counter
abbrev pub hears_counter : (Side → ℕ) → Side → ℕ → Side → ℕ
hears_counter newest A counter A = max (newest A) counter
hears_counter newest A counter B = newest B
hears_counter newest B counter A = newest A
hears_counter newest B counter B = max (newest B) counter

-- the greatest counter that each node has heard, if what comes in the step has this counter
abbrev pub newest_by : (Side → ℕ) → Step → ℕ → Side → ℕ
newest_by newest (Turn x (Some number) start now) counter = hears_counter newest x counter
newest_by newest step counter = newest

-- A datagram comes under a counter that it has, and that is fewer than 256 below the greatest that the node has heard.
abbrev pub IsInTime : Counters → (Side → ℕ) → Step → ℕ → Type 0
IsInTime counters newest (Turn x (Some number) start now) counter =
    (i : ℕ) × (slice_get (counters (other x) number) i ≡ Some counter) × (newest x < counter + seal_window)
IsInTime counters newest step counter = ⊤

-- ---- which packets may come

-- The packets come one after another, and each packet is near when that packet comes.
abbrev pub AreNear : Net → Side → ℕ → List ℕ → List PacketView → Type 0
AreNear n x now (k ∷ ks) (p ∷ ps) =
    ((q : Sent) → slice_get (n (other x)).sent k ≡ Some q → IsNear n x q)
    × AreNear (happens n (Arrives x k now)) x now ks ps
AreNear n x now ks ps = ⊤

abbrev pub ComeNear : Net → Side → ℕ → List ℕ → Arrival → Type 0
ComeNear n x now numbers (Some (Ok packets)) = AreNear n x now numbers packets
ComeNear n x now numbers _ = ⊤

abbrev pub IsNearStep : Net → System HostView → Step → Type 0
IsNearStep n s (Turn x number start now) =
    ComeNear n x now (numbers_of (s (other x)).posts number) (handed (s (other x)).posts number)
IsNearStep n s (Calls x event) = ⊤

-- ---- the net behind them

-- A net stands for the system, and this stays so for a number of steps, whatever the steps are. If the datagram that
-- comes in a step is in time, and each of its packets is near, then a run leads to a net that stands for the system after
-- the step.
abbrev pub SealedStays : Counters → ℕ → System HostView → (Side → ℕ) → Net → Type 0
SealedStays counters zero s newest n = StandsFor client_host s n
SealedStays counters (suc k) s newest n = StandsFor client_host s n
    × ((step : Step) (counter : ℕ) (t : System HostView) → Steps client_host node_turns s step t
    → IsInTime counters newest step counter → IsNearStep n s step
    → (m : Net) × (events : List NetEvent) × Run n events m × SealedStays counters k t (newest_by newest step counter) m)

-- Behind two new nodes there is such a net, for any number of steps, and whatever the counters are.
abbrev pub SealedNodesStay : Type 0
SealedNodesStay = (counters : Counters) (k : ℕ) (s : System HostView) → AreRising counters
    → ((x : Side) → IsNewSeat client_host (s x)) → (n : Net) × SealedStays counters k s (λ x. 0) n
