-- Two programs and the datagrams between the programs.
--
--      program at A                                                program at B
--    +----------------+   every datagram that A ever posted  -->  +----------------+
--    | host, service  |                                           | host, service  |
--    | what waits     |   <--  every datagram that B ever posted  | what waits     |
--    +----------------+   late, twice, out of order or never      +----------------+
--
-- A step is a turn of one program, in which a datagram of the other program comes or no datagram; or a step is a call
-- that the program's owner makes between turns. The law says that there is a net of hosts and packets behind the two
-- programs, whatever the steps are, while each packet that comes is fresh.
use Rattle.std.specs.Prelude.{◌≡◌, ℕ, zero, suc, List, [], ◌∷◌, ◌++◌, length, take, Option, Some, None, option_map, slice_get, Err, ⊤}
use Rattle.chaos_packet.specs.Packet.{PacketView}
use Rattle.chaos_conn.specs.Config.{ConfigView, IsConfig}
use Rattle.chaos_host.specs.Deeds.{HostEvent, host_made}
use Rattle.chaos_host.specs.View.{HostView, new_host, make_fault}
use Rattle.chaos_lab.specs.declared.side.Side.{Side}
use Rattle.chaos_lab.specs.Machine.{other}
use Rattle.chaos_link.specs.declared.carriage.Carriage.{Carriage}
use Rattle.chaos_link.specs.Link.{Addressed}
use Rattle.chaos_link.specs.Loads.{packets_of}
use Rattle.chaos_link.specs.Packets.{packets_read}
use Rattle.chaos_net.specs.Net.{Name, Net, NetEvent, IsOwn, Run, Reached, Holds}
use Rattle.chaos_node.specs.Arrive.{Arrival}
use Rattle.chaos_node.specs.Link.{packets_in, read_all, sent_by}
use Rattle.chaos_net.specs.Come.{Upon, ComeFresh}
use Rattle.chaos_net.specs.MadeTurns.{packets_sent}
use Rattle.chaos_net.specs.Turns.{Turns}

-- ---- datagrams

-- what comes if the network hands over the datagram with this number, among all that were posted, or hands over none
abbrev pub handed : List Addressed → Option ℕ → Arrival
handed posts None = None
handed posts (Some k) = option_map (λ d. packets_read d.bytes) (slice_get posts k)

-- What came is what the network handed over. Or the network handed over nothing, and a datagram without a packet came from
-- anyone: the host does the same as if nothing came.
abbrev pub Hands : List Addressed → Option ℕ → Arrival → Type 0
Hands posts None (Some (Err fault)) = ⊤
Hands posts number came = came ≡ handed posts number

-- consecutive numbers from this number on, one for each of the packets
abbrev pub from_on : ℕ → List PacketView → List ℕ
from_on k [] = []
from_on k (p ∷ ps) = k ∷ from_on (suc k) ps

abbrev pub numbers_at : List Addressed → ℕ → Option Addressed → List ℕ
numbers_at posts k None = []
numbers_at posts k (Some d) = from_on (length (read_all (take k posts))) (packets_in (packets_read d.bytes))

-- the numbers of the datagram's packets among all packets that were posted
abbrev pub numbers_of : List Addressed → Option ℕ → List ℕ
numbers_of posts None = []
numbers_of posts (Some k) = numbers_at posts k (slice_get posts k)

-- ---- programs

-- A program at its link: the program, the packets that wait to be sent, and each datagram that the program ever posted,
-- the oldest datagram first.
pub record Seat (P : Type 0) : Type 0 where
  pub program : P
  pub waiting : List PacketView
  pub posts : List Addressed

abbrev pub System : Type 0 → Type 0
System P = Side → Seat P

-- a turn, in which the datagram with this number comes, or none; or a call that the owner makes between turns
pub data Step : Type 0 where
  Turn : (side : Side) → (number : Option ℕ) → (start now : ℕ) → Step
  Calls : (side : Side) → (event : HostEvent) → Step

module _ {P : Type 0} (host_of : P → HostView) (turns : Turns P) where
  -- The program posts what waited, and then what the turn put out, in either carriage. The packets that went out are the
  -- packets that are read back from the posted bytes.
  pub record TakesTurn (came : Arrival) (start now : ℕ) (s t : Seat P) : Type 0 where
    pub carriage : Carriage
    pub lots : List (List PacketView)
    pub turn : turns came start now s.program t.program lots
    pub read : read_all (sent_by carriage (s.waiting ∷ lots)) ≡ packets_of (s.waiting ∷ lots)
    pub waiting : t.waiting ≡ []
    pub posts : t.posts ≡ s.posts ++ sent_by carriage (s.waiting ∷ lots)

  -- What the call puts out waits for the next turn.
  pub record TakesCall (event : HostEvent) (s t : Seat P) : Type 0 where
    pub own : IsOwn event
    pub host : host_of t.program ≡ (host_made (host_of s.program) event).view
    pub waiting : t.waiting ≡ s.waiting ++ (host_made (host_of s.program) event).packets
    pub posts : t.posts ≡ s.posts

  -- One program takes the step, and the other program does nothing.
  abbrev pub Steps : System P → Step → System P → Type 0
  Steps s (Turn x number start now) t =
      TakesTurn (handed (s (other x)).posts number) start now (s x) (t x) × (t (other x) ≡ s (other x))
  Steps s (Calls x event) t = TakesCall event (s x) (t x) × (t (other x) ≡ s (other x))

-- ---- the net behind them

-- Each packet of the datagram is fresh when that packet comes.
abbrev pub IsFreshStep : {P : Type 0} → (P → ℕ → ℕ → Upon) → Net → System P → Step → Type 0
IsFreshStep upon n s (Turn x number start now) =
    ComeFresh (upon (s x).program start now) n x now (numbers_of (s (other x)).posts number) (handed (s (other x)).posts number)
IsFreshStep upon n s (Calls x event) = ⊤

-- A net that is reached has the hosts of both programs. What a host sent in that net is what is read of the datagrams
-- that its program posted, and then what waits, in order.
pub record StandsFor {P : Type 0} (host_of : P → HostView) (s : System P) (n : Net) : Type 0 where
  pub reached : Reached n
  pub hosts : (x : Side) → (n x).host ≡ host_of (s x).program
  pub sent : (x : Side) → packets_sent (n x) ≡ read_all (s x).posts ++ (s x).waiting

module _ {P : Type 0} (host_of : P → HostView) (upon : P → ℕ → ℕ → Upon) (turns : Turns P) where
  -- A net stands for the system, and this stays so for a number of steps, whatever the steps are. If each packet that
  -- comes in a step is fresh, then a run leads to a net that stands for the system after the step.
  abbrev pub Stays : ℕ → System P → Net → Type 0
  Stays zero s n = StandsFor host_of s n
  Stays (suc k) s n = StandsFor host_of s n
      × ((step : Step) (t : System P) → Steps host_of turns s step t → IsFreshStep upon n s step
      → (m : Net) × (events : List NetEvent) × Run n events m × Stays k t m)

  -- This stays so for any number of steps.
  abbrev pub SystemsStay : Type 0
  SystemsStay = (k : ℕ) (s : System P) (n : Net) → StandsFor host_of s n → Stays k s n

-- ---- the start, and the law

-- a new program: the host is new, nothing waits, and nothing was posted
pub record IsNewSeat {P : Type 0} (host_of : P → HostView) (seat : Seat P) : Type 0 where
  pub address : ℕ
  pub conns : ℕ
  pub config : ConfigView
  pub right : make_fault address conns ≡ None
  pub sound : IsConfig config
  pub host : host_of seat.program ≡ new_host address conns config
  pub waiting : seat.waiting ≡ []
  pub posts : seat.posts ≡ []

module _ {P : Type 0} (host_of : P → HostView) where
  -- There is a net that stands for two new programs.
  abbrev pub NewSystemsStand : Type 0
  NewSystemsStand = (s : System P) → ((x : Side) → IsNewSeat host_of (s x)) → (n : Net) × StandsFor host_of s n

  -- The law of the network holds for each net that stands for a system: what a connection has read is a prefix of what
  -- its peer has written.
  abbrev pub SystemsHold : Type 0
  SystemsHold = (s : System P) (n : Net) → StandsFor host_of s n → (x : Side) (name : Name) → Holds n x name
