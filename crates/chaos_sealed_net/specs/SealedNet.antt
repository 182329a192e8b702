-- Two hosts on one network whose datagrams are sealed.
--
-- Each datagram carries some of the packets that a host has sent, and has a greater counter than all datagrams before. The
-- other host hears a packet only in a datagram whose counter is fewer than 256 below the greatest that it has heard.
-- Nothing else is asked of the seal: a datagram may be heard twice, and may carry any number of packets.
--
--       A sent packets      0    1    2    3    4    5
--       A sealed           [1]       [   2   ]      [4]      counters 1, 2 and 4; packets 1 and 4 are in no datagram
--       B heard            2, 1, 2                           the greatest counter that B heard is 2
use Rattle.std.specs.Prelude.{◌≡◌, ℕ, ◌+◌, ◌<◌, ◌≤◌, max, true, List, [], ◌∷◌, ◌++◌, length, Option, Some, None, slice_get, ◌⊎◌}
use Rattle.std.specs.List.{AllByRecursion}
use Rattle.chaos_packet.specs.Opcode.{kind_of}
use Rattle.chaos_conn.specs.Sending.{carries_ack}
use Rattle.chaos_host.specs.Deeds.{HostEvent}
use Rattle.chaos_lab.specs.declared.side.Side.{Side}
use Rattle.chaos_lab.specs.declared.side.Side.TheVariants.{A, B}
use Rattle.chaos_lab.specs.Machine.{other}
use Rattle.chaos_net.specs.Net.{Name, Story, Sent, Net, NetEvent, IsOwn, IsNew, Run, Near, Holds, happens, index_of}
use Rattle.chaos_net.specs.Net.NetEvent.{At, Arrives}

-- ---- the machine

-- A datagram under seal: its counter, and the numbers of the first and the last packet that it carries, with all between
-- them. The oldest packet that its side sent is number 0.
pub record Datagram : Type 0 where
  pub counter : ℕ
  pub first : ℕ
  pub last : ℕ

-- A net; the datagrams that each side sealed, the oldest first; and the greatest counter that each side has heard, 0
-- before it hears any.
pub record SealedNet : Type 0 where
  pub net : Net
  pub datagrams : Side → List Datagram
  pub newest : Side → ℕ

-- A user or a clock does something at a side. A side seals a datagram. Or a side hears the packet with this number in the
-- datagram at this place among those that the other side sealed.
pub data SealedEvent : Type 0 where
  Does : (side : Side) → (event : HostEvent) → SealedEvent
  Seals : (side : Side) → (datagram : Datagram) → SealedEvent
  Hears : (side : Side) → (place number now : ℕ) → SealedEvent

-- one more at a side
abbrev pub with_datagram : (Side → List Datagram) → Side → Datagram → Side → List Datagram
with_datagram datagrams A d A = datagrams A ++ d ∷ []
with_datagram datagrams A d B = datagrams B
with_datagram datagrams B d A = datagrams A
with_datagram datagrams B d B = datagrams B ++ d ∷ []

-- a side hears the counter of a datagram
abbrev pub hears : (Side → ℕ) → Side → Option Datagram → Side → ℕ
hears newest x None y = newest y
hears newest A (Some d) A = max (newest A) d.counter
hears newest A (Some d) B = newest B
hears newest B (Some d) A = newest A
hears newest B (Some d) B = max (newest B) d.counter

-- What an event makes of the machine. A side that hears a packet hears the counter of the datagram.
abbrev pub sealed_after : SealedNet → SealedEvent → SealedNet
sealed_after s (Does x event) = record s { net = happens s.net (At x event) }
sealed_after s (Seals x d) = record s { datagrams = with_datagram s.datagrams x d }
sealed_after s (Hears x place number now) = record s {
  net = happens s.net (Arrives x number now);
  newest = hears s.newest x (slice_get (s.datagrams (other x)) place);
}

-- ---- what may happen

-- d comes after e: the counter is greater, and all packets of d are later than those of e. Or d is e again, under a
-- greater counter.
pub record ComesAfter (e d : Datagram) : Type 0 where
  pub counter : e.counter < d.counter
  pub packets : (e.last < d.first) ⊎ ((d.first ≡ e.first) × (d.last ≡ e.last))

-- A side may seal packets that it has sent, after all datagrams that it sealed. So the last datagram may be sealed again,
-- and no other. No counter is 0.
pub record MaySeal (s : SealedNet) (x : Side) (d : Datagram) : Type 0 where
  pub some : 1 ≤ d.counter
  pub order : d.first ≤ d.last
  pub sent : d.last < length (s.net x).sent
  pub after : AllByRecursion (λ e. ComesAfter e d) (s.datagrams x)

-- how far below the greatest counter that was heard a counter may be
abbrev pub seal_window : ℕ
seal_window = 256

-- What is asked of connections alone. A packet that c sent comes to d, and s and t are their stories: d is near the
-- connection that was meant, which is c's peer, and c is near d's peer. So neither index was used again.
pub record IsNearFor (c d : Name) (s t : Story) : Type 0 where
  pub meant : (m : Name) → s.peer ≡ Some m → Near d m
  pub peer : (e : Name) → t.peer ≡ Some e → Near c e

-- So it is with each packet that carries an acknowledgement. All others may be of any age.
abbrev pub IsNear : Net → Side → Sent → Type 0
IsNear n x q =
    carries_ack (kind_of q.packet.op) ≡ true →
    (c d : Name) (s t : Story) → q.by ≡ Some c → (n (other x)).story c ≡ Some s → (n x).turn d.place ≡ d.turn
    → (n x).story d ≡ Some t → q.packet.dst_index ≡ index_of d → IsNearFor c d s t

-- A side may hear a packet in a datagram that the other side sealed with it, while the counter is in the window and the
-- connections are near.
pub record MayHear (s : SealedNet) (x : Side) (place number : ℕ) : Type 0 where
  pub datagram : Datagram
  pub there : slice_get (s.datagrams (other x)) place ≡ Some datagram
  pub first : datagram.first ≤ number
  pub last : number ≤ datagram.last
  pub inside : s.newest x < datagram.counter + seal_window
  pub near : (q : Sent) → slice_get (s.net (other x)).sent number ≡ Some q → IsNear s.net x q

-- What users and clocks make may happen at any time.
abbrev pub MayHappen : SealedNet → SealedEvent → Type 0
MayHappen s (Does x event) = IsOwn event
MayHappen s (Seals x d) = MaySeal s x d
MayHappen s (Hears x place number now) = MayHear s x place number

-- ---- runs

-- Each of these events may happen when it does, and they lead from one machine to another.
abbrev pub SealedRun : SealedNet → List SealedEvent → SealedNet → Type 0
SealedRun s [] r = r ≡ s
SealedRun s (e ∷ es) r = MayHappen s e × SealedRun (sealed_after s e) es r

-- nothing was sealed, and nothing heard
abbrev pub new_sealed : Net → SealedNet
new_sealed n = record { net = n; datagrams = λ x. []; newest = λ x. 0 }

-- ---- the law

-- the events of the net among them: to seal changes nothing there
abbrev pub events_of : List SealedEvent → List NetEvent
events_of [] = []
events_of (Does x event ∷ es) = At x event ∷ events_of es
events_of (Seals x d ∷ es) = events_of es
events_of (Hears x place number now ∷ es) = Arrives x number now ∷ events_of es

-- Every run of the sealed machine, from two new hosts on, is a run of the net: each packet that comes is fresh.
abbrev pub SealedRunsAreRuns : Type 0
SealedRunsAreRuns =
    (start : Net) (events : List SealedEvent) (s : SealedNet) → IsNew (start A) → IsNew (start B)
    → SealedRun (new_sealed start) events s → Run start (events_of events) s.net

-- So the law of the network holds after it.
abbrev pub SealedNetworkLaw : Type 0
SealedNetworkLaw =
    (start : Net) (events : List SealedEvent) (s : SealedNet) (x : Side) (name : Name) → IsNew (start A)
    → IsNew (start B) → SealedRun (new_sealed start) events s → Holds s.net x name
