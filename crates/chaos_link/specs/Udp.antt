-- What contracts see of a link over a socket.
use Rattle.std.specs.Prelude.{◌≡◌, ◌++◌, ◌∷◌, [], ℕ, ◌*◌, Bool, true, false, List, Option, Some, None}
use Rattle.std.specs.declared.net.socket_addr.SocketAddrV4.{SocketAddrV4}
use Rattle.chaos_packet.specs.Count.{with_failure}
use Rattle.chaos_link.specs.declared.link.Sent.{Sent}
use Rattle.chaos_link.specs.declared.link.Sent.TheVariants as sending
use Rattle.chaos_link.specs.declared.link.Received.{Received}
use Rattle.chaos_link.specs.declared.link.Received.TheVariants as receiving
use Rattle.chaos_link.specs.declared.limits.TheConstants.{MAX_WAIT}
use Rattle.chaos_link.specs.Keeper.{Becomes, Incoming, stays}
use Rattle.chaos_link.specs.Link.{Ask, Send, Receive}
use Rattle.chaos_link.specs.Peers.{PeersView, socket_of}
use Rattle.chaos_link.specs.declared.keeper.FixedPeers.{FixedPeers}
use Rattle.chaos_link.specs.declared.report.LinkReport.{LinkReport}
use Rattle.chaos_link.specs.declared.socket_fault.SocketFault.{SocketFault}

-- ---- The socket

-- the bytes of a datagram, and the UDP address that they are to go to
pub record Outgoing : Type 0 where
  pub to : SocketAddrV4
  pub bytes : List ℕ

-- what a socket is asked: to send a datagram; to receive one; to wait for at most so many nanoseconds if it waits; and to
-- wait, or to poll
pub data SocketAsk : Type 0 where
  SendTo : (datagram : Outgoing) → SocketAsk
  ReceiveOne : SocketAsk
  WaitAtMost : (nanos : ℕ) → SocketAsk
  Wait : (waits : Bool) → SocketAsk

-- the datagrams that it is asked to send
abbrev pub datagrams_in : List SocketAsk → List Outgoing
datagrams_in [] = []
datagrams_in (SendTo datagram ∷ asks) = datagram ∷ datagrams_in asks
datagrams_in (_ ∷ asks) = datagrams_in asks

-- ---- The link

-- its socket, its peers and who keeps them, how many calls failed, whether the last receive waited, whether the link hears its
-- peers and the bridge alone, and what it reports
pub record UdpView (S K : Type 0) : Type 0 where
  pub socket : S
  pub peers : PeersView
  pub keeper : K
  pub failures : ℕ
  pub waits : Option Bool
  pub closed : Bool
  pub report : LinkReport

-- a link that was asked nothing yet, and whose peers are fixed
abbrev pub new_udp : {S : Type 0} → S → PeersView → Bool → UdpView S FixedPeers
new_udp socket peers closed = record {
  socket = socket;
  peers = peers;
  keeper = record {};
  failures = 0;
  waits = None;
  closed = closed;
  report = record { source = None; fault = None };
}

-- the same link, whose peers this keeper keeps
abbrev pub with_keeper : {S K : Type 0} → K → UdpView S FixedPeers → UdpView S K
with_keeper keeper link = record {
  socket = link.socket;
  peers = link.peers;
  keeper = keeper;
  failures = link.failures;
  waits = link.waits;
  closed = link.closed;
  report = link.report;
}

module _ {S K : Type 0} where
  -- the link, whose socket is this now and whose last fault is this, after a send with this answer
  abbrev pub after_send : Sent → S → Option SocketFault → UdpView S K → UdpView S K
  after_send sending.Failed socket fault link = record link {
    socket = socket;
    failures = with_failure link.failures;
    report = record link.report { fault = fault };
  }
  after_send sending.Sent socket fault link =
      record link { socket = socket; report = record link.report { fault = fault } }
  after_send sending.Unknown socket fault link = record link { socket = socket }

-- the bytes for a peer go to the peer's UDP address; if there is no such peer, nothing goes out
abbrev pub outgoing_to : Option SocketAddrV4 → List ℕ → List Outgoing
outgoing_to None bytes = []
outgoing_to (Some to) bytes = record { to = to; bytes = bytes } ∷ []

-- what goes out if a link with these peers is asked this: each datagram goes to the UDP address of its peer
abbrev pub outgoing_of : PeersView → List Ask → List Outgoing
outgoing_of peers [] = []
outgoing_of peers (Send datagram ∷ asks) =
    outgoing_to (socket_of datagram.to peers) datagram.bytes ++ outgoing_of peers asks
outgoing_of peers (Receive may_wait ∷ asks) = outgoing_of peers asks

module _ {K : Type 0} (becomes : Becomes K) where
  -- From this keeper and these peers on, a link that is asked this may come to that keeper and those peers, and lets these
  -- datagrams go out: each datagram goes to the UDP address that the peers have for it when it is sent. The peers change at a
  -- receive alone, as their keeper may change them.
  abbrev pub SendsBy : K → PeersView → List Ask → K → PeersView → List Outgoing → Type 0
  SendsBy keeper peers [] last_keeper last outgoing = (last_keeper ≡ keeper) × (last ≡ peers) × (outgoing ≡ [])
  SendsBy keeper peers (Send datagram ∷ asks) last_keeper last outgoing =
      (others : List Outgoing) × (outgoing ≡ outgoing_to (socket_of datagram.to peers) datagram.bytes ++ others)
      × SendsBy keeper peers asks last_keeper last others
  SendsBy keeper peers (Receive may_wait ∷ asks) last_keeper last outgoing =
      (came : Option Incoming) × (next_keeper : K) × (next : PeersView) × becomes keeper peers came next_keeper next
      × SendsBy next_keeper next asks last_keeper last outgoing

module _ {S K : Type 0} (asked : S → S → List SocketAsk → Type 0) (becomes : Becomes K) where
  -- The link's socket was asked to send exactly what the link was asked to send, each datagram to its peer of that time.
  pub record AsksSocket (now start : UdpView S K) (asks : List Ask) : Type 0 where
    pub socket_asks : List SocketAsk
    pub socket_asked : asked now.socket start.socket socket_asks
    pub sends : SendsBy becomes start.keeper start.peers asks now.keeper now.peers (datagrams_in socket_asks)

-- Where the peers are fixed, the link has the same peers, and its socket was asked to send exactly what the link was asked to
-- send to these peers.
abbrev pub SendsToFixedPeers : {S : Type 0} → (S → S → List SocketAsk → Type 0) → Type 0
SendsToFixedPeers {S} asked = (now start : UdpView S FixedPeers) (asks : List Ask) → AsksSocket asked stays now start asks
    → (now.peers ≡ start.peers) × (socket_asks : List SocketAsk) × asked now.socket start.socket socket_asks
    × (datagrams_in socket_asks ≡ outgoing_of start.peers asks)

-- what a receive asks of the socket before it asks for a datagram: to wait for at most 10 milliseconds, if no receive has set
-- that; and to wait or to poll, if the last receive set the socket otherwise
abbrev pub setting : Option Bool → Bool → List SocketAsk
setting None may_wait = WaitAtMost (MAX_WAIT * 1_000_000) ∷ Wait may_wait ∷ []
setting (Some true) true = []
setting (Some false) false = []
setting (Some _) may_wait = Wait may_wait ∷ []

-- the failures after a receive with this answer
abbrev pub failures_after : Received → ℕ → ℕ
failures_after receiving.Failed failures = with_failure failures
failures_after _ failures = failures
