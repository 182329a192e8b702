-- Calls of a sealed socket in which the premises of its laws hold.
--
--   the host 257, which has the key      the host 258, whose socket this is       the host 259, without a key
--   seals a request  -- counter 1 -->    hands the request up
--                    -- the same -->     refuses the copy
--                                        passes the request up            <-- in clear -- sends a request
--                   <-- counter 1 --     sends a request to each of both  -- in clear -->
--
--   seals a request for another session of 258, which answers by a hello
use Rattle.std.specs.Prelude.{◌≡◌, ◌≢◌, ◌++◌, ℕ, All, List, [], ◌∷◌, Contains, Some, None, false, length}
use Rattle.std.specs.declared.net.socket_addr.SocketAddr.TheVariants.{V4}
use Rattle.std.specs.declared.net.socket_addr.SocketAddrV4.{SocketAddrV4}
use Rattle.chaos_link.specs.Datagram.{datagram_of}
use Rattle.chaos_link.specs.Keeper.{stays}
use Rattle.chaos_link.specs.Link.{Asks, Send}
use Rattle.chaos_link.specs.Packets.{CarriesAll}
use Rattle.chaos_link.specs.Udp.{AsksSocket, Outgoing, SendTo, SocketAsk, UdpView, new_udp}
use Rattle.chaos_link.specs.declared.keeper.FixedPeers.{FixedPeers}
use Rattle.chaos_seal.specs.Law.{Every, HasRightTag, IsUnheard, Up}
use Rattle.chaos_seal.specs.Opening.{Opens}
use Rattle.chaos_seal.specs.Peers.{new_peer}
use Rattle.chaos_seal.specs.Rising.{first_datagram, first_head, first_payload, first_up, one_host, request}
use Rattle.chaos_seal.specs.Seal.{sealed_form}
use Rattle.chaos_seal.specs.Sending.{sent_once}
use Rattle.chaos_seal.specs.declared.fault.SealFault.TheVariants as faults
use Rattle.chaos_seal.specs.declared.opened.Opened.TheVariants as opening
use Rattle.chaos_sealed_socket.specs.Beneath.{AsksBeneath}
use Rattle.chaos_sealed_socket.specs.Run.{Call, Makes, Opening, Sending, came_in}
use Rattle.chaos_sealed_socket.specs.Socket.{Replies, SealedView, Sealing, Turn}

-- the host 258, which has a key for the host 257 alone, and isn't closed
abbrev pub sealing : List ℕ → Sealing
sealing key = record { seals = one_host false key; kept = None }

-- its request to a host, which goes to this UDP address
abbrev pub request_to : SocketAddrV4 → ℕ → Outgoing
request_to there host = record { to = there; bytes = datagram_of (request 258 host) }

-- ---- What is received

abbrev pub some_calls : List ℕ → SocketAddrV4 → List Call
some_calls key there =
    Opening (V4 there) (first_datagram key first_payload) (opening.Payload (length first_payload))
    ∷ Opening (V4 there) (first_datagram key first_payload) (opening.Refused faults.OldCounter)
    ∷ Opening (V4 there) (datagram_of (request 259 258)) opening.Plain
    ∷ Sending (request_to there 257)
    ∷ Sending (request_to there 259)
    ∷ []

-- The socket has heard nothing and makes these calls. What came with a right tag was sealed by the host 257.
pub record CallsAreMade (key : List ℕ) (there : SocketAddrV4) : Type 0 where
  pub unheard : IsUnheard (sealing key).seals
  pub makes : Makes (sealing key) (some_calls key there)
  pub sealed : Every (λ d. (u : Up) → HasRightTag (sealing key).seals u d → Contains (first_up first_payload ∷ []) u) (came_in (some_calls key there))

abbrev pub SomethingIsReceived : Type 0
SomethingIsReceived = (key : List ℕ) (there : SocketAddrV4) → CallsAreMade key there

-- ---- What is sent

-- a socket that is the list of what it was asked
abbrev pub lists_asks : List SocketAsk → List SocketAsk → List SocketAsk → Type 0
lists_asks now start asks = now ≡ start ++ asks

-- over such a socket
abbrev pub over : List SocketAsk → Sealing → SealedView (List SocketAsk) (Unit {0})
over socket s = record { socket = socket; sealing = s; observer = tt }

-- the request to the host 257 under seal, and what the socket seals with afterwards
abbrev pub under_seal : List ℕ → SocketAddrV4 → Outgoing
under_seal key there = record {
  to = there;
  bytes =
      sealed_form key (record { to = 257; from = 258; session = 9; peer = 0; counter = 1 }) (datagram_of (request 258 257));
}

abbrev pub sealing_after : List ℕ → SocketAddrV4 → Sealing
sealing_after key there = record {
  seals = record (one_host false key) { peers = sent_once (new_peer 257 key) ∷ [] };
  kept = Some (request_to there 257);
}

-- The socket is asked to send a request to each of the other hosts. The socket beneath was asked to send the first under seal and the
-- second in clear.
pub record RequestsAreSent (key : List ℕ) (there : SocketAddrV4) : Type 0 where
  pub beneath : AsksBeneath lists_asks (over (SendTo (under_seal key there) ∷ SendTo (request_to there 259) ∷ []) (sealing_after key there)) (over [] (sealing key)) (SendTo (request_to there 257) ∷ SendTo (request_to there 259) ∷ [])

-- a link over the socket, which sends all to this UDP address
abbrev pub link_over : SocketAddrV4 → List SocketAsk → Sealing → UdpView (SealedView (List SocketAsk) (Unit {0})) FixedPeers
link_over there socket s = new_udp (over socket s) (record { hosts = []; bridge = Some there }) false

-- The link is asked to send the first of these requests.
abbrev pub LinkIsAsked : List ℕ → SocketAddrV4 → Type 0
LinkIsAsked key there =
    Asks (AsksSocket (AsksBeneath lists_asks) stays (link_over there [] (sealing key)))
    (AsksSocket (AsksBeneath lists_asks) stays (link_over there (SendTo (under_seal key there) ∷ []) (sealing_after key there)))
    (Send (record { to = 257; bytes = datagram_of (request 258 257) }) ∷ [])

abbrev pub SomethingIsSent : Type 0
SomethingIsSent = (key : List ℕ) (there : SocketAddrV4) → RequestsAreSent key there × LinkIsAsked key there

-- ---- What is answered

-- a request that the host 257 seals for another session
abbrev pub stale_datagram : List ℕ → List ℕ
stale_datagram key = sealed_form key (record first_head { peer = 8 }) first_payload

-- A hello is due for the request, and goes out.
pub record HelloGoes (key : List ℕ) (there : SocketAddrV4) : Type 0 where
  pub opens : Opens (sealing key).seals (stale_datagram key) (opening.Hello 257 5) (sealing key).seals
  pub turn : Turn
  pub replies : Replies (opening.Hello 257 5) (V4 there) (sealing key) turn
  pub sent : turn.sent ≢ []

abbrev pub SomethingIsAnswered : Type 0
SomethingIsAnswered = (key : List ℕ) (there : SocketAddrV4) → HelloGoes key there

-- ---- Where a datagram is to go

-- The datagram of a request carries a packet to one host alone.
pub record HasOneDestination : Type 0 where
  pub carried : CarriesAll (request 258 257 ∷ []) (datagram_of (request 258 257))
  pub all : All (λ p. p.dst ≡ 257) (request 258 257 ∷ [])
