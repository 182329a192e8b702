-- What goes out of a sealed socket.
use Rattle.std.specs.Prelude.{All, ◌≡◌, ◌<◌, ◌≤◌, ◌⊎◌, ℕ, List, [], ◌∷◌, length, map, Option, Some, None}
use Rattle.std.specs.declared.net.socket_addr.SocketAddr.{SocketAddr}
use Rattle.chaos_packet.specs.Packet.{PacketView}
use Rattle.chaos_link.specs.Heard.{source_of}
use Rattle.chaos_link.specs.Keeper.{Becomes}
use Rattle.chaos_link.specs.Link.{Ask, Asks}
use Rattle.chaos_link.specs.Packets.{CarriesAll}
use Rattle.chaos_link.specs.Udp.{AsksSocket, Outgoing, SocketAsk, UdpView, datagrams_in}
use Rattle.chaos_seal.specs.Law.{Every, Pairwise, key_of}
use Rattle.chaos_seal.specs.Opening.{Opens}
use Rattle.chaos_seal.specs.Peers.{SealsView, peer_of}
use Rattle.chaos_seal.specs.Seal.{Seals}
use Rattle.chaos_seal.specs.declared.form.Head.{Head}
use Rattle.chaos_seal.specs.declared.opened.Opened.TheVariants as opening
use Rattle.chaos_seal.specs.declared.peer.SealPeer.{SealPeer}
use Rattle.chaos_sealed_socket.specs.Beneath.{AsksBeneath}
use Rattle.chaos_sealed_socket.specs.Socket.{Replies, SealedView, Sealing, Turn, destination_of, sealed_host}

-- ---- Each datagram that goes out

-- what a datagram was sealed as: for this host, naming this session of it, under this counter, and with this payload
pub record Cover : Type 0 where
  pub host : ℕ
  pub named : ℕ
  pub counter : ℕ
  pub payload : List ℕ

-- a datagram that went out, with what it was sealed as, where it was
pub record Gone : Type 0 where
  pub datagram : Outgoing
  pub cover : Option Cover

abbrev pub head_of : SealsView → Cover → Head
head_of v c = record { to = c.host; from = v.me; session = v.session; peer = c.named; counter = c.counter }

-- the greatest counter that was sealed for a host
abbrev pub sent_by : Option SealPeer → ℕ
sent_by None = 0
sent_by (Some p) = p.sent

abbrev pub sent_to : ℕ → SealsView → ℕ
sent_to host v = sent_by (peer_of host v.peers)

-- The datagram is sealed for this host with the host's key, in the own session, and under a greater counter than any before. Its
-- payload is empty, or its first packet is for this host.
pub record IsUnder (v : SealsView) (c : Cover) (bytes : List ℕ) : Type 0 where
  pub key : List ℕ
  pub known : key_of c.host v ≡ Some key
  pub sealed : Seals key (head_of v c) c.payload bytes
  pub later : sent_to c.host v < c.counter
  pub meant : (c.payload ≡ []) ⊎ (destination_of c.payload ≡ Some c.host)

-- A datagram that isn't sealed is for no host with a key.
abbrev pub IsGuardedBy : SealsView → Option Cover → List ℕ → Type 0
IsGuardedBy v None bytes = sealed_host v bytes ≡ None
IsGuardedBy v (Some cover) bytes = IsUnder v cover bytes

abbrev pub IsGuarded : SealsView → Gone → Type 0
IsGuarded v gone = IsGuardedBy v gone.cover gone.datagram.bytes

-- Of two datagrams that were sealed for the same host, the later has the greater counter.
abbrev pub GrowsBy : Option Cover → Option Cover → Type 0
GrowsBy None next = Unit {0}
GrowsBy (Some earlier) None = Unit {0}
GrowsBy (Some earlier) (Some later) = earlier.host ≡ later.host → earlier.counter < later.counter

abbrev pub Grows : Gone → Gone → Type 0
Grows earlier later = GrowsBy earlier.cover later.cover

-- all of these datagrams, in this order
pub record AreGuarded (v : SealsView) (datagrams : List Outgoing) : Type 0 where
  pub gone : List Gone
  pub are : map (λ g. g.datagram) gone ≡ datagrams
  pub each : Every (IsGuarded v) gone
  pub grow : Pairwise Grows gone

-- ---- The laws

-- The own address, the own session, who is heard in clear and each key stay, and no counter sinks.
pub record KeepsKeys (v w : SealsView) : Type 0 where
  pub me : w.me ≡ v.me
  pub session : w.session ≡ v.session
  pub closed : w.closed ≡ v.closed
  pub keys : (host : ℕ) → key_of host w ≡ key_of host v
  pub counters : (host : ℕ) → sent_to host v ≤ sent_to host w

-- Whatever a sealed socket is asked, the socket beneath was asked to send such datagrams alone.
abbrev pub SealsWhatItSends : {S : Type 0} → (O : Type 0) → (S → S → List SocketAsk → Type 0) → Type 0
SealsWhatItSends {S} O asked = (now start : SealedView S O) (asks : List SocketAsk) → AsksBeneath asked now start asks
    → (beneath : List SocketAsk) × asked now.socket start.socket beneath
    × AreGuarded start.sealing.seals (datagrams_in beneath) × KeepsKeys start.sealing.seals now.sealing.seals

-- The same of a link over a sealed socket, whatever the link is asked.
abbrev pub LinkSealsWhatItSends : {S K : Type 0} → (O : Type 0) → (S → S → List SocketAsk → Type 0) → Becomes K → Type 0
LinkSealsWhatItSends {S} {K} O asked becomes = (old new : UdpView (SealedView S O) K) (asks : List Ask)
    → Asks (AsksSocket (AsksBeneath asked) becomes old) (AsksSocket (AsksBeneath asked) becomes new) asks
    → (beneath : List SocketAsk) × asked new.socket.socket old.socket.socket beneath
    × AreGuarded old.socket.sealing.seals (datagrams_in beneath)

-- The answer to a datagram that asks for a hello is one datagram at most, to where that came from, and shorter than that.
abbrev pub AnswersShorter : Type 0
AnswersShorter = (s : Sealing) (came : List ℕ) (host session : ℕ) (seals : SealsView) (from : SocketAddr) (turn : Turn)
    → Opens s.seals came (opening.Hello host session) seals
    → Replies (opening.Hello host session) from (record { seals = seals; kept = s.kept }) turn
    → (turn.sent ≡ []) ⊎ ((answer : Outgoing) × (turn.sent ≡ answer ∷ []) × (source_of from ≡ Some answer.to)
    × (length answer.bytes < length came))

-- Of a datagram that carries packets to one destination alone, by either version, the destination is theirs.
abbrev pub HasTheirDestination : Type 0
HasTheirDestination = (to : ℕ) (ps : List PacketView) (bytes : List ℕ) → CarriesAll ps bytes → All (λ p. p.dst ≡ to) ps
    → destination_of bytes ≡ Some to
