-- A link that speaks CHUDP over another.
use Rattle.std.specs.Prelude.{◌≡◌, ℕ, ◌<◌, All, List, [], ◌∷◌, ◌++◌, length, take, Option, Some, None}
use Rattle.chaos_link.specs.Datagram.{fault_of}
use Rattle.chaos_link.specs.Link.{Addressed, Ask, Asks, Send, Receive, QueueView, to_send, without_first}
use Rattle.chaos_link.specs.Keeper.{Becomes, stays}
use Rattle.chaos_link.specs.Udp.{AsksSocket, SendsBy, SocketAsk, UdpView, datagrams_in, outgoing_of}
use Rattle.chaos_link.specs.declared.keeper.FixedPeers.{FixedPeers}
use Rattle.chaos_link.specs.declared.fault.LinkFault.{LinkFault}
use Rattle.chaos_link.specs.declared.link.Received.{Received}
use Rattle.chaos_link.specs.declared.link.Received.TheVariants as receiving
use Rattle.chaos_chudp.specs.Chudp.{chudp_fault, chudp_form, plain_of}
use Rattle.chaos_chudp.specs.Hops.{HopsView, hop_of}
use Rattle.chaos_chudp.specs.declared.fault.ChudpFault.{ChudpFault}

-- the link beneath it, the own address, and the next hops
pub record ChudpView (L : Type 0) : Type 0 where
  pub inner : L
  pub me : ℕ
  pub hops : HopsView

-- ---- What is sent

-- the CHUDP form of a datagram of version 1 to this address: its trailer has the next hop there, and the own address
abbrev pub form_to : HopsView → ℕ → ℕ → List ℕ → List ℕ
form_to hops me to bytes = chudp_form (hop_of to hops) me bytes

-- what goes out for a datagram: to the same address the CHUDP form, and for what isn't of version 1 or has a fault, nothing
abbrev pub form_by : HopsView → ℕ → Addressed → Option LinkFault → List Addressed
form_by hops me datagram None = record { to = datagram.to; bytes = form_to hops me datagram.to datagram.bytes } ∷ []
form_by hops me datagram (Some fault) = []

abbrev pub form_of : HopsView → ℕ → Addressed → List Addressed
form_of hops me datagram = form_by hops me datagram (fault_of datagram.bytes)

-- the same of each of these datagrams, in order
abbrev pub forms_of : HopsView → ℕ → List Addressed → List Addressed
forms_of hops me [] = []
forms_of hops me (datagram ∷ datagrams) = form_of hops me datagram ++ forms_of hops me datagrams

-- What the link beneath is asked: of each send the CHUDP form, and each receive as it is.
abbrev pub asks_over : HopsView → ℕ → List Ask → List Ask
asks_over hops me [] = []
asks_over hops me (Send datagram ∷ asks) = to_send (form_of hops me datagram) ++ asks_over hops me asks
asks_over hops me (Receive may_wait ∷ asks) = Receive may_wait ∷ asks_over hops me asks

module _ {L : Type 0} (asked : L → L → List Ask → Type 0) where
  -- The own address and the hops are the same, and the link beneath was asked exactly that.
  pub record AsksBeneath (now start : ChudpView L) (asks : List Ask) : Type 0 where
    pub me : now.me ≡ start.me
    pub hops : now.hops ≡ start.hops
    pub beneath : asked now.inner start.inner (asks_over start.hops start.me asks)

-- the datagrams that a link is asked to send
abbrev pub sends_in : List Ask → List Addressed
sends_in [] = []
sends_in (Send datagram ∷ asks) = datagram ∷ sends_in asks
sends_in (Receive may_wait ∷ asks) = sends_in asks

-- Over a link over UDP, the socket is asked to send exactly the CHUDP forms of the datagrams that the link is asked to send, in this
-- order, each to the UDP address that the peers have for its address when it is sent.
abbrev pub SocketSendsForms : {S K : Type 0} → (S → S → List SocketAsk → Type 0) → Becomes K → Type 0
SocketSendsForms {S} {K} asked becomes = (old new : ChudpView (UdpView S K)) (asks : List Ask)
    → Asks (AsksBeneath (AsksSocket asked becomes) old) (AsksBeneath (AsksSocket asked becomes) new) asks
    → (socket_asks : List SocketAsk) × asked new.inner.socket old.inner.socket socket_asks
    × SendsBy becomes old.inner.keeper old.inner.peers (asks_over old.hops old.me asks) new.inner.keeper new.inner.peers
    (datagrams_in socket_asks)

-- Where the peers are fixed, each form goes to the UDP address that these peers have for its address.
abbrev pub SocketSendsFormsToFixedPeers : {S : Type 0} → (S → S → List SocketAsk → Type 0) → Type 0
SocketSendsFormsToFixedPeers {S} asked = (old new : ChudpView (UdpView S FixedPeers)) (asks : List Ask)
    → Asks (AsksBeneath (AsksSocket asked stays) old) (AsksBeneath (AsksSocket asked stays) new) asks
    → (socket_asks : List SocketAsk) × asked new.inner.socket old.inner.socket socket_asks
    × (datagrams_in socket_asks ≡ outgoing_of old.inner.peers (to_send (forms_of old.hops old.me (sends_in asks))))

-- ---- What is handed up

abbrev pub handed_by : List ℕ → Option ChudpFault → List ℕ
handed_by came None = plain_of came
handed_by came (Some f) = []

-- what is handed up for what came: the datagram of version 1 with the same words, or nothing where it has a fault
abbrev pub handed_for : List ℕ → List ℕ
handed_for came = handed_by came (chudp_fault came)

-- What one link sends another hands up: the CHUDP form of a datagram of version 1 without a fault is handed up as that datagram.
abbrev pub IsHandedUpAsSent : Type 0
IsHandedUpAsSent = (hop me : ℕ) (bytes : List ℕ) → hop < 65536 → me < 65536 → All (λ b. b < 256) bytes → fault_of bytes ≡ None
    → handed_for (chudp_form hop me bytes) ≡ bytes

-- What was handed up stands in the front of the buffer.
abbrev pub HandsUp : List ℕ → List ℕ → Received → Type 0
HandsUp came new result =
    (result ≡ receiving.Got (length (handed_for came))) × (take (length (handed_for came)) new ≡ handed_for came)

-- What is handed up is that of some bytes, whatever the link is.
abbrev pub HandsUpSome : List ℕ → Received → Type 0
HandsUpSome new (receiving.Got count) = (came : List ℕ) × HandsUp came new (receiving.Got count)
HandsUpSome new _ = Unit {0}

-- The oldest datagram of a queue is handed up.
abbrev pub HandsUpOldest : List Addressed → List ℕ → Received → Type 0
HandsUpOldest [] new result = result ≡ receiving.Nothing
HandsUpOldest (oldest ∷ others) new result = HandsUp oldest.bytes new result

-- and taken out
abbrev pub HearsFrom : List ℕ → Received → Option QueueView → QueueView → Type 0
HearsFrom new result after before = HandsUpOldest before.datagrams new result × (after ≡ Some (without_first before))

-- What the link beneath received was handed up: what came by what is handed for it, and else its answer.
abbrev pub HandedUp : List ℕ → Received → List ℕ → Received → Type 0
HandedUp old (receiving.Got count) new result = HandsUp (take count old) new result
HandedUp old other new result = result ≡ other
