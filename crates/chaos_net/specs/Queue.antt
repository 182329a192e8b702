-- A turn over a link is a step of a system. If the link is a queue, then the queue carries the turn's datagrams.
--
--    the queue before a turn     datagram k of the other program    d1    d2
--    the queue after the turn    d1    d2    what waited, and the turn's lots
--    what any link is asked      Send: what waited    Receive    Send: the turn's lots
use Rattle.std.specs.Prelude.{◌≡◌, ℕ, ◌+◌, ◌≤◌, Bool, List, [], ◌∷◌, ◌++◌, length, drop, Option, Some, None, slice_get}
use Rattle.chaos_packet.specs.Packet.{PacketView}
use Rattle.chaos_host.specs.View.{HostView}
use Rattle.chaos_host.specs.declared.answers.HostDelivered.{HostDelivered}
use Rattle.chaos_link.specs.declared.carriage.Carriage.{Carriage}
use Rattle.chaos_link.specs.Link.{Addressed, Ask, Asks, QueueView, Receive, to_send}
use Rattle.chaos_link.specs.Keeper.{Becomes, Incoming, stays}
use Rattle.chaos_link.specs.Udp.{AsksSocket, SocketAsk, UdpView, datagrams_in, outgoing_of}
use Rattle.chaos_link.specs.declared.keeper.FixedPeers.{FixedPeers}
use Rattle.chaos_node.specs.Arrive.{Arrival}
use Rattle.chaos_node.specs.Link.{sent_by}
use Rattle.chaos_node.specs.Station.{Station}
use Rattle.chaos_node.specs.Turn.{GoesOver, RunsClientTurn, client_phases}
use Rattle.chaos_node.specs.declared.end.TurnEnd.{TurnEnd}
use Rattle.chaos_node.specs.declared.timer.RetransmitTimer.{RetransmitTimer}
use Rattle.chaos_net.specs.System.{Seat, Hands, TakesTurn, handed}
use Rattle.chaos_net.specs.Turns.{client_host, client_turns}

-- The network put the datagram with this number, among all that were posted, at the front of a queue. Or the network put
-- no datagram there, the queue is empty, and nothing waits (a packet that waits would come back in the same turn).
abbrev pub IsLaid : List Addressed → Option ℕ → QueueView → List PacketView → Type 0
IsLaid posts None queue waiting = (queue.datagrams ≡ []) × (waiting ≡ [])
IsLaid posts (Some k) queue waiting = (d : Addressed) × (slice_get posts k ≡ Some d) × (slice_get queue.datagrams 0 ≡ Some d)

-- The datagram came. The queue now holds what the queue held behind that datagram, and then what the turn posted.
pub record IsCarried (others : List Addressed) (number : Option ℕ) (came : Arrival) (queue : QueueView)
    (after : Option QueueView) (posted : List Addressed) : Type 0 where
  pub came_is : came ≡ handed others number
  pub queue_is : after ≡ Some (record queue { datagrams = drop 1 queue.datagrams ++ posted })

-- This holds for each turn over a queue that has room for all posted datagrams.
abbrev pub QueuesCarry : (List Ask → Type 0) → Type 0 → Type 0
QueuesCarry asked N = (may_wait : Bool) (carriage : Carriage) (came : Arrival) (lots : List (List PacketView))
    (before after : Station N) (result : TurnEnd) (queue : QueueView) (others : List Addressed) (number : Option ℕ)
    → GoesOver asked may_wait carriage came lots before after result → before.queue ≡ Some queue
    → IsLaid others number queue before.outbox.packets
    → length queue.datagrams + length (sent_by carriage (before.outbox.packets ∷ lots)) ≤ queue.cap
    → IsCarried others number came queue after.queue (sent_by carriage (before.outbox.packets ∷ lots))

-- a program at its link, after the program posted these datagrams
abbrev pub seat_of : {N : Type 0} → Station N → List Addressed → Seat N
seat_of st posts = record { program = st.node; waiting = st.outbox.packets; posts = posts }

-- A link was asked to send exactly these datagrams, each once and in this order. At one place between the datagrams, the
-- link was asked once to receive, and whether the link may wait there.
pub record IsAskedToPost (asked : List Ask → Type 0) (may_wait : Bool) (posted : List Addressed) : Type 0 where
  pub first : List Addressed
  pub last : List Addressed
  pub all : posted ≡ first ++ last
  pub asks : asked (to_send first ++ Receive may_wait ∷ to_send last)

-- Each turn that a client runs over any link with any timers, as the contract of `client_turn` or `timed_client_turn`
-- describes the turn, is a step of a system. The premises: a datagram of the other program came, or a datagram without a
-- packet, or nothing; and the turn leaves an empty outbox. The link was asked to send exactly what the step posts: a turn
-- gives any link what it gives a queue.
abbrev pub TurnsAreSteps : (List Ask → Type 0) → Type 0
TurnsAreSteps asked = (timers : List RetransmitTimer) (may_wait : Bool) (carriage : Carriage) (start now : ℕ)
    (before after : Station HostView) (result : TurnEnd) (answer : Option HostDelivered) (posts others : List Addressed)
    (number : Option ℕ) → (runs : RunsClientTurn timers asked may_wait carriage now before after result answer)
    → Hands others number runs.came → after.outbox.packets ≡ []
    → TakesTurn client_host client_turns (handed others number) start now (seat_of before posts)
    (seat_of after
    (posts ++ sent_by carriage (before.outbox.packets ∷ (client_phases timers runs.came now before.node).lots)))
    × IsAskedToPost asked may_wait
    (sent_by carriage (before.outbox.packets ∷ (client_phases timers runs.came now before.node).lots))

-- If the link is a link over UDP, then its socket was asked to send exactly these datagrams, in this order, each to the
-- UDP address of its peer, else to the bridge, and nothing for an address with neither. The datagrams before the receive
-- went to the peers of before. At the receive the keeper may have changed the peers, and the other datagrams went to the
-- peers of after.
abbrev pub SocketsPost : {S K : Type 0} → (S → S → List SocketAsk → Type 0) → Becomes K → Type 0
SocketsPost {S} {K} asked becomes = (old new : UdpView S K) (may_wait : Bool) (posted : List Addressed)
    → (is : IsAskedToPost (Asks (AsksSocket asked becomes old) (AsksSocket asked becomes new)) may_wait posted)
    → (came : Option Incoming) × becomes old.keeper old.peers came new.keeper new.peers
    × ((asks : List SocketAsk) × asked new.socket old.socket asks
    × (datagrams_in asks ≡ outgoing_of old.peers (to_send is.first) ++ outgoing_of new.peers (to_send is.last)))

-- If the peers are fixed, then all datagrams went to these peers.
abbrev pub SocketsPostToFixedPeers : {S : Type 0} → (S → S → List SocketAsk → Type 0) → Type 0
SocketsPostToFixedPeers {S} asked = (old new : UdpView S FixedPeers) (may_wait : Bool) (posted : List Addressed)
    → IsAskedToPost (Asks (AsksSocket asked stays old) (AsksSocket asked stays new)) may_wait posted
    → (asks : List SocketAsk) × asked new.socket old.socket asks
    × (datagrams_in asks ≡ outgoing_of old.peers (to_send posted))
