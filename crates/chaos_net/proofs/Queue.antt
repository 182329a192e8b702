-- A turn over a queue.
use Rattle.std.proofs.Common.{◌≡◌, ℕ, ◌+◌, ◌≤◌, Bool, true, List, [], ◌∷◌, ◌++◌, length, drop, nat_lt, Option, Some, None, Ok, Err, IfSome, refl, sym, ap, ◌∙◌, subst, append_assoc, append-nil, length-append, arith, if◌then◌else◌, option_map}
use Rattle.std.specs.Prelude.{slice_get}
use Rattle.std.proofs.lemmas.Bool.Decides.{nat_tests}
use Rattle.chaos_packet.specs.Packet.{PacketView}
use Rattle.chaos_host.specs.View.{HostView}
use Rattle.chaos_link.specs.declared.carriage.Carriage.{Carriage}
use Rattle.chaos_link.specs.declared.carriage.Carriage.TheVariants.{One, Two}
use Rattle.chaos_link.specs.Link.{Addressed, Ask, Asks, QueueView, Receive, to_send, without_first}
use Rattle.chaos_link.specs.Keeper.{Becomes, Incoming, stays}
use Rattle.chaos_link.specs.Peers.{PeersView, socket_of}
use Rattle.chaos_link.specs.Udp.{AsksSocket, Outgoing, SendsBy, SocketAsk, UdpView, datagrams_in, outgoing_of, outgoing_to}
use Rattle.chaos_link.proofs.Asked.{fixed_sends}
use Rattle.chaos_link.specs.Packets.{packets_read}
use Rattle.chaos_node.specs.Arrive.{Arrival, arrival_from}
use Rattle.chaos_node.specs.Link.{datagrams_of, sent_by, sent_into}
use Rattle.chaos_node.specs.Phase.{Effect}
use Rattle.chaos_node.specs.Turn.{client_phases, queue_after}
use Rattle.chaos_node.specs.declared.timer.RetransmitTimer.{RetransmitTimer}
use Rattle.chaos_net.specs.Queue.{IsLaid, IsAskedToPost, IsCarried, QueuesCarry, SocketsPost, SocketsPostToFixedPeers, TurnsAreSteps}
use Rattle.chaos_net.specs.System.{Hands, handed}

-- one that has room takes all
all_taken : (cap : ℕ) (xs ds : List Addressed) → length xs + length ds ≤ cap
    → sent_into (record { datagrams = xs; cap = cap }) ds ≡ record { datagrams = xs ++ ds; cap = cap }
all_taken cap xs [] room = ap (λ (ys : List Addressed). record { datagrams = ys; cap = cap }) (sym (append-nil xs))
all_taken cap xs (d ∷ ds) room =
    let fits : nat_lt (length xs) cap ≡ true = grind (arith, nat_tests) in
    let more : length (xs ++ d ∷ []) ≡ length xs + 1 = length-append xs (d ∷ []) in
    ap (λ (b : Bool). sent_into (record { datagrams = if b then xs ++ d ∷ [] else xs; cap = cap }) ds) fits
    ∙ all_taken cap (xs ++ d ∷ []) ds (omega (arith, more, room))
    ∙ ap (λ (ys : List Addressed). record { datagrams = ys; cap = cap }) (append_assoc xs (d ∷ []) ds)

-- nothing goes out of nothing
none_out : (carriage : Carriage) → datagrams_of carriage [] ≡ []
none_out One = refl
none_out Two = refl

-- the oldest is taken of the front
first_dropped : (posts : List Addressed) (number : Option ℕ) (cap : ℕ) (carriage : Carriage) (xs : List Addressed)
    (waiting : List PacketView) → IsLaid posts number (record { datagrams = xs; cap = cap }) waiting
    → drop 1 (xs ++ datagrams_of carriage waiting) ≡ drop 1 xs ++ datagrams_of carriage waiting
first_dropped posts number cap carriage (x ∷ xs) waiting laid = refl
first_dropped posts None cap carriage [] waiting laid =
    let none : datagrams_of carriage waiting ≡ [] = ap (datagrams_of carriage) laid.1 ∙ none_out carriage in
    ap (drop 1) none ∙ sym none
first_dropped posts (Some k) cap carriage [] waiting laid = absurd (cc)

-- what came is what was laid in front
laid_came : (posts : List Addressed) (number : Option ℕ) (cap : ℕ) (carriage : Carriage) (xs : List Addressed)
    (waiting : List PacketView) → IsLaid posts number (record { datagrams = xs; cap = cap }) waiting
    → option_map (λ (d : Addressed). packets_read d.bytes) (slice_get (xs ++ datagrams_of carriage waiting) 0)
    ≡ handed posts number
laid_came posts None cap carriage xs waiting laid =
    ap (λ (ys : List Addressed). option_map (λ (d : Addressed). packets_read d.bytes) (slice_get (ys ++ datagrams_of carriage waiting) 0)) laid.0
    ∙ ap (λ (ys : List Addressed). option_map (λ (d : Addressed). packets_read d.bytes) (slice_get ys 0))
    (ap (datagrams_of carriage) laid.1 ∙ none_out carriage)
laid_came posts (Some k) cap carriage [] waiting laid = absurd (cc)
laid_came posts (Some k) cap carriage (x ∷ xs) waiting laid =
    ap (option_map (λ (d : Addressed). packets_read d.bytes)) (laid.2 ∙ sym laid.1)

module _ (carriage : Carriage) (came : Arrival) (lots : List (List PacketView)) (waiting : List PacketView)
    (others : List Addressed) (number : Option ℕ) (cap : ℕ) (xs : List Addressed) (after : Option QueueView) where
  carried_by : IsLaid others number (record { datagrams = xs; cap = cap }) waiting
      → length xs + length (sent_by carriage (waiting ∷ lots)) ≤ cap
      → came ≡ arrival_from (sent_into (record { datagrams = xs; cap = cap }) (datagrams_of carriage waiting))
      → after ≡ Some (queue_after carriage (record { datagrams = xs; cap = cap }) waiting lots)
      → IsCarried others number came (record { datagrams = xs; cap = cap }) after (sent_by carriage (waiting ∷ lots))
  carried_by laid room came_is after_is =
      let ws = datagrams_of carriage waiting in
      let ls = sent_by carriage lots in
      let both : length (ws ++ ls) ≡ length ws + length ls = length-append ws ls in
      let first : sent_into (record { datagrams = xs; cap = cap }) ws ≡ record { datagrams = xs ++ ws; cap = cap } =
      all_taken cap xs ws (omega (arith, both, room)) in
      let dropped = first_dropped others number cap carriage xs waiting laid in
      let fewer : length (drop 1 xs) ≤ length xs = shorter xs in
      let three : length (drop 1 xs ++ ws) ≡ length (drop 1 xs) + length ws = length-append (drop 1 xs) ws in
      let last : sent_into (record { datagrams = drop 1 xs ++ ws; cap = cap }) ls
      ≡ record { datagrams = (drop 1 xs ++ ws) ++ ls; cap = cap } =
      all_taken cap (drop 1 xs ++ ws) ls (omega (arith, three, fewer, both, room)) in
      record {
        came_is =
            came_is ∙ ap arrival_from first ∙ laid_came others number cap carriage xs waiting laid;
        queue_is =
            after_is
            ∙ ap (λ (q : QueueView). Some (sent_into (without_first q) ls)) first
            ∙ ap (λ (ys : List Addressed). Some (sent_into (record { datagrams = ys; cap = cap }) ls)) dropped
            ∙ ap Some last
            ∙ ap (λ (ys : List Addressed). Some (record { datagrams = ys; cap = cap })) (append_assoc (drop 1 xs) ws ls);
      }
    where
      shorter : (ys : List Addressed) → length (drop 1 ys) ≤ length ys
      shorter [] = omega arith
      shorter (y ∷ ys) = omega arith

pub queues_carry : (asked : List Ask → Type 0) (N : Type 0) → QueuesCarry asked N
queues_carry asked N may_wait carriage came lots before after result queue others number goes is laid room =
    let q = subst (λ (o : Option QueueView). IfSome o (λ (one : QueueView).
    (came ≡ arrival_from (sent_into one (datagrams_of carriage before.outbox.packets)))
    × (after.queue ≡ Some (queue_after carriage one before.outbox.packets lots)))) is goes.queue in
    carried_by carriage came lots before.outbox.packets others number queue.cap queue.datagrams after.queue laid room
    q.0 q.1

-- a datagram that carries no packet is as none
pub same_phases : (timers : List RetransmitTimer) (others : List Addressed) (number : Option ℕ) (came : Arrival) (now : ℕ)
    (h : HostView) → Hands others number came
    → client_phases timers came now h ≡ client_phases timers (handed others number) now h
same_phases timers others None None now h hands = refl
same_phases timers others None (Some (Err fault)) now h hands = refl
same_phases timers others None (Some (Ok packets)) now h hands = ap (λ (o : Arrival). client_phases timers o now h) hands
same_phases timers others (Some k) came now h hands = ap (λ (o : Arrival). client_phases timers o now h) hands

pub turns_are_steps : (asked : List Ask → Type 0) → TurnsAreSteps asked
turns_are_steps asked timers may_wait carriage start now before after result answer posts others number runs is none =
    let same = same_phases timers others number runs.came now before.node is in (
      record {
        carriage = carriage;
        lots = (client_phases timers runs.came now before.node).lots;
        turn = (timers, runs.host ∙ ap (λ (e : Effect). e.host) same, ap (λ (e : Effect). e.lots) same);
        read = runs.link.read;
        waiting = none;
        posts = refl;
      },
      record {
        first = datagrams_of carriage before.outbox.packets;
        last = sent_by carriage (client_phases timers runs.came now before.node).lots;
        all = refl;
        asks = runs.link.asks;
      },
    )

-- a receive is asked to send nothing
receipt_out : (peers : PeersView) (first last : List Addressed) (may_wait : Bool)
    → outgoing_of peers (to_send first ++ Receive may_wait ∷ to_send last) ≡ outgoing_of peers (to_send (first ++ last))
receipt_out peers [] last may_wait = refl
receipt_out peers (d ∷ first) last may_wait =
    ap (λ (ds : List Outgoing). outgoing_to (socket_of d.to peers) d.bytes ++ ds) (receipt_out peers first last may_wait)

module _ {K : Type 0} (becomes : Becomes K) where
  -- no send changes the peers
  sent_alone : (k : K) (p : PeersView) (ds : List Addressed) (l : K) (q : PeersView) (sent : List Outgoing)
      → SendsBy becomes k p (to_send ds) l q sent → (l ≡ k) × (q ≡ p) × (sent ≡ outgoing_of p (to_send ds))
  sent_alone k p [] l q sent is = is
  sent_alone k p (d ∷ ds) l q sent is =
      let others = sent_alone k p ds l q is.0 is.2 in (
        others.0,
        others.1,
        is.1 ∙ ap (λ (os : List Outgoing). outgoing_to (socket_of d.to p) d.bytes ++ os) others.2,
      )

  -- what is sent before a receive, and after
  sent_around : (k : K) (p : PeersView) (first last : List Addressed) (may_wait : Bool) (l : K) (q : PeersView)
      (sent : List Outgoing) → SendsBy becomes k p (to_send first ++ Receive may_wait ∷ to_send last) l q sent
      → (came : Option Incoming) × becomes k p came l q
      × (sent ≡ outgoing_of p (to_send first) ++ outgoing_of q (to_send last))
  sent_around k p [] last may_wait l q sent is =
      let after = sent_alone is.1 is.2 last l q sent is.4 in (
        is.0,
        subst (λ (n : K). becomes k p is.0 n q) (sym after.0)
            (subst (λ (n : PeersView). becomes k p is.0 is.1 n) (sym after.1) is.3),
        after.2 ∙ ap (λ (n : PeersView). outgoing_of n (to_send last)) (sym after.1),
      )
  sent_around k p (d ∷ first) last may_wait l q sent is =
      let out = outgoing_to (socket_of d.to p) d.bytes in
      let others = sent_around k p first last may_wait l q is.0 is.2 in (
        others.0,
        others.1,
        is.1 ∙ ap (λ (os : List Outgoing). out ++ os) others.2
            ∙ sym (append_assoc out (outgoing_of p (to_send first)) (outgoing_of q (to_send last))),
      )

module _ {S K : Type 0} (asked : S → S → List SocketAsk → Type 0) (becomes : Becomes K)
    (began : (socket : S) → asked socket socket []) where
  -- what the socket was asked since the link was as it is
  asked_from : (old new : UdpView S K) (may_wait : Bool) (posted : List Addressed)
      → (is : IsAskedToPost (Asks (AsksSocket asked becomes old) (AsksSocket asked becomes new)) may_wait posted)
      → AsksSocket asked becomes new old (to_send is.first ++ Receive may_wait ∷ to_send is.last)
  asked_from old new may_wait posted is =
      is.asks.goes old [] (record { socket_asks = []; socket_asked = began old.socket; sends = (refl, refl, refl) })

  pub sockets_post : SocketsPost asked becomes
  sockets_post old new may_wait posted is =
      let since = asked_from old new may_wait posted is in
      let around = sent_around becomes old.keeper old.peers is.first is.last may_wait new.keeper new.peers
      (datagrams_in since.socket_asks) since.sends in
      (around.0, around.1, (since.socket_asks, since.socket_asked, around.2))

pub sockets_post_to_fixed : {S : Type 0} (asked : S → S → List SocketAsk → Type 0)
    → ((socket : S) → asked socket socket []) → SocketsPostToFixedPeers asked
sockets_post_to_fixed asked began old new may_wait posted is =
    let since = asked_from asked stays began old new may_wait posted is in
    let sends = fixed_sends old.keeper old.peers (to_send is.first ++ Receive may_wait ∷ to_send is.last) new.keeper new.peers
    (datagrams_in since.socket_asks) since.sends in (
      since.socket_asks,
      since.socket_asked,
      sends.1 ∙ receipt_out old.peers is.first is.last may_wait
          ∙ ap (λ (ds : List Addressed). outgoing_of old.peers (to_send ds)) (sym is.all),
    )
