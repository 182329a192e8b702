-- There is a net behind two nodes over sealed links.
use Rattle.std.proofs.Common.{◌≡◌, ℕ, zero, suc, ◌+◌, ◌<◌, ◌≤◌, List, [], ◌∷◌, ◌++◌, length, map, take, Option, Some, None, Result, Ok, Err, refl, sym, ap, ◌∙◌, subst, inl, inr, append_assoc, append-nil, arith}
use Rattle.std.specs.Prelude.{slice_get, option_map}
use Rattle.std.specs.List.{AllByRecursion}
use Rattle.chaos_packet.specs.Packet.{PacketView}
use Rattle.chaos_host.specs.View.{HostView}
use Rattle.chaos_host.specs.Deeds.{HostEvent, host_made}
use Rattle.chaos_lab.specs.declared.side.Side.{Side}
use Rattle.chaos_lab.specs.declared.side.Side.TheVariants.{A, B}
use Rattle.chaos_lab.specs.Machine.{other}
use Rattle.chaos_link.specs.declared.fault.LinkFault.{LinkFault}
use Rattle.chaos_link.specs.Link.{Addressed}
use Rattle.chaos_link.specs.Loads.{packets_of}
use Rattle.chaos_link.specs.Packets.{packets_read}
use Rattle.chaos_net.specs.Come.{ComeFrom}
use Rattle.chaos_net.specs.MadeTurns.{packets_sent}
use Rattle.chaos_net.specs.Net.{Sent, Station, Net, NetEvent, IsNew, Run, new_station, happens}
use Rattle.chaos_net.specs.Net.NetEvent.{At}
use Rattle.chaos_net.specs.System.{Seat, System, Step, TakesTurn, TakesCall, Steps, StandsFor, from_on, handed, numbers_at, numbers_of}
use Rattle.chaos_net.specs.System.Step.{Turn, Calls}
use Rattle.chaos_net.specs.TurnHalves.{node_turns}
use Rattle.chaos_net.specs.Turns.{client_host}
use Rattle.chaos_net.proofs.Behind.{at_both, comes_from, posted}
use Rattle.chaos_net.proofs.Made.{own_made}
use Rattle.chaos_node.specs.Link.{packets_in, read_all, sent_by}
use Rattle.chaos_sealed_net.specs.SealedNet.{SealedNet, seal_window, sealed_after, new_sealed}
use Rattle.chaos_sealed_net.specs.SealedNet.SealedEvent.{Does}
use Rattle.chaos_sealed_net.specs.SealedNodes.{Counters, AreRising, SealedStays, SealedNodesStay, IsInTime, ComeNear, IsNearStep, hears_counter, newest_by}
use Rattle.chaos_sealed_net.proofs.Fresh.{Holding, holding_after, new_holding}
use Rattle.chaos_sealed_net.proofs.Posting.{IsPosted, none_posted, sealed_of, seal_all, length_both}
use Rattle.chaos_sealed_net.proofs.Turning.{ComeSealed, turn_sealed}

-- ---- what comes was sealed

-- consecutive numbers
within_on : (low high k : ℕ) (ps : List PacketView) → low ≤ k → k + length ps ≤ high + 1
    → AllByRecursion (λ j. (low ≤ j) × (j ≤ high)) (from_on k ps)
within_on low high k [] above below = tt
within_on low high k (p ∷ ps) above below =
    ((above, omega (arith, below)), within_on low high (suc k) ps (omega (arith, above)) (omega (arith, below)))

module _ (counters : ℕ → List ℕ) (s : SealedNet) (x : Side) (most now : ℕ) (posts : List Addressed)
    (h : IsPosted counters (s.datagrams (other x)) posts)
  where
    one_comes : (k i c : ℕ) (d : Addressed) (r : Result (List PacketView) LinkFault) → slice_get posts k ≡ Some d
        → packets_read d.bytes ≡ r → slice_get (counters k) i ≡ Some c → c ≤ most → s.newest x < c + seal_window
        → ComeFrom s.net x (from_on (length (read_all (take k posts))) (packets_in r)) (Some r)
        → ComeNear s.net x now (from_on (length (read_all (take k posts))) (packets_in r)) (Some r)
        → ComeSealed x most s now (from_on (length (read_all (take k posts))) (packets_in r)) (Some r)
    one_comes k i c d (Err fault) there read counter few inside sent near = tt
    one_comes k i c d (Ok []) there read counter few inside sent near = inl refl
    one_comes k i c d (Ok (p ∷ ps)) there read counter few inside sent near =
        let m = h.there k i c d p ps there (ap packets_in read) counter in
        inr
        (record {
          place = m.0;
          datagram = sealed_of posts k c (length ps);
          few = few;
          there = m.1;
          inside = inside;
          within =
              within_on (length (read_all (take k posts))) (length (read_all (take k posts)) + length ps)
              (length (read_all (take k posts))) (p ∷ ps) (omega arith) (omega arith);
          sent = sent;
          near = near;
        })

    handed_comes : (k i c : ℕ) (o : Option Addressed) → slice_get posts k ≡ o → slice_get (counters k) i ≡ Some c
        → c ≤ most → s.newest x < c + seal_window
        → ComeFrom s.net x (numbers_at posts k o) (option_map (λ d. packets_read d.bytes) o)
        → ComeNear s.net x now (numbers_at posts k o) (option_map (λ d. packets_read d.bytes) o)
        → ComeSealed x most s now (numbers_at posts k o) (option_map (λ d. packets_read d.bytes) o)
    handed_comes k i c None there counter few inside sent near = tt
    handed_comes k i c (Some d) there counter few inside sent near =
        one_comes k i c d (packets_read d.bytes) there refl counter few inside sent near

-- ---- what stands behind the nodes

record IsSealedFor (counters : Counters) (t : System HostView) (newest : Side → ℕ) (s : SealedNet) : Type 0 where
  holding : Holding s
  hosts : (x : Side) → (s.net x).host ≡ (t x).program
  sent : (x : Side) → packets_sent (s.net x) ≡ read_all (t x).posts ++ (t x).waiting
  posted : (x : Side) → IsPosted (counters x) (s.datagrams x) (t x).posts
  heard : (x : Side) → s.newest x ≤ newest x

stands_for : (counters : Counters) (t : System HostView) (newest : Side → ℕ) (s : SealedNet)
    → IsSealedFor counters t newest s → StandsFor client_host t s.net
stands_for counters t newest s is = record { reached = is.holding.reached; hosts = is.hosts; sent = is.sent }

-- a run leads to the machine behind what the step made of the nodes
record Follows (counters : Counters) (n : Net) (t : System HostView) (newest : Side → ℕ) : Type 0 where
  state : SealedNet
  events : List NetEvent
  run : Run n events state.net
  is : IsSealedFor counters t newest state

-- ---- what was heard

newest_more : (newest : Side → ℕ) (x : Side) (number : Option ℕ) (start now counter : ℕ)
    → newest x ≤ newest_by newest (Turn x number start now) counter x
newest_more newest x None start now counter = omega arith
newest_more newest A (Some k) start now counter = omega arith
newest_more newest B (Some k) start now counter = omega arith

newest_has : (newest : Side → ℕ) (x : Side) (counter : ℕ) → counter ≤ hears_counter newest x counter x
newest_has newest A counter = omega arith
newest_has newest B counter = omega arith

newest_far : (newest : Side → ℕ) (x : Side) (number : Option ℕ) (start now counter : ℕ)
    → newest_by newest (Turn x number start now) counter (other x) ≡ newest (other x)
newest_far newest x None start now counter = refl
newest_far newest A (Some k) start now counter = refl
newest_far newest B (Some k) start now counter = refl

-- ---- one step

length_map : (qs : List Sent) → length (map (λ (q : Sent). q.packet) qs) ≡ length qs
length_map [] = refl
length_map (q ∷ qs) = ap suc (length_map qs)

-- as many packets were sent as are read of the posts
enough : (st : Station) (ds : List Addressed) (waiting : List PacketView)
    → packets_sent st ≡ read_all ds ++ waiting → length (read_all ds) ≤ length st.sent
enough st ds waiting sent =
    let size = length_map st.sent in
    let same = ap length sent in
    let both = length_both (read_all ds) waiting in
    omega (arith, size, same, both)

module _ (counters : Counters) (rising : AreRising counters) where
  -- what comes in a turn was sealed
  come_in : (u : System HostView) (newest : Side → ℕ) (s : SealedNet) (x : Side) (number : Option ℕ)
      (start now counter : ℕ)
      → IsSealedFor counters u newest s → IsInTime counters newest (Turn x number start now) counter
      → ComeNear s.net x now (numbers_of (u (other x)).posts number) (handed (u (other x)).posts number)
      → ComeSealed x (newest_by newest (Turn x number start now) counter x) s now
      (numbers_of (u (other x)).posts number) (handed (u (other x)).posts number)
  come_in u newest s x None start now counter is time near = tt
  come_in u newest s x (Some k) start now counter is time near =
      let heard = is.heard x in
      let inside = time.2 in
      let from =
      comes_from s.net x (u (other x)).posts (u (other x)).waiting (is.sent (other x)) (Some k) in
      handed_comes (counters (other x)) s x (hears_counter newest x counter x) now (u (other x)).posts
      (is.posted (other x)) k time.0 counter (slice_get (u (other x)).posts k) refl time.1
      (newest_has newest x counter) (omega (arith, heard, inside)) from near

  turn_follows : (u t : System HostView) (newest : Side → ℕ) (s : SealedNet) (x : Side) (number : Option ℕ)
      (start now counter : ℕ)
      → IsSealedFor counters u newest s
      → TakesTurn client_host node_turns (handed (u (other x)).posts number) start now (u x) (t x)
      → t (other x) ≡ u (other x) → IsInTime counters newest (Turn x number start now) counter
      → ComeNear s.net x now (numbers_of (u (other x)).posts number) (handed (u (other x)).posts number)
      → Follows counters s.net t (newest_by newest (Turn x number start now) counter)
  turn_follows u t newest s x number start now counter is one far time near =
      let heard = is.heard x in
      let more = newest_more newest x number start now counter in
      let made =
      turn_sealed x (newest_by newest (Turn x number start now) counter x) s
      (numbers_of (u (other x)).posts number) (handed (u (other x)).posts number) start now (u x).program
      (t x).program one.lots (is.hosts x) is.holding (omega (arith, heard, more))
      (come_in u newest s x number start now counter is time near) one.turn in
      after made.0 made.1.holding made.1.made.events made.1.made.run made.1.made.host
      (made.1.made.sent
      ∙ ap (λ (qs : List PacketView). qs ++ packets_of one.lots) (is.sent x)
      ∙ posted (u x).posts (t x).posts (u x).waiting one.lots one.carriage (t x).waiting one.read one.posts one.waiting)
      made.1.made.far made.1.datagrams made.1.own made.1.far
    where
      after : (r : SealedNet) → Holding r → (events : List NetEvent) → Run s.net events r.net
          → (r.net x).host ≡ (t x).program → packets_sent (r.net x) ≡ read_all (t x).posts ++ (t x).waiting
          → r.net (other x) ≡ s.net (other x) → r.datagrams ≡ s.datagrams
          → r.newest x ≤ newest_by newest (Turn x number start now) counter x
          → r.newest (other x) ≡ s.newest (other x)
          → Follows counters s.net t (newest_by newest (Turn x number start now) counter)
      after r holding events run host sent still datagrams own newest_still =
          let before : IsPosted (counters x) (r.datagrams x) (u x).posts =
          subst (λ (ds : Side → List _). IsPosted (counters x) (ds x) (u x).posts) (sym datagrams) (is.posted x) in
          let size : length (read_all ((u x).posts ++ sent_by one.carriage ((u x).waiting ∷ one.lots))) ≤ length (r.net x).sent =
          subst (λ (ds : List Addressed). length (read_all ds) ≤ length (r.net x).sent) one.posts
          (enough (r.net x) (t x).posts (t x).waiting sent) in
          let sealed =
          seal_all counters rising x r (u x).posts (sent_by one.carriage ((u x).waiting ∷ one.lots)) holding before size in
          record {
            state = sealed.0;
            events = events;
            run = subst (Run s.net events) (sym sealed.1.net) run;
            is = record {
              holding = sealed.1.holding;
              hosts = λ y.
                  ap (λ (n : Net). (n y).host) sealed.1.net
                  ∙ at_both (λ y. (r.net y).host ≡ (t y).program) x host
                  (subst (λ (z : Seat HostView). (r.net (other x)).host ≡ z.program) (sym far)
                  (ap (λ z. z.host) still ∙ is.hosts (other x))) y;
              sent = λ y.
                  ap (λ (n : Net). packets_sent (n y)) sealed.1.net
                  ∙ at_both (λ y. packets_sent (r.net y) ≡ read_all (t y).posts ++ (t y).waiting) x sent
                  (subst (λ (z : Seat HostView). packets_sent (r.net (other x)) ≡ read_all z.posts ++ z.waiting) (sym far)
                  (ap packets_sent still ∙ is.sent (other x))) y;
              posted =
                  at_both (λ y. IsPosted (counters y) (sealed.0.datagrams y) (t y).posts) x
                  (subst (IsPosted (counters x) (sealed.0.datagrams x)) (sym one.posts) sealed.1.posted)
                  (subst (λ (z : Seat HostView). IsPosted (counters (other x)) (sealed.0.datagrams (other x)) z.posts) (sym far)
                  (subst (λ ds. IsPosted (counters (other x)) ds (u (other x)).posts)
                  (sym (sealed.1.far ∙ ap (λ (ds : Side → List _). ds (other x)) datagrams)) (is.posted (other x))));
              heard = λ y.
                  let same = ap (λ (heard : Side → ℕ). heard y) sealed.1.newest in
                  let bound =
                  at_both (λ y. r.newest y ≤ newest_by newest (Turn x number start now) counter y) x own
                  (let f = newest_far newest x number start now counter in let k = is.heard (other x) in let e = newest_still in omega (arith, f, k, e)) y in
                  omega (arith, same, bound);
            };
          }

call_follows : (counters : Counters) (u t : System HostView) (newest : Side → ℕ) (s : SealedNet) (x : Side) (event : HostEvent)
    → IsSealedFor counters u newest s → TakesCall client_host node_turns event (u x) (t x) → t (other x) ≡ u (other x)
    → Follows counters s.net t newest
call_follows counters u t newest s x event is one far =
    let made = own_made s.net x event one.own in
    let ps = (host_made (s.net x).host event).packets in
    let same : ps ≡ (host_made (u x).program event).packets =
    ap (λ h. (host_made h event).packets) (is.hosts x) in
    record {
      state = sealed_after s (Does x event);
      events = made.events;
      run = made.run;
      is = record {
        holding = holding_after s is.holding (Does x event) one.own;
        hosts =
            at_both (λ y. (happens s.net (At x event) y).host ≡ (t y).program) x
            (made.host ∙ ap (λ h. (host_made h event).view) (is.hosts x) ∙ sym one.host)
            (subst (λ (z : Seat HostView). (happens s.net (At x event) (other x)).host ≡ z.program) (sym far)
            (ap (λ z. z.host) made.far ∙ is.hosts (other x)));
        sent =
            at_both (λ y. packets_sent (happens s.net (At x event) y) ≡ read_all (t y).posts ++ (t y).waiting) x
            (made.sent
            ∙ ap (λ (qs : List PacketView). packets_sent (s.net x) ++ qs) (append-nil ps)
            ∙ ap (λ (qs : List PacketView). qs ++ ps) (is.sent x)
            ∙ append_assoc (read_all (u x).posts) (u x).waiting ps
            ∙ ap (λ (qs : List PacketView). read_all (u x).posts ++ ((u x).waiting ++ qs)) same
            ∙ ap (λ (qs : List PacketView). read_all (u x).posts ++ qs) (sym one.waiting)
            ∙ ap (λ (ds : List Addressed). read_all ds ++ (t x).waiting) (sym one.posts))
            (subst (λ (z : Seat HostView). packets_sent (happens s.net (At x event) (other x)) ≡ read_all z.posts ++ z.waiting) (sym far)
            (ap packets_sent made.far ∙ is.sent (other x)));
        posted =
            at_both (λ y. IsPosted (counters y) (s.datagrams y) (t y).posts) x
            (subst (IsPosted (counters x) (s.datagrams x)) (sym one.posts) (is.posted x))
            (subst (λ (z : Seat HostView). IsPosted (counters (other x)) (s.datagrams (other x)) z.posts) (sym far) (is.posted (other x)));
        heard = is.heard;
      };
    }

module _ (counters : Counters) (rising : AreRising counters) where
  step_follows : (u t : System HostView) (newest : Side → ℕ) (s : SealedNet) (step : Step) (counter : ℕ)
      → IsSealedFor counters u newest s → Steps client_host node_turns u step t
      → IsInTime counters newest step counter → IsNearStep s.net u step
      → Follows counters s.net t (newest_by newest step counter)
  step_follows u t newest s (Turn x number start now) counter is one time near =
      turn_follows counters rising u t newest s x number start now counter is one.0 one.1 time near
  step_follows u t newest s (Calls x event) counter is one time near =
      call_follows counters u t newest s x event is one.0 one.1

  -- any number of steps
  sealed_stays : (k : ℕ) (u : System HostView) (newest : Side → ℕ) (s : SealedNet) → IsSealedFor counters u newest s
      → SealedStays counters k u newest s.net
  sealed_stays zero u newest s is = stands_for counters u newest s is
  sealed_stays (suc k) u newest s is = (
    stands_for counters u newest s is,
    λ step counter t one time near. let f = step_follows u t newest s step counter is one time near in
        (f.state.net, f.events, f.run, sealed_stays k t (newest_by newest step counter) f.state f.is),
  )

pub sealed_nodes_stay : SealedNodesStay
sealed_nodes_stay counters k s rising new = (
  start,
  sealed_stays counters rising k s (λ x. 0) (new_sealed start)
      (record {
        holding = new_holding start (at A) (at B);
        hosts = λ x. sym (new x).host;
        sent = λ x. sym (ap (λ (ds : List Addressed). read_all ds ++ (s x).waiting) (new x).posts ∙ (new x).waiting);
        posted = λ x. subst (IsPosted (counters x) []) (sym (new x).posts) (none_posted (counters x));
        heard = λ x. omega arith;
      }),
)
  where
    start : Net
    start = λ x. new_station (new x).address (new x).conns (new x).config

    at : (x : Side) → IsNew (new_station (new x).address (new x).conns (new x).config)
    at x =
        record { address = (new x).address; conns = (new x).conns; config = (new x).config; right = (new x).right; sound = (new x).sound; is = refl }
