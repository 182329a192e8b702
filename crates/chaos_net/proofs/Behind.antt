-- The net behind two programs.
use Rattle.std.proofs.Common.{◌≡◌, ℕ, zero, suc, List, [], ◌∷◌, ◌++◌, length, map, take, Option, Some, None, Result, Ok, Err, refl, sym, ap, ◌∙◌, subst, append_assoc, append-nil}
use Rattle.std.specs.Prelude.{slice_get, option_map}
use Rattle.chaos_packet.specs.Packet.{PacketView}
use Rattle.chaos_host.specs.View.{HostView}
use Rattle.chaos_host.specs.Deeds.{HostEvent, host_made}
use Rattle.chaos_lab.specs.declared.side.Side.{Side}
use Rattle.chaos_lab.specs.declared.side.Side.TheVariants.{A, B}
use Rattle.chaos_lab.specs.Machine.{other}
use Rattle.chaos_link.specs.declared.carriage.Carriage.{Carriage}
use Rattle.chaos_link.specs.declared.fault.LinkFault.{LinkFault}
use Rattle.chaos_link.specs.Link.{Addressed}
use Rattle.chaos_link.specs.Loads.{packets_of}
use Rattle.chaos_link.specs.Packets.{packets_read}
use Rattle.chaos_net.specs.Net.{Sent, Net, NetEvent, Run, Reached, NetworkLaw, new_station, happens}
use Rattle.chaos_net.specs.Net.NetEvent.{At}
use Rattle.chaos_net.proofs.Lists.{get_unmap, some_eq}
use Rattle.chaos_node.specs.Link.{packets_in, read_all, sent_by}
use Rattle.chaos_node.specs.Phase.{Effect}
use Rattle.chaos_net.specs.Come.{Upon, AreSent, ComeFrom, ComeFresh}
use Rattle.chaos_net.specs.MadeTurns.{IsMade, packets_sent}
use Rattle.chaos_net.specs.Turns.{Turns, TurnsAreRuns}
use Rattle.chaos_net.specs.System.{Seat, System, Step, TakesTurn, TakesCall, Steps, IsFreshStep, StandsFor, Stays, NewSystemsStand, SystemsHold, from_on, handed, numbers_at, numbers_of}
use Rattle.chaos_net.specs.System.Step.{Turn, Calls}
use Rattle.chaos_net.proofs.Made.{own_made, run_through}

-- ---- what comes was sent

both_read : (ds es : List Addressed) → read_all (ds ++ es) ≡ read_all ds ++ read_all es
both_read [] es = refl
both_read (d ∷ ds) es =
    ap (λ (ps : List PacketView). packets_in (packets_read d.bytes) ++ ps) (both_read ds es)
    ∙ sym (append_assoc (packets_in (packets_read d.bytes)) (read_all ds) (read_all es))

-- the packets of a datagram stand behind those of the datagrams before it
behind : (posts : List Addressed) (k : ℕ) (d : Addressed) (ps : List PacketView) → slice_get posts k ≡ Some d
    → packets_in (packets_read d.bytes) ≡ ps
    → (more : List PacketView) × (read_all posts ≡ read_all (take k posts) ++ (ps ++ more))
behind [] k d ps there read = absurd (cc)
behind (e ∷ posts) zero d ps there read = (
  read_all posts,
  ap (λ (one : Addressed). packets_in (packets_read one.bytes) ++ read_all posts) (some_eq there)
      ∙ ap (λ (qs : List PacketView). qs ++ read_all posts) read,
)
behind (e ∷ posts) (suc k) d ps there read =
    let r = behind posts k d ps there read in (
      r.0,
      ap (λ (qs : List PacketView). packets_in (packets_read e.bytes) ++ qs) r.1
          ∙ sym (append_assoc (packets_in (packets_read e.bytes)) (read_all (take k posts)) (ps ++ r.0)),
    )

in_place : (before more : List PacketView) (p : PacketView) → slice_get (before ++ p ∷ more) (length before) ≡ Some p
in_place [] more p = refl
in_place (q ∷ before) more p = in_place before more p

one_longer : (before : List PacketView) (p : PacketView) → length (before ++ p ∷ []) ≡ suc (length before)
one_longer [] p = refl
one_longer (q ∷ before) p = ap suc (one_longer before p)

are_sent : (sent : List Sent) (before ps more : List PacketView) (k : ℕ) → length before ≡ k
    → map (λ (q : Sent). q.packet) sent ≡ before ++ (ps ++ more) → AreSent sent (from_on k ps) ps
are_sent sent before [] more k size e = tt
are_sent sent before (p ∷ ps) more k size e =
    let at : slice_get (map (λ (q : Sent). q.packet) sent) k ≡ Some p
    =
    ap (λ (qs : List PacketView). slice_get qs k) e
    ∙ (ap (slice_get (before ++ p ∷ (ps ++ more))) (sym size) ∙ in_place before (ps ++ more) p) in
    (get_unmap (λ (q : Sent). q.packet) sent k p at, are_sent sent (before ++ p ∷ []) ps more (suc k) (one_longer before p ∙ ap suc size) (e ∙ sym (append_assoc before (p ∷ []) (ps ++ more))))

module _ (n : Net) (x : Side) (posts : List Addressed) (waiting : List PacketView)
    (sent : packets_sent (n (other x)) ≡ read_all posts ++ waiting) where
  one_read : (k : ℕ) (d : Addressed) (r : Result (List PacketView) LinkFault) → slice_get posts k ≡ Some d
      → packets_read d.bytes ≡ r
      → ComeFrom n x (from_on (length (read_all (take k posts))) (packets_in r)) (Some r)
  one_read k d (Err fault) there read = tt
  one_read k d (Ok ps) there read =
      let r = behind posts k d ps there (ap packets_in read) in
      let all = sent ∙ ap (λ (qs : List PacketView). qs ++ waiting) r.1
      ∙ append_assoc (read_all (take k posts)) (ps ++ r.0) waiting
      ∙ ap (λ (qs : List PacketView). read_all (take k posts) ++ qs) (append_assoc ps r.0 waiting) in
      are_sent (n (other x)).sent (read_all (take k posts)) ps (r.0 ++ waiting) (length (read_all (take k posts))) refl
      all

  one_handed : (k : ℕ) (o : Option Addressed) → slice_get posts k ≡ o
      → ComeFrom n x (numbers_at posts k o) (option_map (λ d. packets_read d.bytes) o)
  one_handed k None there = tt
  one_handed k (Some d) there = one_read k d (packets_read d.bytes) there refl

  pub comes_from : (number : Option ℕ) → ComeFrom n x (numbers_of posts number) (handed posts number)
  comes_from None = tt
  comes_from (Some k) = one_handed k (slice_get posts k) refl

-- ---- one step

-- what is so at a side and at the other is so at both
pub at_both : (P : Side → Type 0) (x : Side) → P x → P (other x) → (y : Side) → P y
at_both P A own far A = own
at_both P A own far B = far
at_both P B own far B = own
at_both P B own far A = far

reached_through : (n m : Net) (events : List NetEvent) → Reached n → Run n events m → Reached m
reached_through n m events r run = record {
  start = r.start;
  a = r.a;
  b = r.b;
  events = r.events ++ events;
  run = run_through r.events events r.start n m r.run run;
}

-- A run leads to a net that stands for what the step made of the system.
record Follows {P : Type 0} (host_of : P → HostView) (n : Net) (t : System P) : Type 0 where
  net : Net
  events : List NetEvent
  run : Run n events net
  stands : StandsFor host_of t net

module _ {P : Type 0} (host_of : P → HostView) where
  -- one side moved on, and the other did not
  moved_on : (s t : System P) (n m : Net) (x : Side) (effect : Effect) → StandsFor host_of s n → IsMade n m x effect
      → effect.host ≡ host_of (t x).program
      → packets_sent (n x) ++ packets_of effect.lots ≡ read_all (t x).posts ++ (t x).waiting
      → t (other x) ≡ s (other x) → Follows host_of n t
  moved_on s t n m x effect st made host sent far = record {
    net = m;
    events = made.events;
    run = made.run;
    stands = record {
      reached = reached_through n m made.events st.reached made.run;
      hosts =
          at_both (λ y. (m y).host ≡ host_of (t y).program) x (made.host ∙ host)
          (subst (λ (z : Seat P). (m (other x)).host ≡ host_of z.program) (sym far)
          (ap (λ z. z.host) made.far ∙ st.hosts (other x)));
      sent =
          at_both (λ y. packets_sent (m y) ≡ read_all (t y).posts ++ (t y).waiting) x (made.sent ∙ sent)
          (subst (λ (z : Seat P). packets_sent (m (other x)) ≡ read_all z.posts ++ z.waiting) (sym far)
          (ap packets_sent made.far ∙ st.sent (other x)));
    };
  }

-- what waited is posted, and then the lots
pub posted : (posts ds : List Addressed) (waiting : List PacketView) (lots : List (List PacketView)) (carriage : Carriage)
    (left : List PacketView) → read_all (sent_by carriage (waiting ∷ lots)) ≡ packets_of (waiting ∷ lots)
    → ds ≡ posts ++ sent_by carriage (waiting ∷ lots) → left ≡ []
    → (read_all posts ++ waiting) ++ packets_of lots ≡ read_all ds ++ left
posted posts ds waiting lots carriage left read e none =
    let all : read_all ds ≡ read_all posts ++ (waiting ++ packets_of lots)
    =
    ap read_all e ∙ both_read posts (sent_by carriage (waiting ∷ lots))
    ∙ ap (λ (qs : List PacketView). read_all posts ++ qs) read in
    append_assoc (read_all posts) waiting (packets_of lots)
    ∙ sym all
    ∙ sym (append-nil (read_all ds))
    ∙ ap (λ (qs : List PacketView). read_all ds ++ qs) (sym none)

module _ {P : Type 0} (host_of : P → HostView) (upon : P → ℕ → ℕ → Upon) (turns : Turns P)
    (runs : TurnsAreRuns host_of upon turns) where
  turn_follows : (s t : System P) (n : Net) (x : Side) (number : Option ℕ) (start now : ℕ) → StandsFor host_of s n
      → TakesTurn host_of turns (handed (s (other x)).posts number) start now (s x) (t x)
      → t (other x) ≡ s (other x)
      → ComeFresh (upon (s x).program start now) n x now (numbers_of (s (other x)).posts number) (handed (s (other x)).posts number)
      → Follows host_of n t
  turn_follows s t n x number start now st one far fresh =
      let from = comes_from n x (s (other x)).posts (s (other x)).waiting (st.sent (other x)) number in
      let made = runs n x (numbers_of (s (other x)).posts number) (handed (s (other x)).posts number) start now
      (s x).program (t x).program one.lots (st.hosts x) from fresh one.turn in
      moved_on host_of s t n made.0 x (record { host = host_of (t x).program; lots = one.lots }) st made.1 refl
      (ap (λ (qs : List PacketView). qs ++ packets_of one.lots) (st.sent x)
      ∙ posted (s x).posts (t x).posts (s x).waiting one.lots one.carriage (t x).waiting one.read one.posts one.waiting)
      far

  call_follows : (s t : System P) (n : Net) (x : Side) (event : HostEvent) → StandsFor host_of s n
      → TakesCall host_of turns event (s x) (t x) → t (other x) ≡ s (other x) → Follows host_of n t
  call_follows s t n x event st one far =
      let made = own_made n x event one.own in
      let ps = (host_made (n x).host event).packets in
      let same : ps ≡ (host_made (host_of (s x).program) event).packets =
      ap (λ h. (host_made h event).packets) (st.hosts x) in
      moved_on host_of s t n (happens n (At x event)) x
      (record { host = (host_made (n x).host event).view; lots = ps ∷ [] }) st made
      (ap (λ h. (host_made h event).view) (st.hosts x) ∙ sym one.host)
      (ap (λ (qs : List PacketView). packets_sent (n x) ++ qs) (append-nil ps)
      ∙ ap (λ (qs : List PacketView). qs ++ ps) (st.sent x)
      ∙ append_assoc (read_all (s x).posts) (s x).waiting ps
      ∙ ap (λ (qs : List PacketView). read_all (s x).posts ++ ((s x).waiting ++ qs)) same
      ∙ ap (λ (qs : List PacketView). read_all (s x).posts ++ qs) (sym one.waiting)
      ∙ ap (λ (ds : List Addressed). read_all ds ++ (t x).waiting) (sym one.posts))
      far

  step_follows : (s t : System P) (n : Net) (step : Step) → StandsFor host_of s n → Steps host_of turns s step t
      → IsFreshStep upon n s step → Follows host_of n t
  step_follows s t n (Turn x number start now) st one fresh =
      turn_follows s t n x number start now st one.0 one.1 fresh
  step_follows s t n (Calls x event) st one fresh = call_follows s t n x event st one.0 one.1

  pub stays : (k : ℕ) (s : System P) (n : Net) → StandsFor host_of s n → Stays host_of upon turns k s n
  stays zero s n st = st
  stays (suc k) s n st = (
    st,
    λ step t one fresh. let f = step_follows s t n step st one fresh in
        (f.net, f.events, f.run, stays k t f.net f.stands),
  )

-- ---- the start, and the law

module _ {P : Type 0} (host_of : P → HostView) where
  pub new_systems_stand : NewSystemsStand host_of
  new_systems_stand s new = (
    start,
    record {
      reached = record {
        start = start;
        a = record { address = (new A).address; conns = (new A).conns; config = (new A).config; right = (new A).right; sound = (new A).sound; is = refl };
        b = record { address = (new B).address; conns = (new B).conns; config = (new B).config; right = (new B).right; sound = (new B).sound; is = refl };
        events = [];
        run = refl;
      };
      hosts = λ x. sym (new x).host;
      sent = λ x. sym (ap (λ (ds : List Addressed). read_all ds ++ (s x).waiting) (new x).posts ∙ (new x).waiting);
    },
  )
    where
      start : Net
      start = λ x. new_station (new x).address (new x).conns (new x).config

  pub systems_hold : NetworkLaw → SystemsHold host_of
  systems_hold network s n st x name = network n x name st.reached
