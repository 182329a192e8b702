-- An engine that holds a connection, and a server: what a move of either makes of the connection, which need not be open.
use Rattle.std.proofs.Common.{◌≡◌, Bool, ℕ, ◌+◌, ◌≤◌, true, List, [], ◌∷◌, ◌++◌, Option, Some, None, refl, sym, ap, ◌∙◌, subst, inl, inr, arith}
use Rattle.std.specs.Prelude.{slice_get, ⊤}
use Rattle.std.specs.List.{AllByRecursion}
use Rattle.chaos_packet.specs.Packet.{PacketView}
use Rattle.chaos_conn.specs.Act.{Call}
use Rattle.chaos_conn.specs.Act.Call.{Write, Read}
use Rattle.chaos_file.specs.Store.{Files, change}
use Rattle.chaos_file.specs.ServeCalls.{work_at}
use Rattle.chaos_file.specs.ServeWork.{Work, NotOpen, Nothing as Idle, Full, LastItem, Command}
use Rattle.chaos_host.specs.Acted.{HostActed}
use Rattle.chaos_host.specs.Calls.{HostReply, host_call}
use Rattle.chaos_host.specs.Deeds.{is_users}
use Rattle.chaos_host.specs.Deeds.HostEvent.{Calls, Ticks}
use Rattle.chaos_host.specs.Slot.{place_of}
use Rattle.chaos_host.specs.View.{HostView}
use Rattle.chaos_lab.specs.declared.side.Side.{Side}
use Rattle.chaos_lab.specs.declared.side.Side.TheVariants.{A, B}
use Rattle.chaos_link.specs.Link.{Addressed, Ask, Receive, to_send}
use Rattle.chaos_net.specs.Net.{Name, Story, Sent, Reached, arrives}
use Rattle.chaos_net.specs.Net.NetEvent.{At, Arrives}
use Rattle.chaos_net.specs.Present.{named}
use Rattle.chaos_net.proofs.Behind.{at_both}
use Rattle.chaos_net.proofs.Lasting.{stories_last}
use Rattle.chaos_net.proofs.Network.{reached_is_played}
use Rattle.chaos_net.specs.System.{TakesCall, TakesTurn, handed}
use Rattle.chaos_node.specs.Link.{datagrams_of, sent_by}
use Rattle.chaos_node.specs.Station.{station}
use Rattle.chaos_node.specs.Turn.{client_phases}
use Rattle.file_client.specs.Calls.{call_by}
use Rattle.file_client.specs.Caller.{CallerView, after_call, asked_again}
use Rattle.file_client.specs.Pace.{Pace}
use Rattle.file_client.specs.Talk.{Step, Calls as Asks, Writes, Reads, Turns, talk_of}
use Rattle.file_lab.specs.Bodies.{data_bodies}
use Rattle.file_net.specs.FileNet.{FileNet, FileEvent, Nets, Serves as ServesOne, FileRun, file_happens, served_by}
use Rattle.file_net.specs.History.{Way}
use Rattle.file_net.specs.Users.{said_in, heard_in}
use Rattle.file_net.proofs.Kept.{IsSound, event_keeps, reached_is_sound}
use Rattle.file_end_to_end.specs.Program.{Client, Serves, program_host, program_turns}
use Rattle.file_end_to_end.specs.System.{FileStandsFor}
use Rattle.file_end_to_end.specs.Turns.{server_host, server_turns}
use Rattle.file_end_to_end.specs.World.{World, system_of, system_by, Engages, Move, EngineSteps, ServerTurns, Moves, IsFreshMove, sends_in}
use Rattle.file_end_to_end.proofs.Client.{IsTurning}
use Rattle.file_end_to_end.proofs.Led.{Grows}
use Rattle.file_end_to_end.proofs.Saying.{IsCalled, IsOther, StandsAt, StepSays, called, heard_more, nothing_after, others_are_quiet, others_silent, sent_more, step_says}
use Rattle.file_end_to_end.proofs.Programs.{client_turns_are_steps}
use Rattle.file_end_to_end.proofs.Systems.{Follows, LeavesClient, OnlyTurns, client_calls, client_turns_on, server_turns as server_turns_on}
use Rattle.file_end_to_end.proofs.Turning.{calls_turns, comes_turns, ticks_turns}

-- ---- what stays while packets come to A and its slots are ticked

one_turn : (f : FileNet) (event : FileEvent) → Reached f.net → IsTurning event → (place : ℕ)
    → ((file_happens f event).net A).turn place ≡ (f.net A).turn place
one_turn f (Nets (Arrives A number now)) r kind place = by (slice_get (f.net B).sent number)
  where
    by : (o : Option Sent) → (arrives f.net A now o A).turn place ≡ (f.net A).turn place
    by None = refl
    by (Some q) = comes_turns (f.net A) (f.net B) ((reached_is_played f.net r) A).station q.packet now q.by place
one_turn f (Nets (At A (Ticks slot now))) r kind place =
    ticks_turns (f.net A) (f.net B) ((reached_is_played f.net r) A).station slot now None place
one_turn f event r kind place = absurd kind

turns_stay : (m : Files) (events : List FileEvent) (f g : FileNet) → IsSound m f → FileRun f events g
    → AllByRecursion IsTurning events → (place : ℕ) → (g.net A).turn place ≡ (f.net A).turn place
turns_stay m [] f g h is all place = ap (λ (z : FileNet). (z.net A).turn place) is
turns_stay m (event ∷ events) f g h r all place =
    turns_stay m events (file_happens f event) g (event_keeps m f event r.0 h) r.1 all.1 place
    ∙ one_turn f event h.reached all.0 place

-- and so do those of B
one_far : (f : FileNet) (event : FileEvent) → IsTurning event → (place : ℕ)
    → ((file_happens f event).net B).turn place ≡ (f.net B).turn place
one_far f (Nets (Arrives A number now)) kind place = by (slice_get (f.net B).sent number)
  where
    by : (o : Option Sent) → (arrives f.net A now o B).turn place ≡ (f.net B).turn place
    by None = refl
    by (Some q) = refl
one_far f (Nets (At A (Ticks slot now))) kind place = refl
one_far f event kind place = absurd kind

far_stay : (events : List FileEvent) (f g : FileNet) → FileRun f events g → AllByRecursion IsTurning events → (place : ℕ)
    → (g.net B).turn place ≡ (f.net B).turn place
far_stay [] f g is all place = ap (λ (z : FileNet). (z.net B).turn place) is
far_stay (event ∷ events) f g r all place =
    far_stay events (file_happens f event) g r.1 all.1 place ∙ one_far f event all.0 place

-- ---- how many connections the slots had

-- Each slot of either host had at most three connections more.
abbrev pub GrowsBoth : FileNet → FileNet → Type 0
GrowsBoth f g = (x : Side) (place : ℕ) → (g.net x).turn place ≤ (f.net x).turn place + 3

pub grows_as : (f g : FileNet) → ((place : ℕ) → (g.net A).turn place ≡ (f.net A).turn place) → Grows (λ place. 3) f g
    → GrowsBoth f g
grows_as f g same grows = at_both (λ x. (place : ℕ) → (g.net x).turn place ≤ (f.net x).turn place + 3) A
    (λ place. let e = same place in omega (arith, e)) grows

pub turning_grows : (m : Files) (events : List FileEvent) (f g : FileNet) → IsSound m f → FileRun f events g
    → AllByRecursion IsTurning events → GrowsBoth f g
turning_grows m events f g h r all =
    grows_as f g (turns_stay m events f g h r all) (λ place. let e = far_stay events f g r all place in omega (arith, e))

-- by which the user says and hears nothing
turning_other : (event : FileEvent) → IsTurning event → IsOther event
turning_other (Nets (Arrives A number now)) kind = refl
turning_other (Nets (At A (Ticks place now))) kind = refl
turning_other event kind = absurd kind

pub turning_others : (events : List FileEvent) → AllByRecursion IsTurning events → AllByRecursion IsOther events
turning_others [] all = tt
turning_others (event ∷ events) all = (turning_other event all.0, turning_others events all.1)

-- ---- stories last

-- The connection of A still has a story: who asked stays so, and a peer that was known stays.
abbrev pub IsThere : FileNet → Name → Story → Type 0
IsThere g a s = (t : Story) × ((g.net A).story a ≡ Some t) × (t.asked ≡ s.asked)
    × ((c : Name) → s.peer ≡ Some c → t.peer ≡ Some c)

work_leaves : (f : FileNet) (id now : ℕ) (way : Way) (a : Name) (o : Option Work)
    → ((served_by f id now way o).net A).story a ≡ (f.net A).story a
work_leaves f id now way a None = refl
work_leaves f id now way a (Some (NotOpen state)) = refl
work_leaves f id now way a (Some Idle) = refl
work_leaves f id now way a (Some Full) = refl
work_leaves f id now way a (Some LastItem) = refl
work_leaves f id now way a (Some (Command body)) = refl

event_leaves : (f : FileNet) (event : FileEvent) (a : Name) (s : Story) → (f.net A).story a ≡ Some s
    → IsThere (file_happens f event) a s
event_leaves f (Nets event) a s there =
    let l = stories_last f.net (event ∷ []) A a s there in (l.0, l.1, l.2.asked, l.2.peer)
event_leaves f (ServesOne id now way) a s there =
    (s, work_leaves f id now way a (work_at (f.net B).host id) ∙ there, refl, λ c is. is)

pub story_lasts : (events : List FileEvent) (f g : FileNet) (a : Name) (s : Story) → FileRun f events g
    → (f.net A).story a ≡ Some s → IsThere g a s
story_lasts [] f g a s is there = (s, ap (λ (z : FileNet). (z.net A).story a) is ∙ there, refl, λ c same. same)
story_lasts (event ∷ events) f g a s r there =
    let one = event_leaves f event a s there in
    let rest = story_lasts events (file_happens f event) g a one.0 r.1 one.1 in
    (rest.0, rest.1, rest.2 ∙ one.2, λ c is. rest.3 c (one.3 c is))

-- ---- a turn's datagrams

-- what a turn asks its link to send: what waited, and its lots
pub sends_of_turn : (first : List Addressed) (may_wait : Bool) (last : List Addressed)
    → sends_in (to_send first ++ Receive may_wait ∷ to_send last) ≡ first ++ last
sends_of_turn [] may_wait last = all_sent last
  where
    all_sent : (ds : List Addressed) → sends_in (to_send ds) ≡ ds
    all_sent [] = refl
    all_sent (d ∷ ds) = ap (λ l. d ∷ l) (all_sent ds)
sends_of_turn (d ∷ first) may_wait last = ap (λ l. d ∷ l) (sends_of_turn first may_wait last)

-- ---- seats

module _ {S : Type 0} (contents : S → Option Files) (may_give : S → List ℕ → ℕ → List ℕ → Type 0) (count : S → ℕ)
    (m : Files) where
  -- the seats of the same states
  pub same_system : (w t : World S) (f : FileNet) → FileStandsFor contents m (system_of w) f
      → t.client.caller ≡ w.client.caller → t.posts ≡ w.posts → t.server ≡ w.server
      → FileStandsFor contents m (system_of t) f
  same_system w t f stands caller posts server =
      let e : system_of w ≡ system_of t = λ j. system_by (sym caller j) (sym posts j) (sym server j) in
      subst (λ z. FileStandsFor contents m z f) e stands

  same_seat : (caller : CallerView) (w t : World S) → t.server ≡ w.server
      → system_of t B ≡ system_by caller w.posts w.server B
  same_seat caller w t server = λ j. system_by caller w.posts (server j) B

  same_client : (w t : World S) → t.client ≡ w.client → t.posts ≡ w.posts → system_of t A ≡ system_of w A
  same_client w t client posts = λ j. system_by (client j).caller (posts j) w.server A

  -- ---- turns

  -- a turn of the engine, from the engine on as the packets that come find it
  pub engine_turn : (p : Pace) (f : FileNet) (w t : World S) (now : ℕ) (asks : List Ask) (number : Option ℕ)
      → FileStandsFor contents m (system_by (asked_again p now w.client.caller) w.posts w.server) f
      → Engages p w (Turns now asks) number t → t.server ≡ w.server
      → IsFreshMove f w (EngineSteps (Turns now asks) number)
      → Follows contents may_give count m (OnlyTurns contents may_give count m) f (system_of t)
  engine_turn p f w t now asks number stands (does, hands, posts) server fresh =
      let b : CallerView = asked_again p now w.client.caller in
      let timers = does.1.1.0 in
      let may_wait = does.1.1.1.0 in
      let runs = does.1.1.1.4 in
      let lots : List (List PacketView) = (client_phases timers runs.came now b.host).lots in
      let empty : t.client.caller.out.packets ≡ [] = ap (λ x. x.out.packets) does.1.0 in
      let changes = change contents may_give count in
      let more : List Addressed = sent_by b.carriage (b.out.packets ∷ lots) in
      let posted : t.posts ≡ w.posts ++ more =
      posts ∙ ap (λ l. w.posts ++ sends_in l) (sym runs.link.asks)
      ∙ ap (λ l. w.posts ++ l) (sends_of_turn (datagrams_of b.carriage b.out.packets) may_wait (sent_by b.carriage lots)) in
      let first : TakesTurn program_host (program_turns changes) (handed w.server.posts number) 0 now
      (system_by b w.posts w.server A) (system_by t.client.caller (w.posts ++ more) t.server A) =
      (client_turns_are_steps changes (λ l. l ≡ asks) timers may_wait b.carriage 0 now (station b.host w.client.queue b.out)
      (station t.client.caller.host t.client.queue t.client.caller.out) does.1.1.1.2 does.1.1.1.3 w.posts w.server.posts number runs hands empty).0 in
      let one : TakesTurn program_host (program_turns changes) (handed w.server.posts number) 0 now
      (system_by b w.posts w.server A) (system_of t A) =
      subst
      (λ (z : List Addressed). TakesTurn program_host (program_turns changes) (handed w.server.posts number) 0 now (system_by b w.posts w.server A) (system_by t.client.caller z t.server A))
      (sym posted) first in
      client_turns_on contents may_give count m (system_by b w.posts w.server) (system_of t) f number 0 now
      (Client b.host) (Client t.client.caller.host) refl refl stands one (same_seat b w t server) fresh tt one.turn

  -- the packets that come find an engine that asked for no other connection as it was
  pub unasked : (p : Pace) (now : ℕ) (w : World S) (f : FileNet) → asked_again p now w.client.caller ≡ w.client.caller
      → FileStandsFor contents m (system_of w) f
      → FileStandsFor contents m (system_by (asked_again p now w.client.caller) w.posts w.server) f
  unasked p now w f same stands = subst (λ z. FileStandsFor contents m (system_by z w.posts w.server) f) (sym same) stands

  -- a turn of the server
  pub server_turn : (f : FileNet) (w t : World S) (number : Option ℕ) (start now : ℕ) → FileStandsFor contents m (system_of w) f
      → TakesTurn server_host (server_turns (change contents may_give count)) (handed w.posts number) start now w.server t.server
      → t.client ≡ w.client → t.posts ≡ w.posts → IsFreshMove f w (ServerTurns number start now)
      → Follows contents may_give count m (LeavesClient contents may_give count m f) f (system_of t)
  server_turn f w t number start now stands e client posts fresh =
      let one : TakesTurn program_host (program_turns (change contents may_give count)) (handed w.posts number) start now
      (system_of w B) (system_of t B) = record {
        carriage = e.carriage;
        lots = e.lots;
        turn = e.turn;
        read = e.read;
        waiting = e.waiting;
        posts = e.posts;
      } in
      server_turns_on contents may_give count m (system_of w) (system_of t) f number start now
      (Serves w.server.program) (Serves t.server.program) refl refl stands one (same_client w t client posts) fresh
      stands.server one.turn

-- ---- a connection

-- The engine has a connection, and the connection has this name.
pub record Holds {S : Type 0} (w : World S) (f : FileNet) (a : Name) : Type 0 where
  pub id : ℕ
  pub has : w.client.caller.id ≡ Some id
  pub named_so : named (f.net A) id ≡ a

-- The engine asks for no other connection in the move.
abbrev pub AsksNoMore : {S : Type 0} → Pace → World S → Move → Type 0
AsksNoMore p w (EngineSteps (Turns now asks) number) = asked_again p now w.client.caller ≡ w.client.caller
AsksNoMore p w move = ⊤

abbrev pub steps_in : Move → List Step
steps_in (EngineSteps step number) = step ∷ []
steps_in (ServerTurns number start now) = []

module _ {S : Type 0} (contents : S → Option Files) (may_give : S → List ℕ → ℕ → List ℕ → Type 0) (count : S → ℕ)
    (m : Files) (p : Pace) (a : Name) where
  -- A run leads to a file net that stands for the world behind the move, in which the engine still has the connection; and what
  -- the user said and heard in the run is what was said and heard by these steps more.
  pub record Moved (f : FileNet) (w t : World S) (more : List Step) : Type 0 where
    pub net : FileNet
    pub events : List FileEvent
    pub run : FileRun f events net
    pub stands : FileStandsFor contents m (system_of t) net
    pub holds : Holds t net a
    pub steps : t.steps ≡ more ++ w.steps
    pub said : said_in f events a ≡ data_bodies (talk_of more).sent
    pub heard : heard_in f events a ≡ (talk_of more).received
    -- no slot had more than three connections more
    pub grows : GrowsBoth f net

  standing : (f : FileNet) (w : World S) → FileStandsFor contents m (system_of w) f → (holds : Holds w f a)
      → StandsAt a f w.client holds.id
  standing f w stands holds = record { host = stands.net.hosts A; has = holds.has; named_so = holds.named_so }

  -- an engine that did nothing
  nothing_done : (f : FileNet) (w t : World S) (step : Step) → FileStandsFor contents m (system_of w) f → Holds w f a
      → t.client.caller ≡ w.client.caller → t.posts ≡ w.posts → t.server ≡ w.server → t.steps ≡ step ∷ w.steps
      → StepSays a f step [] → Moved f w t (step ∷ [])
  nothing_done f w t step stands holds caller posts server steps one = record {
    net = f;
    events = [];
    run = refl;
    stands = same_system contents may_give count m w t f stands caller posts server;
    holds = record { id = holds.id; has = ap (λ x. x.id) caller ∙ holds.has; named_so = holds.named_so };
    steps = steps;
    said = one.said ∙ ap data_bodies (sym (sent_more (talk_of []) step));
    heard = one.heard ∙ sym (heard_more (talk_of []) step);
    grows = λ x place. omega arith;
  }

  -- a call of the engine's connection
  call_done : (f : FileNet) (w t : World S) (step : Step) (call : Call) → is_users call ≡ true
      → FileStandsFor contents m (system_of w) f → (holds : Holds w f a)
      → t.client.caller ≡ after_call w.client.caller (call_by w.client.caller.host call w.client.caller.id)
      → t.posts ≡ w.posts → t.server ≡ w.server → t.steps ≡ step ∷ w.steps
      → ((events : List FileEvent) → events ≡ Nets (At A (Calls holds.id call)) ∷ [] → StepSays a f step events)
      → Moved f w t (step ∷ [])
  call_done f w t step call users stands holds is posts server steps tells =
      let caller = w.client.caller in
      let h : HostView = caller.host in
      let id = holds.id in
      let acted : HostActed HostReply = host_call h id call in
      let same : call_by h call caller.id ≡ acted = ap (call_by h call) holds.has in
      let done : t.client.caller ≡ after_call caller acted = is ∙ ap (after_call caller) same in
      let call_taken : TakesCall program_host (program_turns (change contents may_give count)) (Calls id call) (system_of w A) (system_of t A) =
      record {
        own = users;
        host = ap (λ x. x.host) done;
        waiting = ap (λ x. x.out.packets) done;
        posts = posts;
      } in
      let r = client_calls contents may_give count m (system_of w) (system_of t) f (Calls id call) stands call_taken
      (same_seat contents may_give count m w.client.caller w t server) tt in
      let one = tells r.events r.kind in
      let run : FileRun f (Nets (At A (Calls id call)) ∷ []) r.net = subst (λ es. FileRun f es r.net) r.kind r.run in
      let turn : (place : ℕ) → (r.net.net A).turn place ≡ (f.net A).turn place = λ place.
      ap (λ (z : FileNet). (z.net A).turn place) run.1
      ∙ calls_turns (f.net A) (f.net B) ((reached_is_played f.net stands.net.reached) A).station id call users None place in
      record {
        net = r.net;
        events = r.events;
        run = r.run;
        stands = r.stands;
        holds = record {
          id = id;
          has = ap (λ x. x.id) done ∙ holds.has;
          named_so = (λ j. record { place = place_of id; turn = turn (place_of id) j }) ∙ holds.named_so;
        };
        steps = steps;
        said = one.said ∙ ap data_bodies (sym (sent_more (talk_of []) step));
        heard = one.heard ∙ sym (heard_more (talk_of []) step);
        grows = grows_as f r.net turn (λ place. let e = ap (λ (z : FileNet). (z.net B).turn place) run.1 in omega (arith, e));
      }

  -- a turn of the engine, which has this connection when the packets come
  pub turn_done : (f : FileNet) (w t : World S) (now : ℕ) (asks : List Ask) (number : Option ℕ) (id : ℕ)
      → FileStandsFor contents m (system_by (asked_again p now w.client.caller) w.posts w.server) f
      → (asked_again p now w.client.caller).id ≡ Some id → named (f.net A) id ≡ a
      → Engages p w (Turns now asks) number t → t.server ≡ w.server → t.steps ≡ Turns now asks ∷ w.steps
      → IsFreshMove f w (EngineSteps (Turns now asks) number) → Moved f w t (Turns now asks ∷ [])
  turn_done f w t now asks number id stands has named_so (does, hands, posts) server steps fresh =
      let r = engine_turn contents may_give count m p f w t now asks number stands (does, hands, posts) server fresh in
      let turn = turns_stay m r.events f r.net (reached_is_sound m f stands.reached) r.run r.kind (place_of id) in
      let silent = others_silent f r.events a (turning_others r.events r.kind) in
      record {
        net = r.net;
        events = r.events;
        run = r.run;
        stands = r.stands;
        holds = record {
          id = id;
          has = ap (λ x. x.id) does.1.0 ∙ has;
          named_so = (λ j. record { place = place_of id; turn = turn j }) ∙ named_so;
        };
        steps = steps;
        said = silent.said;
        heard = silent.heard;
        grows = turning_grows m r.events f r.net (reached_is_sound m f stands.reached) r.run r.kind;
      }

  server_done : (f : FileNet) (w t : World S) (number : Option ℕ) (start now : ℕ) → FileStandsFor contents m (system_of w) f
      → Holds w f a
      → TakesTurn server_host (server_turns (change contents may_give count)) (handed w.posts number) start now w.server t.server
      → t.client ≡ w.client → t.posts ≡ w.posts → t.steps ≡ w.steps
      → IsFreshMove f w (ServerTurns number start now) → Moved f w t []
  server_done f w t number start now stands holds e client posts steps fresh =
      let r = server_turn contents may_give count m f w t number start now stands e client posts fresh in
      let silent = others_are_quiet m f r.net r.events a stands.reached r.run r.kind.0 in
      record {
        net = r.net;
        events = r.events;
        run = r.run;
        stands = r.stands;
        holds = record {
          id = holds.id;
          has = ap (λ x. x.caller.id) client ∙ holds.has;
          named_so = ap (λ z. named z holds.id) r.kind.0 ∙ holds.named_so;
        };
        steps = steps;
        said = silent.said;
        heard = silent.heard;
        grows = grows_as f r.net (λ place. ap (λ z. z.turn place) r.kind.0) r.kind.1;
      }

  -- ---- any move

  pub moved : (f : FileNet) (w t : World S) (move : Move) → FileStandsFor contents m (system_of w) f → Holds w f a
      → AsksNoMore p w move → Moves contents may_give count p w move t → IsFreshMove f w move → Moved f w t (steps_in move)
  moved f w t (EngineSteps (Asks now) number) stands holds quiet (engaged, server, steps) fresh = absurd engaged
  moved f w t (EngineSteps (Writes item now taken) number) stands holds quiet
      (((shown, inl (room, untaken, same), queue), posts), server, steps) fresh =
      nothing_done f w t (Writes item now taken) stands holds same posts server steps
      (step_says a f w.client (Writes item now taken) [] (inl (untaken, nothing_after a f)))
  moved f w t (EngineSteps (Writes item now taken) number) stands holds quiet
      (((shown, inr (told, is), queue), posts), server, steps) fresh =
      let call : Call = Write item.op item.body now in
      call_done f w t (Writes item now taken) call refl stands holds is posts server steps
      (λ events one. step_says a f w.client (Writes item now taken) events
      (inr ((call_by w.client.caller.host call w.client.caller.id).answer, told, subst (IsCalled a f w.client call (call_by w.client.caller.host call w.client.caller.id).answer) (sym one) (called a f w.client holds.id call (standing f w stands holds)))))
  moved f w t (EngineSteps (Reads got) number) stands holds quiet
      (((inl (room, untaken, same), queue), posts), server, steps) fresh =
      nothing_done f w t (Reads got) stands holds same posts server steps
      (step_says a f w.client (Reads got) [] (inl (untaken, nothing_after a f)))
  moved f w t (EngineSteps (Reads got) number) stands holds quiet
      (((inr (told, is), queue), posts), server, steps) fresh =
      call_done f w t (Reads got) Read refl stands holds is posts server steps
      (λ events one. step_says a f w.client (Reads got) events
      (inr ((call_by w.client.caller.host Read w.client.caller.id).answer, told, subst (IsCalled a f w.client Read (call_by w.client.caller.host Read w.client.caller.id).answer) (sym one) (called a f w.client holds.id Read (standing f w stands holds)))))
  moved f w t (EngineSteps (Turns now asks) number) stands holds quiet (engaged, server, steps) fresh =
      turn_done f w t now asks number holds.id (unasked contents may_give count m p now w f quiet stands)
      (ap (λ x. x.id) quiet ∙ holds.has) holds.named_so engaged server steps fresh
  moved f w t (ServerTurns number start now) stands holds quiet (e, client, posts, steps) fresh =
      server_done f w t number start now stands holds e client posts steps fresh
