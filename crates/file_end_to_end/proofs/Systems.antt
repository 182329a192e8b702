-- A file net stands behind a client and a server.
use Rattle.std.proofs.Common.{◌≡◌, ℕ, zero, suc, ◌<◌, List, [], ◌∷◌, ◌++◌, length, Option, Some, None, refl, sym, ap, ◌∙◌, subst, append_assoc}
use Rattle.std.specs.Prelude.{⊤}
use Rattle.std.specs.List.{AllByRecursion}
use Rattle.std.proofs.lemmas.List.{append-nil}
use Rattle.chaos_packet.specs.Packet.{PacketView}
use Rattle.chaos_file.specs.Store.{Files, change}
use Rattle.chaos_host.specs.Deeds.{HostEvent, host_made}
use Rattle.chaos_host.specs.Deeds.HostEvent.{Comes, Calls as At_call, Ends, Releases, Connects, Listens, Ticks}
use Rattle.chaos_host.specs.View.{HostView}
use Rattle.chaos_lab.specs.declared.side.Side.{Side}
use Rattle.chaos_lab.specs.declared.side.Side.TheVariants.{A, B}
use Rattle.chaos_lab.specs.Machine.{other}
use Rattle.chaos_link.specs.Link.{Addressed}
use Rattle.chaos_link.specs.Loads.{packets_of}
use Rattle.chaos_net.specs.Net.{Name, Story, Net, IsNew, new_station}
use Rattle.chaos_net.specs.Net.NetEvent.{At}
use Rattle.chaos_node.specs.Arrive.{Arrival}
use Rattle.chaos_node.specs.Link.{read_all}
use Rattle.chaos_node.specs.Turn.{client_phases}
use Rattle.chaos_net.specs.Come.{ComeFresh}
use Rattle.chaos_net.specs.MadeTurns.{packets_sent}
use Rattle.chaos_net.specs.System.{Seat, System, Step, TakesTurn, TakesCall, Steps, IsFreshStep, handed, numbers_of}
use Rattle.chaos_net.specs.System.Step.{Turn, Calls}
use Rattle.chaos_net.proofs.Behind.{at_both, comes_from, posted}
use Rattle.chaos_net.proofs.Made.{effect_at}
use Rattle.file_server.specs.Sessions.{Serving, serving_at}
use Rattle.file_end_to_end.specs.Program.{Program, Client, Serves, program_host, program_turns, program_upon}
use Rattle.file_net.specs.FileNet.{FileNet, FileEvent, Nets, FileRun, FileReached, new_file_net, file_happens}
use Rattle.file_net.proofs.Kept.{reached_is_sound, file_net}
use Rattle.file_net.proofs.Clients.{operations_among}
use Rattle.file_end_to_end.specs.Server.{IsKept, IsServer, TurnIsRun}
use Rattle.file_end_to_end.specs.System.{IsClient, IsServerOf, FileStandsFor, StaysSame, MayStep, FileSystemsStay, IsNewProgram, NewFileSystemsStand, FileSystemsHold, FileSystemsServe}
use Rattle.file_end_to_end.proofs.Led.{IsLed, Grows, file_run_through, own_led}
use Rattle.file_end_to_end.proofs.Client.{IsOfNet, IsTurning, client_led, net_service, turning_of_net}
use Rattle.file_end_to_end.proofs.Steady.{event_size}
use Rattle.file_end_to_end.proofs.Turn.{turn_is_run}
use Rattle.chaos_net.proofs.Network.{reached_is_played}

module _ {S : Type 0} (contents : S → Option Files) (may_give : S → List ℕ → ℕ → List ℕ → Type 0) (count : S → ℕ)
    (m : Files) where
  -- a run of a kind leads to a file net that stands for what a step made
  pub record Follows (Kind : FileNet → List FileEvent → Type 0) (f : FileNet) (t : System (Program S)) : Type 0 where
    pub net : FileNet
    pub events : List FileEvent
    pub run : FileRun f events net
    pub stands : FileStandsFor contents m t net
    pub kind : Kind net events

  -- a run of any kind
  abbrev pub Any : FileNet → List FileEvent → Type 0
  Any g events = ⊤

  forget : (Kind : FileNet → List FileEvent → Type 0) (f : FileNet) (t : System (Program S)) → Follows Kind f t → Follows Any f t
  forget Kind f t r = record { net = r.net; events = r.events; run = r.run; stands = r.stands; kind = tt }

  pub more_reached : (f g : FileNet) (events : List FileEvent) → FileReached m f → FileRun f events g → FileReached m g
  more_reached f g events r run = record {
    start = r.start;
    a = r.a;
    b = r.b;
    events = r.events ++ events;
    run = file_run_through r.events events (new_file_net r.start m) f g r.run run;
  }

  -- one side moved on, and the other did not
  pub moved_on : (Kind : FileNet → List FileEvent → Type 0) (s t : System (Program S)) (f g : FileNet) (x : Side)
      (events : List FileEvent) (host : HostView) (lots : List (List PacketView)) → Kind g events → FileStandsFor contents m s f → FileRun f events g → (g.net x).host ≡ host
      → packets_sent (g.net x) ≡ packets_sent (f.net x) ++ packets_of lots → g.net (other x) ≡ f.net (other x)
      → host ≡ program_host (t x).program
      → packets_sent (f.net x) ++ packets_of lots ≡ read_all (t x).posts ++ (t x).waiting
      → t (other x) ≡ s (other x) → IsClient (t A).program → IsServerOf contents g (t B).program → Follows Kind f t
  moved_on Kind s t f g x events host lots kind st run host_is sent far is posts same client server =
      let r = more_reached f g events st.reached run in
      record {
        net = g;
        events = events;
        run = run;
        stands = record {
          reached = r;
          net = record {
            reached = (reached_is_sound m g r).reached;
            hosts =
                at_both (λ y. (g.net y).host ≡ program_host (t y).program) x (host_is ∙ is)
                (subst (λ (z : Seat (Program S)). (g.net (other x)).host ≡ program_host z.program) (sym same)
                (ap (λ z. z.host) far ∙ st.net.hosts (other x)));
            sent =
                at_both (λ y. packets_sent (g.net y) ≡ read_all (t y).posts ++ (t y).waiting) x (sent ∙ posts)
                (subst (λ (z : Seat (Program S)). packets_sent (g.net (other x)) ≡ read_all z.posts ++ z.waiting) (sym same)
                (ap packets_sent far ∙ st.net.sent (other x)));
          };
          client = client;
          server = server;
        };
        kind = kind;
      }

  -- what waited is posted, and then the lots
  all_posted : (f : FileNet) (x : Side) (a b : Seat (Program S)) (came : Arrival) (start now : ℕ)
      (one : TakesTurn program_host (program_turns (change contents may_give count)) came start now a b)
      → packets_sent (f.net x) ≡ read_all a.posts ++ a.waiting
      → packets_sent (f.net x) ++ packets_of one.lots ≡ read_all b.posts ++ b.waiting
  all_posted f x a b came start now one sent =
      ap (λ (qs : List PacketView). qs ++ packets_of one.lots) sent
      ∙ posted a.posts b.posts a.waiting one.lots one.carriage b.waiting one.read one.posts one.waiting

  -- ---- a turn of the server

  -- A does nothing in it, and the turns of B's slots grow by three at most
  abbrev pub LeavesClient : FileNet → FileNet → List FileEvent → Type 0
  LeavesClient f g events = (g.net A ≡ f.net A) × Grows (λ p. 3) f g

  pub server_turns : (s t : System (Program S)) (f : FileNet) (number : Option ℕ) (start now : ℕ) (p q : Program S)
      → (s B).program ≡ p → (t B).program ≡ q → FileStandsFor contents m s f
      → (one : TakesTurn program_host (program_turns (change contents may_give count)) (handed (s A).posts number) start now (s B) (t B))
      → t A ≡ s A
      → ComeFresh (program_upon p start now) f.net B now (numbers_of (s A).posts number) (handed (s A).posts number)
      → IsServerOf contents f p
      → program_turns (change contents may_give count) (handed (s A).posts number) start now p q one.lots
      → Follows (LeavesClient f) f t
  server_turns s t f number start now (Client h) q ps qs st one far fresh server turn = absurd server
  server_turns s t f number start now (Serves srv) (Client h) ps qs st one far fresh server turn = absurd turn
  server_turns s t f number start now (Serves srv) (Serves left) ps qs st one far fresh server turn =
      let from = comes_from f.net B (s A).posts (s A).waiting (st.net.sent A) number in
      let r = turn_is_run contents may_give count turn.0 turn.1 m f (numbers_of (s A).posts number) (handed (s A).posts number) start now
      srv left one.lots (reached_is_sound m f st.reached) server from fresh turn.2 in
      let g : FileNet = r.0 in
      moved_on (LeavesClient f) s t f g B r.1.events left.host one.lots (r.1.far, r.2) st r.1.run r.1.server.host r.1.sent r.1.far
      (ap program_host (sym qs)) (all_posted f B (s B) (t B) (handed (s A).posts number) start now one (st.net.sent B)) far
      (subst (λ (z : Seat (Program S)). IsClient z.program) (sym far) st.client)
      (subst (IsServerOf contents g) (sym qs) r.1.server)

  -- ---- the client

  -- B's station and the service stayed
  still_server : (f g : FileNet) (p : Program S) → g.net B ≡ f.net B → g.service ≡ f.service → IsServerOf contents f p
      → IsServerOf contents g p
  still_server f g (Client h) far service server = absurd server
  still_server f g (Serves srv) far service server = record {
    host = ap (λ z. z.host) far ∙ server.host;
    files = server.files ∙ ap (λ v. Some v.files) (sym service);
    count = server.count;
    slots = λ place within.
        subst
        (λ (z : Rattle.chaos_net.specs.Net.Station × Rattle.file_net.specs.History.Service). IsKept z.0.turn z.0.story z.1.session place (serving_at srv.sessions place))
        (λ j. (sym far j, sym service j)) (server.slots place within);
  }

  -- packets come to A, and its slots are ticked
  abbrev pub OnlyTurns : FileNet → List FileEvent → Type 0
  OnlyTurns g events = AllByRecursion IsTurning events

  pub client_turns_on : (s t : System (Program S)) (f : FileNet) (number : Option ℕ) (start now : ℕ) (p q : Program S)
      → (s A).program ≡ p → (t A).program ≡ q → FileStandsFor contents m s f
      → (one : TakesTurn program_host (program_turns (change contents may_give count)) (handed (s B).posts number) start now (s A) (t A))
      → t B ≡ s B
      → ComeFresh (program_upon p start now) f.net A now (numbers_of (s B).posts number) (handed (s B).posts number)
      → IsClient p
      → program_turns (change contents may_give count) (handed (s B).posts number) start now p q one.lots
      → Follows OnlyTurns f t
  client_turns_on s t f number start now (Serves srv) q ps qs st one far fresh client turn = absurd client
  client_turns_on s t f number start now (Client h) (Serves srv) ps qs st one far fresh client turn = absurd turn
  client_turns_on s t f number start now (Client h) (Client k) ps qs st one far fresh client turn =
      let from = comes_from f.net A (s B).posts (s B).waiting (st.net.sent B) number in
      let came : Arrival = handed (s B).posts number in
      let host : (f.net A).host ≡ h = st.net.hosts A ∙ ap program_host ps in
      let led = client_led f turn.0 (numbers_of (s B).posts number) came now from fresh in
      let g : FileNet = led.0 in
      let same : client_phases turn.0 came now (f.net A).host ≡ record { host = k; lots = one.lots } =
      ap (client_phases turn.0 came now) host ∙ (λ j. record { host = sym turn.1 j; lots = sym turn.2 j }) in
      let r : IsLed IsTurning A f g (record { host = k; lots = one.lots }) = subst (IsLed IsTurning A f g) same led.1 in
      let service = net_service r.events f g r.run (turning_of_net r.events r.kinds) in
      moved_on OnlyTurns s t f g A r.events k one.lots r.kinds st r.run r.host r.sent r.far (ap program_host (sym qs))
      (all_posted f A (s A) (t A) came start now one (st.net.sent A)) far
      (subst IsClient (sym qs) tt)
      (subst (λ (z : Seat (Program S)). IsServerOf contents g z.program) (sym far)
      (still_server f g (s B).program r.far service st.server))

  -- ---- a call of an owner, between turns

  -- what a call puts out waits
  call_waits : (f : FileNet) (x : Side) (event : HostEvent) (a b : Seat (Program S))
      → TakesCall program_host (program_turns (change contents may_give count)) event a b
      → (f.net x).host ≡ program_host a.program → packets_sent (f.net x) ≡ read_all a.posts ++ a.waiting
      → packets_sent (f.net x) ++ packets_of (effect_at (f.net x).host event).lots ≡ read_all b.posts ++ b.waiting
  call_waits f x event a b one host sent =
      let ps = (host_made (f.net x).host event).packets in
      let same : ps ≡ (host_made (program_host a.program) event).packets = ap (λ h. (host_made h event).packets) host in
      ap (λ (qs : List PacketView). packets_sent (f.net x) ++ qs) (append-nil ps)
      ∙ ap (λ (qs : List PacketView). qs ++ ps) sent ∙ append_assoc (read_all a.posts) a.waiting ps
      ∙ ap (λ (qs : List PacketView). read_all a.posts ++ (a.waiting ++ qs)) same
      ∙ ap (λ (qs : List PacketView). read_all a.posts ++ qs) (sym one.waiting)
      ∙ ap (λ (ds : List Addressed). read_all ds ++ b.waiting) (sym one.posts)

  -- it is this one event
  abbrev pub OnlyCalls : HostEvent → FileNet → List FileEvent → Type 0
  OnlyCalls event g events = events ≡ Nets (At A event) ∷ []

  pub client_calls : (s t : System (Program S)) (f : FileNet) (event : HostEvent) → FileStandsFor contents m s f
      → TakesCall program_host (program_turns (change contents may_give count)) event (s A) (t A) → t B ≡ s B
      → IsClient (t A).program → Follows (OnlyCalls event) f t
  client_calls s t f event st one far client =
      let led = own_led IsOfNet A f event one.own refl tt in
      let g : FileNet = file_happens f (Nets (At A event)) in
      let service = net_service led.events f g led.run led.kinds in
      moved_on (OnlyCalls event) s t f g A (Nets (At A event) ∷ []) (effect_at (f.net A).host event).host
      (effect_at (f.net A).host event).lots refl st ((one.own, refl), refl) led.host led.sent led.far (ap (λ h. (host_made h event).view) (st.net.hosts A) ∙ sym one.host)
      (call_waits f A event (s A) (t A) one (st.net.hosts A) (st.net.sent A)) far client
      (subst (λ (z : Seat (Program S)). IsServerOf contents g z.program) (sym far)
      (still_server f g (s B).program led.far service st.server))

  -- the server listens: it keeps all that it kept
  listens_on : (s t : System (Program S)) (f : FileNet) (contact : List ℕ) (p q : Program S) → (s B).program ≡ p
      → (t B).program ≡ q → FileStandsFor contents m s f
      → (one : TakesCall program_host (program_turns (change contents may_give count)) (Listens contact) (s B) (t B))
      → t A ≡ s A → IsServerOf contents f p → StaysSame p q → Follows Any f t
  listens_on s t f contact (Client h) q ps qs st one far server same = absurd server
  listens_on s t f contact (Serves srv) (Client h) ps qs st one far server same = absurd same
  listens_on s t f contact (Serves srv) (Serves left) ps qs st one far server same =
      let event : HostEvent = Listens contact in
      let led = own_led IsOfNet B f event one.own refl tt in
      let g : FileNet = file_happens f (Nets (At B event)) in
      let host : left.host ≡ (host_made (f.net B).host event).view =
      ap program_host (sym qs) ∙ one.host ∙ ap (λ h. (host_made h event).view) (sym (st.net.hosts B)) in
      let size : length left.host.slots ≡ length srv.host.slots =
      ap (λ (v : HostView). length v.slots) host
      ∙ event_size (f.net B).host ((reached_is_played f.net st.net.reached) B).station.host event tt
      ∙ ap (λ (v : HostView). length v.slots) server.host in
      moved_on Any s t f g B led.events (effect_at (f.net B).host event).host (effect_at (f.net B).host event).lots tt st
      led.run led.host led.sent led.far (sym host ∙ ap program_host (sym qs))
      (call_waits f B event (s B) (t B) one (st.net.hosts B) (st.net.sent B)) far
      (subst (λ (z : Seat (Program S)). IsClient z.program) (sym far) st.client)
      (subst (IsServerOf contents g) (sym qs) (record {
        host = sym host;
        files = ap contents same.1 ∙ server.files;
        count = ap length same.0 ∙ server.count ∙ sym size;
        slots = λ place within.
            subst (λ (z : List Serving). IsKept (f.net B).turn (f.net B).story f.service.session place (serving_at z place))
            (sym same.0) (server.slots place (subst (λ n. place < n) size within));
      }))

  -- ---- a step

  pub step_follows : (s t : System (Program S)) (f : FileNet) (step : Step) → FileStandsFor contents m s f
      → Steps program_host (program_turns (change contents may_give count)) s step t → MayStep s t step
      → IsFreshStep program_upon f.net s step → Follows Any f t
  step_follows s t f (Turn A number start now) st one may fresh =
      forget OnlyTurns f t
      (client_turns_on s t f number start now (s A).program (t A).program refl refl st one.0 one.1 fresh st.client one.0.turn)
  step_follows s t f (Turn B number start now) st one may fresh =
      forget (LeavesClient f) f t
      (server_turns s t f number start now (s B).program (t B).program refl refl st one.0 one.1 fresh st.server one.0.turn)
  step_follows s t f (Calls A event) st one may fresh =
      forget (OnlyCalls event) f t (client_calls s t f event st one.0 one.1 may)
  step_follows s t f (Calls B (Listens contact)) st one may fresh =
      listens_on s t f contact (s B).program (t B).program refl refl st one.0 one.1 st.server may
  step_follows s t f (Calls B (Comes packet now)) st one may fresh = absurd may
  step_follows s t f (Calls B (At_call id call)) st one may fresh = absurd may
  step_follows s t f (Calls B (Ends id call)) st one may fresh = absurd may
  step_follows s t f (Calls B (Releases id)) st one may fresh = absurd may
  step_follows s t f (Calls B (Connects peer contact start now)) st one may fresh = absurd may
  step_follows s t f (Calls B (Ticks place now)) st one may fresh = absurd may

  pub file_systems_stay : FileSystemsStay contents may_give count m
  file_systems_stay zero s f st = st
  file_systems_stay (suc k) s f st = (
    st,
    λ step t one may fresh. let r = step_follows s t f step st one may fresh in
        (r.net, r.events, r.run, file_systems_stay k t r.net r.stands),
  )

  -- ---- the start

  new_server : (f : FileNet) (p : Program S) → (f.net B).host ≡ program_host p → f.service.files ≡ m
      → (f.net B).turn ≡ (λ place. 0) → (f.net B).story ≡ (λ name. None) → IsNewProgram contents may_give count m p
      → IsServerOf contents f p
  new_server f (Client h) host files turns stories new = absurd new
  new_server f (Serves srv) host files turns stories new = record {
    host = host;
    files = new.files ∙ ap Some (sym files);
    count = new.count_is;
    slots = λ place within.
        let none = new.none place in
        record {
          used = λ s is. let isnt : None ≡ Some s = ap (λ z. z (record { place = place; turn = (f.net B).turn place })) (sym stories) ∙ is in absurd (cc);
          free = λ _. subst (Rattle.file_end_to_end.specs.Server.IsOld (f.net B).turn place) (sym none) tt;
        };
  }

  pub new_file_systems_stand : NewFileSystemsStand contents may_give count m
  new_file_systems_stand s new client server =
      let at : (x : Side) → IsNew (start x) =
      λ x. record { address = (new x).address; conns = (new x).conns; config = (new x).config; right = (new x).right; sound = (new x).sound; is = refl } in
      let f : FileNet = new_file_net start m in
      let reached : FileReached m f = record { start = start; a = at A; b = at B; events = []; run = refl } in (
        f,
        record {
          reached = reached;
          net = record {
            reached = (reached_is_sound m f reached).reached;
            hosts = λ x. sym (new x).host;
            sent = λ x. sym (ap (λ (ds : List Addressed). read_all ds ++ (s x).waiting) (new x).posts ∙ (new x).waiting);
          };
          client = client;
          server = new_server f (s B).program (sym (new B).host) refl refl refl server;
        },
      )
    where
      start : Net
      start = λ x. new_station (new x).address (new x).conns (new x).config

  pub file_systems_hold : FileSystemsHold contents may_give count m
  file_systems_hold s f st = file_net m f st.reached

  pub file_systems_serve : FileSystemsServe contents may_give count m
  file_systems_serve s f a c story name operations st client named can talks =
      (operations_among m f a c story name operations st.reached client named can talks).0
