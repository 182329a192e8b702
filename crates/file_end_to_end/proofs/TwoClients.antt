-- Two clients of a FILE server, by computation: what each step makes of both programs and of the file net behind them.
use Rattle.std.proofs.Common.{◌≡◌, ℕ, zero, suc, ◌<◌, List, [], ◌∷◌, ◌++◌, length, Option, Some, None, codes, refl, sym, ap, subst, inl, arith, ◌∙◌}
use Rattle.std.specs.Prelude.{⊤, Err, slice_index_or}
use Rattle.chaos_packet.specs.Opcode.{op_data}
use Rattle.chaos_packet.specs.Packet.{PacketView}
use Rattle.chaos_conn.specs.Act.Call.{Accept, Write, Read}
use Rattle.chaos_conn.specs.Config.{usual_config}
use Rattle.chaos_file.specs.declared.error.FileError.{FileError}
use Rattle.chaos_file.specs.declared.error.FileError.TheVariants as e
use Rattle.chaos_file.specs.Answer.{reply_to}
use Rattle.chaos_file.specs.Error.{error_text}
use Rattle.chaos_file.specs.Grammar.{parse_of}
use Rattle.chaos_file.specs.Session.{SessionView, new_session, with_name}
use Rattle.chaos_file.specs.Step.{file_step}
use Rattle.chaos_file.specs.Store.{Files, change}
use Rattle.chaos_host.specs.Deeds.{HostEvent, host_made}
use Rattle.chaos_host.specs.Deeds.HostEvent.{Listens, Connects, Ticks, Calls as Asks}
use Rattle.chaos_host.specs.View.{HostView, new_host}
use Rattle.chaos_lab.specs.declared.side.Side.{Side}
use Rattle.chaos_lab.specs.declared.side.Side.TheVariants.{A, B}
use Rattle.chaos_link.specs.declared.carriage.Carriage.TheVariants.{One}
use Rattle.chaos_link.specs.Loads.{packets_of}
use Rattle.chaos_net.specs.Net.{Name, Story, IsNew, IsOwn, index_of}
use Rattle.chaos_net.specs.Net.NetEvent.{At, Arrives}
use Rattle.chaos_net.proofs.Hello.{usual}
use Rattle.chaos_file.specs.ServeWork.{Command}
use Rattle.chaos_net.specs.MadeTurns.{packets_sent}
use Rattle.chaos_net.specs.System.{IsFreshStep, IsNewSeat, Seat, Step, Steps, System, Turn, Calls, handed}
use Rattle.chaos_node.specs.Link.{read_all, sent_by}
use Rattle.chaos_node.specs.Phase.{Effect}
use Rattle.chaos_node.specs.Turn.{client_phases}
use Rattle.file_server.specs.Arrive.{arrive_at_server}
use Rattle.file_server.specs.Server.{Server, server, with_host}
use Rattle.file_server.specs.Sessions.{Serving, new_serving, serving_at}
use Rattle.file_net.specs.FileNet.{FileNet, FileEvent, Nets, Serves as IsServed, FileRun, FileReached, file_happens, new_file_net}
use Rattle.file_net.specs.History.{AsDefined}
use Rattle.file_net.specs.Short.{after_file_events, first_of, two_hosts}
use Rattle.file_lab.specs.Bodies.{data_bodies}
use Rattle.chaos_net.specs.Present.{read_of}
use Rattle.file_net.proofs.Kept.{reached_is_sound}
use Rattle.file_net.proofs.Short.{short_file_run}
use Rattle.file_end_to_end.specs.Program.{Program, Client, Serves, program_host, program_turns, program_upon}
use Rattle.file_end_to_end.specs.Server.{IsKept, IsOld, name_at}
use Rattle.file_end_to_end.specs.System.{FileStandsFor, MayStep}
use Rattle.file_end_to_end.specs.TwoClients.{AllLead, TwoAreServed, contents, count, may_give, two_logins, two_programs}
use Rattle.file_end_to_end.proofs.Systems.{more_reached}
use Rattle.file_end_to_end.proofs.Computed.{Left, server_left, IsToldWork, AreTold, server_turn}
use Rattle.file_end_to_end.proofs.Compared.{AreSame, same_lists, IsSameHost, same_host}

-- ---- a LOGIN is answered

-- no error's reply is a LOGIN's
error_begins : (error : FileError) → slice_index_or (error_text error) 0 0 ≡ 69
error_begins e.Syntax = refl
error_begins e.UnknownCommand = refl
error_begins e.NotLoggedIn = refl
error_begins e.IllegalPath = refl
error_begins e.HandleInUse = refl
error_begins e.NoSuchHandle = refl
error_begins e.WrongKind = refl
error_begins e.TooManyHandles = refl
error_begins e.FileTooBig = refl
error_begins e.NoSuchFile = refl
error_begins e.FileExists = refl
error_begins e.StoreFault = refl
error_begins e.NoMemory = refl

-- the first byte of the echo, behind the transaction id, is the L of LOGIN
is_no_error : (error : FileError) → 76 ≡ slice_index_or (error_text error) 0 0 → ⊥
is_no_error error is = let one : 76 ≡ 69 = is ∙ error_begins error in omega (arith, one)

-- by a new session
abbrev IsDone : Files → List ℕ → Type 0
IsDone m command = IsToldWork file_step m new_session (Command command)

ann_done : (m : Files) → IsDone m (codes "1  LOGIN ANN")
ann_done m = record {
  applied = record { honest = inl (refl, refl, refl); any = (refl, refl, refl); kept = kept; kept_files = λ error is. refl };
  fits = omega arith;
}
  where
    kept : (error : FileError) → codes "1  LOGIN ANN" ≡ reply_to (parse_of (codes "1  LOGIN ANN")) (Err error)
        → with_name new_session (codes "ANN") ≡ new_session
    kept error is = absurd (is_no_error error (ap (λ (bs : List ℕ). slice_index_or bs 3 0) is))

bob_done : (m : Files) → IsDone m (codes "1  LOGIN BOB")
bob_done m = record {
  applied = record { honest = inl (refl, refl, refl); any = (refl, refl, refl); kept = kept; kept_files = λ error is. refl };
  fits = omega arith;
}
  where
    kept : (error : FileError) → codes "1  LOGIN BOB" ≡ reply_to (parse_of (codes "1  LOGIN BOB")) (Err error)
        → with_name new_session (codes "BOB") ≡ new_session
    kept error is = absurd (is_no_error error (ap (λ (bs : List ℕ). slice_index_or bs 3 0) is))

-- ---- both programs, and what a step makes of them

record Both : Type 0 where
  client : Seat HostView
  server : Seat (Server Files)

abbrev system : Both → System (Program Files)
system s A = record { program = Client s.client.program; waiting = s.client.waiting; posts = s.client.posts }
system s B = record { program = Serves s.server.program; waiting = s.server.waiting; posts = s.server.posts }

-- a program took a turn, and posted what waited and then these lots
abbrev turned : {P : Type 0} → Seat P → P → List (List PacketView) → Seat P
turned seat program lots =
    record { program = program; waiting = []; posts = seat.posts ++ sent_by One (seat.waiting ∷ lots) }

abbrev client_left : Both → Effect → Both
client_left s e = record { client = turned s.client e.host e.lots; server = s.server }

abbrev serves_left : Both → Left → Both
serves_left s l = record { client = s.client; server = turned s.server l.server l.lots }

abbrev called : Both → HostEvent → Both
called s event = record {
  client = record {
    program = (host_made s.client.program event).view;
    waiting = s.client.waiting ++ (host_made s.client.program event).packets;
    posts = s.client.posts;
  };
  server = s.server;
}

abbrev listened : Both → HostEvent → Both
listened s event = record {
  client = s.client;
  server = record {
    program = with_host s.server.program (host_made s.server.program.host event).view;
    waiting = s.server.waiting ++ (host_made s.server.program.host event).packets;
    posts = s.server.posts;
  };
}

abbrev after_step : Both → Step → Both
after_step s (Turn A number start now) =
    client_left s (client_phases [] (handed s.server.posts number) now s.client.program)
after_step s (Turn B number start now) =
    serves_left s (server_left file_step (handed s.client.posts number) start now s.server.program)
after_step s (Calls A event) = called s event
after_step s (Calls B event) = listened s event

-- what the packets are that are read of these lots
abbrev AreRead : {P : Type 0} → Seat P → List (List PacketView) → Type 0
AreRead seat lots = AreSame (read_all (sent_by One (seat.waiting ∷ lots))) (packets_of (seat.waiting ∷ lots))

-- B's owner listens alone
abbrev IsListening : HostEvent → Type 0
IsListening (Listens contact) = ⊤
IsListening event = ⊥

-- what is to show of a step by itself
abbrev IsStep : Both → Step → Type 0
IsStep s (Turn A number start now) =
    AreRead s.client (client_phases [] (handed s.server.posts number) now s.client.program).lots
IsStep s (Turn B number start now) =
    AreRead s.server (server_left file_step (handed s.client.posts number) start now s.server.program).lots
    × AreTold file_step now (length s.server.program.host.slots)
    (with_host s.server.program (arrive_at_server (handed s.client.posts number) start now s.server.program.host).host)
IsStep s (Calls A event) = IsOwn event
IsStep s (Calls B event) = IsListening event

takes : (s : Both) (step : Step) → IsStep s step
    → Steps program_host (program_turns (change contents may_give count)) (system s) step (system (after_step s step))
takes s (Turn A number start now) is = (
  record {
    carriage = One;
    lots = (client_phases [] (handed s.server.posts number) now s.client.program).lots;
    turn = ([], refl, refl);
    read = same_lists _ _ is;
    waiting = refl;
    posts = refl;
  },
  refl,
)
takes s (Turn B number start now) is = (
  record {
    carriage = One;
    lots = (server_left file_step (handed s.client.posts number) start now s.server.program).lots;
    turn = server_turn file_step (handed s.client.posts number) start now s.server.program is.1;
    read = same_lists _ _ is.0;
    waiting = refl;
    posts = refl;
  },
  refl,
)
takes s (Calls A event) is = (record { own = is; host = refl; waiting = refl; posts = refl }, refl)
takes s (Calls B (Listens contact)) is = (record { own = tt; host = refl; waiting = refl; posts = refl }, refl)
takes s (Calls B event) is = absurd is

may_step : (s : Both) (step : Step) → IsStep s step → MayStep (system s) (system (after_step s step)) step
may_step s (Turn A number start now) is = tt
may_step s (Turn B number start now) is = tt
may_step s (Calls A event) is = tt
may_step s (Calls B (Listens contact)) is = (refl, refl)
may_step s (Calls B event) is = absurd is

-- ---- the file net behind them

-- what a server keeps for a slot is right: where the slot is in use, it has this index and this session
abbrev IsKeptBy : (ℕ → ℕ) → (Name → SessionView) → ℕ → Serving → ℕ → SessionView → Option Story → Type 0
IsKeptBy turns sessions place serving id session None = IsOld turns place serving.id
IsKeptBy turns sessions place serving id session (Some story) =
    (serving.id ≡ Some id) × (index_of (name_at turns place) ≡ id) × (serving.session ≡ session)
    × (sessions (name_at turns place) ≡ session)

abbrev IsKeptAt : Both → FileNet → ℕ → ℕ → SessionView → Type 0
IsKeptAt s f place id session =
    IsKeptBy (f.net B).turn f.service.session place (serving_at s.server.program.sessions place) id session
    ((f.net B).story (name_at (f.net B).turn place))

kept_by : (turns : ℕ → ℕ) (stories : Name → Option Story) (sessions : Name → SessionView) (place : ℕ) (serving : Serving)
    (id : ℕ) (session : SessionView) (o : Option Story) → stories (name_at turns place) ≡ o
    → IsKeptBy turns sessions place serving id session o → IsKept turns stories sessions place serving
kept_by turns stories sessions place serving id session None there kept = record {
  used = λ s is. let no : None ≡ Some s = sym there ∙ is in absurd (cc);
  free = λ none. kept;
}
kept_by turns stories sessions place serving id session (Some story) there kept = record {
  used = λ s is. (kept.0 ∙ ap Some (sym kept.1), kept.2 ∙ sym kept.3);
  free = λ none. let no : Some story ≡ None = sym there ∙ none in absurd (cc);
}

-- the two hosts, what they sent, and what the server keeps: the files, and two sessions
record IsAlike (m : Files) (s : Both) (f : FileNet) (one two : SessionView) : Type 0 where
  client : IsSameHost 257 (f.net A).host s.client.program
  host : IsSameHost 258 (f.net B).host s.server.program.host
  sent : AreSame (packets_sent (f.net A)) (read_all s.client.posts ++ s.client.waiting)
  replied : AreSame (packets_sent (f.net B)) (read_all s.server.posts ++ s.server.waiting)
  files : f.service.files ≡ m
  store : s.server.program.store ≡ m
  slots : length s.server.program.host.slots ≡ 2
  count : length s.server.program.sessions ≡ 2
  first : IsKeptAt s f 0 1 one
  second : IsKeptAt s f 1 2 two

both_kept : (s : Both) (f : FileNet) (one two : SessionView) → IsKeptAt s f 0 1 one → IsKeptAt s f 1 2 two → (place : ℕ)
    → place < 2
    → IsKept (f.net B).turn (f.net B).story f.service.session place (serving_at s.server.program.sessions place)
both_kept s f one two first second zero within =
    kept_by (f.net B).turn (f.net B).story f.service.session 0 (serving_at s.server.program.sessions 0) 1 one
    ((f.net B).story (name_at (f.net B).turn 0)) refl first
both_kept s f one two first second (suc zero) within =
    kept_by (f.net B).turn (f.net B).story f.service.session 1 (serving_at s.server.program.sessions 1) 2 two
    ((f.net B).story (name_at (f.net B).turn 1)) refl second
both_kept s f one two first second (suc (suc place)) within = absurd (omega (arith, within))

both_sent : (s : Both) (f : FileNet) → AreSame (packets_sent (f.net A)) (read_all s.client.posts ++ s.client.waiting)
    → AreSame (packets_sent (f.net B)) (read_all s.server.posts ++ s.server.waiting) → (x : Side)
    → packets_sent (f.net x) ≡ read_all (system s x).posts ++ (system s x).waiting
both_sent s f sent replied A =
    same_lists (packets_sent (f.net A)) (read_all s.client.posts ++ s.client.waiting) sent
both_sent s f sent replied B =
    same_lists (packets_sent (f.net B)) (read_all s.server.posts ++ s.server.waiting) replied

stands : (m : Files) (s : Both) (f : FileNet) (one two : SessionView) → FileReached m f → IsAlike m s f one two
    → FileStandsFor contents m (system s) f
stands m s f one two reached is = record {
  reached = reached;
  net = record { reached = (reached_is_sound m f reached).reached; hosts = hosts; sent = both_sent s f is.sent is.replied };
  client = tt;
  server = record {
    host = same_host 258 (f.net B).host s.server.program.host is.host;
    files = ap contents (is.store ∙ sym is.files);
    count = is.count ∙ sym is.slots;
    slots = λ place within.
        both_kept s f one two is.first is.second place (subst (λ n. place < n) is.slots within);
  };
}
  where
    hosts : (x : Side) → (f.net x).host ≡ program_host (system s x).program
    hosts A = same_host 257 (f.net A).host s.client.program is.client
    hosts B = same_host 258 (f.net B).host s.server.program.host is.host

-- ---- steps, and the events of each

record IsGood (s : Both) (f : FileNet) (step : Step) (events : List FileEvent) (g : FileNet) : Type 0 where
  is : IsStep s step
  fresh : FileRun f events g → IsFreshStep program_upon f.net (system s) step

abbrev AreGood : Both → FileNet → List Step → List (List FileEvent) → Type 0
AreGood s f [] runs = ⊤
AreGood s f (step ∷ steps) [] = ⊥
AreGood s f (step ∷ steps) (events ∷ runs) =
    IsGood s f step events (after_file_events f events)
    × AreGood (after_step s step) (after_file_events f events) steps runs

abbrev last_of : Both → List Step → Both
last_of s [] = s
last_of s (step ∷ steps) = last_of (after_step s step) steps

abbrev one_by_one : List (List FileEvent) → List FileEvent
one_by_one [] = []
one_by_one (events ∷ runs) = events ++ one_by_one runs

-- the first part of a run, and the rest
run_parts : (events more : List FileEvent) (f g : FileNet) → FileRun f (events ++ more) g
    → FileRun f events (after_file_events f events) × FileRun (after_file_events f events) more g
run_parts [] more f g run = (refl, run)
run_parts (event ∷ events) more f g run =
    let rest = run_parts events more (file_happens f event) g run.1 in
    ((run.0, rest.0), rest.1)

all_lead : (steps : List Step) (runs : List (List FileEvent)) (s : Both) (f g : FileNet) → length runs ≡ length steps
    → AreGood s f steps runs → FileRun f (one_by_one runs) g → AllLead (system s) f steps (system (last_of s steps)) g
all_lead [] [] s f g same good run = (refl, run)
all_lead [] (events ∷ runs) s f g same good run = absurd (omega (arith, same))
all_lead (step ∷ steps) [] s f g same good run = absurd good
all_lead (step ∷ steps) (events ∷ runs) s f g same good run =
    let h : FileNet = after_file_events f events in
    let parts = run_parts events (one_by_one runs) f g run in (
      system (after_step s step),
      h,
      record {
        is_step = takes s step good.0.is;
        may = may_step s step good.0.is;
        fresh = good.0.fresh parts.0;
        events = events;
        run = parts.0;
      },
      all_lead steps runs (after_step s step) h g (omega (arith, same)) good.1 parts.1,
    )

-- ---- the two clients

abbrev start : Files → Both
start m = record {
  client = record { program = new_host 257 2 usual_config; waiting = []; posts = [] };
  server = record {
    program = server (new_host 258 2 usual_config) (new_serving ∷ new_serving ∷ []) m;
    waiting = [];
    posts = [];
  };
}

start_is : (m : Files) → system (start m) ≡ two_programs m
start_is m = λ j x. same x j
  where
    same : (x : Side) → system (start m) x ≡ two_programs m x
    same A = refl
    same B = refl

-- a call of A, each tick of a host, and what comes to a host
abbrev user : HostEvent → List FileEvent
user event = Nets (At A event) ∷ []

abbrev ticks : Side → ℕ → List FileEvent
ticks x now = Nets (At x (Ticks 0 now)) ∷ Nets (At x (Ticks 1 now)) ∷ []

abbrev comes : Side → ℕ → ℕ → List FileEvent → List FileEvent
comes x number now events = Nets (Arrives x number now) ∷ (events ++ ticks x now)

abbrev runs : List (List FileEvent)
runs =
    (Nets (At B (Listens (codes "FILE"))) ∷ [])
    ∷ user (Connects 258 (codes "FILE") 100 1)
    ∷ user (Connects 258 (codes "FILE") 200 1)
    ∷ ticks A 2
    ∷ comes B 1 3 (Nets (At B (Asks 1 (Accept 300 3))) ∷ [])
    ∷ comes B 0 4 (Nets (At B (Asks 2 (Accept 400 4))) ∷ [])
    ∷ comes A 1 5 []
    ∷ comes A 0 6 []
    ∷ user (Asks 1 (Write op_data (codes "1  LOGIN ANN") 7))
    ∷ user (Asks 2 (Write op_data (codes "1  LOGIN BOB") 7))
    ∷ ticks A 8
    ∷ comes B 5 9 (IsServed 1 9 AsDefined ∷ [])
    ∷ comes B 5 10 []
    ∷ comes B 4 11 (IsServed 2 11 AsDefined ∷ [])
    ∷ comes A 2 12 []
    ∷ user (Asks 2 Read)
    ∷ []

abbrev last_net : Files → FileNet
last_net m = after_file_events (new_file_net two_hosts m) (one_by_one runs)

new_a : IsNew (two_hosts A)
new_a = record { address = 257; conns = 2; config = usual_config; right = refl; sound = usual; is = refl }

new_b : IsNew (two_hosts B)
new_b = record { address = 258; conns = 2; config = usual_config; right = refl; sound = usual; is = refl }

new_reached : (m : Files) → FileReached m (new_file_net two_hosts m)
new_reached m = record { start = two_hosts; a = new_a; b = new_b; events = []; run = refl }

whole_run : (m : Files) → FileRun (new_file_net two_hosts m) (one_by_one runs) (last_net m)
whole_run m = short_file_run m two_hosts (one_by_one runs) new_a new_b (omega arith)
    ((tt, refl), ((omega arith, refl), ((omega arith, refl), ((tt, refl), ((tt, refl), ((tt, refl), ((refl, refl), ((tt, refl), ((tt, refl), ((tt, refl), ((refl, refl), ((tt, refl), ((tt, refl), ((tt, refl), ((tt, refl), ((tt, refl), ((tt, refl), ((tt, refl), ((tt, refl), ((refl, refl), ((refl, refl), ((tt, refl), ((tt, refl), ((tt, refl), (refl, ((tt, refl), ((tt, refl), ((tt, refl), ((tt, refl), ((tt, refl), ((tt, refl), (refl, ((tt, refl), ((tt, refl), ((tt, refl), ((tt, refl), ((tt, refl), ((refl, refl), tt))))))))))))))))))))))))))))))))))))))

begins : (m : Files) → IsAlike m (start m) (new_file_net two_hosts m) new_session new_session
begins m = record {
  client = (refl, refl, refl, refl, tt, refl, refl, ((refl, refl, refl, refl, refl, refl, refl, refl), (refl, refl, refl, refl, refl), (refl, refl, refl, refl, refl, tt), (refl, refl, refl, (refl, (refl, (refl, (refl, (refl, (refl, (refl, (refl, (refl, (refl, (refl, (refl, (refl, tt))))))))))))))), ((refl, refl, refl, refl, refl, refl, refl, refl), (refl, refl, refl, refl, refl), (refl, refl, refl, refl, refl, tt), (refl, refl, refl, (refl, (refl, (refl, (refl, (refl, (refl, (refl, (refl, (refl, (refl, (refl, (refl, (refl, tt))))))))))))))));
  host = (refl, refl, refl, refl, tt, refl, refl, ((refl, refl, refl, refl, refl, refl, refl, refl), (refl, refl, refl, refl, refl), (refl, refl, refl, refl, refl, tt), (refl, refl, refl, (refl, (refl, (refl, (refl, (refl, (refl, (refl, (refl, (refl, (refl, (refl, (refl, (refl, tt))))))))))))))), ((refl, refl, refl, refl, refl, refl, refl, refl), (refl, refl, refl, refl, refl), (refl, refl, refl, refl, refl, tt), (refl, refl, refl, (refl, (refl, (refl, (refl, (refl, (refl, (refl, (refl, (refl, (refl, (refl, (refl, (refl, tt))))))))))))))));
  sent = tt;
  replied = tt;
  files = refl;
  store = refl;
  slots = refl;
  count = refl;
  first = tt;
  second = tt;
}

-- ---- each step, by computation

rest_12 : (m : Files) → AreGood
    (after_step (after_step (after_step (after_step (after_step (after_step (after_step (after_step (after_step (after_step (after_step (after_step (start m) (Calls B (Listens (codes "FILE")))) (Calls A (Connects 258 (codes "FILE") 100 1))) (Calls A (Connects 258 (codes "FILE") 200 1))) (Turn A None 0 2)) (Turn B (Some 1) 300 3)) (Turn B (Some 0) 400 4)) (Turn A (Some 1) 0 5)) (Turn A (Some 0) 0 6)) (Calls A (Asks 1 (Write op_data (codes "1  LOGIN ANN") 7)))) (Calls A (Asks 2 (Write op_data (codes "1  LOGIN BOB") 7)))) (Turn A None 0 8)) (Turn B (Some 5) 0 9))
    (after_file_events (after_file_events (after_file_events (after_file_events (after_file_events (after_file_events (after_file_events (after_file_events (after_file_events (after_file_events (after_file_events (after_file_events (new_file_net two_hosts m) (Nets (At B (Listens (codes "FILE"))) ∷ [])) (user (Connects 258 (codes "FILE") 100 1))) (user (Connects 258 (codes "FILE") 200 1))) (ticks A 2)) (comes B 1 3 (Nets (At B (Asks 1 (Accept 300 3))) ∷ []))) (comes B 0 4 (Nets (At B (Asks 2 (Accept 400 4))) ∷ []))) (comes A 1 5 [])) (comes A 0 6 [])) (user (Asks 1 (Write op_data (codes "1  LOGIN ANN") 7)))) (user (Asks 2 (Write op_data (codes "1  LOGIN BOB") 7)))) (ticks A 8)) (comes B 5 9 (IsServed 1 9 AsDefined ∷ [])))
    (Turn B (Some 5) 0 10 ∷ Turn B (Some 4) 0 11 ∷ Turn A (Some 2) 0 12 ∷ Calls A (Asks 2 Read) ∷ [])
    (comes B 5 10 [] ∷ comes B 4 11 (IsServed 2 11 AsDefined ∷ []) ∷ comes A 2 12 [] ∷ user (Asks 2 Read) ∷ [])
rest_12 m = (
  record { is = ((refl, tt), ((tt, tt), tt)); fresh = λ run. (run.0.0, tt) },
  (
    record { is = ((refl, tt), ((tt, tt), ann_done m)); fresh = λ run. (run.0.0, tt) },
    (
      record { is = tt; fresh = λ run. (run.0.0, tt) },
      (
        record { is = refl; fresh = λ run. tt },
        tt,
      ),
    ),
  ),
)

rest_8 : (m : Files) → AreGood
    (after_step (after_step (after_step (after_step (after_step (after_step (after_step (after_step (start m) (Calls B (Listens (codes "FILE")))) (Calls A (Connects 258 (codes "FILE") 100 1))) (Calls A (Connects 258 (codes "FILE") 200 1))) (Turn A None 0 2)) (Turn B (Some 1) 300 3)) (Turn B (Some 0) 400 4)) (Turn A (Some 1) 0 5)) (Turn A (Some 0) 0 6))
    (after_file_events (after_file_events (after_file_events (after_file_events (after_file_events (after_file_events (after_file_events (after_file_events (new_file_net two_hosts m) (Nets (At B (Listens (codes "FILE"))) ∷ [])) (user (Connects 258 (codes "FILE") 100 1))) (user (Connects 258 (codes "FILE") 200 1))) (ticks A 2)) (comes B 1 3 (Nets (At B (Asks 1 (Accept 300 3))) ∷ []))) (comes B 0 4 (Nets (At B (Asks 2 (Accept 400 4))) ∷ []))) (comes A 1 5 [])) (comes A 0 6 []))
    (Calls A (Asks 1 (Write op_data (codes "1  LOGIN ANN") 7)) ∷ Calls A (Asks 2 (Write op_data (codes "1  LOGIN BOB") 7)) ∷ Turn A None 0 8 ∷ Turn B (Some 5) 0 9 ∷ Turn B (Some 5) 0 10 ∷ Turn B (Some 4) 0 11 ∷ Turn A (Some 2) 0 12 ∷ Calls A (Asks 2 Read) ∷ [])
    (user (Asks 1 (Write op_data (codes "1  LOGIN ANN") 7)) ∷ user (Asks 2 (Write op_data (codes "1  LOGIN BOB") 7)) ∷ ticks A 8 ∷ comes B 5 9 (IsServed 1 9 AsDefined ∷ []) ∷ comes B 5 10 [] ∷ comes B 4 11 (IsServed 2 11 AsDefined ∷ []) ∷ comes A 2 12 [] ∷ user (Asks 2 Read) ∷ [])
rest_8 m = (
  record { is = refl; fresh = λ run. tt },
  (
    record { is = refl; fresh = λ run. tt },
    (
      record { is = (refl, (refl, tt)); fresh = λ run. tt },
      (
        record { is = ((refl, tt), ((tt, bob_done m), tt)); fresh = λ run. (run.0.0, tt) },
        rest_12 m,
      ),
    ),
  ),
)

all_good : (m : Files) → AreGood (start m) (new_file_net two_hosts m) two_logins runs
all_good m = (
  record { is = tt; fresh = λ run. tt },
  (
    record { is = omega arith; fresh = λ run. tt },
    (
      record { is = omega arith; fresh = λ run. tt },
      (
        record { is = (refl, (refl, tt)); fresh = λ run. tt },
        (
          record { is = ((refl, tt), ((tt, tt), tt)); fresh = λ run. (run.0.0, tt) },
          (
            record { is = ((refl, tt), ((tt, tt), tt)); fresh = λ run. (run.0.0, tt) },
            (
              record { is = (refl, tt); fresh = λ run. (run.0.0, tt) },
              (
                record { is = (refl, tt); fresh = λ run. (run.0.0, tt) },
                rest_8 m,
              ),
            ),
          ),
        ),
      ),
    ),
  ),
)

-- ---- both programs and the file net after the last step

last_client : (m : Files) → IsSameHost 257 ((last_net m).net A).host (last_of (start m) two_logins).client.program
last_client m = (refl, refl, refl, refl, tt, refl, refl, ((refl, refl, refl, refl, refl, refl, refl, refl), (refl, refl, refl, refl, refl), (refl, refl, refl, refl, refl, (refl, tt)), (refl, refl, refl, (refl, (refl, (refl, (refl, (refl, (refl, (refl, (refl, (refl, (refl, (refl, (refl, (refl, tt))))))))))))))), ((refl, refl, refl, refl, refl, refl, refl, refl), (refl, refl, refl, refl, refl), (refl, refl, refl, refl, refl, tt), (refl, refl, refl, (refl, (refl, (refl, (refl, (refl, (refl, (refl, (refl, (refl, (refl, (refl, (refl, (refl, tt))))))))))))))))

last_sent : (m : Files) → AreSame (packets_sent ((last_net m).net A)) (read_all (last_of (start m) two_logins).client.posts ++ (last_of (start m) two_logins).client.waiting)
last_sent m = (refl, (refl, (refl, (refl, (refl, (refl, tt))))))

last_replied : (m : Files) → AreSame (packets_sent ((last_net m).net B)) (read_all (last_of (start m) two_logins).server.posts ++ (last_of (start m) two_logins).server.waiting)
last_replied m = (refl, (refl, (refl, (refl, (refl, tt)))))

all_sent : (m : Files) (x : Side) → packets_sent ((last_net m).net x)
    ≡ read_all (system (last_of (start m) two_logins) x).posts ++ (system (last_of (start m) two_logins) x).waiting
all_sent m = both_sent (last_of (start m) two_logins) (last_net m) (last_sent m) (last_replied m)

seats : (m : Files) (x : Side) → IsNewSeat program_host (two_programs m x)
seats m A = record { address = 257; conns = 2; config = usual_config; right = refl; sound = usual; host = refl; waiting = refl; posts = refl }
seats m B = record { address = 258; conns = 2; config = usual_config; right = refl; sound = usual; host = refl; waiting = refl; posts = refl }

no_session : (place : ℕ) → (serving_at (new_serving ∷ new_serving ∷ []) place).id ≡ None
no_session zero = refl
no_session (suc zero) = refl
no_session (suc (suc place)) = refl

lead_from_start : (m : Files) (t : System (Program Files)) (g : FileNet)
    → AllLead (system (start m)) (new_file_net two_hosts m) two_logins t g
    → AllLead (two_programs m) (new_file_net two_hosts m) two_logins t g
lead_from_start m t g lead =
    subst (λ s. AllLead s (new_file_net two_hosts m) two_logins t g) (start_is m) lead

last_history : (m : Files) → (last_net m).history
    ≡ record { by = first_of 0; command = codes "1  LOGIN BOB"; way = AsDefined; reply = codes "1  LOGIN BOB" }
    ∷ record { by = first_of 1; command = codes "1  LOGIN ANN"; way = AsDefined; reply = codes "1  LOGIN ANN" } ∷ []
last_history m = refl

second_reads : (m : Files) → data_bodies (read_of (((last_net m).net A).story (first_of 1))) ≡ codes "1  LOGIN BOB" ∷ []
second_reads m = refl

first_reads : (m : Files) → data_bodies (read_of (((last_net m).net A).story (first_of 0))) ≡ []
first_reads m = refl

pub two_are_served : (m : Files) → TwoAreServed m
two_are_served m = record {
  seats = seats m;
  new = record { files = refl; count_is = refl; none = no_session };
  begins = subst (λ s. FileStandsFor contents m s (new_file_net two_hosts m)) (start_is m)
      (stands m (start m) (new_file_net two_hosts m) new_session new_session (new_reached m) (begins m));
  system = system (last_of (start m) two_logins);
  file_net = last_net m;
  steps = lead_from_start m (system (last_of (start m) two_logins)) (last_net m)
      (all_lead two_logins runs (start m) (new_file_net two_hosts m) (last_net m) refl (all_good m) (whole_run m));
  reached = more_reached contents may_give count m (new_file_net two_hosts m) (last_net m) (one_by_one runs) (new_reached m)
      (whole_run m);
  client = same_host 257 ((last_net m).net A).host (last_of (start m) two_logins).client.program (last_client m);
  sent = all_sent m;
  history = last_history m;
  second = second_reads m;
  first = first_reads m;
}
