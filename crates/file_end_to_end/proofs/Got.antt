-- One whole run, from a new engine and a new server on: the engine puts a file and gets the file.
use Rattle.std.proofs.Common.{◌≡◌, ℕ, zero, suc, ◌+◌, ◌≤◌, ◌==◌, Bool, true, false, if◌then◌else◌, List, [], ◌∷◌, ◌++◌, codes, replicate, Some, None, refl, sym, ap, ◌∙◌, subst, arith, lit<, lit≤}
use Rattle.std.specs.Prelude.{map as each_of}
use Rattle.chaos_conn.specs.Config.{usual_config}
use Rattle.chaos_file.specs.Store.{Files}
use Rattle.chaos_host.specs.Deeds.{HostEvent}
use Rattle.chaos_host.specs.Deeds.HostEvent.{Connects, Listens}
use Rattle.chaos_host.specs.declared.slot.Slot.{Slot}
use Rattle.chaos_lab.specs.declared.side.Side.{Side}
use Rattle.chaos_lab.specs.declared.side.Side.TheVariants.{A, B}
use Rattle.chaos_link.specs.declared.carriage.Carriage.TheVariants.{One}
use Rattle.chaos_net.specs.Net.{Name, Net, IsNew, new_station}
use Rattle.chaos_net.specs.Net.NetEvent.{At}
use Rattle.chaos_net.specs.MadeTurns.{packets_sent}
use Rattle.chaos_net.specs.System.{TakesCall}
use Rattle.chaos_net.proofs.Hello.{usual}
use Rattle.chaos_node.specs.Link.{read_all}
use Rattle.file_client.specs.Caller.{new_caller}
use Rattle.file_client.specs.Talk.{Anything, Says, command_item, talk_of, talker}
use Rattle.file_lab.specs.Bodies.{data_bodies}
use Rattle.file_copy.specs.Ends.{login_command, login_reply}
use Rattle.file_server.specs.Server.{server}
use Rattle.file_server.specs.Service.{host_after}
use Rattle.file_server.specs.Sessions.{new_serving, serving_at}
use Rattle.file_server.specs.declared.limits.TheConstants.{SERVER_CONNS}
use Rattle.file_copy.specs.Operation.{all_commands, all_replies, commands_of, replies_of}
use Rattle.file_net.specs.Operations.{AreDone, IsDone}
use Rattle.file_net.specs.FileNet.{FileNet, FileEvent, Nets, FileReached, FileRun, file_happens, new_file_net}
use Rattle.file_net.proofs.Kept.{reached_is_sound}
use Rattle.file_net.proofs.Users.{users_are_told}
use Rattle.file_end_to_end.specs.FileGot.{FileIsGot, get_copy, getting, lines, operations, put_copy, putting, talk_for, user}
use Rattle.file_end_to_end.specs.Beginning.{IsFinished}
use Rattle.file_end_to_end.specs.Over.{session_talk}
use Rattle.file_end_to_end.specs.Program.{program_host, program_turns}
use Rattle.file_end_to_end.specs.Server.{IsOld}
use Rattle.file_end_to_end.specs.System.{FileStandsFor}
use Rattle.file_end_to_end.specs.TwoClients.{contents, count, may_give}
use Rattle.file_end_to_end.specs.World.{World, system_of, IsCalling, IsIdle, IsNewWorld, IsServed, IsTalk, heard_by, said_by}
use Rattle.chaos_file.specs.Store.{change}
use Rattle.file_end_to_end.specs.FileGot.{Turns, Serves, pace}
use Rattle.file_end_to_end.proofs.Beginning.{Known, finishes}
use Rattle.file_end_to_end.proofs.Going.{IsSmall, Led, LineLed, Stand, engine_led, lines_led, path_goes, server_led, small_at}
use Rattle.file_end_to_end.proofs.OneSession.{SessionLed, session_led}
use Rattle.file_end_to_end.proofs.Paths.{getting_path, getting_steps, putting_path, putting_steps, session_path, session_steps}
use Rattle.file_end_to_end.proofs.Lines.{moves_0, moves_1, moves_2, small_0, small_1, small_2}
use Rattle.file_end_to_end.proofs.Moving.{asks_of}
use Rattle.file_end_to_end.proofs.Opened.{connections_open}
use Rattle.file_end_to_end.proofs.Spelled.{can_get, can_put, get_commands_are, get_replies_are, logged_is, login_is, put_commands_are, put_replies_are}
use Rattle.file_end_to_end.proofs.States.{engine_0, engine_2, reply_0_read, sent_0, sent_0_read, sent_1, server_0, step_0, step_2, world_0, world_1, world_2, world_3, world_25, world_44}
use Rattle.file_end_to_end.proofs.Systems.{client_calls}
use Rattle.file_end_to_end.proofs.Worlds.{Since, served}
use Rattle.file_end_to_end.proofs.Young.{IsOne}

-- ---- a new world

abbrev new_world : Files → World Files
new_world m = record {
  client = talker (new_caller 257 258 usual_config One 0) None;
  posts = [];
  server = record {
    program = server (host_after 0 usual_config 258) (replicate SERVER_CONNS new_serving) m;
    waiting = [];
    posts = [];
  };
  steps = [];
}

is_new : (m : Files) → IsNewWorld contents m (new_world m)
is_new m = record {
  me = 257;
  to = 258;
  config = usual_config;
  indices = 0;
  carriage = One;
  address_is = refl;
  config_is = usual;
  engine = refl;
  posts = refl;
  server_address = 258;
  server_config = usual_config;
  store = m;
  served_address_is = refl;
  served_config_is = usual;
  files = refl;
  passed = 0;
  server = refl;
  waiting = refl;
  server_posts = refl;
}

abbrev two_new : Net
two_new A = new_station 257 1 usual_config
two_new B = new_station 258 16 usual_config

new_a : IsNew (two_new A)
new_a = record { address = 257; conns = 1; config = usual_config; right = refl; sound = usual; is = refl }

new_b : IsNew (two_new B)
new_b = record { address = 258; conns = 16; config = usual_config; right = refl; sound = usual; is = refl }

-- the server listens
abbrev new_net : Files → FileNet
new_net m = file_happens (new_file_net two_new m) (Nets (At B (Listens (codes "FILE"))))

new_reached : (m : Files) → FileReached m (new_net m)
new_reached m = record {
  start = two_new;
  a = new_a;
  b = new_b;
  events = Nets (At B (Listens (codes "FILE"))) ∷ [];
  run = ((tt, refl), refl);
}

none_kept : (k place : ℕ) → (serving_at (replicate k new_serving) place).id ≡ None
none_kept zero place = refl
none_kept (suc k) zero = refl
none_kept (suc k) (suc place) = none_kept k place

begins : (m : Files) → FileStandsFor contents m (system_of (new_world m)) (new_net m)
begins m = record {
  reached = new_reached m;
  net = record { reached = (reached_is_sound m (new_net m) (new_reached m)).reached; hosts = hosts; sent = sent };
  client = tt;
  server = record {
    host = refl;
    files = refl;
    count = refl;
    slots = λ place within. record {
      used = λ s is. absurd (cc);
      free = λ none. subst (IsOld (λ p. 0) place) (sym (none_kept 16 place)) tt;
    };
  };
}
  where
    hosts : (x : Side) → ((new_net m).net x).host ≡ program_host (system_of (new_world m) x).program
    hosts A = refl
    hosts B = refl

    sent : (x : Side) → packets_sent ((new_net m).net x)
        ≡ read_all (system_of (new_world m) x).posts ++ (system_of (new_world m) x).waiting
    sent A = refl
    sent B = refl

-- ---- the engine asks

abbrev asks_for : HostEvent
asks_for = Connects 258 (codes "FILE") 100 1

abbrev asking_net : Files → FileNet
asking_net m = file_happens (new_net m) (Nets (At A asks_for))

asking_run : (m : Files) → FileRun (new_net m) (Nets (At A asks_for) ∷ []) (asking_net m)
asking_run m = ((lit< tt, refl), refl)

asking_stands : (m : Files) → FileStandsFor contents m (system_of (world_0 m [])) (asking_net m)
asking_stands m =
    let called : TakesCall program_host (program_turns (change contents may_give count)) asks_for (system_of (new_world m) A) (system_of (world_0 m []) A) =
    record { own = lit< tt; host = refl; waiting = refl; posts = refl } in
    let r = client_calls contents may_give count m (system_of (new_world m)) (system_of (world_0 m [])) (new_net m) asks_for (begins m) called refl tt in
    let run : FileRun (new_net m) (Nets (At A asks_for) ∷ []) r.net =
    subst (λ (es : List FileEvent). FileRun (new_net m) es r.net) r.kind r.run in
    subst (FileStandsFor contents m (system_of (world_0 m []))) run.1 r.stands

small_start : (m : Files) → IsSmall (world_0 m [])
small_start m = small_at m engine_0 (sent_0 ∷ []) [] server_0 new_serving [] [] tt tt (lit≤ tt) (lit≤ tt)

asking_stand : (m : Files) → Stand m 1 (world_0 m []) (asking_net m)
asking_stand m = record { stands = asking_stands m; turns = turns }
  where
    turns : (x : Side) (place : ℕ) → ((asking_net m).net x).turn place ≤ 3
    turns A place = low (place == 0)
      where
        low : (b : Bool) → (if b then 0 else 0) ≤ 3
        low true = lit≤ tt
        low false = lit≤ tt
    turns B place = lit≤ tt

-- no user wrote or read so far
asking_silent : (m : Files) (a : Name) → (said_by (asking_net m) a ≡ []) × (heard_by (asking_net m) a ≡ [])
asking_silent m a =
    let told = users_are_told m (new_net m) (asking_net m) (Nets (At A asks_for) ∷ []) a (new_reached m) (asking_run m) in
    (told.said, told.heard)

-- ---- the connection opens

line_1 : (m : Files) → LineLed m 1 (world_0 m []) (asking_net m) (Turns 2 None) (world_1 m (step_0 ∷ []))
line_1 m =
    engine_led m 1 (world_0 m []) (world_1 m (step_0 ∷ [])) (asking_net m) 2 (asks_of (sent_0 ∷ []) []) None (lit≤ tt)
    (asking_stand m) (small_start m) (moves_0 m []) refl tt

line_2 : (m : Files) → LineLed m 2 (world_1 m (step_0 ∷ [])) (line_1 m).net (Serves (Some 0) 300 3) (world_2 m (step_0 ∷ []))
line_2 m =
    server_led m 2 (world_1 m (step_0 ∷ [])) (world_2 m (step_0 ∷ [])) (line_1 m).net (Some 0) 300 3 (lit≤ tt) (line_1 m).stand
    (small_0 m []) (moves_1 m (step_0 ∷ [])) (subst IsOne (sym (ap Some sent_0_read)) tt)

line_3 : (m : Files)
    → LineLed m 3 (world_2 m (step_0 ∷ [])) (line_2 m).net (Turns 4 (Some 0)) (world_3 m (step_2 ∷ step_0 ∷ []))
line_3 m =
    engine_led m 3 (world_2 m (step_0 ∷ [])) (world_3 m (step_2 ∷ step_0 ∷ [])) (line_2 m).net 4 (asks_of [] ((sent_1 ∷ []) ∷ []))
    (Some 0) (lit≤ tt) (line_2 m).stand (small_1 m (step_0 ∷ [])) (moves_2 m (step_0 ∷ [])) refl
    (subst IsOne (sym (ap Some reply_0_read)) tt)

abbrev open_net : Files → FileNet
open_net m = (line_3 m).net

open_silent : (m : Files) (a : Name) → (said_by (open_net m) a ≡ []) × (heard_by (open_net m) a ≡ [])
open_silent m a =
    let one = (line_1 m).silent a in
    let two = (line_2 m).silent a in
    let three = (line_3 m).silent a in
    let first = asking_silent m a in
    (three.0 ∙ two.0 ∙ one.0 ∙ first.0, three.1 ∙ two.1 ∙ one.1 ∙ first.1)

abbrev open_slot : Slot
open_slot = record { generation = 0; conn = engine_2 }

opened : (m : Files) → (a : Name) × (c : Name) × IsCalling (world_3 m (step_2 ∷ step_0 ∷ [])) (open_net m) a c
opened m =
    connections_open contents m (world_3 m (step_2 ∷ step_0 ∷ [])) (open_net m) 1 open_slot (line_3 m).stand.stands refl refl
    refl refl

-- ---- the same world, whose steps are counted from now on

abbrev called_now : (m : Files) (w t : World Files) (f : FileNet) (a c : Name) → t.client.caller.id ≡ w.client.caller.id
    → IsCalling w f a c → IsCalling t f a c
called_now m w t f a c same calling = record {
  id = calling.id;
  has = same ∙ calling.has;
  named_so = calling.named_so;
  story = calling.story;
  client = calling.client;
}

-- ---- lines since a file net in which the engine had taken no step

module _ (m : Files) (a c : Name) (w : World Files) (f : FileNet) (calling : IsCalling w f a c) (none : w.steps ≡ [])
    (k : ℕ) (stand : Stand m k w f) where
  starts : Since contents may_give count m pace a c f calling.story stand.stands.reached calling.client w f
  starts = record {
    events = [];
    run = refl;
    calling = calling;
    said = ap (λ l. data_bodies (talk_of l).sent) (sym none);
    heard = ap (λ l. (talk_of l).received) (sym none);
  }

-- ---- the user logs in, and the file is put

within : (n k : ℕ) → n ≤ k → k ≤ 60 → n + 20 ≤ 85
within n k few most = omega (arith, few, most)

put_led : (m : Files) → Led m (opened m).0 (opened m).1 (open_net m) (opened m).2.story (line_3 m).stand.stands.reached (opened m).2.client 4 (world_3 m []) (open_net m) putting (world_25 m putting_steps)
put_led m =
    let calling : IsCalling (world_3 m []) (open_net m) (opened m).0 (opened m).1 =
    called_now m (world_3 m (step_2 ∷ step_0 ∷ [])) (world_3 m []) (open_net m) (opened m).0 (opened m).1 refl (opened m).2 in
    let stand : Stand m 4 (world_3 m []) (open_net m) = record { stands = (line_3 m).stand.stands; turns = (line_3 m).stand.turns } in
    lines_led m (opened m).0 (opened m).1 (open_net m) (opened m).2.story (line_3 m).stand.stands.reached (opened m).2.client
    putting 4 (world_3 m []) (world_25 m putting_steps) (open_net m) (lit≤ tt) stand (small_2 m [])
    (starts m (opened m).0 (opened m).1 (world_3 m []) (open_net m) calling refl 4 stand) (putting_path m [])

abbrev put_net : Files → FileNet
put_net m = (put_led m).net

put_talk : (m : Files)
    → IsTalk (world_25 m putting_steps).steps (login_command user ∷ all_commands (put_copy ∷ [])) (login_reply user ∷ all_replies (put_copy ∷ []))
put_talk m = record {
  sent = λ j. each_of command_item (sym login_is j ∷ (put_commands_are j ++ []));
  received = λ j. sym logged_is j ∷ (put_replies_are j ++ []);
}

abbrev put_says : (m : Files)
    → Says pace Anything (world_3 m []).client (session_talk user (put_copy ∷ [])) (world_25 m putting_steps).client
put_says m = record {
  whole = talk_of putting_steps;
  talks = record {
    steps = putting_steps;
    goes = path_goes putting (world_3 m []).client (world_3 m []) (world_25 m putting_steps) refl (putting_path m []);
    same = refl;
  };
  asked = tt;
  sent = (put_talk m).sent;
  received = (put_talk m).received;
}

put : (m : Files)
    → IsServed m (open_net m) (opened m).0 (opened m).1 (world_25 m putting_steps) (put_net m)
put m =
    served contents may_give count m pace (opened m).0 (opened m).1 (open_net m) (opened m).2.story
    (line_3 m).stand.stands.reached (opened m).2.client (world_25 m putting_steps) (put_net m) (put_led m).since

is_put : (m : Files) → AreDone m (put_net m).history (opened m).1 (login_command user ∷ []) (put_copy ∷ [])
    × IsIdle (put_net m) (opened m).0 (opened m).1 user
is_put m =
    let silent = open_silent m (opened m).0 in
    (put m).session user (put_copy ∷ []) silent.0 silent.1 refl (can_put, tt) (put_talk m)

-- ---- the file is got

calling_then : (m : Files) → IsCalling (world_25 m []) (put_net m) (opened m).0 (opened m).1
calling_then m =
    called_now m (world_25 m putting_steps) (world_25 m []) (put_net m) (opened m).0 (opened m).1 refl (put m).calling

stand_then : (m : Files) → Stand m (put_led m).count_of (world_25 m []) (put_net m)
stand_then m = record { stands = (put_led m).stand.stands; turns = (put_led m).stand.turns }

get_led : (m : Files) → Led m (opened m).0 (opened m).1 (put_net m) (calling_then m).story (stand_then m).stands.reached (calling_then m).client
    (put_led m).count_of (world_25 m []) (put_net m) getting (world_44 m getting_steps)
get_led m =
    lines_led m (opened m).0 (opened m).1 (put_net m) (calling_then m).story (stand_then m).stands.reached
    (calling_then m).client getting (put_led m).count_of (world_25 m []) (world_44 m getting_steps) (put_net m)
    (fewer (put_led m).count_of (within (put_led m).count_of 26 (put_led m).few (lit≤ tt))) (stand_then m) (put_led m).small
    (starts m (opened m).0 (opened m).1 (world_25 m []) (put_net m) (calling_then m) refl (put_led m).count_of (stand_then m))
    (getting_path m [])
  where
    fewer : (n : ℕ) → n + 20 ≤ 85 → n + 19 ≤ 85
    fewer n few = omega (arith, few)

abbrev got_net : Files → FileNet
got_net m = (get_led m).net

get_talk : (m : Files) → IsTalk (world_44 m getting_steps).steps (commands_of get_copy) (replies_of get_copy)
get_talk m = record { sent = ap (λ ls. each_of command_item ls) get_commands_are; received = get_replies_are }

abbrev get_says : (m : Files) → Says pace Anything (world_25 m []).client (talk_for get_copy) (world_44 m getting_steps).client
get_says m = record {
  whole = talk_of getting_steps;
  talks = record {
    steps = getting_steps;
    goes = path_goes getting (world_25 m []).client (world_25 m []) (world_44 m getting_steps) refl (getting_path m []);
    same = refl;
  };
  asked = tt;
  sent = (get_talk m).sent;
  received = (get_talk m).received;
}

got : (m : Files) → IsServed m (put_net m) (opened m).0 (opened m).1 (world_44 m getting_steps) (got_net m)
got m =
    served contents may_give count m pace (opened m).0 (opened m).1 (put_net m) (calling_then m).story
    (stand_then m).stands.reached (calling_then m).client (world_44 m getting_steps) (got_net m) (get_led m).since

is_got : (m : Files) → IsDone m (got_net m).history (opened m).1 (said_by (put_net m) (opened m).0) get_copy
    × IsIdle (got_net m) (opened m).0 (opened m).1 user
is_got m = (got m).done get_copy user (is_put m).1 can_get (get_talk m)

-- ---- the same lines as one session

asking_known : (m : Files) → Known contents may_give count m pace (world_0 m []) (asking_net m)
asking_known m = record {
  stands = asking_stands m;
  tells = record { story = _; there = refl; asked = refl; said_so = refl; heard_so = refl };
}

one_session : (m : Files) → SessionLed m (world_0 m []) (asking_net m) lines (world_44 m session_steps)
one_session m =
    session_led m lines 1 (world_0 m []) (world_44 m session_steps) (asking_net m) (lit≤ tt) (asking_stand m) (small_start m)
    (asking_known m) (session_path m)

session_said : IsTalk session_steps (login_command user ∷ all_commands operations) (login_reply user ∷ all_replies operations)
session_said = record {
  sent = λ j. each_of command_item (sym login_is j ∷ (put_commands_are j ++ (get_commands_are j ++ [])));
  received = λ j. sym logged_is j ∷ (put_replies_are j ++ (get_replies_are j ++ []));
}

abbrev session_says : (m : Files)
    → Says pace Anything (world_0 m []).client (session_talk user operations) (world_44 m session_steps).client
session_says m = record {
  whole = talk_of session_steps;
  talks = record {
    steps = session_steps;
    goes = path_goes lines (world_0 m []).client (world_0 m []) (world_44 m session_steps) refl (session_path m);
    same = refl;
  };
  asked = tt;
  sent = session_said.sent;
  received = session_said.received;
}

session_finished : (m : Files) → IsFinished m user operations (world_44 m session_steps) (one_session m).net
session_finished m =
    finishes contents may_give count m pace user operations session_steps session_said (world_44 m session_steps)
    (one_session m).net (one_session m).known refl refl (can_put, (can_get, tt))

pub file_is_got : (m : Files) → FileIsGot m
file_is_got m = record {
  new = new_world m;
  is_new = is_new m;
  new_net = new_net m;
  begins = begins m;
  asking = world_0 m [];
  asks = refl;
  asking_net = asking_net m;
  asking_events = Nets (At A asks_for) ∷ [];
  asking_run = asking_run m;
  asking_stands = asking_stands m;
  ready = world_3 m (step_2 ∷ step_0 ∷ []);
  open_net = open_net m;
  opens = (
    world_1 m (step_0 ∷ []),
    (line_1 m).net,
    (line_1 m).leads,
    (
      world_2 m (step_0 ∷ []),
      (line_2 m).net,
      (line_2 m).leads,
      (world_3 m (step_2 ∷ step_0 ∷ []), (line_3 m).net, (line_3 m).leads, (refl, refl)),
    ),
  );
  a = (opened m).0;
  c = (opened m).1;
  calling = (opened m).2;
  put = world_25 m putting_steps;
  put_net = put_net m;
  puts = (put_led m).lead;
  put_talk = put_talk m;
  put_says = put_says m;
  put_steps = refl;
  can_put = can_put;
  is_put = (is_put m).0;
  idle_then = (is_put m).1;
  got = world_44 m getting_steps;
  got_net = got_net m;
  gets = (get_led m).lead;
  get_talk = get_talk m;
  get_says = get_says m;
  get_steps = refl;
  can_get = can_get;
  is_got = (is_got m).0;
  calling_still = (got m).calling;
  idle_still = (is_got m).1;
  last = world_44 m session_steps;
  last_net = (one_session m).net;
  leads = (one_session m).lead;
  same = refl;
  says = session_says m;
  steps = refl;
  named = refl;
  can_all = (can_put, (can_get, tt));
  finished = session_finished m;
}
