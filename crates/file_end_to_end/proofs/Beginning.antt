-- An engine from the call on by which it asked for a connection: what its connection's user wrote and read is what its steps say.
-- The engine may ask again.
use Rattle.std.proofs.Common.{◌≡◌, ℕ, zero, suc, ◌<◌, Bool, true, false, if◌then◌else◌, List, [], ◌∷◌, ◌++◌, length, Option, Some, None, refl, sym, ap, ◌∙◌, subst, inl, inr, ⊎_elim, arith, append-nil, length-append}
use Rattle.std.specs.Prelude.{nat_lt}
use Rattle.std.specs.Result.{result_ok}
use Rattle.std.proofs.lemmas.Bool.{cases_Bool, cond-true, cond-false, false≢true}
use Rattle.chaos_packet.specs.Outbox.{room_of}
use Rattle.chaos_conn.specs.Act.{Call}
use Rattle.chaos_conn.specs.Act.Call.{Read, Write}
use Rattle.chaos_file.specs.declared.limits.TheConstants.{MAX_NAME}
use Rattle.chaos_file.specs.Names.{is_name}
use Rattle.chaos_file.specs.Store.{Files, change}
use Rattle.chaos_host.specs.Connect.{host_connect}
use Rattle.chaos_host.specs.Deeds.{HostEvent}
use Rattle.chaos_host.specs.Deeds.HostEvent.{Connects}
use Rattle.chaos_host.specs.View.{HostView}
use Rattle.chaos_lab.specs.declared.side.Side.TheVariants.{A, B}
use Rattle.chaos_link.specs.Link.{Ask}
use Rattle.chaos_net.specs.Net.{HoldsBy, Name, Story}
use Rattle.chaos_net.specs.Net.NetEvent.{At}
use Rattle.chaos_net.specs.Present.{named, read_of, written_of}
use Rattle.chaos_net.specs.System.{TakesCall}
use Rattle.chaos_net.proofs.Holding.{net_holds}
use Rattle.chaos_net.proofs.Network.{reached_is_played}
use Rattle.file_copy.specs.Ends.{login_command, login_reply}
use Rattle.file_copy.specs.Operation.{Operation, CanDoAll, all_commands, all_replies, commands_of, replies_of}
use Rattle.file_client.specs.Calls.{call_by, data_read, is_wrote}
use Rattle.file_client.specs.Caller.{CallerView, after_call, asked, asked_again, closed, connect_of, doubled, is_late}
use Rattle.file_client.specs.Pace.{Pace}
use Rattle.file_client.specs.Talk.{Step, Calls as Asks, Writes, Reads, Turns, and_then, talk_of}
use Rattle.file_lab.specs.Bodies.{data_bodies}
use Rattle.file_lab.proofs.BodyLists.{bodies_append}
use Rattle.file_net.specs.FileNet.{FileNet, FileEvent, Nets, FileReached, FileRun}
use Rattle.file_net.specs.Operations.{IsClient}
use Rattle.file_net.proofs.Clients.{answered_once, operations_among}
use Rattle.file_net.proofs.Done.{operation_alike}
use Rattle.file_net.proofs.Kept.{reached_is_sound}
use Rattle.file_net.proofs.Users.{users_are_told}
use Rattle.file_end_to_end.specs.Beginning.{FinishesBy, IsFinished, LastsAsking, Meets, found_in}
use Rattle.file_end_to_end.specs.Program.{program_host, program_turns}
use Rattle.file_end_to_end.specs.System.{FileStandsFor}
use Rattle.file_end_to_end.specs.World.{World, system_by, system_of, Engages, EngineSteps, IsFreshMove, IsTalk, Move, Moves, ServerTurns}
use Rattle.file_end_to_end.proofs.Asking.{connections_are_asked}
use Rattle.file_end_to_end.proofs.Held.{AsksNoMore, GrowsBoth, Moved, engine_turn, grows_as, moved, same_system, server_turn, steps_in, story_lasts, turn_done, turning_grows, unasked}
use Rattle.file_end_to_end.proofs.Saying.{commands_data, run_on}
use Rattle.file_end_to_end.proofs.Systems.{client_calls}
use Rattle.file_end_to_end.proofs.Worlds.{all_alike, received_more, said_more}
use Rattle.file_end_to_end.proofs.Silent.{HasSaid, Tells, begun_tells, event_tells, late_is_silent}

-- ---- moves

module _ {S : Type 0} (contents : S → Option Files) (may_give : S → List ℕ → ℕ → List ℕ → Type 0) (count : S → ℕ)
    (m : Files) (p : Pace) where
  -- what the engine said and heard in its steps
  abbrev said : World S → List (List ℕ)
  said w = data_bodies (talk_of w.steps).sent

  abbrev heard : World S → List (List ℕ)
  heard w = (talk_of w.steps).received

  -- A file net stands for the world, and the user of the engine's connection wrote and read what the engine said and heard.
  pub record Known (w : World S) (f : FileNet) : Type 0 where
    pub stands : FileStandsFor contents m (system_of w) f
    pub tells : Tells w.client.caller.id (f.net A) (said w) (heard w)

  -- A run leads on to such a file net.
  pub record Reaches (f : FileNet) (t : World S) : Type 0 where
    pub net : FileNet
    pub events : List FileEvent
    pub run : FileRun f events net
    pub known : Known t net
    -- no slot had more than three connections more
    pub grows : GrowsBoth f net

  -- ---- an engine that has a connection

  tells_on : (a : Name) (f : FileNet) (w t : World S) (more : List Step) (s : Story) → FileReached m f
      → (f.net A).story a ≡ Some s → s.asked ≡ true → data_bodies s.end.written ≡ said w → data_bodies s.end.read ≡ heard w
      → (r : Moved contents may_give count m p a f w t more) → Tells t.client.caller.id (r.net.net A) (said t) (heard t)
  tells_on a f w t more s reached there asked said_so heard_so r =
      let told = users_are_told m f r.net r.events a reached r.run in
      let later = story_lasts r.events f r.net a s r.run there in
      let now_said : data_bodies later.0.end.written ≡ said t =
      ap (λ o. data_bodies (written_of o)) (sym later.1) ∙ told.said
      ∙ (λ j. (ap (λ o. data_bodies (written_of o)) there ∙ said_so) j ++ r.said j)
      ∙ sym (bodies_append (talk_of w.steps).sent (talk_of more).sent)
      ∙ ap data_bodies (sym (said_more more w.steps)) ∙ ap (λ l. data_bodies (talk_of l).sent) (sym r.steps) in
      let now_heard : data_bodies later.0.end.read ≡ heard t =
      ap (λ o. data_bodies (read_of o)) (sym later.1) ∙ told.heard
      ∙ (λ j. (ap (λ o. data_bodies (read_of o)) there ∙ heard_so) j ++ r.heard j)
      ∙ sym (received_more more w.steps) ∙ ap (λ l. (talk_of l).received) (sym r.steps) in
      subst (λ o. Tells o (r.net.net A) (said t) (heard t)) (sym r.holds.has)
      (record {
        story = later.0;
        there = ap (r.net.net A).story r.holds.named_so ∙ later.1;
        asked = later.2 ∙ asked;
        said_so = now_said;
        heard_so = now_heard;
      })

  reaches_by : (a : Name) (f : FileNet) (w t : World S) (more : List Step) (s : Story) → FileReached m f
      → (f.net A).story a ≡ Some s → s.asked ≡ true → data_bodies s.end.written ≡ said w → data_bodies s.end.read ≡ heard w
      → Moved contents may_give count m p a f w t more → Reaches f t
  reaches_by a f w t more s reached there asked said_so heard_so r = record {
    net = r.net;
    events = r.events;
    run = r.run;
    known = record { stands = r.stands; tells = tells_on a f w t more s reached there asked said_so heard_so r };
    grows = r.grows;
  }

  with_one : (f : FileNet) (w t : World S) (move : Move) (id : ℕ) → FileStandsFor contents m (system_of w) f
      → w.client.caller.id ≡ Some id → HasSaid (f.net A) id (said w) (heard w) → AsksNoMore p w move
      → Moves contents may_give count p w move t → IsFreshMove f w move → Reaches f t
  with_one f w t move id stands has tells quiet moves fresh =
      reaches_by (named (f.net A) id) f w t (steps_in move) tells.story stands.reached tells.there tells.asked tells.said_so
      tells.heard_so
      (moved contents may_give count m p (named (f.net A) id) f w t move stands (record { id = id; has = has; named_so = refl }) quiet moves fresh)

  -- ---- a turn of the engine

  -- from the engine on as the packets find it
  turn_reaches : (f : FileNet) (w t : World S) (now : ℕ) (asks : List Ask) (number : Option ℕ)
      → FileStandsFor contents m (system_by (asked_again p now w.client.caller) w.posts w.server) f
      → Tells (asked_again p now w.client.caller).id (f.net A) (said w) (heard w) → Engages p w (Turns now asks) number t
      → t.server ≡ w.server → t.steps ≡ Turns now asks ∷ w.steps → IsFreshMove f w (EngineSteps (Turns now asks) number)
      → Reaches f t
  turn_reaches f w t now asks number stands tells engaged server steps fresh =
      by (asked_again p now w.client.caller).id refl tells
    where
      by : (o : Option ℕ) → (asked_again p now w.client.caller).id ≡ o → Tells o (f.net A) (said w) (heard w) → Reaches f t
      by None none tells =
          let r = engine_turn contents may_give count m p f w t now asks number stands engaged server fresh in
          record {
            net = r.net;
            events = r.events;
            run = r.run;
            known = record {
              stands = r.stands;
              tells = subst (λ o. Tells o (r.net.net A) (said t) (heard t)) (sym (ap (λ x. x.id) engaged.0.1.0 ∙ none))
                  (ap (λ l. data_bodies (talk_of l).sent) steps ∙ tells.0, ap (λ l. (talk_of l).received) steps ∙ tells.1);
            };
            grows = turning_grows m r.events f r.net (reached_is_sound m f stands.reached) r.run r.kind;
          }
      by (Some id) has tells =
          reaches_by (named (f.net A) id) f w t (Turns now asks ∷ []) tells.story stands.reached tells.there tells.asked
          tells.said_so tells.heard_so
          (turn_done contents may_give count m p (named (f.net A) id) f w t now asks number id stands has refl engaged server steps fresh)

  -- ---- an engine without a connection

  -- it did nothing
  rests : (f : FileNet) (w t : World S) → FileStandsFor contents m (system_of w) f → w.client.caller.id ≡ None
      → (said w ≡ []) × (heard w ≡ []) → t.client.caller ≡ w.client.caller → t.posts ≡ w.posts → t.server ≡ w.server
      → said t ≡ said w → heard t ≡ heard w → Reaches f t
  rests f w t stands none silent caller posts server said_so heard_so = record {
    net = f;
    events = [];
    run = refl;
    known = record {
      stands = same_system contents may_give count m w t f stands caller posts server;
      tells = subst (λ o. Tells o (f.net A) (said t) (heard t)) (sym (ap (λ x. x.id) caller ∙ none))
          (said_so ∙ silent.0, heard_so ∙ silent.1);
    };
    grows = λ x place. omega arith;
  }

  -- a call of no connection does nothing
  no_call : (caller : CallerView) (call : Call) → caller.id ≡ None
      → after_call caller (call_by caller.host call caller.id) ≡ caller
  no_call caller call none =
      ap (λ o. after_call caller (call_by caller.host call o)) none
      ∙ (λ j. record caller { out = record caller.out { packets = append-nil caller.out.packets j } })

  without_one : (f : FileNet) (w t : World S) (move : Move) → FileStandsFor contents m (system_of w) f
      → w.client.caller.id ≡ None → (said w ≡ []) × (heard w ≡ []) → AsksNoMore p w move
      → Moves contents may_give count p w move t → IsFreshMove f w move → Reaches f t
  without_one f w t (EngineSteps (Asks now) number) stands none silent quiet (engaged, server, steps) fresh = absurd engaged
  without_one f w t (EngineSteps (Writes item now taken) number) stands none silent quiet
      (((shown, inl (room, untaken, same), queue), posts), server, steps) fresh =
      rests f w t stands none silent same posts server
      (ap (λ l. data_bodies (talk_of l).sent) steps
      ∙ ap (λ b. data_bodies (and_then (talk_of w.steps) (Writes item now b)).sent) untaken)
      (ap (λ l. (talk_of l).received) steps ∙ ap (λ b. (and_then (talk_of w.steps) (Writes item now b)).received) untaken)
  without_one f w t (EngineSteps (Writes item now taken) number) stands none silent quiet
      (((shown, inr (told, is), queue), posts), server, steps) fresh =
      let call : Call = Write item.op item.body now in
      let untaken : taken ≡ false =
      told ∙ ap (λ o. is_wrote (call_by w.client.caller.host call o).answer) none in
      rests f w t stands none silent (is ∙ no_call w.client.caller call none) posts server
      (ap (λ l. data_bodies (talk_of l).sent) steps
      ∙ ap (λ b. data_bodies (and_then (talk_of w.steps) (Writes item now b)).sent) untaken)
      (ap (λ l. (talk_of l).received) steps ∙ ap (λ b. (and_then (talk_of w.steps) (Writes item now b)).received) untaken)
  without_one f w t (EngineSteps (Reads got) number) stands none silent quiet
      (((inl (room, untaken, same), queue), posts), server, steps) fresh =
      rests f w t stands none silent same posts server
      (ap (λ l. data_bodies (talk_of l).sent) steps
      ∙ ap (λ o. data_bodies (and_then (talk_of w.steps) (Reads o)).sent) untaken)
      (ap (λ l. (talk_of l).received) steps ∙ ap (λ o. (and_then (talk_of w.steps) (Reads o)).received) untaken)
  without_one f w t (EngineSteps (Reads got) number) stands none silent quiet
      (((inr (told, is), queue), posts), server, steps) fresh =
      let untaken : got ≡ None = told ∙ ap (λ o. data_read (call_by w.client.caller.host Read o).answer) none in
      rests f w t stands none silent (is ∙ no_call w.client.caller Read none) posts server
      (ap (λ l. data_bodies (talk_of l).sent) steps
      ∙ ap (λ o. data_bodies (and_then (talk_of w.steps) (Reads o)).sent) untaken)
      (ap (λ l. (talk_of l).received) steps ∙ ap (λ o. (and_then (talk_of w.steps) (Reads o)).received) untaken)
  without_one f w t (EngineSteps (Turns now asks) number) stands none silent quiet (engaged, server, steps) fresh =
      turn_reaches f w t now asks number (unasked contents may_give count m p now w f quiet stands)
      (subst (λ o. Tells o (f.net A) (said w) (heard w)) (sym (ap (λ x. x.id) quiet ∙ none)) silent) engaged server steps fresh
  without_one f w t (ServerTurns number start now) stands none silent quiet (e, client, posts, steps) fresh =
      let r = server_turn contents may_give count m f w t number start now stands e client posts fresh in
      record {
        net = r.net;
        events = r.events;
        run = r.run;
        known = record {
          stands = r.stands;
          tells = subst (λ o. Tells o (r.net.net A) (said t) (heard t)) (sym (ap (λ x. x.caller.id) client ∙ none))
              (ap (λ l. data_bodies (talk_of l).sent) steps ∙ silent.0, ap (λ l. (talk_of l).received) steps ∙ silent.1);
        };
        grows = grows_as f r.net (λ place. ap (λ z. z.turn place) r.kind.0) r.kind.1;
      }

  -- ---- a move in which the engine asks for no other connection

  pub same_reaches : (f : FileNet) (w t : World S) (move : Move) → Known w f → AsksNoMore p w move
      → Moves contents may_give count p w move t → IsFreshMove f w move → Reaches f t
  same_reaches f w t move known quiet moves fresh = by w.client.caller.id refl known.tells
    where
      by : (o : Option ℕ) → w.client.caller.id ≡ o → Tells o (f.net A) (said w) (heard w) → Reaches f t
      by None none silent = without_one f w t move known.stands none silent quiet moves fresh
      by (Some id) has tells = with_one f w t move id known.stands has tells quiet moves fresh

  -- ---- an engine that asks for a connection

  -- A run leads to a file net that stands for the engine after it asked, and the connection's user said and heard nothing.
  pub record Asked (f : FileNet) (caller : CallerView) (w : World S) : Type 0 where
    pub net : FileNet
    pub events : List FileEvent
    pub run : FileRun f events net
    pub stands : FileStandsFor contents m (system_by caller w.posts w.server) net
    pub tells : Tells caller.id (net.net A) [] []

  pub asks_tells : (f : FileNet) (w : World S) (caller : CallerView) (start now wait : ℕ) → start < 65536
      → FileStandsFor contents m (system_by caller w.posts w.server) f → Asked f (asked start now wait caller) w
  asks_tells f w caller start now wait small stands = by (nat_lt 0 (room_of caller.out))
    where
      behind : CallerView
      behind = record (after_call caller (connect_of start now caller)) {
        id = result_ok (connect_of start now caller).answer;
        since = now;
        wait = wait;
      }

      unmade : CallerView
      unmade = record caller { id = None; since = now; wait = wait }

      by : (b : Bool) → Asked f (if b then behind else unmade) w
      by true =
          let event : HostEvent = Connects caller.to caller.contact start now in
          let called : TakesCall program_host (program_turns (change contents may_give count)) event
          (system_by caller w.posts w.server A) (system_by behind w.posts w.server A) =
          record { own = small; host = refl; waiting = refl; posts = refl } in
          let r = client_calls contents may_give count m (system_by caller w.posts w.server) (system_by behind w.posts w.server)
          f event stands called refl tt in
          let run : FileRun f (Nets (At A event) ∷ []) r.net = subst (λ es. FileRun f es r.net) r.kind r.run in
          let own = reached_is_played f.net stands.net.reached A in
          let told = begun_tells (f.net A) (f.net B) own.station caller.to caller.contact start now in
          let sees : Tells (result_ok (host_connect (f.net A).host caller.to caller.contact start now).answer) (r.net.net A) [] [] =
          subst (λ (z : FileNet). Tells (result_ok (host_connect (f.net A).host caller.to caller.contact start now).answer) (z.net A) [] [])
          (sym run.1) (event_tells f event (result_ok (host_connect (f.net A).host caller.to caller.contact start now).answer) told) in
          record {
            net = r.net;
            events = r.events;
            run = r.run;
            stands = r.stands;
            tells = subst (λ (h : HostView). Tells (result_ok (host_connect h caller.to caller.contact start now).answer) (r.net.net A) [] [])
                (stands.net.hosts A) sees;
          }
      by false = record {
        net = f;
        events = [];
        run = refl;
        stands = stands;
        tells = (refl, refl);
      }

  -- ---- any move

  module _ (small : (now : ℕ) → p.starts now < 65536) where
    -- The engine as the packets of a move find it, which said and heard the same.
    record Met (w : World S) (f : FileNet) (move : Move) : Type 0 where
      net : FileNet
      meets : Meets contents may_give count m p w f move net
      tells : Tells (found_in p w.client.caller move).id (net.net A) (said w) (heard w)

    late_met : (f : FileNet) (w : World S) (now : ℕ) (asks : List Ask) (number : Option ℕ) → Known w f
        → is_late now w.client.caller ≡ true → Met w f (EngineSteps (Turns now asks) number)
    late_met f w now asks number known late =
        let caller = w.client.caller in
        let silent = late_is_silent f.net caller now (said w) (heard w) known.stands.net.reached (known.stands.net.hosts A) late
        known.tells in
        let (g, events, run, stands) =
        connections_are_asked contents may_give count m w f (closed caller) known.stands (inl refl) in
        let r = asks_tells g w (closed caller) (p.starts now) now (doubled caller.wait) (small now) stands in
        let found : asked (p.starts now) now (doubled caller.wait) (closed caller) ≡ asked_again p now caller =
        sym (cond-true (is_late now caller) (asked (p.starts now) now (doubled caller.wait) (closed caller)) caller late) in
        record {
          net = r.net;
          meets = record {
            events = events ++ r.events;
            run = run_on events r.events f g r.net run r.run;
            stands = subst (λ z. FileStandsFor contents m (system_by z w.posts w.server) r.net) found r.stands;
            same = λ not. absurd (false≢true (sym not ∙ late));
          };
          tells = subst (λ (z : CallerView × List (List ℕ) × List (List ℕ)). Tells z.0.id (r.net.net A) z.1 z.2)
              (λ j. (found j, sym silent.0 j, sym silent.1 j)) r.tells;
        }

    abbrev Steps : FileNet → World S → Move → World S → Type 0
    Steps f w move t = (met : FileNet) × Meets contents may_give count m p w f move met × (IsFreshMove met w move → Reaches met t)

    -- the packets find the engine as it was
    same_steps : (f : FileNet) (w t : World S) (move : Move) → Known w f → found_in p w.client.caller move ≡ w.client.caller
        → AsksNoMore p w move → Moves contents may_give count p w move t → Steps f w move t
    same_steps f w t move known found quiet moves = (
      f,
      record {
        events = [];
        run = refl;
        stands = subst (λ z. FileStandsFor contents m (system_by z w.posts w.server) f) (sym found) known.stands;
        same = λ not. refl;
      },
      λ fresh. same_reaches f w t move known quiet moves fresh,
    )

    steps_on : (f : FileNet) (w t : World S) (move : Move) → Known w f → Moves contents may_give count p w move t
        → Steps f w move t
    steps_on f w t (EngineSteps (Turns now asks) number) known (engaged, server, steps) =
        ⊎_elim
        (λ (late : is_late now w.client.caller ≡ true).
        let r = late_met f w now asks number known late in
        (r.net, r.meets, λ fresh. turn_reaches r.net w t now asks number r.meets.stands r.tells engaged server steps fresh))
        (λ (timely : is_late now w.client.caller ≡ false).
        let same : asked_again p now w.client.caller ≡ w.client.caller =
        cond-false (is_late now w.client.caller) _ w.client.caller timely in
        same_steps f w t (EngineSteps (Turns now asks) number) known same same (engaged, server, steps))
        (cases_Bool (is_late now w.client.caller))
    steps_on f w t (EngineSteps (Asks now) number) known moves =
        same_steps f w t (EngineSteps (Asks now) number) known refl tt moves
    steps_on f w t (EngineSteps (Writes item now taken) number) known moves =
        same_steps f w t (EngineSteps (Writes item now taken) number) known refl tt moves
    steps_on f w t (EngineSteps (Reads got) number) known moves =
        same_steps f w t (EngineSteps (Reads got) number) known refl tt moves
    steps_on f w t (ServerTurns number start now) known moves =
        same_steps f w t (ServerTurns number start now) known refl tt moves

    pub lasts_asking : (Claim : World S → FileNet → Type 0) → ((w : World S) (f : FileNet) → Known w f → Claim w f) → (k : ℕ)
        (w : World S) (f : FileNet) → Known w f → LastsAsking contents may_give count m p Claim k w f
    lasts_asking Claim so zero w f known = (known.stands, so w f known)
    lasts_asking Claim so (suc k) w f known = (
      known.stands,
      so w f known,
      λ move t moves. let r = steps_on f w t move known moves in (
        r.0,
        r.1,
        λ fresh. let next = r.2 fresh in (next.net, next.events, next.run, lasts_asking Claim so k t next.net next.known),
      ),
    )

  -- ---- a session

  -- an opened connection with all replies of a session
  ends_so : (user : List ℕ) (operations : List Operation) (w : World S) (g : FileNet) (id : ℕ) (c : Name) → Known w g
      → w.client.caller.id ≡ Some id → (t : HasSaid (g.net A) id (said w) (heard w)) → t.story.peer ≡ Some c
      → IsTalk w.steps (login_command user ∷ all_commands operations) (login_reply user ∷ all_replies operations)
      → is_name 1 MAX_NAME user ≡ true → CanDoAll operations → IsFinished m user operations w g
  ends_so user operations w g id c known has t peer talk good can =
      let a : Name = named (g.net A) id in
      let client : IsClient g a t.story c = record { there = t.there; asked = t.asked; peer = peer } in
      let commands = login_command user ∷ all_commands operations in
      let replies = login_reply user ∷ all_replies operations in
      let wrote : data_bodies t.story.end.written ≡ commands = t.said_so ∙ ap data_bodies talk.sent ∙ commands_data commands in
      let read : data_bodies t.story.end.read ≡ replies = t.heard_so ∙ talk.received in
      let alike = ap length read ∙ ap suc (all_alike operations) ∙ ap length (sym wrote) in
      record {
        a = a;
        c = c;
        calling = record { id = id; has = has; named_so = refl; story = t.story; client = client };
        done = (operations_among m g a c t.story user operations known.stands.reached client good can
            (record {
              more_said = [];
              more_heard = [];
              said = wrote ∙ sym (append-nil commands);
              heard = read ∙ sym (append-nil replies);
              alike = refl;
            })).0;
        once = (answered_once m g a c t.story known.stands.reached client alike).0 ∙ wrote;
      }

  pub finishes : (user : List ℕ) (operations : List Operation) (steps : List Step)
      → IsTalk steps (login_command user ∷ all_commands operations) (login_reply user ∷ all_replies operations)
      → (w : World S) (g : FileNet) → Known w g → FinishesBy m steps user operations w g
  finishes user operations steps talk w g known same good can = by w.client.caller.id refl known.tells
    where
      now : IsTalk w.steps (login_command user ∷ all_commands operations) (login_reply user ∷ all_replies operations)
      now = subst (λ l. IsTalk l (login_command user ∷ all_commands operations) (login_reply user ∷ all_replies operations))
          (sym same) talk

      heard_some : heard w ≡ [] → ⊥
      heard_some none =
          let no : [] ≡ login_reply user ∷ all_replies operations = sym none ∙ now.received in absurd (cc)

      by_peer : (id : ℕ) → w.client.caller.id ≡ Some id → (t : HasSaid (g.net A) id (said w) (heard w)) → (o : Option Name)
          → t.story.peer ≡ o → HoldsBy g.net A (named (g.net A) id) t.story o → IsFinished m user operations w g
      by_peer id has t None peer holds = absurd (heard_some (sym t.heard_so ∙ ap data_bodies holds.1))
      by_peer id has t (Some c) peer holds = ends_so user operations w g id c known has t peer now good can

      by : (o : Option ℕ) → w.client.caller.id ≡ o → Tells o (g.net A) (said w) (heard w) → IsFinished m user operations w g
      by None none silent = absurd (heard_some silent.1)
      by (Some id) has t =
          by_peer id has t t.story.peer refl
          (net_holds g.net A (named (g.net A) id) (reached_is_played g.net known.stands.net.reached) t.story t.there)
