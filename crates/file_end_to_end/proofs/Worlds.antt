-- The moves of a client's engine and of a server: what holds behind each.
use Rattle.std.proofs.Common.{◌≡◌, ℕ, zero, suc, ◌+◌, false, if◌then◌else◌, List, [], ◌∷◌, ◌++◌, length, Option, Some, None, Ok, refl, sym, ap, ◌∙◌, subst, arith, append_assoc, append-nil, length-append}
use Rattle.std.specs.Prelude.{nat_le, ◌-◌}
use Rattle.std.proofs.lemmas.Bool.{cond-false}
use Rattle.chaos_conn.specs.Act.Call.{Read}
use Rattle.chaos_conn.specs.State.{is_inactive}
use Rattle.chaos_conn.specs.declared.state.State.{State}
use Rattle.chaos_conn.specs.declared.state.State.TheVariants as st
use Rattle.chaos_file.specs.Store.{Files}
use Rattle.chaos_host.specs.Slot.{named_slot}
use Rattle.chaos_host.specs.View.{look_slot}
use Rattle.chaos_host.specs.declared.slot.Slot.{Slot}
use Rattle.chaos_lab.specs.declared.side.Side.TheVariants.{A, B}
use Rattle.chaos_net.specs.Net.{Name, Story, Net, Reached}
use Rattle.chaos_net.specs.Present.{named, read_of, written_of}
use Rattle.chaos_net.proofs.Goes.{GoingOn, unopened}
use Rattle.chaos_net.proofs.Lists.{some_eq}
use Rattle.chaos_net.proofs.Network.{reached_is_played}
use Rattle.chaos_net.proofs.Present.{named_is_present}
use Rattle.file_copy.specs.Ends.{login_command, login_reply}
use Rattle.file_client.specs.Caller.{CallerView, asked_again, has_asked, is_asking}
use Rattle.file_client.specs.Pace.{Pace}
use Rattle.file_client.specs.Talk.{Step, Calls as Asks, Writes, Reads, Turns, talk_of}
use Rattle.file_lab.specs.Bodies.{data_bodies}
use Rattle.file_net.specs.FileNet.{FileNet, FileEvent, FileRun, FileReached}
use Rattle.file_net.specs.Users.{said_in, heard_in}
use Rattle.file_copy.specs.Operation.{Operation, all_commands, all_replies, commands_of, replies_of}
use Rattle.file_net.specs.Operations.{IsClient, IsReady, Talks}
use Rattle.file_net.proofs.Clients.{login_among, operation_among, operations_among}
use Rattle.file_net.proofs.Done.{operation_alike}
use Rattle.file_lab.proofs.BodyLists.{bodies_append}
use Rattle.file_net.proofs.Users.{users_are_told}
use Rattle.file_end_to_end.specs.System.{FileStandsFor}
use Rattle.file_end_to_end.specs.World.{World, system_of, Move, EngineSteps, ServerTurns, Moves, IsFreshMove, IsCalling, IsTalk, IsServed, Lasts, WorldsLast, said_by, heard_by}
use Rattle.file_end_to_end.proofs.Held.{AsksNoMore, Moved, moved, steps_in, story_lasts}
use Rattle.file_end_to_end.proofs.Idle.{idle_is_ready, ready_is_idle}
use Rattle.file_end_to_end.proofs.Saying.{commands_data, heard_by as heard_of, heard_more, heard_on, run_on, said_on, sent_by as sent_of, sent_more}
use Rattle.file_end_to_end.proofs.Systems.{more_reached}

-- ---- a connection that was opened does not ask

asks_not : (s : State) → (s ≡ st.RfcSent → ⊥) → has_asked (Ok s) ≡ false
asks_not st.RfcSent h = absurd (h refl)
asks_not st.Inactive h = refl
asks_not st.RfcReceived h = refl
asks_not st.Open h = refl
asks_not st.Answered h = refl
asks_not st.ClsReceived h = refl
asks_not st.LosReceived h = refl
asks_not st.HostDown h = refl
asks_not st.Forwarded h = refl

module _ (n : Net) (reached : Reached n) (id : ℕ) (s : Story) (c : Name)
    (there : (n A).story (named (n A) id) ≡ Some s) (peer : s.peer ≡ Some c) where
  opened : s.end.conn.state ≡ st.RfcSent → ⊥
  opened asks =
      let h = reached_is_played n reached in
      let going : GoingOn A (n A) (n B) (named (n A) id) s Read None = record {
        side = h A;
        back = h B;
        there = there;
        present = refl;
        used = ap is_inactive asks;
        goes = refl;
        arrival = λ p now is. absurd (cc);
      } in
      let none : None ≡ Some c = sym (unopened A (n A) (n B) (named (n A) id) s Read None going asks).0 ∙ peer in
      absurd (cc)

  by_slot : (o : Option Slot) → named_slot (n A).host.slots id ≡ o → has_asked (look_slot (λ conn. conn.state) o) ≡ false
  by_slot None is = refl
  by_slot (Some slot) is =
      let p = named_is_present n A id slot reached is in
      let same : p.story ≡ s = some_eq (sym p.there ∙ there) in
      asks_not slot.conn.state
      (λ asks. opened (ap (λ (z : Story). z.end.conn.state) (sym same) ∙ ap (λ v. v.state) p.conn ∙ asks))

  not_asking : is_asking (n A).host (Some id) ≡ false
  not_asking = by_slot (named_slot (n A).host.slots id) refl

-- so its engine asks for no other
not_again : (p : Pace) (now : ℕ) (c : CallerView) → is_asking c.host c.id ≡ false → asked_again p now c ≡ c
not_again p now c quiet =
    let late : (if is_asking c.host c.id then nat_le c.wait (now - c.since) else false) ≡ false =
    cond-false (is_asking c.host c.id) _ false quiet in
    cond-false _ _ c late

-- ---- talks

-- what was said and heard by steps, and by more of them
pub said_more : (more steps : List Step) → (talk_of (more ++ steps)).sent ≡ (talk_of steps).sent ++ (talk_of more).sent
said_more [] steps = sym (append-nil (talk_of steps).sent)
said_more (step ∷ more) steps =
    sent_more (talk_of (more ++ steps)) step ∙ ap (λ l. l ++ sent_of step) (said_more more steps)
    ∙ append_assoc (talk_of steps).sent (talk_of more).sent (sent_of step)
    ∙ ap (λ l. (talk_of steps).sent ++ l) (sym (sent_more (talk_of more) step))

pub received_more : (more steps : List Step)
    → (talk_of (more ++ steps)).received ≡ (talk_of steps).received ++ (talk_of more).received
received_more [] steps = sym (append-nil (talk_of steps).received)
received_more (step ∷ more) steps =
    heard_more (talk_of (more ++ steps)) step ∙ ap (λ l. l ++ heard_of step) (received_more more steps)
    ∙ append_assoc (talk_of steps).received (talk_of more).received (heard_of step)
    ∙ ap (λ l. (talk_of steps).received ++ l) (sym (heard_more (talk_of more) step))

-- there are as many replies as commands
pub all_alike : (operations : List Operation) → length (all_replies operations) ≡ length (all_commands operations)
all_alike [] = refl
all_alike (operation ∷ operations) =
    let one = length-append (replies_of operation) (all_replies operations) in
    let two = length-append (commands_of operation) (all_commands operations) in
    let same = operation_alike operation in
    let rest = all_alike operations in
    omega (arith, one, two, same, rest)

-- ---- a move

module _ {S : Type 0} (contents : S → Option Files) (may_give : S → List ℕ → ℕ → List ℕ → Type 0) (count : S → ℕ)
    (m : Files) (p : Pace) (a c : Name) where
  -- an engine whose connection was opened asks for no other
  asks_no_more : (f : FileNet) (w : World S) (move : Move) → FileStandsFor contents m (system_of w) f → IsCalling w f a c
      → AsksNoMore p w move
  asks_no_more f w (EngineSteps (Turns now asks) number) stands calling =
      let there : (f.net A).story (named (f.net A) calling.id) ≡ Some calling.story =
      ap (f.net A).story calling.named_so ∙ calling.client.there in
      let quiet : is_asking w.client.caller.host w.client.caller.id ≡ false =
      (λ j. is_asking (sym (stands.net.hosts A) j) (calling.has j))
      ∙ not_asking f.net stands.net.reached calling.id calling.story c there calling.client.peer in
      not_again p now w.client.caller quiet
  asks_no_more f w (EngineSteps (Asks now) number) stands calling = tt
  asks_no_more f w (EngineSteps (Writes item now taken) number) stands calling = tt
  asks_no_more f w (EngineSteps (Reads got) number) stands calling = tt
  asks_no_more f w (ServerTurns number start now) stands calling = tt

  pub move_done : (f : FileNet) (w t : World S) (move : Move) → FileStandsFor contents m (system_of w) f → IsCalling w f a c
      → Moves contents may_give count p w move t → IsFreshMove f w move
      → Moved contents may_give count m p a f w t (steps_in move)
  move_done f w t move stands calling moves fresh =
      moved contents may_give count m p a f w t move stands
      (record { id = calling.id; has = calling.has; named_so = calling.named_so }) (asks_no_more f w move stands calling) moves fresh

  -- the connection is still there behind the move
  still : (f : FileNet) (w t : World S) (more : List Step) → IsCalling w f a c
      → (r : Moved contents may_give count m p a f w t more) → IsCalling t r.net a c
  still f w t more calling r =
      let later = story_lasts r.events f r.net a calling.story r.run calling.client.there in
      record {
        id = r.holds.id;
        has = r.holds.has;
        named_so = r.holds.named_so;
        story = later.0;
        client = record {
          there = later.1;
          asked = later.2 ∙ calling.client.asked;
          peer = later.3 c calling.client.peer;
        };
      }

  -- ---- since a file net

  module _ (f : FileNet) (s : Story) (reached : FileReached m f) (begun : IsClient f a s c) where
    -- what the user said and heard since then is what was said and heard by the engine's steps
    pub record Since (w : World S) (g : FileNet) : Type 0 where
      pub events : List FileEvent
      pub run : FileRun f events g
      pub calling : IsCalling w g a c
      pub said : said_in f events a ≡ data_bodies (talk_of w.steps).sent
      pub heard : heard_in f events a ≡ (talk_of w.steps).received

    pub since_on : (w t : World S) (g : FileNet) (more : List Step) → Since w g
        → (r : Moved contents may_give count m p a g w t more) → Since t r.net
    since_on w t g more is r = record {
      events = is.events ++ r.events;
      run = run_on is.events r.events f g r.net is.run r.run;
      calling = still g w t more is.calling r;
      said =
          said_on is.events r.events f g a is.run ∙ (λ j. is.said j ++ r.said j)
          ∙ sym (bodies_append (talk_of w.steps).sent (talk_of more).sent)
          ∙ ap data_bodies (sym (said_more more w.steps))
          ∙ ap (λ l. data_bodies (talk_of l).sent) (sym r.steps);
      heard =
          heard_on is.events r.events f g a is.run ∙ (λ j. is.heard j ++ r.heard j)
          ∙ sym (received_more more w.steps)
          ∙ ap (λ l. (talk_of l).received) (sym r.steps);
    }

    module _ (w : World S) (g : FileNet) (is : Since w g) where
      all_said : (commands replies : List (List ℕ)) → IsTalk w.steps commands replies
          → said_by g a ≡ said_by f a ++ commands
      all_said commands replies talk =
          (users_are_told m f g is.events a reached is.run).said
          ∙ ap (λ l. said_by f a ++ l) (is.said ∙ ap data_bodies talk.sent ∙ commands_data commands)

      all_heard : (commands replies : List (List ℕ)) → IsTalk w.steps commands replies
          → heard_by g a ≡ heard_by f a ++ replies
      all_heard commands replies talk =
          (users_are_told m f g is.events a reached is.run).heard
          ∙ ap (λ l. heard_by f a ++ l) (is.heard ∙ talk.received)

      reached_now : FileReached m g
      reached_now = more_reached contents may_give count m f g is.events reached is.run

      client_now : IsClient g a is.calling.story c
      client_now = is.calling.client

      talks : (commands replies : List (List ℕ)) → IsTalk w.steps commands replies
          → length (heard_by f a) ≡ length (said_by f a)
          → Talks is.calling.story (said_by f a) (heard_by f a) commands replies
      talks commands replies talk alike = record {
        more_said = [];
        more_heard = [];
        said =
            ap (λ o. data_bodies (written_of o)) (sym client_now.there) ∙ all_said commands replies talk
            ∙ ap (λ l. said_by f a ++ l) (sym (append-nil commands));
        heard =
            ap (λ o. data_bodies (read_of o)) (sym client_now.there) ∙ all_heard commands replies talk
            ∙ ap (λ l. heard_by f a ++ l) (sym (append-nil replies));
        alike = alike;
      }

      answered : (commands replies : List (List ℕ)) → IsTalk w.steps commands replies
          → length (heard_by f a) ≡ length (said_by f a) → length replies ≡ length commands
          → length (heard_by g a) ≡ length (said_by g a)
      answered commands replies talk alike same =
          let one : length (said_by g a) ≡ length (said_by f a) + length commands =
          ap length (all_said commands replies talk) ∙ length-append (said_by f a) commands in
          let two : length (heard_by g a) ≡ length (heard_by f a) + length replies =
          ap length (all_heard commands replies talk) ∙ length-append (heard_by f a) replies in
          omega (arith, one, two, alike, same)

      -- since nothing was said and heard before
      first_talks : (commands replies : List (List ℕ)) → said_by f a ≡ [] → heard_by f a ≡ []
          → IsTalk w.steps commands replies → Talks is.calling.story [] [] commands replies
      first_talks commands replies unsaid unheard talk =
          subst (λ l. Talks is.calling.story l [] commands replies) unsaid
          (subst (λ l. Talks is.calling.story (said_by f a) l commands replies) unheard
          (talks commands replies talk (ap length unheard ∙ ap length (sym unsaid))))

      pub served : IsServed m f a c w g
      served = record {
        calling = is.calling;
        done = λ operation user idle can talk.
            let both = operation_among m g a c is.calling.story user (said_by f a) (heard_by f a) operation reached_now client_now can
            (talks (commands_of operation) (replies_of operation) talk idle.answered)
            (idle_is_ready m f a c s reached begun g is.events user is.run idle) in
            (both.0, ready_is_idle m g a c is.calling.story reached_now client_now user (answered (commands_of operation) (replies_of operation) talk idle.answered (operation_alike operation)) (subst (λ l. IsReady m g c l user) (sym (all_said (commands_of operation) (replies_of operation) talk)) both.1));
        logged = λ user unsaid unheard good talk.
            let commands = login_command user ∷ [] in
            let replies = login_reply user ∷ [] in
            let alike : length (heard_by f a) ≡ length (said_by f a) = ap length unheard ∙ ap length (sym unsaid) in
            ready_is_idle m g a c is.calling.story reached_now client_now user (answered commands replies talk alike refl)
            (subst (λ l. IsReady m g c l user)
            (sym (all_said commands replies talk ∙ ap (λ l. l ++ commands) unsaid))
            (login_among m g a c is.calling.story user reached_now client_now good (first_talks commands replies unsaid unheard talk)));
        session = λ user operations unsaid unheard good can talk.
            let commands = login_command user ∷ all_commands operations in
            let replies = login_reply user ∷ all_replies operations in
            let alike : length (heard_by f a) ≡ length (said_by f a) = ap length unheard ∙ ap length (sym unsaid) in
            let both = operations_among m g a c is.calling.story user operations reached_now client_now good can
            (first_talks commands replies unsaid unheard talk) in
            (both.0, ready_is_idle m g a c is.calling.story reached_now client_now user (answered commands replies talk alike (ap suc (all_alike operations))) (subst (λ l. IsReady m g c l user) (sym (all_said commands replies talk ∙ ap (λ l. l ++ commands) unsaid)) both.1));
      }

    lasts : (k : ℕ) (w : World S) (g : FileNet) → FileStandsFor contents m (system_of w) g → Since w g
        → Lasts contents may_give count m p (IsServed m f a c) k w g
    lasts zero w g stands is = (stands, served w g is)
    lasts (suc k) w g stands is = (
      stands,
      served w g is,
      λ move t one fresh. let r = move_done g w t move stands is.calling one fresh in
          (r.net, r.events, r.run, lasts k t r.net r.stands (since_on w t g (steps_in move) is r)),
    )

pub worlds_last : {S : Type 0} (contents : S → Option Files) (may_give : S → List ℕ → ℕ → List ℕ → Type 0) (count : S → ℕ)
    (m : Files) (p : Pace) → WorldsLast contents may_give count m p
worlds_last contents may_give count m p k w f a c stands calling silent =
    lasts contents may_give count m p a c f calling.story stands.reached calling.client k w f stands
    (record {
      events = [];
      run = refl;
      calling = calling;
      said = ap data_bodies (sym silent.sent);
      heard = sym silent.received;
    })
