-- Lines of a run lead on: what comes is fresh, since the hosts are young, and a file net stands behind each world.
use Rattle.std.proofs.Common.{◌≡◌, ℕ, suc, ◌+◌, ◌*◌, ◌≤◌, false, List, [], ◌∷◌, ◌++◌, length, Option, refl, sym, ap, ◌∙◌, subst, arith, append-nil}
use Rattle.std.proofs.lemmas.Bool.{cond-false}
use Rattle.std.proofs.lemmas.List.{length-append, length-map}
use Rattle.chaos_packet.specs.Packet.{PacketView}
use Rattle.chaos_conn.specs.View.{ConnView}
use Rattle.chaos_file.specs.Store.{Files}
use Rattle.chaos_lab.specs.declared.side.Side.{Side}
use Rattle.chaos_lab.specs.declared.side.Side.TheVariants.{A, B}
use Rattle.chaos_link.specs.Link.{Ask}
use Rattle.chaos_net.specs.Come.{nothing_upon}
use Rattle.chaos_net.specs.Net.{Name, Sent, Story}
use Rattle.chaos_net.specs.System.{handed, numbers_of}
use Rattle.chaos_node.specs.Arrive.{Arrival}
use Rattle.chaos_node.specs.Link.{read_all}
use Rattle.file_client.specs.Caller.{asked_again, is_late}
use Rattle.file_client.specs.Talk.{Goes, Step, Talker, Calls as Asks, Writes as EngineWrites, Reads as EngineReads, Turns as EngineTurns}
use Rattle.file_server.specs.Sessions.{Serving}
use Rattle.file_net.specs.Operations.{IsClient}
use Rattle.file_net.specs.FileNet.{FileNet, FileReached}
use Rattle.file_lab.specs.Bodies.{data_bodies}
use Rattle.file_net.proofs.Kept.{reached_is_sound}
use Rattle.file_net.proofs.Users.{users_are_told}
use Rattle.chaos_net.specs.Present.{read_of, written_of}
use Rattle.file_end_to_end.specs.FileGot.{AllLead, Leads, Line, IsLine, Turns, Serves, pace}
use Rattle.file_end_to_end.specs.Beginning.{asks_in}
use Rattle.file_end_to_end.specs.System.{FileStandsFor}
use Rattle.file_end_to_end.specs.Turns.{accepts_upon}
use Rattle.file_end_to_end.specs.TwoClients.{contents, count, may_give}
use Rattle.file_end_to_end.specs.World.{World, system_of, Move, EngineSteps, ServerTurns, Moves, IsFreshMove, heard_by, said_by}
use Rattle.file_end_to_end.proofs.Moving.{AreRead, all_read, posts_of, world_at}
use Rattle.file_end_to_end.proofs.Held.{GrowsBoth, engine_turn, grows_as, server_turn, steps_in, turning_grows, turning_others, unasked}
use Rattle.file_end_to_end.proofs.Worlds.{Since, move_done, since_on}
use Rattle.file_end_to_end.proofs.Saying.{others_silent}
use Rattle.file_end_to_end.specs.Young.{IsYoung}
use Rattle.file_end_to_end.proofs.Young.{IsOne, young_comes}

-- ---- young worlds

-- few packets were posted, or wait
abbrev pub IsSmall : World Files → Type 0
IsSmall w = (x : Side) → length (read_all (system_of w x).posts ++ (system_of w x).waiting) ≤ 32000

pub small_at : (m : Files) (c : ConnView) (out ps : List PacketView) (d : ConnView) (serving : Serving)
    (qs : List PacketView) (steps : List Step) → AreRead ps → AreRead qs → length (ps ++ out) ≤ 32000 → length qs ≤ 32000
    → IsSmall (world_at m c out ps d serving qs steps)
small_at m c out ps d serving qs steps read_p read_q few_p few_q A =
    subst (λ (l : List PacketView). length (l ++ out) ≤ 32000) (sym (all_read ps read_p)) few_p
small_at m c out ps d serving qs steps read_p read_q few_p few_q B =
    let one = length-append (read_all (posts_of qs)) [] in
    let two = ap length (all_read qs read_q) in
    omega (arith, one, two, few_q)

-- A file net stands for the world, and no slot had more connections than three times so many.
pub record Stand (m : Files) (k : ℕ) (w : World Files) (f : FileNet) : Type 0 where
  pub stands : FileStandsFor contents m (system_of w) f
  pub turns : (x : Side) (place : ℕ) → (f.net x).turn place ≤ 3 * k

young : (m : Files) (k : ℕ) (w : World Files) (f : FileNet) → k ≤ 85 → Stand m k w f → IsSmall w → IsYoung f.net
young m k w f few stand small = record {
  turns = λ x place. let t = stand.turns x place in omega (arith, t, few);
  sent = λ x.
      let one = length-map (f.net x).sent (λ (q : Sent). q.packet) in
      let two = ap length (stand.stands.net.sent x) in
      let three = small x in
      omega (arith, one, two, three);
}

-- what comes in a move
abbrev pub came_to : World Files → Move → Arrival
came_to w (EngineSteps step number) = handed w.server.posts number
came_to w (ServerTurns number start now) = handed w.posts number

pub fresh_so : (m : Files) (k : ℕ) (w : World Files) (f : FileNet) → k ≤ 85 → Stand m k w f → IsSmall w → (move : Move)
    → IsOne (came_to w move) → IsFreshMove f w move
fresh_so m k w f few stand small (EngineSteps (EngineTurns now asks) number) one =
    young_comes nothing_upon f.net A now (numbers_of w.server.posts number) (handed w.server.posts number) stand.stands.net.reached
    (young m k w f few stand small) one
fresh_so m k w f few stand small (EngineSteps (Asks now) number) one = tt
fresh_so m k w f few stand small (EngineSteps (EngineWrites item now taken) number) one = tt
fresh_so m k w f few stand small (EngineSteps (EngineReads got) number) one = tt
fresh_so m k w f few stand small (ServerTurns number start now) one =
    young_comes (accepts_upon start now) f.net B now (numbers_of w.posts number) (handed w.posts number) stand.stands.net.reached
    (young m k w f few stand small) one

pub more_turns : (m : Files) (k : ℕ) (w t : World Files) (f g : FileNet) → Stand m k w f → FileStandsFor contents m (system_of t) g
    → GrowsBoth f g → Stand m (suc k) t g
more_turns m k w t f g stand stands grows = record {
  stands = stands;
  turns = λ x place.
      let one = stand.turns x place in
      let two = grows x place in
      omega (arith, one, two);
}

-- ---- a line, before the connection is open

-- The line leads to a file net, where it stands so.
pub record LineLed (m : Files) (k : ℕ) (w : World Files) (f : FileNet) (line : Line) (t : World Files) : Type 0 where
  pub net : FileNet
  pub leads : Leads m w f line t net
  pub stand : Stand m (suc k) t net
  -- no user wrote or read
  pub silent : (a : Name) → (said_by net a ≡ said_by f a) × (heard_by net a ≡ heard_by f a)

pub engine_led : (m : Files) (k : ℕ) (w t : World Files) (f : FileNet) (now : ℕ) (asks : List Ask) (number : Option ℕ)
    → k ≤ 85 → Stand m k w f → IsSmall w
    → Moves contents may_give count pace w (EngineSteps (EngineTurns now asks) number) t
    → is_late now w.client.caller ≡ false → IsOne (handed w.server.posts number) → LineLed m k w f (Turns now number) t
engine_led m k w t f now asks number few stand small moves timely one =
    let same : asked_again pace now w.client.caller ≡ w.client.caller =
    cond-false (is_late now w.client.caller) _ w.client.caller timely in
    let move : Move = EngineSteps (EngineTurns now asks) number in
    let fresh = fresh_so m k w f few stand small move one in
    let r = engine_turn contents may_give count m pace f w t now asks number (unasked contents may_give count m pace now w f same stand.stands) moves.0 moves.1 fresh in
    record {
      net = r.net;
      leads = record {
        move = move;
        is_line = (asks, refl);
        moves = moves;
        timely = timely;
        fresh = fresh;
        events = r.events;
        run = r.run;
        stands = r.stands;
      };
      stand = more_turns m k w t f r.net stand r.stands
          (turning_grows m r.events f r.net (reached_is_sound m f stand.stands.reached) r.run r.kind);
      silent = λ a.
          let quiet = others_silent f r.events a (turning_others r.events r.kind) in
          let told = users_are_told m f r.net r.events a stand.stands.reached r.run in (
            told.said ∙ ap (λ l. said_by f a ++ l) quiet.said ∙ append-nil (said_by f a),
            told.heard ∙ ap (λ l. heard_by f a ++ l) quiet.heard ∙ append-nil (heard_by f a),
          );
    }

pub server_led : (m : Files) (k : ℕ) (w t : World Files) (f : FileNet) (number : Option ℕ) (start now : ℕ) → k ≤ 85
    → Stand m k w f → IsSmall w → Moves contents may_give count pace w (ServerTurns number start now) t
    → IsOne (handed w.posts number) → LineLed m k w f (Serves number start now) t
server_led m k w t f number start now few stand small moves one =
    let move : Move = ServerTurns number start now in
    let fresh = fresh_so m k w f few stand small move one in
    let r = server_turn contents may_give count m f w t number start now stand.stands moves.0 moves.1 moves.2 fresh in
    record {
      net = r.net;
      leads = record {
        move = move;
        is_line = refl;
        moves = moves;
        timely = refl;
        fresh = fresh;
        events = r.events;
        run = r.run;
        stands = r.stands;
      };
      stand = more_turns m k w t f r.net stand r.stands
          (grows_as f r.net (λ place. ap (λ z. z.turn place) r.kind.0) r.kind.1);
      silent = λ a. (
        ap (λ st. data_bodies (written_of (st.story a))) r.kind.0,
        ap (λ st. data_bodies (read_of (st.story a))) r.kind.0,
      );
    }

-- ---- lines of a connection that was opened

-- the move that a line is, from one world to another
pub record Going (w : World Files) (line : Line) (t : World Files) : Type 0 where
  pub move : Move
  pub is_line : IsLine line move
  pub moves : Moves contents may_give count pace w move t
  pub timely : asks_in w.client.caller move ≡ false
  pub one : IsOne (came_to w move)
  pub small : IsSmall t

abbrev pub Path : World Files → List Line → World Files → Type 0
Path w [] t = t ≡ w
Path w (line ∷ lines) t = (u : World Files) × Going w line u × Path u lines t

module _ (m : Files) (a c : Name) (f : FileNet) (s : Story) (reached : FileReached m f) (begun : IsClient f a s c) where
  -- Lines lead to a file net, since which it is known what the user said and heard.
  pub record Led (k : ℕ) (w : World Files) (g : FileNet) (lines : List Line) (t : World Files) : Type 0 where
    pub net : FileNet
    pub lead : AllLead m w g lines t net
    pub count_of : ℕ
    pub few : count_of ≤ k + length lines
    pub stand : Stand m count_of t net
    pub small : IsSmall t
    pub since : Since contents may_give count m pace a c f s reached begun t net

  pub lines_led : (lines : List Line) (k : ℕ) (w t : World Files) (g : FileNet) → k + length lines ≤ 85 → Stand m k w g
      → IsSmall w → Since contents may_give count m pace a c f s reached begun w g → Path w lines t → Led k w g lines t
  lines_led [] k w t g few stand small since path = record {
    net = g;
    lead = (path, refl);
    count_of = k;
    few = omega arith;
    stand = subst (λ (z : World Files). Stand m k z g) (sym path) stand;
    small = subst IsSmall (sym path) small;
    since = subst (λ (z : World Files). Since contents may_give count m pace a c f s reached begun z g) (sym path) since;
  }
  lines_led (line ∷ lines) k w t g few stand small since (u, going, path) =
      let fresh = fresh_so m k w g (omega (arith, few)) stand small going.move going.one in
      let r = move_done contents may_give count m pace a c g w u going.move stand.stands since.calling going.moves fresh in
      let next = since_on contents may_give count m pace a c f s reached begun w u g (steps_in going.move) since r in
      let rest = lines_led lines (suc k) u t r.net (omega (arith, few)) (more_turns m k w u g r.net stand r.stands r.grows) going.small next path in
      record {
        net = rest.net;
        lead = (
          u,
          r.net,
          record {
            move = going.move;
            is_line = going.is_line;
            moves = going.moves;
            timely = going.timely;
            fresh = fresh;
            events = r.events;
            run = r.run;
            stands = r.stands;
          },
          rest.lead,
        );
        count_of = rest.count_of;
        few = let n = rest.few in omega (arith, n);
        stand = rest.stand;
        small = rest.small;
        since = rest.since;
      }

-- ---- the engine's steps

move_goes : (first : Talker) (w u : World Files) (move : Move) → Moves contents may_give count pace w move u
    → Goes pace first w.steps w.client → Goes pace first u.steps u.client
move_goes first w u (EngineSteps (Asks now) number) (engaged, server, steps) goes = absurd engaged
move_goes first w u (EngineSteps (EngineWrites item now taken) number) ((does, posts), server, steps) goes =
    subst (λ (l : List Step). Goes pace first l u.client) (sym steps) (w.client, goes, does)
move_goes first w u (EngineSteps (EngineReads got) number) ((does, posts), server, steps) goes =
    subst (λ (l : List Step). Goes pace first l u.client) (sym steps) (w.client, goes, does)
move_goes first w u (EngineSteps (EngineTurns now asks) number) ((does, hands, posts), server, steps) goes =
    subst (λ (l : List Step). Goes pace first l u.client) (sym steps) (w.client, goes, does)
move_goes first w u (ServerTurns number start now) (turn, client, posts, steps) goes =
    subst (λ (z : List Step × Talker). Goes pace first z.0 z.1) (λ j. (sym steps j, sym client j)) goes

-- The engine took just the steps that are counted.
pub path_goes : (lines : List Line) (first : Talker) (w t : World Files) → Goes pace first w.steps w.client
    → Path w lines t → Goes pace first t.steps t.client
path_goes [] first w t goes path = subst (λ (z : World Files). Goes pace first z.steps z.client) (sym path) goes
path_goes (line ∷ lines) first w t goes (u, going, path) =
    path_goes lines first u t (move_goes first w u going.move going.moves goes) path
