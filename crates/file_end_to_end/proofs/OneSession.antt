-- Lines of one session: they lead on from the engine that has just asked, and what its connection's user wrote and read stays known.
use Rattle.std.proofs.Common.{◌≡◌, ◌+◌, ◌≤◌, ℕ, suc, false, List, [], ◌∷◌, length, refl, sym, subst, arith}
use Rattle.std.proofs.lemmas.Bool.{cond-false}
use Rattle.chaos_file.specs.Store.{Files}
use Rattle.file_client.specs.Caller.{is_late}
use Rattle.file_client.specs.Talk.{Calls as Asks, Writes, Reads, Turns}
use Rattle.file_net.specs.FileNet.{FileNet}
use Rattle.file_end_to_end.specs.Beginning.{asks_in}
use Rattle.file_end_to_end.specs.FileGot.{AllLead, Line, pace}
use Rattle.file_end_to_end.specs.TwoClients.{contents, count, may_give}
use Rattle.file_end_to_end.specs.World.{World, EngineSteps, Move, ServerTurns}
use Rattle.file_end_to_end.proofs.Beginning.{Known, same_reaches}
use Rattle.file_end_to_end.proofs.Going.{IsSmall, Path, Stand, fresh_so, more_turns}
use Rattle.file_end_to_end.proofs.Held.{AsksNoMore}

asks_no_more : (w : World Files) (move : Move) → asks_in w.client.caller move ≡ false → AsksNoMore pace w move
asks_no_more w (EngineSteps (Turns now asks) number) timely =
    cond-false (is_late now w.client.caller) _ w.client.caller timely
asks_no_more w (EngineSteps (Asks now) number) timely = tt
asks_no_more w (EngineSteps (Writes item now taken) number) timely = tt
asks_no_more w (EngineSteps (Reads got) number) timely = tt
asks_no_more w (ServerTurns number start now) timely = tt

pub record SessionLed (m : Files) (w : World Files) (g : FileNet) (lines : List Line) (t : World Files) : Type 0 where
  pub net : FileNet
  pub lead : AllLead m w g lines t net
  pub known : Known contents may_give count m pace t net

pub session_led : (m : Files) (lines : List Line) (k : ℕ) (w t : World Files) (g : FileNet) → k + length lines ≤ 85
    → Stand m k w g → IsSmall w → Known contents may_give count m pace w g → Path w lines t → SessionLed m w g lines t
session_led m [] k w t g few stand small known path = record {
  net = g;
  lead = (path, refl);
  known = subst (λ (z : World Files). Known contents may_give count m pace z g) (sym path) known;
}
session_led m (line ∷ lines) k w t g few stand small known (u, going, path) =
    let fresh = fresh_so m k w g (omega (arith, few)) stand small going.move going.one in
    let r = same_reaches contents may_give count m pace g w u going.move known (asks_no_more w going.move going.timely) going.moves fresh in
    let rest = session_led m lines (suc k) u t r.net (omega (arith, few)) (more_turns m k w u g r.net stand r.known.stands r.grows) going.small r.known path in
    record {
      net = rest.net;
      lead = (
        u,
        r.net,
        record {
          move = going.move;
          is_line = going.is_line;
          moves = going.moves;
          timely = going.timely;
          fresh = fresh;
          events = r.events;
          run = r.run;
          stands = r.known.stands;
        },
        rest.lead,
      );
      known = rest.known;
    }
