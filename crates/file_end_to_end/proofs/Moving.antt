-- The lines of a run: each is a move between worlds of one connection.
use Rattle.std.proofs.Common.{◌≡◌, ℕ, Bool, true, false, List, [], ◌∷◌, ◌++◌, map, codes, Option, Some, None, Ok, Err, refl, sym, ap, ◌∙◌, subst, inr}
use Rattle.std.specs.Prelude.{⊤, Result}
use Rattle.std.proofs.lemmas.Bool.{cond-false}
use Rattle.std.proofs.lemmas.List.{map-append}
use Rattle.chaos_packet.specs.Opcode.{op_data}
use Rattle.chaos_packet.specs.Packet.{PacketView}
use Rattle.chaos_conn.specs.Act.{Gave, Wrote}
use Rattle.chaos_conn.specs.Act.Call.{Read, Write}
use Rattle.chaos_conn.specs.Config.{usual_config}
use Rattle.chaos_conn.specs.View.{ConnView}
use Rattle.chaos_conn.specs.declared.answers.ReadEnd.TheVariants.{Item}
use Rattle.chaos_file.specs.Store.{Files, change}
use Rattle.chaos_host.specs.Acted.{HostActed}
use Rattle.chaos_host.specs.Calls.{HostReply, host_call}
use Rattle.chaos_host.specs.View.{HostView}
use Rattle.chaos_link.specs.Datagram.{datagram_of}
use Rattle.chaos_link.specs.Link.{Addressed, Ask}
use Rattle.chaos_link.specs.Loads.{packets_of}
use Rattle.chaos_link.specs.Packets.{packets_read}
use Rattle.chaos_link.specs.declared.fault.LinkFault.{LinkFault}
use Rattle.chaos_link.specs.declared.carriage.Carriage.TheVariants.{One}
use Rattle.chaos_net.specs.System.{Hands, handed}
use Rattle.chaos_node.specs.Arrive.{Arrival, told_at_client}
use Rattle.chaos_node.specs.End.{TellsWork}
use Rattle.chaos_node.specs.Link.{datagram_for, packets_in, read_all, sent_by, turn_asks}
use Rattle.chaos_node.specs.Phase.{Effect}
use Rattle.chaos_node.specs.Turn.{client_phases, has_work}
use Rattle.chaos_node.specs.declared.end.TurnEnd.{TurnEnd}
use Rattle.chaos_node.specs.declared.end.TurnEnd.TheVariants as end
use Rattle.chaos_node.specs.declared.limits.TheConstants.{TURN_ROOM}
use Rattle.file_client.specs.Calls.{data_read, is_wrote}
use Rattle.file_client.specs.Caller.{CallerView, TurnsAt, after_call, asked_again, is_late}
use Rattle.file_client.specs.Talk.{Step, Writes, Reads, Turns, command_item, talker}
use Rattle.file_server.specs.Service.{service_options}
use Rattle.file_server.specs.Sessions.{Serving}
use Rattle.file_server.specs.Turn.{IsTurn}
use Rattle.file_server.specs.declared.serve_mode.ServeMode.TheVariants.{Once}
use Rattle.file_end_to_end.specs.FileGot.{pace}
use Rattle.file_end_to_end.specs.TwoClients.{contents, count, may_give}
use Rattle.file_end_to_end.specs.World.{World, EngineSteps, ServerTurns, Moves}
use Rattle.file_end_to_end.proofs.OneSlot.{served_by}
use Rattle.file_end_to_end.proofs.Held.{sends_of_turn}

-- ---- packets, each in a datagram of its own

abbrev pub IsRead : PacketView → Type 0
IsRead p = packets_read (datagram_of p) ≡ Ok (p ∷ [])

abbrev pub AreRead : List PacketView → Type 0
AreRead [] = ⊤
AreRead (p ∷ ps) = IsRead p × AreRead ps

abbrev pub posts_of : List PacketView → List Addressed
posts_of ps = map datagram_for ps

pub all_read : (ps : List PacketView) → AreRead ps → read_all (posts_of ps) ≡ ps
all_read [] are = refl
all_read (p ∷ ps) are =
    ap (λ (r : Result (List PacketView) LinkFault). packets_in r ++ read_all (posts_of ps)) are.0
    ∙ ap (λ l. p ∷ l) (all_read ps are.1)

sent_one : (lots : List (List PacketView)) → sent_by One lots ≡ posts_of (packets_of lots)
sent_one [] = refl
sent_one (lot ∷ lots) =
    ap (λ l. posts_of lot ++ l) (sent_one lots) ∙ sym (map-append datagram_for lot (packets_of lots))

lots_read : (lots : List (List PacketView)) → AreRead (packets_of lots) → read_all (sent_by One lots) ≡ packets_of lots
lots_read lots are = ap read_all (sent_one lots) ∙ all_read (packets_of lots) are

-- ---- a world of one connection

abbrev pub engine_at : ConnView → HostView
engine_at c =
    record { address = 257; config = usual_config; listeners = []; slots = (record { generation = 0; conn = c }) ∷ [] }

abbrev pub caller_at : ConnView → List PacketView → CallerView
caller_at c out = record {
  host = engine_at c;
  to = 258;
  contact = codes "FILE";
  carriage = One;
  id = Some 1;
  since = 1;
  wait = 2000;
  out = record { packets = out; cap = TURN_ROOM };
}

abbrev pub world_at : Files → ConnView → List PacketView → List PacketView → ConnView → Serving → List PacketView → List Step
    → World Files
world_at m c out ps d serving qs steps = record {
  client = talker (caller_at c out) None;
  posts = posts_of ps;
  server = record { program = served_by m d serving; waiting = []; posts = posts_of qs };
  steps = steps;
}

-- ---- the engine's turn, without timers

abbrev end_of : Bool → TurnEnd
end_of true = end.Worked
end_of false = end.Idle

tells_so : (b : Bool) → TellsWork b (end_of b)
tells_so true = refl
tells_so false = refl

hands_so : (posts : List Addressed) (number : Option ℕ) (came : Arrival) → came ≡ handed posts number
    → Hands posts number came
hands_so posts None None is = is
hands_so posts None (Some (Ok packets)) is = is
hands_so posts None (Some (Err fault)) is = tt
hands_so posts (Some k) came is = is

-- what a turn makes of a caller, and what came in it
abbrev Takes : List Ask → ℕ → List Addressed → Option ℕ → CallerView → CallerView → Type 0
Takes asks now posts number b d =
    (t : TurnsAt (λ more. more ≡ asks) (pace.Waits true) now None None b d) × Hands posts number t.1.1.4.came

abbrev pub asks_of : List PacketView → List (List PacketView) → List Ask
asks_of out lots = turn_asks One true out lots

takes_so : (c e : ConnView) (out qs : List PacketView) (now : ℕ) (number : Option ℕ) (came : Arrival)
    (lots : List (List PacketView))
    → handed (posts_of qs) number ≡ came → client_phases [] came now (engine_at c) ≡ record { host = engine_at e; lots = lots }
    → AreRead (out ++ packets_of lots) → Takes (asks_of out lots) now (posts_of qs) number (caller_at c out) (caller_at e [])
takes_so c e out qs now number came lots is phases are =
    let made : Effect = client_phases [] came now (engine_at c) in (
      (
        refl,
        (
          [],
          (
            true,
            (λ waits. waits),
            end_of (has_work out came made.lots),
            told_at_client came now (engine_at c),
            record {
              came = came;
              host = ap (λ (x : Effect). x.host) (sym phases);
              told = refl;
              link = record {
                queue = tt;
                asks = ap (λ (x : Effect). turn_asks One true out x.lots) phases;
                read = subst (λ (ls : List (List PacketView)). read_all (sent_by One (out ∷ ls)) ≡ packets_of (out ∷ ls))
                    (ap (λ (x : Effect). x.lots) (sym phases)) (lots_read (out ∷ lots) are);
                work = tells_so (has_work out came made.lots);
              };
            },
          ),
        ),
      ),
      hands_so (posts_of qs) number came (sym is),
    )

pub engine_turns : (m : Files) (c e : ConnView) (out ps more : List PacketView) (d : ConnView) (serving : Serving)
    (qs : List PacketView) (steps : List Step) (now : ℕ) (number : Option ℕ) (came : Arrival)
    (lots : List (List PacketView)) → pace.Shows now → is_late now (caller_at c out) ≡ false
    → handed (posts_of qs) number ≡ came → client_phases [] came now (engine_at c) ≡ record { host = engine_at e; lots = lots }
    → AreRead (out ++ packets_of lots) → more ≡ ps ++ (out ++ packets_of lots)
    → Moves contents may_give count pace (world_at m c out ps d serving qs steps)
    (EngineSteps (Turns now (asks_of out lots)) number)
    (world_at m e [] more d serving qs (Turns now (asks_of out lots) ∷ steps))
engine_turns m c e out ps more d serving qs steps now number came lots shown late is phases are posted =
    let same : asked_again pace now (caller_at c out) ≡ caller_at c out = cond-false _ _ _ late in
    let both : Takes (asks_of out lots) now (posts_of qs) number (asked_again pace now (caller_at c out)) (caller_at e []) =
    subst (λ (b : CallerView). Takes (asks_of out lots) now (posts_of qs) number b (caller_at e [])) (sym same)
    (takes_so c e out qs now number came lots is phases are) in (
      (
        (shown, both.0),
        both.1,
        ap posts_of posted ∙ map-append datagram_for ps (out ++ packets_of lots)
            ∙ ap (λ (l : List Addressed). posts_of ps ++ l)
            (map-append datagram_for out (packets_of lots)
            ∙ ap (λ (l : List Addressed). posts_of out ++ l) (sym (sent_one lots))
            ∙ sym (sends_of_turn (posts_of out) true (sent_by One lots))),
      ),
      refl,
      refl,
    )

-- ---- the engine's calls

pub engine_writes : (m : Files) (c e : ConnView) (out more sent ps : List PacketView) (d : ConnView) (serving : Serving)
    (qs : List PacketView) (steps : List Step) (command : List ℕ) (now n : ℕ) → pace.Shows now
    → host_call (engine_at c) 1 (Write op_data command now)
    ≡ record { view = engine_at e; packets = sent; answer = Ok (Wrote (Ok n)) }
    → more ≡ out ++ sent
    → Moves contents may_give count pace (world_at m c out ps d serving qs steps)
    (EngineSteps (Writes (command_item command) now true) None)
    (world_at m e more ps d serving qs (Writes (command_item command) now true ∷ steps))
engine_writes m c e out more sent ps d serving qs steps command now n shown call is = (
  (
    (
      shown,
      inr (
        sym (ap (λ (a : HostActed HostReply). is_wrote a.answer) call),
        ap (caller_at e) is ∙ ap (λ (a : HostActed HostReply). after_call (caller_at c out) a) (sym call),
      ),
      refl,
    ),
    refl,
  ),
  refl,
  refl,
)

pub engine_reads : (m : Files) (c e : ConnView) (out more sent ps : List PacketView) (d : ConnView) (serving : Serving)
    (qs : List PacketView) (steps : List Step) (reply : List ℕ)
    → host_call (engine_at c) 1 Read
    ≡ record { view = engine_at e; packets = sent; answer = Ok (Gave (Item (command_item reply))) }
    → more ≡ out ++ sent
    → Moves contents may_give count pace (world_at m c out ps d serving qs steps) (EngineSteps (Reads (Some reply)) None)
    (world_at m e more ps d serving qs (Reads (Some reply) ∷ steps))
engine_reads m c e out more sent ps d serving qs steps reply call is = (
  (
    (
      inr (
        sym (ap (λ (a : HostActed HostReply). data_read a.answer) call),
        ap (caller_at e) is ∙ ap (λ (a : HostActed HostReply). after_call (caller_at c out) a) (sym call),
      ),
      refl,
    ),
    refl,
  ),
  refl,
  refl,
)

-- ---- the server's turn, without timers

pub server_moves : (m n : Files) (c : ConnView) (out ps : List PacketView) (b k : ConnView) (serving left : Serving)
    (qs more : List PacketView) (steps : List Step) (number : Option ℕ) (start now : ℕ) (came : Arrival)
    (lots : List (List PacketView)) → handed (posts_of ps) number ≡ came
    → IsTurn (change contents may_give count) Once (service_options []) came start now (served_by m b serving)
    (served_by n k left) lots
    → AreRead (packets_of lots) → more ≡ qs ++ packets_of lots
    → Moves contents may_give count pace (world_at m c out ps b serving qs steps) (ServerTurns number start now)
    (world_at n c out ps k left more steps)
server_moves m n c out ps b k serving left qs more steps number start now came lots is turn are posted = (
  record {
    carriage = One;
    lots = lots;
    turn = (
      Once,
      service_options [],
      subst
          (λ (a : Arrival). IsTurn (change contents may_give count) Once (service_options []) a start now (served_by m b serving) (served_by n k left) lots)
          (sym is) turn,
    );
    read = lots_read lots are;
    waiting = refl;
    posts = ap posts_of posted ∙ map-append datagram_for qs (packets_of lots)
        ∙ ap (λ (l : List Addressed). posts_of qs ++ l) (sym (sent_one lots));
  },
  refl,
  refl,
  refl,
)
