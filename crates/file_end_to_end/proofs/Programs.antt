-- A program's turn.
use Rattle.std.proofs.Common.{ℕ, Bool, ◌∷◌, List, Option, Some, None, Ok, Err, refl, ap, ◌∙◌, subst}
use Rattle.chaos_packet.specs.Packet.{PacketView}
use Rattle.chaos_link.specs.declared.carriage.Carriage.{Carriage}
use Rattle.chaos_link.specs.Link.{Addressed, Ask}
use Rattle.chaos_node.specs.Arrive.{Arrival}
use Rattle.chaos_node.specs.Link.{datagrams_of, sent_by, turn_asks}
use Rattle.chaos_node.specs.Phase.{Effect}
use Rattle.chaos_node.specs.Turn.{client_phases}
use Rattle.chaos_net.specs.Queue.{IsAskedToPost}
use Rattle.chaos_net.specs.System.{Hands, handed}
use Rattle.chaos_net.proofs.Queue.{same_phases}
use Rattle.file_server.specs.Server.{Server}
use Rattle.file_server.specs.Slots.{Options}
use Rattle.file_server.specs.Turn.{IsTurn}
use Rattle.file_server.specs.declared.serve_mode.ServeMode.{ServeMode}
use Rattle.chaos_file.specs.Store.{StoreChange}
use Rattle.chaos_net.specs.Turns.{TurnsAreRuns}
use Rattle.chaos_net.proofs.ClientTurns.{client_turns_are_runs}
use Rattle.file_end_to_end.specs.Program.{Client, Serves, program_host, program_turns, program_upon, ClientTurnsAreSteps, ServerTurnsAreSteps}
use Rattle.file_end_to_end.proofs.Server.{server_turns_are_runs}

pub program_turns_are_runs : {S : Type 0} → (changes : S → S → StoreChange)
    → TurnsAreRuns program_host program_upon (program_turns changes)
program_turns_are_runs changes n x numbers came start now (Client h) (Client g) lots is from fresh turn =
    client_turns_are_runs n x numbers came start now h g lots is from fresh turn
program_turns_are_runs changes n x numbers came start now (Serves s) (Serves t) lots is from fresh turn =
    server_turns_are_runs changes n x numbers came start now s t lots is from fresh turn
program_turns_are_runs changes n x numbers came start now (Client h) (Serves t) lots is from fresh turn = absurd turn
program_turns_are_runs changes n x numbers came start now (Serves s) (Client g) lots is from fresh turn = absurd turn

-- what a turn asked of its link is what it posted
asked_to_post : {asked : List Ask → Type 0} (carriage : Carriage) (may_wait : Bool) (waiting : List PacketView)
    (lots : List (List PacketView)) → asked (turn_asks carriage may_wait waiting lots)
    → IsAskedToPost asked may_wait (sent_by carriage (waiting ∷ lots))
asked_to_post carriage may_wait waiting lots asks = record {
  first = datagrams_of carriage waiting;
  last = sent_by carriage lots;
  all = refl;
  asks = asks;
}

module _ {S : Type 0} (changes : S → S → StoreChange) (asked : List Ask → Type 0) where
  pub client_turns_are_steps : ClientTurnsAreSteps changes asked
  client_turns_are_steps timers may_wait carriage start now before after result answer posts others number runs is none =
      let lots = (client_phases timers runs.came now before.node).lots in
      let same = same_phases timers others number runs.came now before.node is in (
        record {
          carriage = carriage;
          lots = lots;
          turn = (timers, runs.host ∙ ap (λ (e : Effect). e.host) same, ap (λ (e : Effect). e.lots) same);
          read = runs.link.read;
          waiting = none;
          posts = refl;
        },
        asked_to_post carriage may_wait before.outbox.packets lots runs.link.asks,
      )

  -- a datagram that carries no packet is as none
  same_turn : (mode : ServeMode) (options : Options) (others : List Addressed) (number : Option ℕ) (came : Arrival) (start now : ℕ) (s t : Server S)
      (lots : List (List PacketView)) → Hands others number came → IsTurn changes mode options came start now s t lots
      → IsTurn changes mode options (handed others number) start now s t lots
  same_turn mode options others None None start now s t lots hands turn = turn
  same_turn mode options others None (Some (Err fault)) start now s t lots hands turn = record {
    served = turn.served;
    replies = turn.replies;
    serves = turn.serves;
    ended = turn.ended;
    out = turn.out;
  }
  same_turn mode options others None (Some (Ok packets)) start now s t lots hands turn =
      subst (λ (o : Arrival). IsTurn changes mode options o start now s t lots) hands turn
  same_turn mode options others (Some k) came start now s t lots hands turn =
      subst (λ (o : Arrival). IsTurn changes mode options o start now s t lots) hands turn

  pub server_turns_are_steps : ServerTurnsAreSteps changes asked
  server_turns_are_steps mode options waits carriage start now before after result posts others number runs is none = (
    record {
      carriage = carriage;
      lots = runs.lots;
      turn = (mode, options, same_turn mode options others number runs.came start now before.node after.node runs.lots is runs.turn);
      read = runs.link.read;
      waiting = none;
      posts = refl;
    },
    asked_to_post carriage waits before.outbox.packets runs.lots runs.link.asks,
  )
