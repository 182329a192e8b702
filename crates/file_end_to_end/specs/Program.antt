-- A program at either end: a client or a server of FILE.
--
--    Client host     delivers what came, ticks each slot whose timer doesn't hold the tick back
--    Serves server   delivers what came and accepts requests for FILE, serves each slot once or in a burst, frees what has ended, ticks as a client does
use Rattle.std.specs.Prelude.{◌≡◌, ℕ, Bool, List, [], ◌∷◌, ◌++◌, Option}
use Rattle.chaos_file.specs.Store.{StoreChange}
use Rattle.chaos_host.specs.View.{HostView}
use Rattle.chaos_net.specs.Come.{Upon, nothing_upon}
use Rattle.chaos_net.specs.Turns.{Turns, client_turns}
use Rattle.chaos_host.specs.declared.answers.HostDelivered.{HostDelivered}
use Rattle.chaos_link.specs.declared.carriage.Carriage.{Carriage}
use Rattle.chaos_link.specs.Link.{Addressed, Ask}
use Rattle.chaos_net.specs.Queue.{IsAskedToPost}
use Rattle.chaos_net.specs.System.{Hands, Seat, TakesTurn, handed}
use Rattle.chaos_node.specs.Link.{sent_by}
use Rattle.chaos_node.specs.Station.{Station}
use Rattle.chaos_node.specs.Turn.{RunsClientTurn, client_phases}
use Rattle.chaos_node.specs.declared.end.TurnEnd.{TurnEnd}
use Rattle.chaos_node.specs.declared.timer.RetransmitTimer.{RetransmitTimer}
use Rattle.file_server.specs.Server.{Server}
use Rattle.file_server.specs.Slots.{Options}
use Rattle.file_server.specs.Turn.{RunsTurn}
use Rattle.file_server.specs.declared.serve_mode.ServeMode.{ServeMode}
use Rattle.file_end_to_end.specs.Turns.{accepts_upon, server_turns}

pub data Program (S : Type 0) : Type 0 where
  Client : (host : HostView) → Program S
  Serves : (server : Server S) → Program S

module _ {S : Type 0} where
  abbrev pub program_host : Program S → HostView
  program_host (Client h) = h
  program_host (Serves s) = s.host

  abbrev pub program_upon : Program S → ℕ → ℕ → Upon
  program_upon (Client h) start now = nothing_upon
  program_upon (Serves s) start now = accepts_upon start now

-- the turns of a client, or the turns of a server; a client stays a client, and a server stays a server
abbrev pub program_turns : {S : Type 0} → (S → S → StoreChange) → Turns (Program S)
program_turns changes came start now (Client h) (Client g) lots = client_turns came start now h g lots
program_turns changes came start now (Serves s) (Serves t) lots = server_turns changes came start now s t lots
program_turns changes came start now _ _ lots = ⊥

-- ---- turns over links, by the contracts of the programs

-- a program at its link, after the program posted these datagrams
abbrev pub seat_at : {S N : Type 0} → (N → Program S) → Station N → List Addressed → Seat (Program S)
seat_at of st posts = record { program = of st.node; waiting = st.outbox.packets; posts = posts }

module _ {S : Type 0} (changes : S → S → StoreChange) (asked : List Ask → Type 0) where
  -- Each turn that a client runs over any link with any timers, as the contract of `client_turn` or `timed_client_turn`
  -- describes the turn, is a step of a system. The premises: a datagram of the other program came, or a datagram without a
  -- packet, or nothing; and the turn leaves an empty outbox. What the step posts is what the link was asked to send.
  abbrev pub ClientTurnsAreSteps : Type 0
  ClientTurnsAreSteps = (timers : List RetransmitTimer) (may_wait : Bool) (carriage : Carriage) (start now : ℕ)
      (before after : Station HostView) (result : TurnEnd) (answer : Option HostDelivered) (posts others : List Addressed)
      (number : Option ℕ) → (runs : RunsClientTurn timers asked may_wait carriage now before after result answer)
      → Hands others number runs.came → after.outbox.packets ≡ []
      → TakesTurn program_host (program_turns changes) (handed others number) start now (seat_at Client before posts)
      (seat_at Client after
      (posts ++ sent_by carriage (before.outbox.packets ∷ (client_phases timers runs.came now before.node).lots)))
      × IsAskedToPost asked may_wait
      (sent_by carriage (before.outbox.packets ∷ (client_phases timers runs.came now before.node).lots))

  -- Each turn that a server runs with any options is also a step.
  abbrev pub ServerTurnsAreSteps : Type 0
  ServerTurnsAreSteps = (mode : ServeMode) (options : Options) (waits : Bool) (carriage : Carriage) (start now : ℕ)
      (before after : Station (Server S)) (result : TurnEnd) (posts others : List Addressed) (number : Option ℕ)
      → (runs : RunsTurn changes mode options asked waits carriage start now before after result) → Hands others number runs.came
      → after.outbox.packets ≡ []
      → TakesTurn program_host (program_turns changes) (handed others number) start now (seat_at Serves before posts)
      (seat_at Serves after (posts ++ sent_by carriage (before.outbox.packets ∷ runs.lots)))
      × IsAskedToPost asked waits (sent_by carriage (before.outbox.packets ∷ runs.lots))
