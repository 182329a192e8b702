-- A turn of a FILE server is a run of the network's events.
--
--    a turn:   what came                            each slot is served                 what has ended      ticks that no timer holds back
--    events:   Arrives, and Accept for a request    reads, and a write for a command    Close, Release      Ticks
use Rattle.std.specs.Prelude.{◌≡◌, ℕ, Bool, List, [], ◌∷◌, Option, Some, None}
use Rattle.chaos_conn.specs.Act.{Accept}
use Rattle.chaos_file.specs.Store.{StoreChange}
use Rattle.chaos_host.specs.Deeds.{HostEvent}
use Rattle.chaos_host.specs.Deeds.HostEvent.{Calls}
use Rattle.chaos_host.specs.Deliver.{host_deliver}
use Rattle.chaos_host.specs.View.{HostView}
use Rattle.chaos_lab.specs.declared.side.Side.{Side}
use Rattle.chaos_link.specs.declared.carriage.Carriage.{Carriage}
use Rattle.chaos_link.specs.Link.{Ask}
use Rattle.chaos_net.specs.Net.{Net}
use Rattle.chaos_node.specs.Station.{Station}
use Rattle.chaos_node.specs.declared.end.TurnEnd.{TurnEnd}
use Rattle.chaos_net.specs.Come.{Upon, ComeFrom, ComeFresh}
use Rattle.chaos_net.specs.MadeTurns.{Makes}
use Rattle.chaos_net.specs.Turns.{Turns, TurnsAreRuns}
use Rattle.file_server.specs.Arrive.{request_in}
use Rattle.file_server.specs.Server.{Server}
use Rattle.file_server.specs.Slots.{Options}
use Rattle.file_server.specs.Turn.{IsTurn, RunsTurn}
use Rattle.file_server.specs.declared.serve_mode.ServeMode.{ServeMode}

-- if the packet is a request for FILE, then the server accepts the request
abbrev pub accepts : ℕ → ℕ → Option ℕ → List HostEvent
accepts start now None = []
accepts start now (Some id) = Calls id (Accept start now) ∷ []

abbrev pub accepts_upon : ℕ → ℕ → Upon
accepts_upon start now p h = accepts start now (request_in p (host_deliver h p now).answer)

module _ {S : Type 0} where
  abbrev pub server_host : Server S → HostView
  server_host s = s.host

  abbrev pub server_upon : Server S → ℕ → ℕ → Upon
  server_upon s = accepts_upon

module _ {S : Type 0} (changes : S → S → StoreChange) where
  -- in whichever mode the server serves, for however long it serves a peer that acknowledges nothing, and by any timers
  abbrev pub server_turns : Turns (Server S)
  server_turns came start now s t lots =
      (mode : ServeMode) × (options : Options) × IsTurn changes mode options came start now s t lots

  -- each turn of the server
  abbrev pub ServerTurnsAreRuns : Type 0
  ServerTurnsAreRuns = TurnsAreRuns server_host server_upon server_turns

  -- The same holds for each turn that a server runs over a link with any options, as the contracts of `run_turn` and
  -- `Server::turn` describe the turn.
  abbrev pub ServerRunsAreRuns : (List Ask → Type 0) → Type 0
  ServerRunsAreRuns asked = (mode : ServeMode) (options : Options) (n : Net) (x : Side) (numbers : List ℕ) (waits : Bool)
      (carriage : Carriage) (start now : ℕ) (before after : Station (Server S)) (result : TurnEnd)
      → (n x).host ≡ before.node.host
      → (runs : RunsTurn changes mode options asked waits carriage start now before after result) → ComeFrom n x numbers runs.came
      → ComeFresh (accepts_upon start now) n x now numbers runs.came
      → Makes n x (record { host = after.node.host; lots = runs.lots })
