-- What a service logs, turn after turn.
use Rattle.std.specs.Prelude.{◌≡◌, ℕ, true, List, length, min, replicate, Option, None, Result}
use Rattle.chaos_link.specs.Link.{Ask, QueueView}
use Rattle.chaos_link.specs.declared.carriage.Carriage.{Carriage}
use Rattle.chaos_link.specs.declared.report.LinkReport.{LinkReport}
use Rattle.chaos_file.specs.Store.{StoreChange}
use Rattle.chaos_conn.specs.Config.{ConfigView}
use Rattle.chaos_node.specs.Station.{Station}
use Rattle.chaos_node.specs.declared.end.TurnEnd.{TurnEnd}
use Rattle.chaos_node.specs.declared.fault.NodeFault.{NodeFault}
use Rattle.chaos_node.specs.declared.timer.Interval.{Interval}
use Rattle.chaos_node.specs.declared.timer.RetransmitTimer.{RetransmitTimer}
use Rattle.file_server.specs.Logged.{Logged, LogsTurn}
use Rattle.file_server.specs.Serve.{mode_of}
use Rattle.file_server.specs.Server.{Server}
use Rattle.file_server.specs.Service.{HaveLooked, MadeTurns, MakesTurns, new_service, new_timers, service_options}
use Rattle.file_server.specs.Waiting.{waits}
use Rattle.file_server.specs.Watch.{Event, logged_turned, watched, watched_slots}
use Rattle.file_server.specs.declared.limits.TheConstants.{SERVER_CONNS}
use Rattle.file_server.specs.declared.watch.Seen.{Seen}

-- a service with what it logged, the timers of its host's slots, and what was seen in each slot behind its last turn
pub record LoggedService (S : Type 0) : Type 0 where
  pub station : Station (Server (Logged S))
  pub timers : List RetransmitTimer
  pub seen : List (Option Seen)

module _ {S : Type 0} where
  -- the same with this log
  abbrev pub with_log : Option (List Event) → Station (Server (Logged S)) → Station (Server (Logged S))
  with_log logged station = record station { node = record station.node { store = (station.node.store.0, logged) } }

  -- One that has made no turn yet, and has passed over so many indices of each slot. Its timers go by this interval.
  abbrev pub new_logged : ConfigView → Interval → ℕ → ℕ → Logged S → Option QueueView → LoggedService S
  new_logged config interval address passed store queue = record {
    station = new_service config address passed store queue;
    timers = new_timers interval;
    seen = replicate SERVER_CONNS None;
  }

module _ {S : Type 0} (changes : S → S → StoreChange) (carriage : Carriage) (starts : ℕ → ℕ) where
  -- One turn of a service, at this moment, in which the link was asked just this. First each timer looked at the connection
  -- in its slot, and the turn is by the timers as they are then. The turn logged whose datagram came and what its commands
  -- changed. Then the fault was logged that the link reported, if any. At last each slot was looked at, and the connections
  -- were logged that opened or ended since the look before.
  pub record LogsTurnAt (now : ℕ) (asks : List Ask) (before after : LoggedService S) : Type 0 where
    pub end : TurnEnd
    -- what the log had behind the turn, and the report of the link then
    pub logged : Option (List Event)
    pub report : LinkReport
    pub timed : HaveLooked now before.station.node.host before.timers after.timers
    pub turn : LogsTurn changes (mode_of carriage) (service_options after.timers) (λ asked read. Unit {0})
        (λ asked. asked ≡ asks) (waits after.timers now true before.station.node.host) carriage (starts now) now before.station
        (with_log logged after.station) end
    pub looked : watched after.seen after.station.node.store.1
        ≡ watched_slots after.timers after.station.node.host after.station.node.sessions
        (min SERVER_CONNS (length after.station.node.host.slots)) (watched before.seen (logged_turned report logged))

  -- However the run ended, as many turns were made and logged as moments were read since it began: each turn at the moment
  -- that was read for it, in the order in which they were read. Nothing else was logged.
  abbrev pub LogsBy : {A : Type 0} → (List ℕ → Type 0) → (List Ask → Type 0) → ConfigView → Interval → ℕ → ℕ → ℕ → Logged S
      → Logged S → Option QueueView → Option QueueView → Result A NodeFault → Type 0
  LogsBy read asked config interval turns address passed store store' queue queue' end = (moments : List ℕ) × (asks : List Ask)
      × read moments × asked asks × MadeTurns end turns (length moments)
      × ((last : LoggedService S) × MakesTurns LogsTurnAt moments asks (new_logged config interval address passed store queue) last
      × (last.station.node.store ≡ store') × (last.station.queue ≡ queue'))
