-- What a service logged, turn after turn.
use Rattle.std.proofs.Common.{true, ◌≡◌, ℕ, List, length, min, refl, subst, sym}
use Rattle.std.specs.Prelude.{Option, Result}
use Rattle.chaos_conn.specs.Config.{ConfigView}
use Rattle.chaos_file.specs.Store.{StoreChange}
use Rattle.chaos_link.specs.Link.{Ask, QueueView}
use Rattle.chaos_link.specs.declared.carriage.Carriage.{Carriage}
use Rattle.chaos_link.specs.declared.report.LinkReport.{LinkReport}
use Rattle.chaos_node.specs.Link.{turn_asks}
use Rattle.chaos_node.specs.declared.end.TurnEnd.{TurnEnd}
use Rattle.chaos_node.specs.declared.fault.NodeFault.{NodeFault}
use Rattle.chaos_node.specs.declared.timer.Interval.{Interval}
use Rattle.file_server.specs.Logged.{Logged, LogsTurn}
use Rattle.file_server.specs.LoggedRun.{LoggedService, LogsBy, LogsTurnAt, new_logged, with_log}
use Rattle.file_server.specs.Serve.{mode_of}
use Rattle.file_server.specs.Service.{HaveLooked, MadeTurns, service_options}
use Rattle.file_server.specs.Waiting.{waits}
use Rattle.file_server.specs.Watch.{Event, logged_turned, watched, watched_slots}
use Rattle.file_server.specs.declared.limits.TheConstants.{SERVER_CONNS}
use Rattle.file_server.proofs.Served.{HasMade}

module _ {S : Type 0} (changes : S → S → StoreChange) (carriage : Carriage) (starts : ℕ → ℕ) where
  abbrev pub HasLogged : (List ℕ → Type 0) → (List Ask → Type 0) → ℕ → LoggedService S → LoggedService S → Type 0
  HasLogged = HasMade (LogsTurnAt changes carriage starts)

  -- a turn without its link: what the turn asked, and what was logged behind it
  pub logs_turn : {asked : List Ask → Type 0} (reported : List Ask → LinkReport → Type 0) (now start : ℕ) (by : Carriage) (entries : Option (List Event))
      (report : LinkReport) (before after : LoggedService S) (end : TurnEnd)
      → by ≡ carriage → start ≡ starts now → HaveLooked now before.station.node.host before.timers after.timers
      → LogsTurn changes (mode_of by) (service_options after.timers) reported asked (waits after.timers now true before.station.node.host) by start now before.station
      (with_log entries after.station) end
      → watched after.seen after.station.node.store.1
      ≡ watched_slots after.timers after.station.node.host after.station.node.sessions
      (min SERVER_CONNS (length after.station.node.host.slots)) (watched before.seen (logged_turned report entries))
      → (asks : List Ask) × asked asks × LogsTurnAt changes carriage starts now asks before after
  logs_turn {asked} reported now start by entries report before after end same from timed done looked =
      let wait = waits after.timers now true before.station.node.host in
      let options = service_options after.timers in
      let made : LogsTurn changes (mode_of carriage) options reported asked wait carriage (starts now) now before.station
      (with_log entries after.station) end =
      subst (λ (k : Carriage). LogsTurn changes (mode_of k) options reported asked wait k (starts now) now before.station (with_log entries after.station) end)
      same
      (subst (λ (n : ℕ). LogsTurn changes (mode_of by) options reported asked wait by n now before.station (with_log entries after.station) end)
      from done) in (
        turn_asks carriage wait before.station.outbox.packets made.lots,
        made.link.asks,
        record {
          end = end;
          logged = entries;
          report = report;
          timed = timed;
          turn = record {
            came = made.came;
            report = made.report;
            read = tt;
            lots = made.lots;
            turn = made.turn;
            link = record { queue = made.link.queue; asks = refl; read = made.link.read; work = made.link.work };
          };
          looked = looked;
        },
      )

  -- so has the run
  pub logged_by : {A : Type 0} (read : List ℕ → Type 0) (asked : List Ask → Type 0) (config : ConfigView)
      (interval : Interval) (turns address passed made : ℕ) (store : Logged S) (queue : Option QueueView)
      (last : LoggedService S) (end : Result A NodeFault)
      → HasLogged read asked made (new_logged config interval address passed store queue) last → MadeTurns end turns made
      → LogsBy changes carriage starts read asked config interval turns address passed store last.station.node.store queue
      last.station.queue end
  logged_by read asked config interval turns address passed made store queue last end
      (moments, asks, was, were, count, turned) ends =
      (moments, asks, was, were, subst (MadeTurns end turns) (sym count) ends, (last, turned, refl, refl))
