-- A service, turn after turn.
use Rattle.std.specs.Prelude.{◌≡◌, ◌≤◌, ℕ, true, List, [], ◌∷◌, ◌++◌, length, All, codes, replicate, Option, Some, Result, Ok, Err}
use Rattle.chaos_link.specs.Link.{Ask, QueueView}
use Rattle.chaos_link.specs.declared.carriage.Carriage.{Carriage}
use Rattle.chaos_file.specs.Store.{StoreChange}
use Rattle.chaos_conn.specs.Config.{ConfigView, usual_config}
use Rattle.chaos_host.specs.Listening.{after_listen, listen_fault}
use Rattle.chaos_host.specs.View.{HostView, new_host}
use Rattle.chaos_node.specs.Station.{Station, station}
use Rattle.chaos_node.specs.declared.end.TurnEnd.{TurnEnd}
use Rattle.chaos_node.specs.declared.limits.TheConstants.{TURN_ROOM}
use Rattle.chaos_node.specs.Timer.{looked_slots, new_timer}
use Rattle.chaos_node.specs.Clock.{BeginsBy, IsMoment, number_of}
use Rattle.chaos_node.specs.declared.clock.Epoch.{Epoch}
use Rattle.chaos_node.specs.declared.fault.NodeFault.{NodeFault}
use Rattle.chaos_node.specs.declared.timer.Interval.{Interval}
use Rattle.chaos_node.specs.declared.timer.RetransmitTimer.{RetransmitTimer}
use Rattle.chaos_node.specs.Passing.{after_passing}
use Rattle.file_server.specs.Serve.{mode_of}
use Rattle.file_server.specs.Server.{Server, server}
use Rattle.file_server.specs.Sessions.{new_serving}
use Rattle.file_server.specs.Slots.{Options}
use Rattle.file_server.specs.Turn.{RunsTurn}
use Rattle.file_server.specs.Waiting.{waits}
use Rattle.file_server.specs.declared.limits.TheConstants.{SERVER_CONNS, SILENT_MILLIS}
use Rattle.file_server.specs.declared.server.Server.{Server as FileServer}

-- a host that listens to FILE, whose connections have this configuration
abbrev pub listening_host : ConfigView → ℕ → HostView
listening_host config address =
    after_listen (listen_fault [] (codes "FILE")) (new_host address SERVER_CONNS config) (codes "FILE")

-- such a host, each of whose slots has used up so many indices
abbrev pub host_after : ℕ → ConfigView → ℕ → HostView
host_after passed config address = after_passing address passed (listening_host config address)

-- A run that ended well made all its turns; a run that a fault ended made at most so many.
abbrev pub MadeTurns : {A : Type 0} → Result A NodeFault → ℕ → ℕ → Type 0
MadeTurns (Ok end) turns made = made ≡ turns
MadeTurns (Err fault) turns made = made ≤ turns

-- what a turn of a service has: `SILENT_MILLIS`, and these timers
abbrev pub service_options : List RetransmitTimer → Options
service_options timers = record { silence = Some SILENT_MILLIS; timers = timers }

-- the timers of a service that has made no turn yet
abbrev pub new_timers : Interval → List RetransmitTimer
new_timers interval = replicate SERVER_CONNS (new_timer interval)

-- a service at its link, with the timers of its host's slots
pub record TimedService (S : Type 0) : Type 0 where
  pub station : Station (Server S)
  pub timers : List RetransmitTimer

module _ {S : Type 0} where
  -- a server with its store, at its link
  abbrev pub service_of : FileServer → S → Option QueueView → Station (Server S)
  service_of s store queue = station (server s.node.host s.sessions store) queue s.node.out

  -- one that has made no turn yet, and has passed over so many indices of each slot
  abbrev pub new_service : ConfigView → ℕ → ℕ → S → Option QueueView → Station (Server S)
  new_service config address passed store queue =
      station (server (host_after passed config address) (replicate SERVER_CONNS new_serving) store) queue
      (record { packets = []; cap = TURN_ROOM })

  -- the same with timers that go by this interval
  abbrev pub new_timed : ConfigView → Interval → ℕ → ℕ → S → Option QueueView → TimedService S
  new_timed config interval address passed store queue =
      record { station = new_service config address passed store queue; timers = new_timers interval }

-- At this moment each timer looked at the connection in its slot of a host. So the timers became these.
abbrev pub HaveLooked : ℕ → HostView → List RetransmitTimer → List RetransmitTimer → Type 0
HaveLooked now h timers timers' = timers' ≡ looked_slots now h (length h.slots) timers

-- One turn at each of these moments, one after another, in which the link was asked just this.
module _ {X : Type 0} (turn : ℕ → List Ask → X → X → Type 0) where
  abbrev pub MakesTurns : List ℕ → List Ask → X → X → Type 0
  MakesTurns [] asks first last = (asks ≡ []) × (last ≡ first)
  MakesTurns (now ∷ moments) asks first last = (between : X) × (front behind : List Ask) × (asks ≡ front ++ behind)
      × turn now front first between × MakesTurns moments behind between last

module _ {S : Type 0} (changes : S → S → StoreChange) (carriage : Carriage) where
  -- One turn, at this moment, in which the link was asked just this. The turn waits for a datagram exactly where nothing
  -- in front can be served and no tick sends kept items again. It closes a connection whose peer acknowledged nothing for `SILENT_MILLIS`. A connection of this
  -- turn begins with the number of the moment. First each timer looked at the connection in its slot. The turn is by the
  -- timers as they are then.
  pub record ServesTurn (starts : ℕ → ℕ) (now : ℕ) (asks : List Ask) (before after : TimedService S) : Type 0
    where
      pub end : TurnEnd
      pub timed : HaveLooked now before.station.node.host before.timers after.timers
      pub turn : RunsTurn changes (mode_of carriage) (service_options after.timers) (λ asked. asked ≡ asks)
          (waits after.timers now true before.station.node.host) carriage (starts now) now before.station after.station end

  -- One turn at each of these moments, one after another, in which the link was asked just this.
  abbrev pub ServesTurns : (ℕ → ℕ) → List ℕ → List Ask → TimedService S → TimedService S → Type 0
  ServesTurns starts = MakesTurns (ServesTurn starts)

  -- A new service of this configuration and address, which passed over so many indices of each slot, made these turns on a
  -- store and over a link. Its timers go by this interval.
  abbrev pub ServesAt : (ℕ → ℕ) → List ℕ → List Ask → ConfigView → Interval → ℕ → ℕ → S → S → Option QueueView
      → Option QueueView → Type 0
  ServesAt starts moments asks config interval address passed store store' queue queue' = (last : TimedService S)
      × ServesTurns starts moments asks (new_timed config interval address passed store queue) last
      × (last.station.node.store ≡ store') × (last.station.queue ≡ queue')

  -- However the run ended, as many turns were made as moments were read since it began: each turn at the moment that was
  -- read for it, in the order in which they were read. The link was asked what these turns asked, and nothing else.
  abbrev pub ServesBy : {A : Type 0} → (List ℕ → Type 0) → (List Ask → Type 0) → (ℕ → ℕ) → ConfigView → Interval → ℕ → ℕ → ℕ
      → S → S → Option QueueView → Option QueueView → Result A NodeFault → Type 0
  ServesBy read asked starts config interval turns address passed store store' queue queue' end = (moments : List ℕ)
      × (asks : List Ask) × read moments × asked asks × MadeTurns end turns (length moments)
      × ServesAt starts moments asks config interval address passed store store' queue queue'

  -- So many turns of a service of the usual configuration that passed over no index, each at a moment of this clock. Its
  -- timers go by this interval.
  abbrev pub Serves : (List Ask → Type 0) → (ℕ → Type 0) → (ℕ → Type 0) → Interval → ℕ → ℕ → S → S → Option QueueView
      → Option QueueView → Type 0
  Serves asked Shows Dates interval turns address store store' queue queue' = (epoch : Epoch) × (moments : List ℕ)
      × (asks : List Ask) × BeginsBy Shows Dates epoch × All (IsMoment Shows epoch) moments × asked asks
      × (length moments ≡ turns)
      × ServesAt (number_of epoch) moments asks usual_config interval address 0 store store' queue queue'
