-- A turn that has begun, and what its phases do.
use Rattle.std.specs.Prelude.{◌≡◌, Bool}
use Rattle.chaos_host.specs.View.{HostView}
use Rattle.chaos_link.specs.Link.{Asks}
use Rattle.chaos_link.specs.declared.link.Link.{Ghosts}
use Rattle.chaos_node.specs.Phase.{DoesPhase, Effect}
use Rattle.chaos_node.specs.Station.{Station, station}
use Rattle.chaos_node.specs.declared.turn.Turn.{Turn}

module _ {L : Type 0} {G : Ghosts L} where
  -- the host of a turn at its link
  abbrev pub station_of : Turn L G → Station HostView
  station_of turn = station turn.host.now (G.queue turn.link.now) turn.out.now

  -- It is the same turn: of the same host, link and outbox, by the same carriage and at the same moment.
  abbrev pub IsSameTurn : Turn L G → Turn L G → Type 0
  IsSameTurn before after =
      (after.host.ghost_name ≡ before.host.ghost_name) × (after.link.ghost_name ≡ before.link.ghost_name)
      × (after.out.ghost_name ≡ before.out.ghost_name) × (after.carriage ≡ before.carriage) × (after.now ≡ before.now)

  -- A phase of the turn had this effect, and packets went out or didn't.
  abbrev pub TurnDoes : Turn L G → Turn L G → Effect → Bool → Type 0
  TurnDoes before after effect sent =
      DoesPhase (Asks (G.asked before.link.now) (G.asked after.link.now)) before.carriage effect (station_of before)
      (station_of after) sent
      × IsSameTurn before after
