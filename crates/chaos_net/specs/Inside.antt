-- The parts of a running net as what contracts see.
use Rattle.std.specs.Prelude.{◌≡◌, ℕ, ◌+◌, ◌-◌, ◌^◌, ◌≤◌, ◌⊎◌, [], ◌++◌, map, Option, Result, OnOk, OnErr, IfErr, vec_len, vec_capacity}
use Rattle.std.specs.Global.{Vec}
use Rattle.chaos_window.specs.declared.limits.TheConstants.{MAX_WINDOW}
use Rattle.chaos_lab.specs.declared.side.Side.{Side}
use Rattle.chaos_lab.specs.declared.side.Side.TheVariants.{A, B}
use Rattle.chaos_net.specs.declared.kept_sent.KeptSent.{KeptSent}
use Rattle.chaos_net.specs.declared.desk.Desk.{Desk}
use Rattle.chaos_net.specs.declared.fault.NetFault.{NetFault}
use Rattle.chaos_net.specs.declared.fault.NetFault.TheVariants.{NoMemory, Worn}
use Rattle.chaos_net.specs.declared.mark.Mark.{Mark}
use Rattle.chaos_net.specs.declared.station.KeptStation.{KeptStation}
use Rattle.chaos_net.specs.declared.stations.Stations.{Stations}
use Rattle.chaos_net.specs.Kept.{StationView, before, after, alter, seat_in, kept_by}

-- the outbox is empty, and has room for a window
pub record IsEmpty (desk : Desk) : Type 0 where
  pub empty : desk.out.packets ≡ []
  pub room : MAX_WINDOW ≤ desk.out.cap

-- the list has places for all that one event may send, and there is a spare room for the data of each
pub record HasSpace (sent : Vec KeptSent) (desk : Desk) : Type 0 where
  pub places : vec_len sent + MAX_WINDOW ≤ vec_capacity sent
  pub spares : MAX_WINDOW ≤ vec_len desk.spares

abbrev pub station_view : KeptStation → StationView
station_view s = record { host = s.host; seats = s.seats.items; sent = s.sent.items }

-- the station at a side
abbrev pub kept_at : Stations → Side → KeptStation
kept_at s A = s.a
kept_at s B = s.b

-- both, with another station at this side
abbrev pub with_kept : Stations → Side → KeptStation → Stations
with_kept s A station = record s { a = station }
with_kept s B station = record s { b = station }

-- why nothing happens: there is no memory, or there were as many events as a net counts
abbrev pub IsWant : ℕ → NetFault → Type 0
IsWant events why = (why ≡ NoMemory) ⊎ ((why ≡ Worn) × (events ≡ 2 ^ 64 - 1))

-- There is room for all that one event may send, and the event is counted. Or there was no memory, or there were as many
-- events as a net counts; nothing is counted then.
pub record IsReady (old new : Desk) (sent_old sent_new : Vec KeptSent) (r : Result (Unit {0}) NetFault) : Type 0 where
  pub out : new.out ≡ old.out
  pub sent : sent_new.items ≡ sent_old.items
  pub space : OnOk r (HasSpace sent_new new)
  pub counted : OnOk r (new.events ≡ old.events + 1)
  pub same : OnErr r (new.events ≡ old.events)
  pub why : IfErr r (IsWant old.events)

-- A station took what its host put out into what was sent, by the connection in the slot at a place or by the host itself,
-- and noted what became of that slot.
pub record Settles (old new : KeptStation) (desk left : Desk) (place : Option ℕ) (mark : Mark) : Type 0 where
  pub host : new.host ≡ old.host
  pub seats : new.seats.items ≡ alter (after mark) (alter (before mark) old.seats.items place) place
  pub sent : new.sent.items
      ≡ old.sent.items
      ++ map (kept_by (seat_in (alter (before mark) old.seats.items place) place) desk.events) desk.out.packets
  pub out : left.out ≡ record desk.out { packets = [] }
  pub events : left.events ≡ desk.events
