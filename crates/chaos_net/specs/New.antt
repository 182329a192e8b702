-- A new running net.
use Rattle.std.specs.Prelude.{None, [], replicate}
use Rattle.chaos_host.specs.View.{new_host}
use Rattle.chaos_net.specs.declared.net.HostKind.{HostKind}
use Rattle.chaos_net.specs.declared.seat.Seat.{Seat}
use Rattle.chaos_net.specs.Kept.{StationView, NetView}

-- a seat in which nobody sat yet
abbrev pub new_seat : Seat
new_seat = record { turn = 0; peer = None }

-- a new host, which has sent nothing
abbrev pub station_of : HostKind → StationView
station_of kind =
    record { host = new_host kind.address kind.conns kind.config; seats = replicate kind.conns new_seat; sent = [] }

abbrev pub new_view : HostKind → HostKind → NetView
new_view a b = record { a = station_of a; b = station_of b; events = 0 }
