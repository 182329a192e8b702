-- What a borrow of a station leaves behind.
use Rattle.std.specs.Borrow.{Lends, MutBor, Fml}
use Rattle.chaos_lab.specs.declared.side.Side.{Side}
use Rattle.chaos_net.specs.declared.station.KeptStation.{KeptStation}
use Rattle.chaos_net.specs.declared.stations.Stations.{Stations}
use Rattle.chaos_net.specs.contracts.station.KeptStation.{the_row as station_row}
use Rattle.chaos_net.specs.contracts.stations.Stations.{the_row}
use Rattle.chaos_net.specs.Inside.{with_kept}

-- the station at a side has the last value written through r, and the other is as it was
abbrev pub LendsStation : MutBor Stations → Side → MutBor KeptStation → Fml
LendsStation stations x r = Lends the_row station_row stations r (with_kept stations.now x)
