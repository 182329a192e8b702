-- What holds in every running net.
use Rattle.std.specs.Prelude.{◌≤◌}
use Rattle.chaos_window.specs.declared.limits.TheConstants.{MAX_WINDOW}
use Rattle.chaos_lab.specs.declared.side.Side.{Side}
use Rattle.chaos_net.specs.declared.net.Net.TheInside.{Inside}
use Rattle.chaos_net.specs.Inside.{IsEmpty, station_view, kept_at}
use Rattle.chaos_net.specs.Kept.{NetView}
use Rattle.chaos_net.specs.Running.{HasNet}

-- the fields as what contracts see
abbrev pub net_view : Inside → NetView
net_view s =
    record { a = station_view s.stations.a; b = station_view s.stations.b; events = s.desk.events }

pub record IsSound (s : Inside) : Type 0 where
  pub desk : IsEmpty s.desk
  pub windows : (x : Side) → (kept_at s.stations x).host.config.send_cap ≤ MAX_WINDOW
  pub net : HasNet (net_view s)
