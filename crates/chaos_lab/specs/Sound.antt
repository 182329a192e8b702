-- What holds in every rig.
use Rattle.std.specs.Prelude.{◌≡◌, ◌≤◌, []}
use Rattle.chaos_window.specs.declared.limits.TheConstants.{MAX_WINDOW}
use Rattle.chaos_lab.specs.declared.rig.Rig.TheInside.{Inside}
use Rattle.chaos_lab.specs.Laboratory.{LabView}
use Rattle.chaos_lab.specs.Inside.{end_view}

-- the fields as what contracts see
abbrev pub lab_view : Inside → LabView
lab_view s =
    record { a = end_view s.ends.a; b = end_view s.ends.b; copies = s.copies.list.items; asked = s.asked; clock = s.clock }

pub record IsSound (s : Inside) : Type 0 where
  pub empty : s.out.packets ≡ []
  pub cap : MAX_WINDOW ≤ s.out.cap
  pub window_a : s.ends.a.conn.config.send_cap ≤ MAX_WINDOW
  pub window_b : s.ends.b.conn.config.send_cap ≤ MAX_WINDOW
