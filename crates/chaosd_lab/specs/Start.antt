-- The first line, which says what both ends are.
use Rattle.std.specs.Prelude.{ℕ, List, codes, Option, Some, None, option_map, Result, Ok, Err, if◌then◌else◌}
use Rattle.std.specs.Str.{bytes_eq}
use Rattle.chaos_conn.specs.declared.fault.ConfigFault.{ConfigFault}
use Rattle.chaos_conn.specs.Config.{ConfigView, config_view, checked_config}
use Rattle.chaos_lab.specs.Laboratory.{LabView, lab_start}
use Rattle.chaosd_lab.specs.declared.start.Start.{Start}
use Rattle.chaosd_lab.specs.declared.start.Caps.{Caps}
use Rattle.chaosd_lab.specs.Fields.{cut}
use Rattle.chaosd_lab.specs.Numbers.{number_of}
use Rattle.chaosd_lab.specs.Event.{greatest_number}

abbrev pub cap_parts : Option (List ℕ × List ℕ) → Option (ℕ × List ℕ)
cap_parts None = None
cap_parts (Some p) = option_map (λ cap. (cap, p.1)) (number_of greatest_number p.0)

-- a cap, and what stands behind it
abbrev pub cap_of : List ℕ → Option (ℕ × List ℕ)
cap_of rest = cap_parts (cut rest)

abbrev pub with_recv : ℕ → Option (ℕ × List ℕ) → Option (Caps × List ℕ)
with_recv send None = None
with_recv send (Some recv) = Some (record { send = send; recv = recv.0 }, recv.1)

abbrev pub with_send : Option (ℕ × List ℕ) → Option (Caps × List ℕ)
with_send None = None
with_send (Some send) = with_recv send.0 (cap_of send.1)

-- the two caps of an end, and what stands behind them
abbrev pub caps_of : List ℕ → Option (Caps × List ℕ)
caps_of rest = with_send (cap_of rest)

abbrev pub if_good : Result ConfigView ConfigFault → Option ConfigView
if_good (Ok config) = Some config
if_good (Err fault) = None

-- an end of these caps, each from 1 to 64, and the usual times
abbrev pub config_of : Caps → Option ConfigView
config_of caps = if_good (checked_config (config_view caps.send caps.recv 500 10000 90000))

-- two ends and a first number
abbrev pub start_parts : Option ConfigView → Option ConfigView → Option ℕ → Option Start
start_parts (Some a) (Some b) (Some start) = Some (record { a = a; b = b; start = start })
start_parts _ _ _ = None

abbrev pub with_b : Caps → Option (Caps × List ℕ) → Option Start
with_b a None = None
with_b a (Some b) = start_parts (config_of a) (config_of b.0) (number_of greatest_number b.1)

abbrev pub with_a : Option (Caps × List ℕ) → Option Start
with_a None = None
with_a (Some a) = with_b a.0 (caps_of a.1)

-- `SA RA SB RB N`
abbrev pub ends_of : List ℕ → Option Start
ends_of rest = with_a (caps_of rest)

abbrev pub first_parts : Option (List ℕ × List ℕ) → Option Start
first_parts None = None
first_parts (Some p) = if bytes_eq p.0 (codes "ends") then ends_of p.1 else None

-- what the line `ends SA RA SB RB N` says, where it is of that form
unfoldable pub start_of : List ℕ → Option Start
start_of line = first_parts (cut line)

-- the laboratory of such a start
abbrev pub start_said : Start → LabView
start_said s = lab_start s.a s.b s.start

-- the laboratory of that line
abbrev pub first_of : List ℕ → Option LabView
first_of line = option_map start_said (start_of line)
