-- The event that a line asks for.
use Rattle.std.specs.Prelude.{ℕ, List, codes, Option, Some, None, option_map, if◌then◌else◌}
use Rattle.std.specs.Str.{bytes_eq}
use Rattle.chaos_lab.specs.declared.side.Side.{Side}
use Rattle.chaos_lab.specs.Laboratory.{Happening}
use Rattle.chaos_lab.specs.Laboratory.Happening.{WriteBy, ReadBy, AnnounceBy, TickOf, CloseBy, AcceptFrom, DeliverCopy}
use Rattle.chaosd_lab.specs.Fields.{cut, field_and_text}
use Rattle.chaosd_lab.specs.Numbers.{side_of, number_of, opcode_of}
use Rattle.chaosd_io.specs.Escapes.{data_of}

-- numbers of 64 bits, and of 16
abbrev pub greatest_moment : ℕ
greatest_moment = 18446744073709551615

abbrev pub greatest_number : ℕ
greatest_number = 65535

-- what two parts make, where both are there
abbrev pub from_both : {X Y Z : Type 0} → (X → Y → Z) → Option X → Option Y → Option Z
from_both f (Some x) (Some y) = Some (f x y)
from_both f _ _ = None

abbrev pub write_at : Side → List ℕ → Option Happening
write_at side rest = from_both (WriteBy side) (opcode_of (field_and_text rest).0) (data_of (field_and_text rest).1)

abbrev pub write_by : Option Side → List ℕ → Option Happening
write_by None rest = None
write_by (Some side) rest = write_at side rest

abbrev pub write_parts : Option (List ℕ × List ℕ) → Option Happening
write_parts None = None
write_parts (Some p) = write_by (side_of p.0) p.1

-- `S OOO TEXT`, or without the text and the space before it
abbrev pub write_of : List ℕ → Option Happening
write_of rest = write_parts (cut rest)

-- `S`
abbrev pub read_of : List ℕ → Option Happening
read_of rest = option_map ReadBy (side_of rest)

abbrev pub window_parts : Option (List ℕ × List ℕ) → Option Happening
window_parts None = None
window_parts (Some p) = from_both AnnounceBy (side_of p.0) (number_of greatest_number p.1)

-- `S N`, the window
abbrev pub window_of : List ℕ → Option Happening
window_of rest = window_parts (cut rest)

abbrev pub tick_parts : Option (List ℕ × List ℕ) → Option Happening
tick_parts None = None
tick_parts (Some p) = from_both TickOf (side_of p.0) (number_of greatest_moment p.1)

-- `S N`
abbrev pub tick_of : List ℕ → Option Happening
tick_of rest = tick_parts (cut rest)

-- `S TEXT`, or without the text and the space before it
abbrev pub close_of : List ℕ → Option Happening
close_of rest = from_both CloseBy (side_of (field_and_text rest).0) (data_of (field_and_text rest).1)

-- `N`
abbrev pub accept_of : List ℕ → Option Happening
accept_of rest = option_map AcceptFrom (number_of greatest_number rest)

-- `K`
abbrev pub deliver_of : List ℕ → Option Happening
deliver_of rest = option_map DeliverCopy (number_of greatest_moment rest)

abbrev pub event_by : List ℕ → List ℕ → Option Happening
event_by word rest =
    if bytes_eq word (codes "write") then write_of rest
    else (if bytes_eq word (codes "read") then read_of rest
    else (if bytes_eq word (codes "window") then window_of rest
    else (if bytes_eq word (codes "tick") then tick_of rest
    else (if bytes_eq word (codes "close") then close_of rest
    else (if bytes_eq word (codes "accept") then accept_of rest
    else (if bytes_eq word (codes "deliver") then deliver_of rest else None))))))

abbrev pub event_parts : Option (List ℕ × List ℕ) → Option Happening
event_parts None = None
event_parts (Some p) = event_by p.0 p.1

-- the event that a line asks for, where it is of the form of one
unfoldable pub event_of : List ℕ → Option Happening
event_of line = event_parts (cut line)
