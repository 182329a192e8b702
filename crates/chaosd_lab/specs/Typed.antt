-- The line of a script that asks for an event.
use Rattle.std.specs.Prelude.{ℕ, List, ◌∷◌, ◌++◌, codes}
use Rattle.chaos_lab.specs.declared.side.Side.{Side}
use Rattle.chaos_lab.specs.Laboratory.{Happening}
use Rattle.chaos_lab.specs.Laboratory.Happening.{WriteBy, ReadBy, AnnounceBy, TickOf, CloseBy, AcceptFrom, DeliverCopy}
use Rattle.chaosd_io.specs.Texts.{line, octal_three}
use Rattle.chaosd_lab.specs.Names.{side_name}
use Rattle.chaosd_lab.specs.Answers.{named_line, numbered_line, spaced_text}

-- words, a side and a number
unfoldable pub sided_line : List ℕ → Side → ℕ → List ℕ
sided_line words side n = words ++ 32 ∷ numbered_line (side_name side) n

-- words, a side and an item
unfoldable pub write_line : Side → ℕ → List ℕ → List ℕ
write_line side op bytes = line (codes "write " ++ side_name side ++ 32 ∷ octal_three op ++ spaced_text bytes)

unfoldable pub close_line : Side → List ℕ → List ℕ
close_line side text = line (codes "close " ++ side_name side ++ spaced_text text)

abbrev pub event_line : Happening → List ℕ
event_line (WriteBy side op bytes) = write_line side op bytes
event_line (ReadBy side) = named_line (codes "read") (side_name side)
event_line (AnnounceBy side window) = sided_line (codes "window") side window
event_line (TickOf side now) = sided_line (codes "tick") side now
event_line (CloseBy side text) = close_line side text
event_line (AcceptFrom start) = numbered_line (codes "accept") start
event_line (DeliverCopy copy) = numbered_line (codes "deliver") copy
