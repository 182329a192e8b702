-- Why a text stands for no bytes of a packet.
use Rattle.std.specs.Prelude.{ℕ, ◌+◌, Bool, ◌||◌, List, length, Option, Some, None, position, nat_lt, if◌then◌else◌}
use Rattle.chaosd_io.specs.declared.bad_text.BadText.{BadText}
use Rattle.chaosd_io.specs.declared.bad_text.BadText.TheVariants.{TooLong, NotPrinting, NoDigits, TooMany}
use Rattle.chaosd_io.specs.declared.limits.TheConstants.{LINE_LIMIT}
use Rattle.chaosd_io.specs.Escapes.{bytes_of}

-- no printable character of ASCII
abbrev pub is_unprinting : ℕ → Bool
is_unprinting b = nat_lt b 32 || nat_lt 126 b

-- a `\` lacks its digits; or there are more bytes than a packet has
abbrev pub bad_escapes : Option (List ℕ) → BadText
bad_escapes None = NoDigits
bad_escapes (Some bytes) = TooMany

-- the place of the first byte that isn't printable is counted in the line, from 1
abbrev pub bad_bytes : ℕ → List ℕ → Option ℕ → BadText
bad_bytes front text (Some place) = NotPrinting (front + place + 1)
bad_bytes front text None = bad_escapes (bytes_of text)

-- what is wrong with a text that stands for no bytes of a packet, behind so many bytes of its line: the first that holds
unfoldable pub why_text : ℕ → List ℕ → BadText
why_text front text =
    if nat_lt LINE_LIMIT (length text) then TooLong else bad_bytes front text (position is_unprinting text)
