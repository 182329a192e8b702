-- Numbers as texts write them: each form is a function from a text to the number that the text stands for.
use Rattle.std.specs.Prelude.{◌==◌, ◌&&◌, ℕ, Bool, length, nat_le, nat_lt, slice_index, Option, None, Some, if◌then◌else◌}
use Rattle.std.specs.Char.{is_digit}
use Rattle.std.specs.List.{list_all}
use Rattle.std.specs.Str.Parse.{digits_value}
use Rattle.chaosd_hosts.specs.Text.{Text}

-- digits in the radix, at least one
abbrev pub is_numeral : ℕ → Text → Bool
is_numeral radix text = nat_lt 0 (length text) && list_all (λ c. is_digit c radix) text

-- the number that digits in the radix write, within these bounds
unfoldable pub number_of : ℕ → ℕ → ℕ → Text → Option ℕ
number_of radix least most text = let n = digits_value radix text in
    if is_numeral radix text && (nat_le least n && nat_le n most) then Some n else None

-- a number is written with a zero (48) too many in front
abbrev pub is_padded : Text → Bool
is_padded text = nat_lt 1 (length text) && (slice_index text 0 == 48)
