-- What a field says: a side, a number, an opcode.
use Rattle.std.specs.Prelude.{ℕ, ◌+◌, ◌*◌, ◌-◌, Bool, ◌&&◌, ◌||◌, ◌==◌, nat_le, nat_lt, if◌then◌else◌, List, [], ◌∷◌, length, get_or, codes, Option, Some, None}
use Rattle.std.specs.Str.{bytes_eq}
use Rattle.chaos_lab.specs.declared.side.Side.{Side}
use Rattle.chaos_lab.specs.declared.side.Side.TheVariants.{A, B}

abbrev pub side_of : List ℕ → Option Side
side_of field = if bytes_eq field (codes "a") then Some A else (if bytes_eq field (codes "b") then Some B else None)

-- ---- decimal

abbrev pub digit_of : ℕ → Option ℕ
digit_of b = if nat_le 48 b && nat_le b 57 then Some (b - 48) else None

abbrev pub one_more : ℕ → ℕ → Option ℕ → Option ℕ
one_more most value None = None
one_more most value (Some digit) = if nat_lt most (10 * value + digit) then None else Some (10 * value + digit)

-- the number that these digits make behind those of a value, where it isn't over `most`
unfoldable pub digits_behind : ℕ → Option ℕ → List ℕ → Option ℕ
digits_behind most value [] = value
digits_behind most None (b ∷ bs) = None
digits_behind most (Some value) (b ∷ bs) = digits_behind most (one_more most value (digit_of b)) bs

-- no digit at all, or a zero in front of others
abbrev pub is_no_number : List ℕ → Bool
is_no_number field = length field == 0 || (nat_lt 1 (length field) && get_or field 0 0 == 48)

-- a decimal number without leading zeros that isn't over `most`
abbrev pub number_of : ℕ → List ℕ → Option ℕ
number_of most field = if is_no_number field then None else digits_behind most (Some 0) field

-- ---- octal

abbrev pub octal_of : ℕ → Option ℕ
octal_of b = if nat_le 48 b && nat_le b 55 then Some (b - 48) else None

abbrev pub three_octal : Option ℕ → Option ℕ → Option ℕ → Option ℕ
three_octal (Some high) (Some middle) (Some low) =
    if nat_lt 255 (64 * high + 8 * middle + low) then None else Some (64 * high + 8 * middle + low)
three_octal _ _ _ = None

-- an opcode in three octal digits, from 000 to 377
abbrev pub opcode_of : List ℕ → Option ℕ
opcode_of (high ∷ middle ∷ low ∷ []) = three_octal (octal_of high) (octal_of middle) (octal_of low)
opcode_of _ = None
