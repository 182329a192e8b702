-- The bytes that a line of hexadecimal digits stands for.
use Rattle.std.specs.Prelude.{ℕ, ◌+◌, ◌*◌, ◌-◌, Bool, ◌||◌, ◌&&◌, List, [], ◌∷◌, Option, Some, None, nat_le, ◌==◌, if◌then◌else◌}

-- a space or a tab
abbrev pub is_blank : ℕ → Bool
is_blank b = b == 32 || b == 9

-- the value of a hexadecimal digit of either case
abbrev pub hex_value : ℕ → Option ℕ
hex_value b = if nat_le 48 b && nat_le b 57 then Some (b - 48)
    else (if nat_le 65 b && nat_le b 70 then Some (b - 55)
    else (if nat_le 97 b && nat_le b 102 then Some (b - 87) else None))

-- the byte of two digits, in front of the bytes after it
abbrev pub with_pair : Option ℕ → Option ℕ → Option (List ℕ) → Option (List ℕ)
with_pair (Some high) (Some low) (Some bytes) = Some ((16 * high + low) ∷ bytes)
with_pair _ _ _ = None

-- pairs of digits, with blanks between the pairs and at both ends
unfoldable pub hex_bytes : List ℕ → Option (List ℕ)
hex_bytes [] = Some []
hex_bytes (a ∷ []) = if is_blank a then Some [] else None
hex_bytes (a ∷ b ∷ bs) = if is_blank a then hex_bytes (b ∷ bs) else with_pair (hex_value a) (hex_value b) (hex_bytes bs)
