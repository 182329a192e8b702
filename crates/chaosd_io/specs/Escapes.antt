-- Bytes, written as text.
use Rattle.std.specs.Prelude.{◌≡◌, ◌<◌, ◌≤◌, All, not, drop, ◌++◌, ℕ, ◌+◌, ◌*◌, ◌-◌, ◌/◌, ◌%◌, Bool, ◌&&◌, ◌||◌, ◌==◌, nat_le, nat_lt, if◌then◌else◌, List, [], ◌∷◌, length, Option, Some, None}
use Rattle.std.specs.List.{flat_map}
use Rattle.chaos_packet.specs.declared.limits.TheConstants.{MAX_DATA}

-- the byte that one of a text stands for: a `^` for 8D, and each other from 20 to 7E but `\` for itself
abbrev pub plain_byte : ℕ → Option ℕ
plain_byte b = if b == 94 then Some 141
    else (if b == 92 then None
    else (if nat_le 32 b && nat_le b 126 then Some b else None))

-- the value of a lower-case hexadecimal digit
abbrev pub low_hex : ℕ → Option ℕ
low_hex b = if nat_le 48 b && nat_le b 57 then Some (b - 48)
    else (if nat_le 97 b && nat_le b 102 then Some (b - 87) else None)

abbrev pub joined : Option ℕ → Option ℕ → Option ℕ
joined (Some high) (Some low) = Some (16 * high + low)
joined _ _ = None

-- the byte of the two digits behind a `\`
abbrev pub escaped_byte : ℕ → ℕ → Option ℕ
escaped_byte high low = joined (low_hex high) (low_hex low)

-- a byte in front of others
abbrev pub with_byte : Option ℕ → Option (List ℕ) → Option (List ℕ)
with_byte (Some b) (Some bytes) = Some (b ∷ bytes)
with_byte _ _ = None

-- the bytes that a text stands for: a `\` takes the two digits behind it
unfoldable pub bytes_of : List ℕ → Option (List ℕ)
bytes_of [] = Some []
bytes_of (a ∷ []) = with_byte (plain_byte a) (Some [])
bytes_of (a ∷ b ∷ []) = with_byte (plain_byte a) (bytes_of (b ∷ []))
bytes_of (a ∷ b ∷ c ∷ others) = if a == 92 then with_byte (escaped_byte b c) (bytes_of others)
    else with_byte (plain_byte a) (bytes_of (b ∷ c ∷ others))

-- bytes in front of those that a text stands for
abbrev pub with_front : List ℕ → Option (List ℕ) → Option (List ℕ)
with_front front None = None
with_front front (Some bytes) = Some (front ++ bytes)

abbrev pub within_packet : Option (List ℕ) → Option (List ℕ)
within_packet None = None
within_packet (Some bytes) = if nat_lt MAX_DATA (length bytes) then None else Some bytes

-- the bytes that a text stands for, where they are no more than a packet has
abbrev pub data_of : List ℕ → Option (List ℕ)
data_of text = within_packet (bytes_of text)

abbrev pub counted : ℕ → Option ℕ → Option (ℕ × ℕ)
counted count None = None
counted count (Some b) = Some (b, count)

-- the first byte that a text stands for, and how many bytes of the text stand for it
abbrev pub first_byte : List ℕ → Option (ℕ × ℕ)
first_byte [] = None
first_byte (a ∷ []) = counted 1 (plain_byte a)
first_byte (a ∷ b ∷ []) = counted 1 (plain_byte a)
first_byte (a ∷ b ∷ c ∷ others) = if a == 92 then counted 3 (escaped_byte b c) else counted 1 (plain_byte a)

-- So many bytes at the front of a text were read: what was read then, in front of what the others stand for, is what
-- was read before in front of what all stand for.
pub record ReadsFront (before text after : List ℕ) (n : ℕ) : Type 0 where
  pub some : 0 < n
  pub within : n ≤ length text
  pub value : with_front after (bytes_of (drop n text)) ≡ with_front before (bytes_of text)

-- ---- printing

abbrev pub low_hex_digit : ℕ → ℕ
low_hex_digit digit = if nat_lt digit 10 then 48 + digit else 97 + (digit - 10)

abbrev pub is_escaped : ℕ → Bool
is_escaped b = b == 94 || (b == 92 || (nat_lt b 32 || nat_lt 126 b))

-- a byte that stands for itself, and is shown by itself
abbrev pub is_plain : ℕ → Bool
is_plain b = not (is_escaped b)

-- how a byte is shown in a text
abbrev pub shown_byte : ℕ → List ℕ
shown_byte b = if b == 141 then 94 ∷ []
    else (if is_escaped b then 92 ∷ low_hex_digit (b / 16) ∷ low_hex_digit (b % 16) ∷ [] else b ∷ [])

-- What is printed of bytes stands for them again.
abbrev pub IsReadBack : Type 0
IsReadBack = (bytes : List ℕ) → All (λ b. b < 256) bytes → bytes_of (flat_map shown_byte bytes) ≡ Some bytes
