-- The fields of a line of a table.
use Rattle.std.specs.Prelude.{◌==◌, ◌||◌, ℕ, Bool, not, codes, List, length, nat_lt, Option, None, Some, is_some, if◌then◌else◌}
use Rattle.std.specs.List.{before_first, filter, slice_split}
use Rattle.std.specs.Option.{option_and_then}
use Rattle.std.specs.Str.{bytes_eq}
use Rattle.chaosd_hosts.specs.Addresses.{sides_of}
use Rattle.chaosd_hosts.specs.Text.{Text}

-- a space (32) or a tab (9)
abbrev pub is_blank : ℕ → Bool
is_blank b = (b == 32) || (b == 9)

-- what stands before the first `#` (35)
abbrev pub before_comment : Text → Text
before_comment line = before_first (λ b. b == 35) line

-- the parts between blanks that are not empty
unfoldable pub fields_of : Text → List Text
fields_of text = filter (λ part. nat_lt 0 (length part)) (slice_split is_blank text)

-- ---- names, and a key among them

-- the file that a field `key=FILE` names
abbrev pub file_with : Text × Text → Option Text
file_with sides = if bytes_eq sides.0 (codes "key") then Some sides.1 else None

unfoldable pub key_file : Text → Option Text
key_file field = option_and_then file_with (sides_of field)

abbrev pub names_key : Text → Bool
names_key field = is_some (key_file field)

-- the fields that name no key file, and those that do
unfoldable pub names_among : List Text → List Text
names_among fields = filter (λ field. not (names_key field)) fields

unfoldable pub keys_among : List Text → List Text
keys_among fields = filter names_key fields
