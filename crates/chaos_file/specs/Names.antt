-- The names and paths of the FILE language.
use Rattle.std.specs.Prelude.{ℕ, Bool, false, not, ◌&&◌, ◌||◌, ◌==◌, nat_le, List, [], ◌∷◌, length}
use Rattle.std.specs.List.{list_all}
use Rattle.std.specs.Char.{is_ascii_alphanumeric}
use Rattle.chaos_file.specs.declared.limits.TheConstants.{MAX_PATH}

-- from `least` to `most` ASCII letters and digits
abbrev pub is_name : ℕ → ℕ → List ℕ → Bool
is_name least most bytes =
    nat_le least (length bytes) && nat_le (length bytes) most && list_all is_ascii_alphanumeric bytes

-- an ASCII letter or digit, a dot (46), a hyphen (45) or an underscore (95)
abbrev pub is_path_byte : ℕ → Bool
is_path_byte b = is_ascii_alphanumeric b || b == 46 || b == 45 || b == 95

abbrev pub begins_with_dot : List ℕ → Bool
begins_with_dot [] = false
begins_with_dot (b ∷ bytes) = b == 46

-- a path: 1 to 64 bytes of a path, the first of them no dot
abbrev pub is_path : List ℕ → Bool
is_path bytes =
    nat_le 1 (length bytes) && nat_le (length bytes) MAX_PATH && list_all is_path_byte bytes
    && not (begins_with_dot bytes)
