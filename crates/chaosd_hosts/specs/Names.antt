-- Names of hosts.
use Rattle.std.specs.Prelude.{◌==◌, ◌&&◌, ◌||◌, ℕ, Bool, codes, length, map, nat_le}
use Rattle.std.specs.Char.{is_ascii_alphabetic, is_ascii_alphanumeric, to_ascii_lowercase}
use Rattle.std.specs.List.{list_all, list_any}
use Rattle.std.specs.Str.{bytes_eq}
use Rattle.chaosd_hosts.specs.Text.{Text}
use Rattle.chaosd_hosts.specs.declared.names.TheConstants.{MAX_HOST_NAME}

-- a letter, a digit, a hyphen (45) or a dot (46)
abbrev pub is_name_byte : ℕ → Bool
is_name_byte b = is_ascii_alphanumeric b || (b == 45) || (b == 46)

-- at most 64 of these, of which at least one is a letter
abbrev pub is_host_name : Text → Bool
is_host_name name = nat_le (length name) MAX_HOST_NAME && list_all is_name_byte name && list_any is_ascii_alphabetic name

-- case doesn't count
unfoldable pub is_same_name : Text → Text → Bool
is_same_name name other = bytes_eq (map to_ascii_lowercase name) (map to_ascii_lowercase other)

-- the name of each own entry
abbrev pub is_own_name : Text → Bool
is_own_name = is_same_name (codes "self")
