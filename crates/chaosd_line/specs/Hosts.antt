-- Words that name a host in front of a colon.
use Rattle.std.specs.Prelude.{◌==◌, ◌&&◌, ℕ, Bool}
use Rattle.std.specs.List.{after_first, before_first, list_any}
use Rattle.chaosd_hosts.specs.Names.{is_same_name}
use Rattle.clap.specs.Words.{Text}

-- a colon (58)
abbrev pub is_colon : ℕ → Bool
is_colon b = b == 58

-- a word with a colon names a host: what stands before the first colon
abbrev pub has_colon : Text → Bool
has_colon word = list_any is_colon word

abbrev pub host_in : Text → Text
host_in word = before_first is_colon word

-- what stands behind the first colon
abbrev pub part_in : Text → Text
part_in word = after_first is_colon word

-- a word names this host
abbrev pub is_at : Text → Text → Bool
is_at host word = has_colon word && is_same_name (host_in word) host
