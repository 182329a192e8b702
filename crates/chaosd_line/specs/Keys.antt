-- The file of a key that a line names.
use Rattle.std.specs.Prelude.{◌&&◌, Bool, not, List, Option, None, Some, is_some, codes, if◌then◌else◌}
use Rattle.std.specs.Option.{option_and_then}
use Rattle.clap.specs.Words.{Row, Text, first_of}
use Rattle.chaosd_line.specs.Places.{is_long, words_in}
use Rattle.chaosd_line.specs.Values.{flag_of, given}

-- a datagram of CHUDP isn't sealed, so a line that names a key has no `--chudp`
abbrev pub key_with : Option Text → Bool → Option (Option Text)
key_with file is_chudp = if is_some file && is_chudp then None else Some file

-- the word of `--key`
unfoldable pub key_at : List Row → Option (Option Text)
key_at rows = option_and_then (key_with (first_of (codes "key") rows)) (given flag_of (codes "chudp") rows)

-- that of `serve`, which has none in the short form: the hosts table then says which host has which key
unfoldable pub serve_key_at : List Row → Option (Option Text)
serve_key_at rows = if is_some (first_of (codes "key") rows) && not (is_long (words_in rows)) then None else key_at rows
