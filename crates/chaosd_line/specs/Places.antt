-- The words behind a subcommand, taken apart. A line is in the long form, `ADDRESS UDP ..`, where its first word has digits alone.
-- Any other line is in the short form, which names a host.
use Rattle.std.specs.Prelude.{◌==◌, ◌+◌, ◌-◌, ◌&&◌, ℕ, Bool, false, List, length, nat_lt, Option, None, Some, is_some, slice_get, take, codes, if◌then◌else◌}
use Rattle.std.specs.Char.{is_ascii_digit}
use Rattle.std.specs.List.{list_all}
use Rattle.std.specs.Option.{option_and_then, option_map_or}
use Rattle.clap.specs.Words.{Row, Text, first_of}
use Rattle.chaosd_line.specs.Values.{kept_if, words_of}

-- the words of a line, behind the subcommand, that are neither options nor their values
abbrev pub words_in : List Row → List Text
words_in rows = words_of (codes "WORD") rows

-- the value of the word at this place, counted from 0
abbrev pub at : {T : Type 0} → (Text → Option T) → ℕ → List Text → Option T
at read place words = option_and_then read (slice_get words place)

abbrev pub is_digits : Text → Bool
is_digits text = nat_lt 0 (length text) && list_all is_ascii_digit text

abbrev pub is_long : List Text → Bool
is_long words = option_map_or is_digits (slice_get words 0) false

-- words of which there is one at least
abbrev pub some_words : List Text → Option (List Text)
some_words words = kept_if (λ ws. nat_lt 0 (length ws)) words

-- the last word, and those in front of it
abbrev pub last_word : List Text → Option Text
last_word words = slice_get words (length words - 1)

abbrev pub words_before_last : List Text → List Text
words_before_last words = take (length words - 1) words

-- the word that is the last one at this place
abbrev pub last_at : {T : Type 0} → (Text → Option T) → ℕ → List Text → Option T
last_at read place words = if length words == place + 1 then at read place words else None

-- the word of `--hosts`, which a line in the long form doesn't have
abbrev pub hosts_with : Option Text → List Text → Option (Option Text)
hosts_with given words = if is_some given && is_long words then None else Some given

abbrev pub hosts_in : List Row → Option (Option Text)
hosts_in rows = hosts_with (first_of (codes "hosts") rows) (words_in rows)
