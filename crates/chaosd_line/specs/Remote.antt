-- The files of a server that a line names, and where `get` writes them.
use Rattle.std.specs.Prelude.{◌&&◌, Bool, false, not, codes, List, [], Option, None, Some, is_some, drop, map, slice_get, if◌then◌else◌}
use Rattle.std.specs.List.{list_all}
use Rattle.std.specs.Option.{option_and_then, option_map_or}
use Rattle.std.specs.Str.{bytes_eq}
use Rattle.clap.specs.Words.{Text}
use Rattle.chaosd_line.specs.Files.{are_paths}
use Rattle.chaosd_line.specs.Hosts.{has_colon, host_in, is_at, part_in}
use Rattle.chaosd_line.specs.Places.{at, is_long, last_at, last_word, some_words, words_before_last}
use Rattle.chaosd_line.specs.Values.{kept_if, word_of}
use Rattle.chaosd_line.specs.declared.word.Word.TheVariants as word

-- the host that the first word names
abbrev pub first_host : List Text → Text
first_host words = option_map_or host_in (slice_get words 0) []

-- each word is HOST:PATH, with the host of the first
abbrev pub names_one_host : List Text → Bool
names_one_host words = list_all (is_at (first_host words)) words

-- the words of the long form behind the server, or what stands behind the host in each word
abbrev pub file_words : List Text → Option (List Text)
file_words words = if is_long words then some_words (drop 3 words)
    else (if names_one_host words then Some (map part_in words) else None)

-- paths of FILE, each once
unfoldable pub file_paths : List Text → Option (List Text)
file_paths words = option_and_then (kept_if are_paths) (file_words words)

-- ---- `get`

-- in the short form a last word without a colon is no file of the server: it says where the files go
abbrev pub has_local : List Text → Bool
has_local words = not (is_long words) && option_map_or (λ word. not (has_colon word)) (last_word words) false

abbrev pub remote_words : List Text → List Text
remote_words words = if has_local words then words_before_last words else words

-- a dot is the current folder, where files go that nothing is said of
abbrev pub is_current : Text → Bool
is_current text = bytes_eq text (codes ".")

abbrev pub local_word : List Text → Option Text
local_word words = option_and_then (kept_if (λ t. not (is_current t))) (last_word words)

-- where the files go, by `--output` and the words, of which one alone may say that
unfoldable pub output_with : Option Text → List Text → Option (Option Text)
output_with given words = if has_local words
    then (if is_some given then None else Some (local_word words))
    else Some given

-- ---- `rename`

abbrev pub old_path : List Text → Option Text
old_path words = if is_long words then at (word_of word.Path) 3 words else at (λ w. word_of word.Path (part_in w)) 0 words

abbrev pub new_path : List Text → Option Text
new_path words = if is_long words then last_at (word_of word.Path) 4 words else last_at (word_of word.Path) 1 words

-- ---- `put`

-- the local files: the words of the long form behind the server, or those in front of the host
abbrev pub local_words : List Text → Option (List Text)
local_words words = some_words (if is_long words then drop 3 words else words_before_last words)
