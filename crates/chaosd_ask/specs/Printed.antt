-- What a script prints.
use Rattle.std.specs.Prelude.{◌≡◌, ℕ, List, [], ◌++◌, length, codes, Option, ◌==◌, if◌then◌else◌}
use Rattle.std.specs.List.{flat_map}
use Rattle.std.specs.Io.KnownBytes.{Appends}
use Rattle.chaosd_io.specs.Escapes.{shown_byte}
use Rattle.chaosd_io.specs.Texts.{line}
use Rattle.chaosd_ask.specs.declared.end.ScriptEnd.{ScriptEnd}

-- a reply, its bytes written as text, and the end of its line
unfoldable pub reply_line : List ℕ → List ℕ
reply_line reply = line (flat_map shown_byte reply)

-- replies, each on its line
abbrev pub replies_text : List (List ℕ) → List ℕ
replies_text replies = flat_map reply_line replies

-- what is printed where a command got no reply
abbrev pub no_reply_line : List ℕ
no_reply_line = line (codes "no reply")

-- what stands behind the replies: nothing where each command got one
abbrev pub ending_of : ScriptEnd → List ℕ
ending_of end = if end.replied == end.commands then [] else no_reply_line

-- So many replies were printed, each on its line, and nothing else.
pub record PrintsReplies (count : ℕ) (before after : Option (List ℕ)) : Type 0 where
  pub replies : List (List ℕ)
  pub number : length replies ≡ count
  pub text : Appends before after (replies_text replies)

-- As many replies were printed as are told, each on its line, and then that a command got none, where one did.
pub record PrintsScript (end : ScriptEnd) (before after : Option (List ℕ)) : Type 0 where
  pub replies : List (List ℕ)
  pub number : length replies ≡ end.replied
  pub text : Appends before after (replies_text replies ++ ending_of end)
