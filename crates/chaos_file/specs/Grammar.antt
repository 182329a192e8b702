-- The grammar of the FILE language, over lists of bytes:
--     command = tid SP handle SP word rest
use Rattle.std.specs.Prelude.{ℕ, ◌+◌, Bool, not, ◌&&◌, ◌||◌, ◌==◌, nat_le, nat_eq, if◌then◌else◌, List, [], ◌∷◌, ◌++◌, length, take, drop, Option, Some, None, option_map, position, unwrap_or, codes}
use Rattle.std.specs.List.{starts_with}
use Rattle.std.specs.Str.{bytes_eq}
use Rattle.chaos_file.specs.declared.limits.TheConstants.{NL, MAX_TID, MAX_HANDLE, MAX_NAME, MAX_CHUNK}
use Rattle.chaos_file.specs.declared.command.Word.{Word}
use Rattle.chaos_file.specs.declared.command.Word.TheVariants as w
use Rattle.chaos_file.specs.Names.{is_name, is_path}
use Rattle.chaos_file.specs.Command.{CommandView, Login, OpenRead, OpenWrite, Read, Write, Close, Rename, Delete, FormView, Malformed, IllegalPath, Formed, ParsedView, BadHead, NoWord, Unknown, BadForm, BadPath, Good}

-- the byte SP
abbrev pub space : ℕ
space = 32

abbrev pub is_nil : List ℕ → Bool
is_nil bytes = length bytes == 0

-- the bytes before the first `stop`, and those after it
abbrev pub cut : ℕ → List ℕ → Option (List ℕ × List ℕ)
cut stop bytes = option_map (λ i. (take i bytes, drop (i + 1) bytes)) (position (λ b. b == stop) bytes)

-- what follows this front, where the bytes begin with it
abbrev pub after_front : List ℕ → List ℕ → Option (List ℕ)
after_front front bytes = if starts_with nat_eq bytes front then Some (drop (length front) bytes) else None

-- ---- the head: tid SP handle SP

-- the two names that every command begins with, and what follows them
pub record Head : Type 0 where
  pub tid : List ℕ
  pub handle : List ℕ
  pub tail : List ℕ

abbrev pub named_head : List ℕ → Option (List ℕ × List ℕ) → Option Head
named_head tid None = None
named_head tid (Some p) =
    if is_name 1 MAX_TID tid && is_name 0 MAX_HANDLE p.0 then Some (record { tid = tid; handle = p.0; tail = p.1 })
    else None

abbrev pub head_after : Option (List ℕ × List ℕ) → Option Head
head_after None = None
head_after (Some p) = named_head p.0 (cut space p.1)

-- a space ends each of the two names
abbrev pub head_of : List ℕ → Option Head
head_of bytes = head_after (cut space bytes)

-- ---- the word

-- the seven words, in upper case exactly
abbrev pub word_of : List ℕ → Option Word
word_of bytes =
    if bytes_eq bytes (codes "LOGIN") then Some w.Login
    else (if bytes_eq bytes (codes "OPEN") then Some w.Open
    else (if bytes_eq bytes (codes "READ") then Some w.Read
    else (if bytes_eq bytes (codes "WRITE") then Some w.Write
    else (if bytes_eq bytes (codes "CLOSE") then Some w.Close
    else (if bytes_eq bytes (codes "RENAME") then Some w.Rename
    else (if bytes_eq bytes (codes "DELETE") then Some w.Delete else None))))))

abbrev pub ends_word : ℕ → Bool
ends_word b = b == space || b == NL

-- a word ends before the first SP or NL
abbrev pub word_end : List ℕ → ℕ
word_end tail = unwrap_or (position ends_word tail) (length tail)

-- ---- what stands behind each word

-- the command, where it is of the form that its word asks for
abbrev pub formed_if : Bool → CommandView → FormView
formed_if holds command = if holds then Formed command else Malformed

-- the command, where its paths are legal
abbrev pub legal_if : Bool → CommandView → FormView
legal_if holds command = if holds then Formed command else IllegalPath

-- LOGIN SP name, without a handle
abbrev pub login_form : Bool → Option (List ℕ) → FormView
login_form bare None = Malformed
login_form bare (Some name) = formed_if (bare && is_name 1 MAX_NAME name) (Login name)

-- OPEN SP WRITE NL path
abbrev pub open_write_form : Option (List ℕ) → FormView
open_write_form None = Malformed
open_write_form (Some path) = legal_if (is_path path) (OpenWrite path)

-- OPEN SP READ NL path, or else OPEN SP WRITE NL path
abbrev pub open_form : List ℕ → Option (List ℕ) → FormView
open_form rest None = open_write_form (after_front (codes " WRITE" ++ NL ∷ []) rest)
open_form rest (Some path) = legal_if (is_path path) (OpenRead path)

-- WRITE NL bytes
abbrev pub write_form : Option (List ℕ) → FormView
write_form None = Malformed
write_form (Some bytes) = formed_if (nat_le (length bytes) MAX_CHUNK) (Write bytes)

abbrev pub paths_form : Option (List ℕ × List ℕ) → FormView
paths_form None = Malformed
paths_form (Some p) = legal_if (is_path p.0 && is_path p.1) (Rename p.0 p.1)

-- RENAME NL path NL path
abbrev pub rename_form : Option (List ℕ) → FormView
rename_form None = Malformed
rename_form (Some both) = paths_form (cut NL both)

-- DELETE NL path
abbrev pub delete_form : Option (List ℕ) → FormView
delete_form None = Malformed
delete_form (Some path) = legal_if (is_path path) (Delete path)

-- the form of each word; `bare`: the handle is empty
abbrev pub form_of : Word → Bool → List ℕ → FormView
form_of w.Login bare rest = login_form bare (after_front (space ∷ []) rest)
form_of w.Open bare rest = if bare then Malformed else open_form rest (after_front (codes " READ" ++ NL ∷ []) rest)
form_of w.Read bare rest = formed_if (not bare && is_nil rest) Read
form_of w.Write bare rest = if bare then Malformed else write_form (after_front (NL ∷ []) rest)
form_of w.Close bare rest = formed_if (not bare && is_nil rest) Close
form_of w.Rename bare rest = if bare then rename_form (after_front (NL ∷ []) rest) else Malformed
form_of w.Delete bare rest = if bare then delete_form (after_front (NL ∷ []) rest) else Malformed

-- ---- a whole command

abbrev pub parse_of_form : List ℕ → List ℕ → Word → FormView → ParsedView
parse_of_form tid handle word Malformed = BadForm tid handle word
parse_of_form tid handle word IllegalPath = BadPath tid handle word
parse_of_form tid handle word (Formed command) = Good tid handle command

abbrev pub parse_of_word : List ℕ → List ℕ → List ℕ → Option Word → ParsedView
parse_of_word tid handle rest None = Unknown tid handle
parse_of_word tid handle rest (Some word) = parse_of_form tid handle word (form_of word (is_nil handle) rest)

-- what the bytes behind the head say, where their word ends at `end`
abbrev pub parse_of_tail : List ℕ → List ℕ → List ℕ → ℕ → ParsedView
parse_of_tail tid handle tail end =
    if end == 0 then NoWord tid handle
    else parse_of_word tid handle (drop end tail) (word_of (take end tail))

abbrev pub parse_of_head : Option Head → ParsedView
parse_of_head None = BadHead
parse_of_head (Some h) = parse_of_tail h.tid h.handle h.tail (word_end h.tail)

-- what a command's bytes say
abbrev pub parse_of : List ℕ → ParsedView
parse_of bytes = parse_of_head (head_of bytes)
