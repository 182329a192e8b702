-- The out-of-memory reply is told as such, and no other.
use Rattle.std.proofs.Common.{◌≡◌, ℕ, Bool, true, false, List, [], ◌∷◌, ◌++◌, length, ◌+◌, Option, Some, None, Result, Ok, Err, refl, ap, ◌∙◌}
use Rattle.std.specs.Prelude.{not, ◌==◌, take, drop, nat_lt, if◌then◌else◌}
use Rattle.std.specs.Str.{bytes_eq}
use Rattle.std.specs.List.{list_all}
use Rattle.std.specs.Char.{is_ascii_alphanumeric}
use Rattle.chaos_file.specs.declared.limits.TheConstants.{MAX_TID, MAX_HANDLE, MAX_FILE, MAX_HANDLES}
use Rattle.chaos_file.specs.declared.command.Word.{Word}
use Rattle.chaos_file.specs.declared.error.FileError.{FileError}
use Rattle.chaos_file.specs.declared.error.FileError.TheVariants as e
use Rattle.chaos_file.specs.Error.{error_text}
use Rattle.chaos_file.specs.Command.{CommandView, Login, OpenRead, OpenWrite, Read, Write, Close, Rename, Delete, FormView, Malformed, IllegalPath, Formed, ParsedView, BadHead, NoWord, Unknown, BadForm, BadPath, Good, word_said, tid_of, handle_of}
use Rattle.chaos_file.specs.Grammar.{Head, space, cut, head_of, word_of, word_end, form_of, is_nil, parse_of_form, parse_of_word, parse_of_head, parse_of}
use Rattle.chaos_file.specs.Answer.{Answer, LoggedIn, Opened, Given, AtEnd, Wrote, Closed, Renamed, Deleted, outcome_text, reply_to}
use Rattle.chaos_file.specs.Session.{SessionView, HandleView, handle_named}
use Rattle.chaos_file.specs.Store.{Files, Look, Missing, Over, Found, look_for, is_there}
use Rattle.chaos_file.specs.Plan.{Request, GetFile, PutFile, RenameFile, RemoveFile, Plan, Refuse, Tell, Grow, Ask, plan_read, plan_write, plan_close, open_error, plan_unless, plan_command, may_say, if_known, plan_of}
use Rattle.chaos_file.specs.Step.{Left, outcome_of_look, outcome_of_request, outcome_of, step_of, file_step}
use Rattle.chaos_file.specs.Want.{want_text, want_after, is_want, is_no_memory}
use Rattle.chaos_file.proofs.Spelling.{cut_front, front_apart, without, name_letters}
use Rattle.chaos_file.proofs.Reading.{IsHead, head_parts}

-- the names that are given back
pub record GivesBack (t h : List ℕ) (p : ParsedView) : Type 0 where
  pub tid : tid_of p ≡ t
  pub handle : handle_of p ≡ h

form_gives : (t h : List ℕ) (word : Word) (f : FormView) → GivesBack t h (parse_of_form t h word f)
form_gives t h word Malformed = record { tid = refl; handle = refl }
form_gives t h word IllegalPath = record { tid = refl; handle = refl }
form_gives t h word (Formed command) = record { tid = refl; handle = refl }

word_gives : (t h rest : List ℕ) (o : Option Word) → GivesBack t h (parse_of_word t h rest o)
word_gives t h rest None = record { tid = refl; handle = refl }
word_gives t h rest (Some word) = form_gives t h word (form_of word (is_nil h) rest)

tail_gives : (t h : List ℕ) (p : ParsedView) → GivesBack t h p → (v : Bool)
    → GivesBack t h (if v then NoWord t h else p)
tail_gives t h p g true = record { tid = refl; handle = refl }
tail_gives t h p g false = g

pub head_gives : (g : Head) → GivesBack g.tid g.handle (parse_of_head (Some g))
head_gives g =
    tail_gives g.tid g.handle _
    (word_gives g.tid g.handle (drop (word_end g.tail) g.tail) (word_of (take (word_end g.tail) g.tail)))
    (word_end g.tail == 0)

-- names without a space
Spaceless : List ℕ → Type 0
Spaceless xs = list_all (λ x. not (x == space)) xs ≡ true

-- no other outcome is spelled as that one
text_told : (outcome : Result Answer FileError)
    → bytes_eq (outcome_text outcome) (error_text e.NoMemory) ≡ is_no_memory outcome
text_told (Ok (LoggedIn name)) = refl
text_told (Ok (Opened count)) = refl
text_told (Ok (Given bytes)) = refl
text_told (Ok AtEnd) = refl
text_told (Ok (Wrote count)) = refl
text_told (Ok (Closed count)) = refl
text_told (Ok Renamed) = refl
text_told (Ok Deleted) = refl
text_told (Err e.Syntax) = refl
text_told (Err e.UnknownCommand) = refl
text_told (Err e.NotLoggedIn) = refl
text_told (Err e.IllegalPath) = refl
text_told (Err e.HandleInUse) = refl
text_told (Err e.NoSuchHandle) = refl
text_told (Err e.WrongKind) = refl
text_told (Err e.TooManyHandles) = refl
text_told (Err e.FileTooBig) = refl
text_told (Err e.NoSuchFile) = refl
text_told (Err e.FileExists) = refl
text_told (Err e.StoreFault) = refl
text_told (Err e.NoMemory) = refl

want_of : (tid handle text : List ℕ) → Spaceless tid → Spaceless handle
    → is_want (tid ++ space ∷ (handle ++ space ∷ text)) ≡ bytes_eq text (error_text e.NoMemory)
unfolding Spaceless
want_of tid handle text t h =
    ap want_after (cut_front space tid (handle ++ space ∷ text) t) ∙ ap want_text (cut_front space handle text h)

named_want : (tid handle : List ℕ) (p : ParsedView) (outcome : Result Answer FileError) → GivesBack tid handle p
    → Spaceless tid → Spaceless handle → is_want (reply_to p outcome) ≡ is_no_memory outcome
named_want tid handle p outcome g t h =
    let text : List ℕ = outcome_text outcome in
    ap is_want
    ((λ j. g.tid j ++ (space ∷ []) ++ g.handle j ++ (space ∷ []) ++ text) ∙ front_apart tid handle text)
    ∙ want_of tid handle text t h ∙ text_told outcome

by_head : (c : List ℕ) (outcome : Result Answer FileError) (o : Option Head) → head_of c ≡ o
    → is_want (reply_to (parse_of_head o) outcome) ≡ is_no_memory outcome
unfolding IsHead Spaceless
by_head c outcome None is =
    named_want [] [] (parse_of_head None) outcome (record { tid = refl; handle = refl }) refl refl
by_head c outcome (Some g) is =
    let i : IsHead c g = head_parts c g (cut space c) refl is in
    named_want g.tid g.handle (parse_of_head (Some g)) outcome (head_gives g)
    (without is_ascii_alphanumeric space refl g.tid (name_letters 1 MAX_TID g.tid i.1))
    (without is_ascii_alphanumeric space refl g.handle (name_letters 0 MAX_HANDLE g.handle i.2))

pub want_told : (c : List ℕ) (outcome : Result Answer FileError)
    → is_want (reply_to (parse_of c) outcome) ≡ is_no_memory outcome
want_told c outcome = by_head c outcome (head_of c) refl

-- ---- the definition never wants memory

is_lost : FileError → Bool
is_lost error = is_no_memory (Err error)

plan_lost : Plan → Bool
plan_lost (Refuse error) = is_lost error
plan_lost _ = false

some_lost : Option FileError → Bool
some_lost None = false
some_lost (Some error) = is_lost error

by_if : {X : Type 0} (lost : X → Bool) (b : Bool) (x y : X) → lost x ≡ false → lost y ≡ false
    → lost (if b then x else y) ≡ false
by_if lost true x y h k = h
by_if lost false x y h k = k

read_lost : (s : SessionView) (o : Option (ℕ × HandleView)) → plan_lost (plan_read s o) ≡ false
unfolding plan_lost is_lost
read_lost s None = refl
read_lost s (Some f) = by_if plan_lost f.1.writes _ _ refl refl

write_lost : (bytes : List ℕ) (s : SessionView) (o : Option (ℕ × HandleView)) → plan_lost (plan_write bytes s o) ≡ false
unfolding plan_lost is_lost
write_lost bytes s None = refl
write_lost bytes s (Some f) =
    by_if plan_lost f.1.writes _ _ (by_if plan_lost (nat_lt MAX_FILE (length f.1.bytes + length bytes)) _ _ refl refl)
    refl

close_lost : (s : SessionView) (o : Option (ℕ × HandleView)) → plan_lost (plan_close s o) ≡ false
unfolding plan_lost is_lost
close_lost s None = refl
close_lost s (Some f) = by_if plan_lost f.1.writes _ _ refl refl

open_lost : (s : SessionView) (o : Option (ℕ × HandleView)) → some_lost (open_error s o) ≡ false
unfolding some_lost is_lost
open_lost s (Some f) = refl
open_lost s None = by_if some_lost (nat_lt (length s.handles) MAX_HANDLES) _ _ refl refl

unless_lost : (o : Option FileError) (plan : Plan) → some_lost o ≡ false → plan_lost plan ≡ false
    → plan_lost (plan_unless o plan) ≡ false
unfolding plan_lost some_lost is_lost
unless_lost None plan h k = k
unless_lost (Some error) plan h k = h

command_lost : (s : SessionView) (handle : List ℕ) (command : CommandView)
    → plan_lost (plan_command s handle command) ≡ false
unfolding plan_lost is_lost
command_lost s handle (Login name) = refl
command_lost s handle (OpenRead path) =
    unless_lost (open_error s (handle_named handle s.handles)) _ (open_lost s (handle_named handle s.handles)) refl
command_lost s handle (OpenWrite path) =
    unless_lost (open_error s (handle_named handle s.handles)) _ (open_lost s (handle_named handle s.handles)) refl
command_lost s handle Read = read_lost s (handle_named handle s.handles)
command_lost s handle (Write bytes) = write_lost bytes s (handle_named handle s.handles)
command_lost s handle Close = close_lost s (handle_named handle s.handles)
command_lost s handle (Rename old new) = refl
command_lost s handle (Delete path) = refl

known_lost : (s : SessionView) (word : Word) (plan : Plan) → plan_lost plan ≡ false
    → plan_lost (if_known s word plan) ≡ false
unfolding plan_lost is_lost
known_lost s word plan h = by_if plan_lost (may_say s word) _ _ h refl

planned_lost : (s : SessionView) (p : ParsedView) → plan_lost (plan_of s p) ≡ false
unfolding plan_lost is_lost
planned_lost s BadHead = refl
planned_lost s (NoWord tid handle) = refl
planned_lost s (Unknown tid handle) = refl
planned_lost s (BadForm tid handle word) = known_lost s word _ refl
planned_lost s (BadPath tid handle word) = known_lost s word _ refl
planned_lost s (Good tid handle command) = known_lost s (word_said command) _ (command_lost s handle command)

left_lost : Result Left FileError → Bool
left_lost (Ok left) = false
left_lost (Err error) = is_lost error

look_lost : (m : Files) (s : SessionView) (name path : List ℕ) (look : Look)
    → left_lost (outcome_of_look m s name path look) ≡ false
unfolding left_lost is_lost
look_lost m s name path Missing = refl
look_lost m s name path Over = refl
look_lost m s name path (Found bytes) = refl

request_lost : (m : Files) (s : SessionView) (request : Request) → left_lost (outcome_of_request m s request) ≡ false
unfolding left_lost is_lost
request_lost m s (GetFile name path) = look_lost m s name path (look_for m path MAX_FILE)
request_lost m s (PutFile path bytes t) = refl
request_lost m s (RenameFile old new) =
    by_if left_lost (is_there m old) _ _ (by_if left_lost (is_there m new) _ _ refl refl) refl
request_lost m s (RemoveFile path) = by_if left_lost (is_there m path) _ _ refl refl

outcome_lost : (m : Files) (s : SessionView) (plan : Plan) → plan_lost plan ≡ false
    → left_lost (outcome_of m s plan) ≡ false
unfolding plan_lost left_lost
outcome_lost m s (Refuse error) h = h
outcome_lost m s (Tell t answer) h = refl
outcome_lost m s (Grow t answer) h = refl
outcome_lost m s (Ask request) h = request_lost m s request

step_wants : (m : Files) (s : SessionView) (c : List ℕ) (o : Result Left FileError) → left_lost o ≡ false
    → is_want (step_of m s (parse_of c) o).reply ≡ false
unfolding left_lost is_lost
step_wants m s c (Ok left) h = want_told c (Ok left.answer)
step_wants m s c (Err error) h = want_told c (Err error) ∙ h

pub none_wanted : (m : Files) (s : SessionView) (c : List ℕ) → is_want (file_step m s c).reply ≡ false
none_wanted m s c =
    step_wants m s c (outcome_of m s (plan_of s (parse_of c)))
    (outcome_lost m s (plan_of s (parse_of c)) (planned_lost s (parse_of c)))
