-- One command of a user who has logged in, with one file open or none.
use Rattle.std.proofs.Common.{◌≡◌, ℕ, ◌+◌, ◌≤◌, Bool, true, false, cond, List, [], ◌∷◌, ◌++◌, length, take, drop, Some, None, Ok, refl, ap, ◌∙◌, rules}
use Rattle.std.specs.Prelude.{not, ◌&&◌, nat_lt, nat_le, position, if◌then◌else◌}
use Rattle.std.specs.FinMap as map
use Rattle.std.specs.List.{list_all}
use Rattle.std.specs.Char.{is_ascii_alphanumeric}
use Rattle.std.proofs.Math.Dec.{ltb}
use Rattle.std.proofs.lemmas.Bool.{le-ltb}
use Rattle.chaos_file.specs.declared.limits.TheConstants.{MAX_CHUNK, MAX_FILE, MAX_TID, MAX_HANDLE}
use Rattle.chaos_file.specs.declared.error.FileError.TheVariants as e
use Rattle.chaos_file.specs.Names.{is_name}
use Rattle.chaos_file.specs.Command.{CommandView, Login, OpenRead, OpenWrite, Read, Write, Close, Good}
use Rattle.chaos_file.specs.Grammar.{is_nil}
use Rattle.chaos_file.specs.Spelling.{spelling_of, is_good, is_legal}
use Rattle.chaos_file.specs.Answer.{LoggedIn, Opened, Wrote, Closed, read_answer}
use Rattle.chaos_file.specs.Session.{HandleView, SessionView, handle_named, handle_with_place}
use Rattle.chaos_file.specs.Store.{Files, Over, Found, look_within}
use Rattle.chaos_file.specs.Plan.{Refuse, Grow, plan_of, plan_read, plan_write, plan_close}
use Rattle.chaos_file.specs.Step.{Left, file_step, step_of, outcome_of, outcome_of_look}
use Rattle.chaos_file.proofs.Spelling.{parsed_spelled, both_left, both_right}
use Rattle.chaos_file.proofs.ReadReplies.{same_bytes}
use Rattle.file_copy.specs.Copy.{reply_of, logged_in}
use Rattle.file_copy.proofs.Runs.{StepIs}

-- the user `name`, with these files open
abbrev pub with_open : List ℕ → List HandleView → SessionView
with_open name handles = record { name = Some name; handles = handles }

-- what a command of the right form does, by what comes of it
pub step_good : (m : Files) (s : SessionView) (tid handle : List ℕ) (command : CommandView) (l : Left)
    → is_good tid handle command ≡ true → outcome_of m s (plan_of s (Good tid handle command)) ≡ Ok l
    → StepIs m s (spelling_of tid handle command) l.files l.session (reply_of tid handle l.answer)
step_good m s tid handle command l good done =
    let e : file_step m s (spelling_of tid handle command) ≡ step_of m s (Good tid handle command) (Ok l) =
    ap (λ p. step_of m s p (outcome_of m s (plan_of s p))) (parsed_spelled tid handle command good)
    ∙ ap (step_of m s (Good tid handle command)) done in
    record { files = ap (λ x. x.files) e; session = ap (λ x. x.session) e; reply_is = ap (λ x. x.reply) e }

-- the one file that is open
pub named_one : (h : HandleView) → handle_named h.name (h ∷ []) ≡ Some (0, h)
named_one h =
    ap (λ v. handle_with_place (h ∷ []) (cond (ltb (cond (not v) (1 + 0) 0) 1) (Some (cond (not v) (1 + 0) 0)) None))
    (same_bytes h.name)

not_over : (a b : ℕ) → a ≤ b → nat_lt b a ≡ false
not_over a b h = le-ltb b a h

-- a handle that writes, or reads
abbrev pub writing : List ℕ → List ℕ → List ℕ → HandleView
writing handle path bytes = record { name = handle; path = path; writes = true; bytes = bytes; position = 0 }

abbrev pub reading : List ℕ → List ℕ → List ℕ → ℕ → HandleView
reading handle path bytes position =
    record { name = handle; path = path; writes = false; bytes = bytes; position = position }

-- ---- the names

both_true : (a b : Bool) → a ≡ true → b ≡ true → (a && b) ≡ true
both_true a b h k = ap (λ v. v && b) h ∙ k

pub good_name : (handle : List ℕ) → is_name 1 MAX_HANDLE handle ≡ true
    → (is_name 0 MAX_HANDLE handle ≡ true) × (is_nil handle ≡ false)
good_name [] h = cc
good_name (b ∷ bytes) h =
    let first : (nat_le 1 (length (b ∷ bytes)) && nat_le (length (b ∷ bytes)) MAX_HANDLE) ≡ true =
    both_left _ (list_all is_ascii_alphanumeric (b ∷ bytes)) h in
    let letters : list_all is_ascii_alphanumeric (b ∷ bytes) ≡ true =
    both_right _ (list_all is_ascii_alphanumeric (b ∷ bytes)) h in
    let short : nat_le (length (b ∷ bytes)) MAX_HANDLE ≡ true =
    both_right (nat_le 1 (length (b ∷ bytes))) (nat_le (length (b ∷ bytes)) MAX_HANDLE) first in
    (both_true (nat_le 0 (length (b ∷ bytes)) && nat_le (length (b ∷ bytes)) MAX_HANDLE) _ (both_true (nat_le 0 (length (b ∷ bytes))) _ (search rules) short) letters, search rules)

pub good_of : (tid handle : List ℕ) (command : CommandView) → is_name 1 MAX_TID tid ≡ true
    → is_name 1 MAX_HANDLE handle ≡ true → is_legal false command ≡ true
    → is_good tid handle command ≡ true
good_of tid handle command t h l =
    let both = good_name handle h in
    ap (λ v. v && (is_name 0 MAX_HANDLE handle && is_legal (is_nil handle) command)) t
    ∙ ap (λ v. v && is_legal (is_nil handle) command) both.0
    ∙ ap (λ v. is_legal v command) both.1 ∙ l

-- ---- the commands

pub logs_in : (m : Files) (s : SessionView) (tid name : List ℕ) → is_good tid [] (Login name) ≡ true
    → StepIs m s (spelling_of tid [] (Login name)) m (record s { name = Some name }) (reply_of tid [] (LoggedIn name))
logs_in m s tid name good =
    step_good m s tid [] (Login name)
    (record { files = m; session = record s { name = Some name }; answer = LoggedIn name }) good refl

pub opens_to_write : (m : Files) (name tid handle path : List ℕ) → is_good tid handle (OpenWrite path) ≡ true
    → StepIs m (logged_in name) (spelling_of tid handle (OpenWrite path)) m
    (with_open name (writing handle path [] ∷ [])) (reply_of tid handle (Opened 0))
opens_to_write m name tid handle path good =
    step_good m (logged_in name) tid handle (OpenWrite path)
    (record { files = m; session = with_open name (writing handle path [] ∷ []); answer = Opened 0 }) good refl

abbrev one_open : List ℕ → HandleView → SessionView
one_open name h = with_open name (h ∷ [])

pub writes_more : (m : Files) (name tid handle path bytes more : List ℕ) → is_good tid handle (Write more) ≡ true
    → length bytes + length more ≤ MAX_FILE
    → StepIs m (one_open name (writing handle path bytes)) (spelling_of tid handle (Write more))
    m (one_open name (writing handle path (bytes ++ more))) (reply_of tid handle (Wrote (length bytes + length more)))
writes_more m name tid handle path bytes more good fits =
    let s = one_open name (writing handle path bytes) in
    let t = one_open name (writing handle path (bytes ++ more)) in
    step_good m s tid handle (Write more)
    (record { files = m; session = t; answer = Wrote (length bytes + length more) }) good
    (ap (λ f. outcome_of m s (plan_write more s f)) (named_one (writing handle path bytes))
    ∙ ap (λ v. outcome_of m s (if v then Refuse e.FileTooBig else Grow t (Wrote (length bytes + length more))))
    (not_over (length bytes + length more) MAX_FILE fits))

pub closes_written : (m : Files) (name tid handle path bytes : List ℕ) → is_good tid handle Close ≡ true
    → StepIs m (one_open name (writing handle path bytes)) (spelling_of tid handle Close)
    (map.insert m path bytes) (logged_in name) (reply_of tid handle (Closed (length bytes)))
closes_written m name tid handle path bytes good =
    let s = one_open name (writing handle path bytes) in
    step_good m s tid handle Close
    (record { files = map.insert m path bytes; session = logged_in name; answer = Closed (length bytes) }) good
    (ap (λ f. outcome_of m s (plan_close s f)) (named_one (writing handle path bytes)))

pub opens_to_read : (m : Files) (name tid handle path bytes : List ℕ) → is_good tid handle (OpenRead path) ≡ true
    → map.get m path ≡ Some bytes → length bytes ≤ MAX_FILE
    → StepIs m (logged_in name) (spelling_of tid handle (OpenRead path)) m (one_open name (reading handle path bytes 0))
    (reply_of tid handle (Opened (length bytes)))
opens_to_read m name tid handle path bytes good there fits =
    let s = logged_in name in
    step_good m s tid handle (OpenRead path)
    (record { files = m; session = one_open name (reading handle path bytes 0); answer = Opened (length bytes) })
    good
    (ap (λ o. outcome_of_look m s handle path (look_within MAX_FILE o)) there
    ∙ ap (λ v. outcome_of_look m s handle path (if v then Over else Found bytes))
    (not_over (length bytes) MAX_FILE fits))

pub reads_on : (m : Files) (name tid handle path bytes : List ℕ) (position : ℕ) → is_good tid handle Read ≡ true
    → StepIs m (one_open name (reading handle path bytes position)) (spelling_of tid handle Read)
    m (one_open name (reading handle path bytes (position + length (take MAX_CHUNK (drop position bytes)))))
    (reply_of tid handle (read_answer (take MAX_CHUNK (drop position bytes))))
reads_on m name tid handle path bytes position good =
    let s = one_open name (reading handle path bytes position) in
    step_good m s tid handle Read (record {
      files = m;
      session = one_open name (reading handle path bytes (position + length (take MAX_CHUNK (drop position bytes))));
      answer = read_answer (take MAX_CHUNK (drop position bytes));
    }) good
    (ap (λ f. outcome_of m s (plan_read s f)) (named_one (reading handle path bytes position)))

pub closes_read : (m : Files) (name tid handle path bytes : List ℕ) (position : ℕ) → is_good tid handle Close ≡ true
    → StepIs m (one_open name (reading handle path bytes position)) (spelling_of tid handle Close)
    m (logged_in name) (reply_of tid handle (Closed (length bytes)))
closes_read m name tid handle path bytes position good =
    let s = one_open name (reading handle path bytes position) in
    step_good m s tid handle Close (record { files = m; session = logged_in name; answer = Closed (length bytes) }) good
    (ap (λ f. outcome_of m s (plan_close s f)) (named_one (reading handle path bytes position)))
