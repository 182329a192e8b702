-- From a plan carried out to the whole command and its reply.
use Rattle.std.proofs.Common.{◌≡◌, ◌⊎◌, ℕ, List, ◌++◌, length, Option, Some, None, Result, Ok, Err, ◌≤◌, refl, ap, ◌∙◌, sym, subst, inl, inr, arith}
use Rattle.std.specs.Prelude.{IfSome, OnErr, slice_index}
use Rattle.std.proofs.lemmas.List.{append_cancel_left}
use Rattle.chaos_file.specs.declared.error.FileError.{FileError}
use Rattle.chaos_file.specs.declared.error.FileError.TheVariants as e
use Rattle.chaos_file.specs.Error.{error_text}
use Rattle.chaos_file.specs.Command.{ParsedView, tid_of, handle_of}
use Rattle.chaos_file.specs.Grammar.{parse_of}
use Rattle.chaos_file.specs.Answer.{Answer, LoggedIn, Opened, Given, AtEnd, Wrote, Closed, Renamed, Deleted, answer_text, reply_front, reply_to}
use Rattle.chaos_file.specs.Session.{SessionView}
use Rattle.chaos_file.specs.Store.{Files, StoreChange}
use Rattle.chaos_file.specs.Plan.{Request, GetFile, PutFile, RenameFile, RemoveFile, Plan, Refuse, Tell, Grow, Ask, plan_of}
use Rattle.chaos_file.specs.Step.{Left, outcome_of_request, outcome_of, step_of}
use Rattle.chaos_file.specs.Outcome.{Done, Work, Tells, whole_reply, Serves, Does, Follows, Ends, Meets, IsDone}
use Rattle.chaos_file.specs.Apply.{IsStep, AsksStore, MayGrow, IsKept, Applies, IsServed, Answers, IsApplied}

-- the front of the reply to a command
abbrev pub front_to : ParsedView → List ℕ
front_to p = reply_front (tid_of p) (handle_of p)

-- as in `Applies`, with plan and outcome apart
abbrev Outcomes : StoreChange → Files → SessionView → SessionView → ParsedView → Result Left FileError → Plan → List ℕ
    → Type 0
Outcomes store m s t p outcome plan reply =
    IsStep store (step_of m s p outcome) reply t
    ⊎ ((store.rose × AsksStore plan × (reply ≡ reply_to p (Err e.StoreFault)) × IsKept store m s t)
    ⊎ (MayGrow plan × (reply ≡ reply_to p (Err e.NoMemory)) × IsKept store m s t))

-- what a part of the work is, where the reply's front is that of a command
abbrev work_at : ParsedView → Done → List ℕ → SessionView → SessionView → Work
work_at p done after s t = record { done = done; front = front_to p; reply = after; old = s; new = t }

-- an answer at the reply's end, or an error
told : (p : ParsedView) (answer : Answer) (done : Done) (after : List ℕ) (s t : SessionView)
    → Tells answer done (work_at p done after s t) → whole_reply done after ≡ reply_to p (Ok answer)
told p answer (Ok u) after s t h = h
told p answer (Err error) after s t h = absurd h

refused : (p : ParsedView) (error : FileError) (done : Done) (after : List ℕ) → done ≡ Err error → after ≡ front_to p
    → whole_reply done after ≡ reply_to p (Err error)
refused p error done after d h = ap (λ x. whole_reply x after) d ∙ ap (λ x. x ++ error_text error) h

ends_step : (store : StoreChange) (m : Files) (s t : SessionView) (p : ParsedView) (done : Done) (after : List ℕ)
    → (outcome : Result Left FileError) → Ends store m outcome (work_at p done after s t)
    → IsStep store (step_of m s p outcome) (whole_reply done after) t
ends_step store m s t p done after (Ok l) h = (told p l.answer done after s t h.0, h.1, h.2)
ends_step store m s t p done after (Err error) h = (refused p error done after h.0.0 h.0.1, h.1, h.2)

met : (store : StoreChange) (m : Files) (s t : SessionView) (p : ParsedView) (after : List ℕ) (plan : Plan)
    → AsksStore plan → MayGrow plan → (outcome : Result Left FileError) → (done : Done)
    → Meets store m outcome done (work_at p done after s t)
    → Outcomes store m s t p outcome plan (whole_reply done after)
met store m s t p after plan asks may outcome (Ok u) h = inl (ends_step store m s t p (Ok u) after outcome h)
met store m s t p after plan asks may outcome (Err e.StoreFault) h =
    inr (inl (h.0, asks, ap (λ x. x ++ error_text e.StoreFault) h.1.0, (h.1.1, h.1.2)))
met store m s t p after plan asks may outcome (Err e.NoMemory) h =
    inr (inr (may, ap (λ x. x ++ error_text e.NoMemory) h.0, (h.1, h.2)))
met store m s t p after plan asks may outcome (Err error) h = inl (ends_step store m s t p (Err error) after outcome h)

does_outcomes : (store : StoreChange) (m : Files) (s t : SessionView) (p : ParsedView) (done : Done) (after : List ℕ)
    → (plan : Plan) → Does store m plan (work_at p done after s t)
    → Outcomes store m s t p (outcome_of m s plan) plan (whole_reply done after)
does_outcomes store m s t p done after (Refuse error) h = inl (refused p error done after h.0.0.0 h.0.0.1, h.0.1, h.1)
does_outcomes store m s t p done after (Tell u answer) h = inl (told p answer done after s t h.0.0, h.0.1, h.1)
does_outcomes store m s t p (Ok u) after (Grow v answer) h = inl (h.0.0, h.0.1, h.1)
does_outcomes store m s t p (Err error) after (Grow v answer) h =
    inr (inr (tt, ap (λ x. after ++ error_text x) h.0.0 ∙ ap (λ x. x ++ error_text e.NoMemory) h.0.1, (h.0.2, h.1)))
does_outcomes store m s t p done after (Ask request) h =
    met store m s t p after (Ask request) tt tt (outcome_of_request m s request) done h

-- ---- over any store

serves_served : (store : StoreChange) (s t : SessionView) (p : ParsedView) (done : Done) (after : List ℕ)
    → (request : Request) → Serves store request (work_at p done after s t) → IsServed store request p after s t
serves_served store s t p done after (GetFile name path) h = h
serves_served store s t p done after (PutFile path bytes u) h = h
serves_served store s t p done after (RenameFile old new) h = h
serves_served store s t p done after (RemoveFile path) h = h

followed : (store : StoreChange) (s t : SessionView) (p : ParsedView) (done : Done) (after : List ℕ) → (plan : Plan)
    → Follows store plan (work_at p done after s t) → Answers store plan p (whole_reply done after) s t
followed store s t p done after (Refuse error) h = (refused p error done after h.0.0.0 h.0.0.1, h.0.1, h.1)
followed store s t p done after (Tell u answer) h = (told p answer done after s t h.0.0, h.0.1, h.1)
followed store s t p (Ok u) after (Grow v answer) h = (inl (h.0.0, h.0.1), h.1)
followed store s t p (Err error) after (Grow v answer) h =
    (inr (ap (λ x. after ++ error_text x) h.0.0 ∙ ap (λ x. x ++ error_text e.NoMemory) h.0.1, h.0.2), h.1)
followed store s t p (Ok u) after (Ask request) h = inl (serves_served store s t p (Ok u) after request h)
followed store s t p (Err error) after (Ask request) h = inr (error, h.0, ap (λ x. x ++ error_text error) h.1, h.2)

short_by : (store : StoreChange) (front reply : List ℕ) (s t : SessionView) (most : ℕ) → length front ≤ most
    → (done : Done) → (plan : Plan)
    → Follows store plan (record { done = done; front = front; reply = reply; old = s; new = t })
    → OnErr done (length reply ≤ most)
short_by store front reply s t most short (Ok u) plan h = tt
short_by store front reply s t most short (Err error) (Refuse other) h = rw h.0.0.1 short
short_by store front reply s t most short (Err error) (Tell u answer) h = absurd h.0.0
short_by store front reply s t most short (Err error) (Grow u answer) h = rw h.0.1 short
short_by store front reply s t most short (Err error) (Ask request) h = rw h.1 short

-- a reply doesn't go on where the command is refused
pub refused_short : (store : StoreChange) (front reply : List ℕ) (s t : SessionView) (most : ℕ) → length front ≤ most
    → (done : Done) (plan : Plan)
    → IsDone store plan (record { done = done; front = front; reply = reply; old = s; new = t })
    → OnErr done (length reply ≤ most)
refused_short store front reply s t most short done plan h = short_by store front reply s t most short done plan h.any

-- ---- an ERROR reply

-- the third letter of each error is an R, and of no other answer
error_letter : (error : FileError) → slice_index (error_text error) 2 ≡ 82
error_letter e.Syntax = refl
error_letter e.UnknownCommand = refl
error_letter e.NotLoggedIn = refl
error_letter e.IllegalPath = refl
error_letter e.HandleInUse = refl
error_letter e.NoSuchHandle = refl
error_letter e.WrongKind = refl
error_letter e.TooManyHandles = refl
error_letter e.FileTooBig = refl
error_letter e.NoSuchFile = refl
error_letter e.FileExists = refl
error_letter e.StoreFault = refl
error_letter e.NoMemory = refl

other_letter : (answer : Answer) → slice_index (answer_text answer) 2 ≡ 82 → ⊥
other_letter (LoggedIn name) h = let k : 71 ≡ 82 = h in omega arith
other_letter (Opened count) h = let k : 69 ≡ 82 = h in omega arith
other_letter (Given bytes) h = let k : 65 ≡ 82 = h in omega arith
other_letter AtEnd h = let k : 70 ≡ 82 = h in omega arith
other_letter (Wrote count) h = let k : 73 ≡ 82 = h in omega arith
other_letter (Closed count) h = let k : 79 ≡ 82 = h in omega arith
other_letter Renamed h = let k : 78 ≡ 82 = h in omega arith
other_letter Deleted h = let k : 76 ≡ 82 = h in omega arith

-- no answer is spelled as an error is
no_error : (p : ParsedView) (answer : Answer) (error : FileError) → reply_to p (Ok answer) ≡ reply_to p (Err error) → ⊥
no_error p answer error h =
    other_letter answer
    (ap (λ x. slice_index x 2) (append_cancel_left (front_to p) (answer_text answer) (error_text error) h)
    ∙ error_letter error)

served_no_error : (store : StoreChange) (s t : SessionView) (p : ParsedView) (reply : List ℕ) (error : FileError)
    → reply ≡ reply_to p (Err error) → (request : Request) → IsServed store request p reply s t → ⊥
served_no_error store s t p reply error q (GetFile name path) h = no_error p (Opened (length h.0)) error (sym h.2 ∙ q)
served_no_error store s t p reply error q (PutFile path bytes u) h =
    no_error p (Closed (length bytes)) error (sym h.0 ∙ q)
served_no_error store s t p reply error q (RenameFile old new) h = no_error p Renamed error (sym h.0 ∙ q)
served_no_error store s t p reply error q (RemoveFile path) h = no_error p Deleted error (sym h.0 ∙ q)

-- after an ERROR reply the session is as it was
answers_kept : (store : StoreChange) (s t : SessionView) (p : ParsedView) (reply : List ℕ) (error : FileError)
    → reply ≡ reply_to p (Err error) → (plan : Plan) → Answers store plan p reply s t → t ≡ s
answers_kept store s t p reply error q (Refuse other) h = h.1
answers_kept store s t p reply error q (Tell u answer) h = absurd (no_error p answer error (sym h.0 ∙ q))
answers_kept store s t p reply error q (Grow u answer) h =
    elim h.0 [ inl a ↦ absurd (no_error p answer error (sym a.0 ∙ q)) | inr b ↦ b.1 ]
answers_kept store s t p reply error q (Ask request) h =
    elim h [ inl a ↦ absurd (served_no_error store s t p reply error q request a) | inr b ↦ b.3 ]

stepped_kept : (store : StoreChange) (m : Files) (s t : SessionView) (p : ParsedView) (reply : List ℕ)
    (error : FileError)
    → reply ≡ reply_to p (Err error) → (outcome : Result Left FileError) → IsStep store (step_of m s p outcome) reply t
    → store.after ≡ Some m
stepped_kept store m s t p reply error q (Ok l) h = absurd (no_error p l.answer error (sym h.0 ∙ q))
stepped_kept store m s t p reply error q (Err other) h = h.2

-- after an ERROR reply the files are as they were
applies_kept : (store : StoreChange) (m : Files) (s t : SessionView) (command reply : List ℕ) (error : FileError)
    → reply ≡ reply_to (parse_of command) (Err error) → Applies store m s t command reply → store.after ≡ Some m
applies_kept store m s t command reply error q (inl h) =
    stepped_kept store m s t (parse_of command) reply error q (outcome_of m s (plan_of s (parse_of command))) h
applies_kept store m s t command reply error q (inr (inl h)) = h.3.1
applies_kept store m s t command reply error q (inr (inr h)) = h.2.1

some_weaker : {A : Type 0} (P Q : A → Type 0) (o : Option A) → ((x : A) → P x → Q x) → IfSome o P → IfSome o Q
some_weaker P Q None f h = h
some_weaker P Q (Some x) f h = f x h

-- ---- the whole promise

applied_here : (store : StoreChange) (s t : SessionView) (command : List ℕ) (done : Done) (after : List ℕ)
    → IsDone store (plan_of s (parse_of command)) (work_at (parse_of command) done after s t)
    → IsApplied store s t command (whole_reply done after)
applied_here store s t command done after d =
    let honest : IfSome store.before (λ m. Applies store m s t command (whole_reply done after)) =
    some_weaker (λ m. Does store m (plan_of s (parse_of command)) (work_at (parse_of command) done after s t))
    (λ m. Applies store m s t command (whole_reply done after)) store.before
    (λ m h. does_outcomes store m s t (parse_of command) done after (plan_of s (parse_of command)) h) d.honest in
    let any : Answers store (plan_of s (parse_of command)) (parse_of command) (whole_reply done after) s t =
    followed store s t (parse_of command) done after (plan_of s (parse_of command)) d.any in
    record {
      honest = honest;
      any = any;
      kept =
          λ error q. answers_kept store s t (parse_of command) (whole_reply done after) error q
          (plan_of s (parse_of command)) any;
      kept_files =
          some_weaker (λ m. Applies store m s t command (whole_reply done after))
          (λ m. (error : FileError) → whole_reply done after ≡ reply_to (parse_of command) (Err error)
          → store.after ≡ Some m)
          store.before
          (λ m h error q. applies_kept store m s t command (whole_reply done after) error q h) honest;
    }

-- a plan carried out for what was parsed, behind its reply's front, is the command applied
pub is_applied : (store : StoreChange) (s t : SessionView) (command reply : List ℕ) (p : ParsedView) (done : Done)
    (before after : List ℕ)
    → p ≡ parse_of command → before ≡ front_to p → reply ≡ whole_reply done after
    → IsDone store (plan_of s p) (record { done = done; front = before; reply = after; old = s; new = t })
    → IsApplied store s t command reply
is_applied store s t command reply p done before after e f r h =
    let AtFront : List ℕ → Type 0 =
    λ b. IsDone store (plan_of s p) (record { done = done; front = b; reply = after; old = s; new = t }) in
    let AtParsed : ParsedView → Type 0 = λ q. IsDone store (plan_of s q) (work_at q done after s t) in
    let AtReply : List ℕ → Type 0 = λ x. IsApplied store s t command x in
    subst AtReply (sym r) (applied_here store s t command done after (subst AtParsed e (subst AtFront f h)))
