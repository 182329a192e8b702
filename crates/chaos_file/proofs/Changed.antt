-- From a plan carried out to what the command is reported to have changed.
use Rattle.std.proofs.Common.{◌≡◌, ℕ, List, ◌++◌, length, Option, None, Ok, Err, ap, ◌∙◌, sym, subst, arith}
use Rattle.chaos_file.specs.declared.error.FileError.{FileError}
use Rattle.chaos_file.specs.declared.change.Change.{Change}
use Rattle.chaos_file.specs.Error.{error_text}
use Rattle.chaos_file.specs.Command.{ParsedView}
use Rattle.chaos_file.specs.Grammar.{parse_of}
use Rattle.chaos_file.specs.Answer.{Answer, Opened, Closed, Renamed, Deleted, reply_to}
use Rattle.chaos_file.specs.Session.{SessionView}
use Rattle.chaos_file.specs.Store.{StoreChange}
use Rattle.chaos_file.specs.Plan.{Request, GetFile, PutFile, RenameFile, RemoveFile, Plan, Refuse, Tell, Grow, Ask, plan_of}
use Rattle.chaos_file.specs.Outcome.{Done, Work, whole_reply, Serves, Settles, Follows, IsDone}
use Rattle.chaos_file.specs.Change.{Makes, IsChange, Reports, reported}
use Rattle.chaos_file.proofs.Apply.{front_to}

-- ---- a part that needs no store

pub settled_unmade : (store : StoreChange) (work : Work) (s t : SessionView) (made : Option Change)
    → made ≡ None → (done : Done) → (plan : Plan) → Settles plan work → Reports store plan s t made done
settled_unmade store work s t made e (Ok u) (Refuse error) h = e
settled_unmade store work s t made e (Ok u) (Tell v answer) h = e
settled_unmade store work s t made e (Ok u) (Grow v answer) h = e
settled_unmade store work s t made e (Ok u) (Ask request) h = absurd h
settled_unmade store work s t made e (Err error) plan h = tt

-- ---- the whole command

abbrev work_at : ParsedView → Done → List ℕ → SessionView → SessionView → Work
work_at p done after s t = record { done = done; front = front_to p; reply = after; old = s; new = t }

-- a part that was carried out has told an answer
abbrev HasTold : ParsedView → List ℕ → Type 0
HasTold p after = (answer : Answer) × (after ≡ reply_to p (Ok answer))

served_told : (store : StoreChange) (s t : SessionView) (p : ParsedView) (after : List ℕ) → (request : Request)
    → Serves store request (work_at p (Ok tt) after s t) → HasTold p after
served_told store s t p after (GetFile name path) h = (Opened (length h.0), h.2)
served_told store s t p after (PutFile path bytes u) h = (Closed (length bytes), h.0)
served_told store s t p after (RenameFile old new) h = (Renamed, h.0)
served_told store s t p after (RemoveFile path) h = (Deleted, h.0)

done_told : (store : StoreChange) (s t : SessionView) (p : ParsedView) (after : List ℕ) → (plan : Plan)
    → Follows store plan (work_at p (Ok tt) after s t) → HasTold p after
done_told store s t p after (Refuse error) h = let k : Ok tt ≡ Err error = h.0.0.0 in absurd (grind arith)
done_told store s t p after (Tell u answer) h = (answer, h.0.0)
done_told store s t p after (Grow u answer) h = (answer, h.0.0)
done_told store s t p after (Ask request) h = served_told store s t p after request h

-- a part that was refused has told nothing, and left the session
refused_at : (store : StoreChange) (s t : SessionView) (p : ParsedView) (error : FileError) (after : List ℕ)
    → (plan : Plan) → Follows store plan (work_at p (Err error) after s t) → (after ≡ front_to p) × (t ≡ s)
refused_at store s t p error after (Refuse other) h = (h.0.0.1, h.0.1)
refused_at store s t p error after (Tell u answer) h = absurd h.0.0
refused_at store s t p error after (Grow u answer) h = (h.0.1, h.0.2)
refused_at store s t p error after (Ask request) h = (h.1, h.2)

changed_here : (store : StoreChange) (s t : SessionView) (command : List ℕ) (after : List ℕ)
    (change made : Option Change)
    → (done : Done) → IsDone store (plan_of s (parse_of command)) (work_at (parse_of command) done after s t)
    → Reports store (plan_of s (parse_of command)) s t change done
    → made ≡ reported t (parse_of command) change done
    → IsChange store s t command (whole_reply done after) made
changed_here store s t command after change made (Ok u) d r e =
    let told : HasTold (parse_of command) after =
    done_told store s t (parse_of command) after (plan_of s (parse_of command)) d.any in
    (Ok told.0, told.1, subst (λ m. Makes store (plan_of s (parse_of command)) s t m) (sym e) r)
changed_here store s t command after change made (Err error) d r e =
    let at : (after ≡ front_to (parse_of command)) × (t ≡ s) =
    refused_at store s t (parse_of command) error after (plan_of s (parse_of command)) d.any in (
      Err error,
      ap (λ x. x ++ error_text error) at.0,
      e ∙ ap (λ u. reported u (parse_of command) change (Err error)) at.1,
    )

-- a plan carried out for what was parsed, behind its reply's front, has changed what is reported
pub is_change : (store : StoreChange) (s t : SessionView) (command reply : List ℕ) (p : ParsedView) (done : Done)
    (before after : List ℕ) (change made : Option Change)
    → p ≡ parse_of command → before ≡ front_to p → reply ≡ whole_reply done after
    → IsDone store (plan_of s p) (record { done = done; front = before; reply = after; old = s; new = t })
    → Reports store (plan_of s p) s t change done → made ≡ reported t p change done
    → IsChange store s t command reply made
is_change store s t command reply p done before after change made e f r h reports m =
    let AtFront : List ℕ → Type 0 =
    λ b. IsDone store (plan_of s p) (record { done = done; front = b; reply = after; old = s; new = t }) in
    let AtParsed : ParsedView → Type 0 = λ q. IsDone store (plan_of s q) (work_at q done after s t) in
    let AtReply : List ℕ → Type 0 = λ x. IsChange store s t command x made in
    subst AtReply (sym r)
    (changed_here store s t command after change made done (subst AtParsed e (subst AtFront f h))
    (subst (λ q. Reports store (plan_of s q) s t change done) e reports)
    (subst (λ q. made ≡ reported t q change done) e m))
