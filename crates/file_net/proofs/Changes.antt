-- A DELETE and a RENAME among the commands of others.
use Rattle.std.proofs.Common.{◌≡◌, ℕ, Bool, true, false, List, [], ◌∷◌, Ok, Err, refl, ap, ◌∙◌}
use Rattle.std.specs.Prelude.{◌&&◌, if◌then◌else◌}
use Rattle.std.specs.Fmt.{decimal}
use Rattle.std.specs.FinMap as map
use Rattle.chaos_file.specs.declared.error.FileError.TheVariants as e
use Rattle.chaos_file.specs.declared.limits.TheConstants.{MAX_TID}
use Rattle.chaos_file.specs.Names.{is_name, is_path}
use Rattle.chaos_file.specs.Command.{Delete, Rename}
use Rattle.chaos_file.specs.Spelling.{spelling_of, is_good}
use Rattle.chaos_file.specs.Answer.{Deleted, Renamed}
use Rattle.chaos_file.specs.Session.{SessionView}
use Rattle.chaos_file.specs.Store.{Files, is_there, with_moved}
use Rattle.chaos_file.specs.Step.{Left, file_step}
use Rattle.chaos_net.specs.Net.{Name}
use Rattle.file_copy.specs.Copy.{reply_of, logged_in}
use Rattle.file_copy.specs.Ends.{delete_command, delete_reply, rename_command, rename_reply}
use Rattle.file_copy.proofs.Runs.{StepIs}
use Rattle.file_copy.proofs.Steps.{step_good}
use Rattle.file_net.specs.History.{Transaction, Service, after_one, after_all, AreRight, commands_by, replies_to}
use Rattle.file_net.specs.Operations.{Moment}
use Rattle.file_net.proofs.Next.{good_bare, one_in}
use Rattle.file_net.proofs.Shown.{is_answer, not_refused}

-- ---- what the reply shows of the files

pub record Deletes (m : Files) (name tid path : List ℕ) : Type 0 where
  pub there : is_there m path ≡ true
  pub step : StepIs m (logged_in name) (spelling_of tid [] (Delete path)) (map.remove m path) (logged_in name)
      (reply_of tid [] Deleted)

deletes : (m : Files) (name tid path : List ℕ) → is_good tid [] (Delete path) ≡ true
    → (file_step m (logged_in name) (spelling_of tid [] (Delete path))).reply ≡ reply_of tid [] Deleted
    → Deletes m name tid path
deletes m name tid path good told = by (is_there m path) refl
  where
    s : SessionView
    s = logged_in name

    left : Left
    left = record { files = map.remove m path; session = s; answer = Deleted }

    by : (b : Bool) → is_there m path ≡ b → Deletes m name tid path
    by true is = record {
      there = is;
      step = step_good m s tid [] (Delete path) left good (ap (λ b. if b then Ok left else Err e.NoSuchFile) is);
    }
    by false is =
        absurd
        (not_refused m s tid [] (Delete path) e.NoSuchFile Deleted good
        (ap (λ b. if b then Ok left else Err e.NoSuchFile) is) told)

pub record Renames (m : Files) (name tid old new : List ℕ) : Type 0 where
  pub there : is_there m old ≡ true
  pub free : is_there m new ≡ false
  pub step : StepIs m (logged_in name) (spelling_of tid [] (Rename old new)) (with_moved m old new) (logged_in name)
      (reply_of tid [] Renamed)

renames : (m : Files) (name tid old new : List ℕ) → is_good tid [] (Rename old new) ≡ true
    → (file_step m (logged_in name) (spelling_of tid [] (Rename old new))).reply ≡ reply_of tid [] Renamed
    → Renames m name tid old new
renames m name tid old new good told = by (is_there m old) (is_there m new) refl refl
  where
    s : SessionView
    s = logged_in name

    left : Left
    left = record { files = with_moved m old new; session = s; answer = Renamed }

    by : (b d : Bool) → is_there m old ≡ b → is_there m new ≡ d → Renames m name tid old new
    by true false is free = record {
      there = is;
      free = free;
      step =
          step_good m s tid [] (Rename old new) left good
          (λ j. if is j then (if free j then Err e.FileExists else Ok left) else Err e.NoSuchFile);
    }
    by true true is taken =
        absurd
        (not_refused m s tid [] (Rename old new) e.FileExists Renamed good
        (λ j. if is j then (if taken j then Err e.FileExists else Ok left) else Err e.NoSuchFile) told)
    by false d is other =
        absurd
        (not_refused m s tid [] (Rename old new) e.NoSuchFile Renamed good
        (ap (λ b. if b then (if is_there m new then Err e.FileExists else Ok left) else Err e.NoSuchFile) is) told)

-- ---- among the commands of others

pub record DeletedIn (c : Name) (v : Service) (h : List Transaction) (s : SessionView) (command path : List ℕ)
    (more : List (List ℕ)) : Type 0 where
  pub at : Moment h c [] command
  pub there : is_there (after_all v at.before).files path ≡ true
  pub file : (after_one (after_all v at.before) at.transaction).files ≡ map.remove (after_all v at.before).files path
  -- the session is as before, if the connection sent no more
  pub session : more ≡ [] → (after_all v h).session c ≡ s

pub deleted_in : (c : Name) (v : Service) (h : List Transaction) (name : List ℕ) (tid : ℕ) (path : List ℕ)
    (more heard : List (List ℕ)) → AreRight v h → v.session c ≡ logged_in name
    → is_name 1 MAX_TID (decimal tid) ≡ true → is_path path ≡ true → commands_by c h ≡ delete_command tid path ∷ more
    → replies_to c h ≡ delete_reply tid ∷ heard
    → DeletedIn c v h (logged_in name) (delete_command tid path) path more
deleted_in c v h name tid path more heard right ready named legal said told =
    let good = good_bare (decimal tid) (Delete path) named legal in
    let o =
    one_in c v h (logged_in name) (delete_command tid path) (delete_reply tid) more heard right ready said told
    (is_answer (decimal tid) [] (Delete path) Deleted good) in
    let d = deletes (after_all v o.at.before).files name (decimal tid) path good o.told in
    record {
      at = o.at;
      there = d.there;
      file = o.files ∙ d.step.files;
      session = λ none. o.session none ∙ d.step.session;
    }

pub record RenamedIn (c : Name) (v : Service) (h : List Transaction) (s : SessionView) (command old new : List ℕ)
    (more : List (List ℕ)) : Type 0 where
  pub at : Moment h c [] command
  pub there : is_there (after_all v at.before).files old ≡ true
  pub free : is_there (after_all v at.before).files new ≡ false
  pub file : (after_one (after_all v at.before) at.transaction).files ≡ with_moved (after_all v at.before).files old new
  -- the session is as before, if the connection sent no more
  pub session : more ≡ [] → (after_all v h).session c ≡ s

pub renamed_in : (c : Name) (v : Service) (h : List Transaction) (name : List ℕ) (tid : ℕ) (old new : List ℕ)
    (more heard : List (List ℕ)) → AreRight v h → v.session c ≡ logged_in name
    → is_name 1 MAX_TID (decimal tid) ≡ true → is_path old ≡ true → is_path new ≡ true
    → commands_by c h ≡ rename_command tid old new ∷ more → replies_to c h ≡ rename_reply tid ∷ heard
    → RenamedIn c v h (logged_in name) (rename_command tid old new) old new more
renamed_in c v h name tid old new more heard right ready named from to said told =
    let good =
    good_bare (decimal tid) (Rename old new) named (ap (λ b. b && is_path new) from ∙ to) in
    let o =
    one_in c v h (logged_in name) (rename_command tid old new) (rename_reply tid) more heard right ready said told
    (is_answer (decimal tid) [] (Rename old new) Renamed good) in
    let d = renames (after_all v o.at.before).files name (decimal tid) old new good o.told in
    record {
      at = o.at;
      there = d.there;
      free = d.free;
      file = o.files ∙ d.step.files;
      session = λ none. o.session none ∙ d.step.session;
    }
