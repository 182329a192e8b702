-- What runs over files are worth: a run that is Done, and each file that is reported as copied in any run.
use Rattle.std.specs.Prelude.{◌≡◌, ℕ, Bool, true, false, List, [], ◌∷◌, ◌++◌, Option, Some, option_map}
use Rattle.std.specs.Borrow.{Bor}
use Rattle.file_copy.specs.declared.observer.Observer as o
use Rattle.file_copy.specs.declared.talk.Talk as t
use Rattle.file_copy.specs.Operation.{Operation}
use Rattle.file_copy.specs.Talk.{History}
use Rattle.file_names.specs.declared.put_file.PutFile.{PutFile}
use Rattle.file_transfer.specs.Runs.{Reported, Runs, Tried, Tries}
use Rattle.file_transfer.specs.Sessions.{AllDone, HasDone, IsDelete, IsGet, IsPut, get_of, put_of}
use Rattle.file_transfer.specs.Severity.{is_done}
use Rattle.file_transfer.specs.declared.delete_files.DeleteFiles.{DeleteFiles}
use Rattle.file_transfer.specs.declared.get_files.GetFiles.{GetFiles}
use Rattle.file_transfer.specs.declared.outcome.Contents.{Contents}
use Rattle.file_transfer.specs.declared.outcome.Outcome.{Outcome}
use Rattle.file_transfer.specs.declared.outcome.Outcome.TheVariants.{Copied}
use Rattle.file_transfer.specs.declared.put_files.PutFiles.{PutFiles}
use Rattle.file_transfer.specs.declared.severity.Severity.{Severity}

-- In a run from the first state on, a session that began at some state of the run: from there on a connection was asked for, the user
-- logged in, and exactly these operations were done.
pub record RanIn {C F T : Type 0} (talked : T → History T) (connects : T → T → Type 0) (one : C → F → Outcome → C → Type 0)
    (talk : C → T) (user : List ℕ) (start : C) (operations : List Operation) (now : T) : Type 0 where
  pub earlier : List (Tried F)
  pub began : C
  pub tried : Tries one start earlier true began
  pub has : HasDone talked connects user (talk began) operations now

module _ {T L V : Type 0} {talk : t.Ghosts T} {sink : o.Ghosts V} (talked : T → History T) (connects : T → T → Type 0) where
  -- A run that is Done, of a user who wasn't logged in, got each of these paths in one session.
  abbrev pub RunsGet : (GetFiles T L V talk sink → Bor (List ℕ) → Outcome → GetFiles T L V talk sink → Type 0) → Type 0
  RunsGet tries = (old new : GetFiles T L V talk sink) (name : Bor (List ℕ) → List ℕ) (before after : Option (List Reported))
      (paths : List (Bor (List ℕ))) (severity : Severity) (goes : Bool)
      → Runs tries name old before paths severity goes new after → is_done severity ≡ true → old.session.is_in ≡ false
      → AllDone talked connects IsGet old.session.login.now old.session.user.talk paths new.session.user.talk

  -- Whatever came of the files before it, a file that is reported as copied was got, as the last operation of a session of the run.
  abbrev pub RunGot : (GetFiles T L V talk sink → Bor (List ℕ) → Outcome → GetFiles T L V talk sink → Type 0) → Type 0
  RunGot tries = (old between new : GetFiles T L V talk sink) (before : List (Tried (Bor (List ℕ)))) (path : Bor (List ℕ))
      (contents : Contents)
      → Tries tries old before true between → tries between path (Copied contents) new → old.session.is_in ≡ false
      → (operations : List Operation) × (bytes : List ℕ)
      × RanIn talked connects tries (λ g. g.session.user.talk) old.session.login.now old (operations ++ get_of path.now bytes ∷ [])
      new.session.user.talk

  -- The same of a run that puts these files.
  abbrev pub RunsPut : (PutFiles T L V talk sink → PutFile → Outcome → PutFiles T L V talk sink → Type 0) → Type 0
  RunsPut tries = (old new : PutFiles T L V talk sink) (name : PutFile → List ℕ) (before after : Option (List Reported))
      (files : List PutFile) (severity : Severity) (goes : Bool)
      → Runs tries name old before files severity goes new after → is_done severity ≡ true → old.session.is_in ≡ false
      → AllDone talked connects IsPut old.session.login.now old.session.user.talk files new.session.user.talk

  abbrev pub RunPut : (PutFiles T L V talk sink → PutFile → Outcome → PutFiles T L V talk sink → Type 0) → Type 0
  RunPut tries = (old between new : PutFiles T L V talk sink) (before : List (Tried PutFile)) (file : PutFile)
      (contents : Contents)
      → Tries tries old before true between → tries between file (Copied contents) new → old.session.is_in ≡ false
      → (operations : List Operation) × (path bytes : List ℕ) × (option_map (λ p. p.items) file.path ≡ Some path)
      × RanIn talked connects tries (λ g. g.session.user.talk) old.session.login.now old (operations ++ put_of path bytes ∷ [])
      new.session.user.talk

module _ {T V : Type 0} {talk : t.Ghosts T} {sink : o.Ghosts V} (talked : T → History T) (connects : T → T → Type 0) where
  -- The same of a run that deletes these paths.
  abbrev pub RunsDelete : (DeleteFiles T V talk sink → Bor (List ℕ) → Outcome → DeleteFiles T V talk sink → Type 0) → Type 0
  RunsDelete tries = (old new : DeleteFiles T V talk sink) (name : Bor (List ℕ) → List ℕ) (before after : Option (List Reported))
      (paths : List (Bor (List ℕ))) (severity : Severity) (goes : Bool)
      → Runs tries name old before paths severity goes new after → is_done severity ≡ true → old.session.is_in ≡ false
      → AllDone talked connects IsDelete old.session.login.now old.session.user.talk paths new.session.user.talk
