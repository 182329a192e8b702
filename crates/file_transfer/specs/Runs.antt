-- A run over files, one after another.
use Rattle.std.specs.Prelude.{◌≡◌, ℕ, Bool, true, false, List, [], ◌∷◌, ◌++◌, map, Option, option_map}
use Rattle.std.specs.List.{list_all}
use Rattle.file_transfer.specs.declared.severity.Severity.{Severity}
use Rattle.file_transfer.specs.declared.severity.Severity.TheVariants as s
use Rattle.file_transfer.specs.declared.outcome.Outcome.{Outcome}
use Rattle.file_transfer.specs.declared.outcome.Outcome.TheVariants.{NotTried}
use Rattle.file_transfer.specs.Severity.{worse, is_done}
use Rattle.file_transfer.specs.Outcome.{severity_of, is_well, goes_on}

-- a file that was tried or not, and what came of it
pub record Tried (F : Type 0) : Type 0 where
  pub file : F
  pub outcome : Outcome

-- what is reported of it, under its name
pub record Reported : Type 0 where
  pub name : List ℕ
  pub outcome : Outcome

abbrev pub reported_of : {F : Type 0} → (F → List ℕ) → List (Tried F) → List Reported
reported_of name files = map (λ f. record { name = name f.file; outcome = f.outcome }) files

-- the worst of a severity and of what came of files
abbrev pub worst_from : {F : Type 0} → Severity → List (Tried F) → Severity
worst_from severity [] = severity
worst_from severity (file ∷ files) = worst_from (worse severity (severity_of file.outcome)) files

abbrev pub all_well : {F : Type 0} → List (Tried F) → Bool
all_well files = list_all (λ file. is_well file.outcome) files

-- what was reported, and these files behind it
abbrev pub reported_after : List Reported → Option (List Reported) → Option (List Reported)
reported_after files reported = option_map (λ before. before ++ files) reported

-- From a state on, files were tried one after another, with what came of each; once one ends the run, those behind it
-- aren't tried.
pub data Tries {C F : Type 0} (one : C → F → Outcome → C → Type 0) (start : C) : List (Tried F) → Bool → C
    → Type 0 where
  none : Tries one start [] true start
  tried : (files : List (Tried F)) (c d : C) (file : F) (outcome : Outcome) → Tries one start files true c
      → one c file outcome d
      → Tries one start (files ++ record { file = file; outcome = outcome } ∷ []) (goes_on outcome) d
  left : (files : List (Tried F)) (c : C) (file : F) → Tries one start files false c
      → Tries one start (files ++ record { file = file; outcome = NotTried } ∷ []) false c

-- A run over these files: what came of each was reported under its name, in their order, its severity is the worst, and all is
-- well exactly where what was asked for was done with each.
pub record Runs {C F : Type 0} (one : C → F → Outcome → C → Type 0) (name : F → List ℕ) (start : C)
    (reported : Option (List Reported)) (files : List F) (severity : Severity) (goes : Bool) (now : C)
    (reported_now : Option (List Reported)) : Type 0
  where
    pub tries : List (Tried F)
    pub files_are : map (λ t. t.file) tries ≡ files
    pub tried : Tries one start tries goes now
    pub reporting : reported_now ≡ reported_after (reported_of name tries) reported
    pub worst : severity ≡ worst_from s.Done tries
    pub all : is_done severity ≡ all_well tries
