-- A run's calls that went well, and what was handed on.
use Rattle.std.proofs.Common.{◌≡◌, ℕ, List, [], ◌++◌, sym, ap, ◌∙◌, append-nil}
use Rattle.std.specs.Prelude.{Option, None, Some, Result, Ok, Err, OnOk, IsOk, MatchResult}
use Rattle.std.specs.Io.KnownBytes.{Appends}
use Rattle.chaosd_io.specs.declared.fault.RunFault.{RunFault}
use Rattle.chaosd_io.specs.declared.fault.RunFault.TheVariants.{WriteFault}
use Rattle.chaosd_io.specs.Buffer.{written_of}

no_fault : (Y : Type 0) (y : Y) → ◌≡◌ {A = Result Y RunFault} (Ok y) (Err WriteFault) → ⊥
no_fault Y y h = cc

-- a writer's call that wasn't answered by a fault went well
pub went_well : {X Y E P : Type 0} (end : Result X E) (answer : Result Y RunFault) (y : Y)
    → MatchResult end (λ _. IsOk answer) (λ _. answer ≡ Err WriteFault) → answer ≡ Ok y → OnOk end P → P
went_well (Ok x) answer y fault ok p = p
went_well {Y = Y} (Err e) answer y fault ok p = absurd (no_fault Y y (sym ok ∙ fault))

-- ---- what was handed on

-- where nothing waits, all that was written is what the writer holds
pub handed : (before held : Option (List ℕ)) (waiting text : List ℕ) → waiting ≡ []
    → Appends before (written_of held waiting) text → Appends before held text
handed None held waiting text none p = tt
handed (Some x) None waiting text none p = absurd p
handed (Some x) (Some y) waiting text none p = sym (append-nil y) ∙ ap (λ l. y ++ l) (sym none) ∙ p
