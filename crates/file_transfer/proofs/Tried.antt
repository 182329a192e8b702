-- What a try came to, where all is well.
use Rattle.std.proofs.Common.{◌≡◌, true}
use Rattle.file_transfer.specs.Outcome.{MatchChanged, MatchCopied, is_well}
use Rattle.file_transfer.specs.declared.outcome.Contents.{Contents}
use Rattle.file_transfer.specs.declared.outcome.Outcome.{Outcome}
use Rattle.file_transfer.specs.declared.outcome.Outcome.TheVariants as o

-- what holds of a file that was copied, where all is well
pub copied_well : (outcome : Outcome) (P : Contents → Type 0) (Q : Type 0) → MatchCopied outcome P Q → is_well outcome ≡ true
    → (contents : Contents) × P contents
copied_well (o.Copied contents) P Q match well = (contents, match)
copied_well o.Changed P Q match well = absurd (cc)
copied_well _ P Q match well = absurd (cc)

-- what holds of a file that was changed, where all is well
pub changed_well : (outcome : Outcome) (P : Type 0) → MatchChanged outcome P → is_well outcome ≡ true → P
changed_well o.Changed P match well = match
changed_well (o.Copied contents) P match well = absurd (cc)
changed_well _ P match well = absurd (cc)
