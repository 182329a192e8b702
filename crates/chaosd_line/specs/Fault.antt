-- What is wrong with a command line.
use Rattle.std.specs.Prelude.{◌≡◌, ◌⊎◌, ◌∷◌, List, [], MatchResult, None, Result}
use Rattle.clap.specs.Values.{kind_of}
use Rattle.clap.specs.Words.{IsAmong, Text, fault_of}
use Rattle.clap.specs.declared.error.Error.{Error}
use Rattle.clap.specs.declared.error.kind.ErrorKind.{ErrorKind}
use Rattle.clap.specs.declared.error.kind.ErrorKind.TheVariants.{DisplayHelp, DisplayVersion, OutOfMemory, ValueValidation}
use Rattle.chaosd_line.specs.CommandLine.{chaosd}
use Rattle.chaosd_line.specs.Lines.{asked_line}
use Rattle.chaosd_line.specs.declared.fault.LineFault.{LineFault}
use Rattle.chaosd_line.specs.declared.fault.LineFault.TheVariants.{BadLine, Help, NoMemory}
use Rattle.chaosd_line.specs.declared.line_problem.LineProblem.{LineProblem}
use Rattle.chaosd_line.specs.declared.line_problem.LineProblem.TheVariants as problem

-- the kind of the error that reports why values can't be read
abbrev pub IsReported : LineProblem → ErrorKind → Type 0
IsReported (problem.Bad word) kind = (kind ≡ ValueValidation) ⊎ (kind ≡ OutOfMemory)
IsReported (problem.Clash files) kind = (kind ≡ ValueValidation) ⊎ (kind ≡ OutOfMemory)
IsReported problem.NoMemory kind = kind ≡ OutOfMemory

-- the fault that a kind of clap's errors stands for: the version is shown as help is
abbrev pub fault_of_kind : ErrorKind → LineFault
fault_of_kind DisplayHelp = Help
fault_of_kind DisplayVersion = Help
fault_of_kind OutOfMemory = NoMemory
fault_of_kind _ = BadLine

-- clap takes the words, but a value is not of its form, so they ask for no line
abbrev pub HasBadValue : List Text → Type 0
HasBadValue words = (fault_of chaosd words ≡ []) × (asked_line words ≡ None)

-- the kind is out of memory, one of those that clap has for the words, or that of a bad value
abbrev pub IsKindFor : List Text → ErrorKind → Type 0
IsKindFor words kind = IsAmong kind (OutOfMemory ∷ fault_of chaosd words)
    ⊎ ((kind ≡ ValueValidation) × HasBadValue words)

-- an `Ok` comes only where clap has nothing against the words, and an `Err` has a kind for them
abbrev pub FailsFor : {T : Type 0} → List Text → Result T Error → Type 0
FailsFor words r = MatchResult r (λ _. fault_of chaosd words ≡ []) (λ e. IsKindFor words (kind_of e))

-- the same of a refusal, which is the fault that such a kind stands for
abbrev pub RefusesFor : {T : Type 0} → List Text → Result T LineFault → Type 0
RefusesFor words r = MatchResult r (λ _. fault_of chaosd words ≡ [])
    (λ fault. (kind : ErrorKind) × IsKindFor words kind × (fault ≡ fault_of_kind kind))
