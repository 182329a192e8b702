-- Runs over files whose status is Done.
use Rattle.std.proofs.Common.{◌≡◌, ℕ, Bool, true, false, List, [], ◌∷◌, Option, refl, sym, subst}
use Rattle.std.specs.IoError.{error_kind}
use Rattle.std.specs.declared.io.ErrorKind.{ErrorKind}
use Rattle.std.specs.declared.io.ErrorKind.TheVariants as k
use Rattle.chaos_link.specs.declared.carriage.Carriage.{Carriage}
use Rattle.chaos_node.specs.declared.fault.NodeFault.{NodeFault}
use Rattle.chaos_node.specs.declared.fault.NodeFault.TheVariants as n
use Rattle.chaosd_line.specs.declared.framing.Framing.{Framing}
use Rattle.chaosd_line.specs.declared.framing.Framing.TheVariants.{Chudp, Own}
use Rattle.file_copy.specs.Talk.{History}
use Rattle.file_transfer.specs.Outcome.{MatchChanged, is_well, severity_of, severity_of_kind, severity_of_node}
use Rattle.file_transfer.specs.Sessions.{EntersAnd, rename_of}
use Rattle.file_transfer.specs.Severity.{is_done}
use Rattle.file_transfer.specs.declared.outcome.Outcome.{Outcome}
use Rattle.file_transfer.specs.declared.outcome.Outcome.TheVariants as o
use Rattle.file_transfer.specs.declared.severity.Severity.{Severity}
use Rattle.file_transfer.specs.declared.severity.Severity.TheVariants as s
use Rattle.chaosd_call.specs.Exit.{status_of_files}
use Rattle.chaosd_call.specs.Job.{Job, JobDone, Renames}
use Rattle.chaosd_call.specs.LineDone.{ByFraming}
use Rattle.chaosd_call.specs.declared.exit_status.ExitStatus.TheVariants.{Done}

-- the status is Done only where the worst that came of a file is
pub files_done : (worst : Severity) → status_of_files worst ≡ Done → is_done worst ≡ true
files_done s.Done done = refl
files_done s.Refused done = absurd (cc)
files_done s.Failed done = absurd (cc)
files_done s.NoMemory done = absurd (cc)

-- the same job by the same user, from the same state
pub same_job : {T : Type 0} (talked : T → History T) (connects : T → T → Type 0) (user name : List ℕ) (job line : Job) (start old now : T)
    → user ≡ name → job ≡ line → start ≡ old → JobDone talked connects user job start now
    → JobDone talked connects name line old now
same_job talked connects user name job line start old now same_user same_line same_start done =
    subst (λ u. JobDone talked connects u line old now) same_user
    (subst (λ j. JobDone talked connects user j old now) same_line
    (subst (λ t. JobDone talked connects user job t now) same_start done))

-- a user who wasn't logged in, and entered and renamed a file, did that whole job
pub renamed_job : {T : Type 0} (talked : T → History T) (connects : T → T → Type 0) (is_in : Bool) (user name from to : List ℕ)
    (start old now : T) → is_in ≡ false → user ≡ name → start ≡ old
    → EntersAnd talked connects is_in user start (rename_of from to) now
    → JobDone talked connects name (Renames from to) old now
renamed_job talked connects is_in user name from to start old now outside same_user same_start enters = (
  rename_of from to ∷ [],
  refl,
  subst (λ u. EntersAnd talked connects false u old (rename_of from to) now) same_user
      (subst (λ t. EntersAnd talked connects false user t (rename_of from to) now) same_start
      (subst (λ b. EntersAnd talked connects b user start (rename_of from to) now) outside enters)),
)

-- ---- what came of one file

kind_failed : (kind : ErrorKind) → is_done (severity_of_kind kind) ≡ false
kind_failed k.OutOfMemory = refl
kind_failed _ = refl

fault_failed : (fault : NodeFault) → is_done (severity_of_node fault) ≡ false
fault_failed n.Link = refl
fault_failed n.Clock = refl
fault_failed n.NoMemory = refl

-- all is well where the severity is Done
pub done_is_well : (outcome : Outcome) → is_done (severity_of outcome) ≡ true → is_well outcome ≡ true
done_is_well (o.Copied contents) done = refl
done_is_well o.Changed done = refl
done_is_well (o.Unread fault) done = absurd (cc (kind_failed (error_kind fault)))
done_is_well (o.Unwritten fault) done = absurd (cc (kind_failed (error_kind fault)))
done_is_well (o.Failed fault) done = absurd (cc (fault_failed fault))
done_is_well _ done = absurd (cc)

-- what holds of a file that was changed, where all is well
pub changed_well : (outcome : Outcome) (P : Type 0) → MatchChanged outcome P → is_well outcome ≡ true → P
changed_well o.Changed P match well = match
changed_well (o.Copied contents) P match well = absurd (cc)
changed_well _ P match well = absurd (cc)

-- ---- framings

pub over_own : (framing : Framing) (carriage : Carriage) (own chudp : Type 0) → framing ≡ Own carriage → own
    → ByFraming framing own chudp
over_own framing carriage own chudp is did = subst (λ f. ByFraming f own chudp) (sym is) did

pub over_chudp : (framing : Framing) (bridge : Option ℕ) (own chudp : Type 0) → framing ≡ Chudp bridge → chudp
    → ByFraming framing own chudp
over_chudp framing bridge own chudp is did = subst (λ f. ByFraming f own chudp) (sym is) did
