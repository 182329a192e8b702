-- What came of one file.
use Rattle.std.specs.Prelude.{◌≡◌, Bool, true, false}
use Rattle.std.specs.IoError.{error_kind}
use Rattle.std.specs.declared.io.ErrorKind.{ErrorKind}
use Rattle.std.specs.declared.io.ErrorKind.TheVariants as k
use Rattle.chaos_node.specs.declared.fault.NodeFault.{NodeFault}
use Rattle.chaos_node.specs.declared.fault.NodeFault.TheVariants as n
use Rattle.file_transfer.specs.declared.severity.Severity.{Severity}
use Rattle.file_transfer.specs.declared.severity.Severity.TheVariants as s
use Rattle.file_transfer.specs.declared.outcome.Contents.{Contents}
use Rattle.file_transfer.specs.declared.outcome.Outcome.{Outcome}
use Rattle.file_transfer.specs.declared.outcome.Outcome.TheVariants.{Copied, Changed, Garbled, TooBig, TooLong, Unnamed, Unread, Unwritten, Failed, Refused, Strange, Unanswered, Unknown, NotTried}

-- out of memory, or another fault of this side
abbrev pub severity_of_kind : ErrorKind → Severity
severity_of_kind k.OutOfMemory = s.NoMemory
severity_of_kind _ = s.Failed

-- out of memory, or a fault of a link or of the clock
abbrev pub severity_of_node : NodeFault → Severity
severity_of_node n.NoMemory = s.NoMemory
severity_of_node n.Link = s.Failed
severity_of_node n.Clock = s.Failed

-- all is well only where the file was copied, or was changed as was asked
abbrev pub severity_of : Outcome → Severity
severity_of (Copied contents) = s.Done
severity_of Changed = s.Done
severity_of (Garbled lost) = s.Refused
severity_of TooBig = s.Refused
severity_of TooLong = s.Refused
severity_of Unnamed = s.Refused
severity_of (Unread fault) = severity_of_kind (error_kind fault)
severity_of (Unwritten fault) = severity_of_kind (error_kind fault)
severity_of (Failed fault) = severity_of_node fault
severity_of (Refused reply) = s.Refused
severity_of (Strange reply) = s.Refused
severity_of (Unanswered why) = s.Refused
severity_of (Unknown why) = s.Refused
severity_of NotTried = s.Refused

-- whether what was asked for was done
abbrev pub is_well : Outcome → Bool
is_well (Copied contents) = true
is_well Changed = true
is_well _ = false

-- whether the next file is tried: not after a fault of the run, nor where the connection may be bad
abbrev pub goes_on : Outcome → Bool
goes_on (Copied contents) = true
goes_on Changed = true
goes_on (Garbled lost) = true
goes_on TooBig = true
goes_on TooLong = true
goes_on Unnamed = true
goes_on (Unread fault) = true
goes_on (Unwritten fault) = true
goes_on (Failed fault) = false
goes_on (Refused reply) = true
goes_on (Strange reply) = false
goes_on (Unanswered why) = false
goes_on (Unknown why) = false
goes_on NotTried = false

-- P of a file that was copied, and Q of a file that was neither copied nor changed
abbrev pub MatchCopied : Outcome → (Contents → Type 0) → Type 0 → Type 0
MatchCopied (Copied contents) P Q = P contents
MatchCopied outcome P Q = (is_well outcome ≡ false) × Q

-- P where a file was changed, and otherwise the file was neither changed nor copied
abbrev pub MatchChanged : Outcome → Type 0 → Type 0
MatchChanged Changed P = P
MatchChanged outcome P = is_well outcome ≡ false
