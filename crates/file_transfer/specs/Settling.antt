-- What came of a file, by how its copy ended.
use Rattle.std.specs.Prelude.{◌≡◌, Bool, true, false, Ok, Err, Result, MatchResult}
use Rattle.chaos_node.specs.declared.fault.NodeFault.{NodeFault}
use Rattle.file_copy.specs.declared.end.CopyEnd.{CopyEnd}
use Rattle.file_copy.specs.declared.end.CopyEnd.TheVariants as e
use Rattle.file_copy.specs.declared.no_reply.NoReply.{NoReply}
use Rattle.file_transfer.specs.declared.outcome.Outcome.{Outcome}
use Rattle.file_transfer.specs.declared.outcome.Outcome.TheVariants as o

-- what came of it is this alone
abbrev pub Missed : {U : Type 0} → Result U Outcome → (Outcome → Type 0) → Type 0
Missed r P = MatchResult r (λ _. ⊥) P

-- Each end comes to one outcome: a copy that is done misses nothing, and each other end misses by the outcome of its name, with
-- why no reply came where none did.
abbrev pub ComesTo : {U : Type 0} → NoReply → Result CopyEnd NodeFault → Result U Outcome → Type 0
ComesTo why (Ok e.Done) r = MatchResult r (λ _. Unit {0}) (λ _. ⊥)
ComesTo why (Ok (e.Refused reply)) r = Missed r (λ outcome. outcome ≡ o.Refused reply)
ComesTo why (Ok (e.Strange reply)) r = Missed r (λ outcome. outcome ≡ o.Strange reply)
ComesTo why (Ok e.Unanswered) r = Missed r (λ outcome. outcome ≡ o.Unanswered why)
ComesTo why (Ok e.Unknown) r = Missed r (λ outcome. outcome ≡ o.Unknown why)
ComesTo why (Err fault) r = Missed r (λ outcome. outcome ≡ o.Failed fault)

-- how a change ended: where no reply came, it isn't known whether it was made
abbrev pub change_end : Result CopyEnd NodeFault → Result CopyEnd NodeFault
change_end (Ok e.Done) = Ok e.Done
change_end (Ok (e.Refused reply)) = Ok (e.Refused reply)
change_end (Ok (e.Strange reply)) = Ok (e.Strange reply)
change_end (Ok e.Unanswered) = Ok e.Unknown
change_end (Ok e.Unknown) = Ok e.Unknown
change_end (Err fault) = Err fault

-- the file was copied, so that every reply was received
abbrev pub is_done : Result CopyEnd NodeFault → Bool
is_done (Ok e.Done) = true
is_done (Ok (e.Refused reply)) = false
is_done (Ok (e.Strange reply)) = false
is_done (Ok e.Unanswered) = false
is_done (Ok e.Unknown) = false
is_done (Err fault) = false

-- the change got its reply: it was made, or the server refused it
abbrev pub is_replied : Result CopyEnd NodeFault → Bool
is_replied (Ok e.Done) = true
is_replied (Ok (e.Refused reply)) = true
is_replied (Ok (e.Strange reply)) = false
is_replied (Ok e.Unanswered) = false
is_replied (Ok e.Unknown) = false
is_replied (Err fault) = false
