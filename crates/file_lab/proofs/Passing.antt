-- Out of memory comes at an event that passed its checks.
use Rattle.std.proofs.Common.{◌≡◌, true, false, Option, Some, None, Result, Ok, Err, refl, sym, ap, ◌∙◌, inl, inr}
use Rattle.std.specs.Prelude.{Bool, slice_get}
use Rattle.std.specs.Bool.{MatchBool}
use Rattle.std.proofs.lemmas.Bool.{cond_both}
use Rattle.chaos_conn.specs.declared.fault.ConnFault.{ConnFault}
use Rattle.chaos_conn.specs.Act.{Call, act}
use Rattle.chaos_conn.specs.Act.Call.{Accept, Write, Read, Announce, Close, Tick}
use Rattle.chaos_lab.specs.declared.side.Side.{Side}
use Rattle.chaos_lab.specs.declared.side.Side.TheVariants.{B}
use Rattle.chaos_lab.specs.declared.stamped.Stamped.{Stamped}
use Rattle.chaos_lab.specs.declared.event.Stepped.{Stepped}
use Rattle.chaos_lab.specs.declared.fault.LabFault.{LabFault}
use Rattle.chaos_lab.specs.declared.fault.LabFault.TheVariants as fault
use Rattle.chaos_lab.specs.Machine.{other}
use Rattle.chaos_lab.specs.Laboratory.{LabView, Happening, Done, Happens, happen, check, call_effect, call_at, delivery_effect, delivery, is_fresh, refusal, refusal_of, lab_end}
use Rattle.chaos_lab.specs.Laboratory.Happening.{WriteBy, ReadBy, AnnounceBy, TickOf, CloseBy, AcceptFrom, DeliverCopy}
use Rattle.file_lab.specs.View.{FileLabView}
use Rattle.file_lab.specs.declared.event.FileStepped.{FileStepped}
use Rattle.file_lab.specs.Events.{FileHappening, At, Serve, IsRefused, LabHappens, FileHappens, HasPassed, is_by_server, lab_answer}

-- out of memory is no answer of an event itself
no_memory_by : (l : LabView) (x : Side) (call : Call) (o : Option ConnFault)
    → (call_effect l x call o).answer ≡ Err fault.NoMemory → ⊥
no_memory_by l x call None h = absurd (cc)
no_memory_by l x call (Some why) h = absurd (cc)

no_memory_at : (l : LabView) (x : Side) (call : Call) → (call_at l x call).answer ≡ Err fault.NoMemory → ⊥
no_memory_at l x call = no_memory_by l x call (refusal_of (act (lab_end l x).conn call).answer)

no_memory_copy : (l : LabView) (o : Option Stamped) → (delivery_effect l o).answer ≡ Err fault.NoMemory → ⊥
no_memory_copy l None h = absurd (cc)
no_memory_copy l (Some s) h =
    cond_both (is_fresh l.a l.b s) (call_at l (other s.side) (delivery l.asked l.clock s)) (refusal l fault.Stale)
    (λ (d : Done). d.answer ≡ Err fault.NoMemory → ⊥)
    (λ _. no_memory_at l (other s.side) (delivery l.asked l.clock s))
    (λ _ (t : Err fault.Stale ≡ Err fault.NoMemory). absurd (cc))
    h

no_memory : (l : LabView) (event : Happening) → (happen l event).answer ≡ Err fault.NoMemory → ⊥
no_memory l (WriteBy x op bytes) = no_memory_at l x (Write op bytes l.clock)
no_memory l (ReadBy x) = no_memory_at l x Read
no_memory l (AnnounceBy x window) = no_memory_at l x (Announce window)
no_memory l (TickOf x now) = no_memory_at l x (Tick now)
no_memory l (CloseBy x text) = no_memory_at l x (Close text)
no_memory l (AcceptFrom start) = no_memory_at l B (Accept start l.clock)
no_memory l (DeliverCopy k) = no_memory_copy l (slice_get l.copies k)

lab_passed : (old new : LabView) (event : Happening) (done : Result Stepped LabFault) → Happens old event new done
    → lab_answer done ≡ Err fault.NoMemory → check old event ≡ None
lab_passed old new event (Ok s) h is = absurd (cc)
lab_passed old new event (Err why) (inl h) is = absurd (no_memory old event (sym h.1 ∙ ap Err same))
  where
    same : why ≡ fault.NoMemory
    same = cc
lab_passed old new event (Err why) (inr h) is = h.0

pub passed : (old new : FileLabView) (event : FileHappening) (answer : Result FileStepped LabFault)
    → FileHappens old event new answer → answer ≡ Err fault.NoMemory → HasPassed old event
passed old new Serve answer h is = tt
passed old new (At event) answer h is = by (is_by_server event) h
  where
    by : (b : Bool) → MatchBool b (IsRefused old new fault.ByServer answer) (LabHappens old event new answer)
        → (b ≡ false) × (check old.lab event ≡ None)
    by true r =
        let no : ◌≡◌ {A = Result FileStepped LabFault} (Err fault.ByServer) (Err fault.NoMemory) = sym r.1
        ∙ is in absurd (cc)
    by false d = (refl, lab_passed old.lab new.lab event d.done d.lab (sym d.answered ∙ is))
