-- Lists of events.
use Rattle.std.proofs.Common.{◌≡◌, ℕ, zero, suc, Bool, List, [], ◌∷◌, take, Option, Some, None, Result, Err, ap, sym, subst, ◌∙◌, inl, inr, ◌+◌, arith}
use Rattle.std.specs.Prelude.{slice_get}
use Rattle.std.proofs.lemmas.Bool.{cond_both}
use Rattle.chaos_packet.specs.Packet.{PacketView}
use Rattle.chaos_conn.specs.declared.fault.ConnFault.{ConnFault}
use Rattle.chaos_conn.specs.Act.{Call, act}
use Rattle.chaos_conn.specs.Act.Call.{Accept, Write, Read, Announce, Close, Tick}
use Rattle.chaos_lab.specs.declared.side.Side.{Side}
use Rattle.chaos_lab.specs.declared.side.Side.TheVariants.{B}
use Rattle.chaos_lab.specs.declared.stamped.Stamped.{Stamped}
use Rattle.chaos_lab.specs.declared.event.StepDone.{StepDone}
use Rattle.chaos_lab.specs.declared.event.Stepped.{Stepped}
use Rattle.chaos_lab.specs.declared.fault.LabFault.{LabFault}
use Rattle.chaos_lab.specs.declared.fault.LabFault.TheVariants as fault
use Rattle.chaos_lab.specs.Machine.{other}
use Rattle.chaos_lab.specs.Told.{told, told_at}
use Rattle.chaos_lab.specs.Calling.{call_of, told_of, IsCall}
use Rattle.chaos_lab.specs.Laboratory.{LabView, Happening, Done, Calls, Happens, happen, check, after_all, call_effect, call_at, delivery_effect, delivery, is_fresh, refusal, refusal_of, lab_end}
use Rattle.chaos_lab.specs.Laboratory.Happening.{WriteBy, ReadBy, AnnounceBy, TickOf, CloseBy, AcceptFrom, DeliverCopy}

-- one event more
pub after_more : (l : LabView) (events : List Happening) (i : ℕ) (event : Happening) → slice_get events i ≡ Some event
    → after_all l (take (suc i) events) ≡ (happen (after_all l (take i events)) event).lab
after_more l [] i event at = absurd (cc)
after_more l (e ∷ events) zero event at = ap (λ x. (happen l x).lab) (some_is at)
  where
    some_is : {x y : Happening} → Some x ≡ Some y → x ≡ y
    some_is h = cc
after_more l (e ∷ events) (suc i) event at = after_more (happen l e).lab events i event at

pub after_next : (l : LabView) (events : List Happening) (i : ℕ) (event : Happening) → slice_get events i ≡ Some event
    → after_all l (take (i + 1) events) ≡ (happen (after_all l (take i events)) event).lab
after_next l events i event at =
    ap (λ n. after_all l (take n events)) (let next : i + 1 ≡ suc i = omega arith in next)
    ∙ after_more l events i event at

-- out of memory is no answer of an event itself
no_memory_by : (l : LabView) (x : Side) (call : Call) (o : Option ConnFault)
    → (call_effect l x call o).answer ≡ Err fault.NoMemory → ⊥
no_memory_by l x call None h = absurd (cc)
no_memory_by l x call (Some why) h = absurd (cc)

no_memory_at : (l : LabView) (x : Side) (call : Call) → (call_at l x call).answer ≡ Err fault.NoMemory → ⊥
no_memory_at l x call = no_memory_by l x call (refusal_of (act (lab_end l x).conn call).answer)

no_memory_copy : (l : LabView) (o : Option Stamped) → (delivery_effect l o).answer ≡ Err fault.NoMemory → ⊥
no_memory_copy l None h = absurd (cc)
no_memory_copy l (Some s) h =
    cond_both (is_fresh l.a l.b s) (call_at l (other s.side) (delivery l.asked l.clock s)) (refusal l fault.Stale)
    (λ (d : Done). d.answer ≡ Err fault.NoMemory → ⊥)
    (λ _. no_memory_at l (other s.side) (delivery l.asked l.clock s))
    (λ _ (t : Err fault.Stale ≡ Err fault.NoMemory). absurd (cc))
    h

pub no_memory : (l : LabView) (event : Happening) → (happen l event).answer ≡ Err fault.NoMemory → ⊥
no_memory l (WriteBy x op bytes) = no_memory_at l x (Write op bytes l.clock)
no_memory l (ReadBy x) = no_memory_at l x Read
no_memory l (AnnounceBy x window) = no_memory_at l x (Announce window)
no_memory l (TickOf x now) = no_memory_at l x (Tick now)
no_memory l (CloseBy x text) = no_memory_at l x (Close text)
no_memory l (AcceptFrom start) = no_memory_at l B (Accept start l.clock)
no_memory l (DeliverCopy k) = no_memory_copy l (slice_get l.copies k)

pub met : (old : LabView) (event : Happening) (new : LabView) (answer : Result Stepped LabFault)
    → Happens old event new answer → answer ≡ Err fault.NoMemory → new ≡ old
met old event new answer (inl h) is = absurd (no_memory old event (sym h.1 ∙ is))
met old event new answer (inr h) is = h.1

-- and comes at an event that passed its checks
pub passed : (old : LabView) (event : Happening) (new : LabView) (answer : Result Stepped LabFault)
    → Happens old event new answer → answer ≡ Err fault.NoMemory → check old event ≡ None
passed old event new answer (inl h) is = absurd (no_memory old event (sym h.1 ∙ is))
passed old event new answer (inr h) is = h.0

-- the call that an event is does what the event does
pub call_happens : (l m : LabView) (event : Happening) (x : Side) (asks : Bool) (came : PacketView)
    (answer : Result StepDone LabFault) → IsCall l event x asks came
    → Calls l x (call_of event asks came l.clock) m (told_of event came (lab_end m x).read answer)
    → Happens l event m (told_at l m event answer)
call_happens l m event x asks came answer is calls =
    let shown : told_of event came (lab_end m x).read answer ≡ told_at l m event answer =
    λ j. told (is.packet j) (is.items m j) answer in
    subst (Happens l event m) shown (happened (told_of event came (lab_end m x).read answer) calls)
  where
    happened : (r : Result Stepped LabFault) → Calls l x (call_of event asks came l.clock) m r → Happens l event m r
    happened r (inl h) = inl (h.0 ∙ ap (λ d. d.lab) (sym is.does), h.1 ∙ ap (λ d. d.answer) (sym is.does))
    happened r (inr h) = inr (is.passed, h.0, h.1)
