-- What an event does.
use Rattle.std.proofs.Common.{◌≡◌, ◌≢◌, ℕ, ◌≤◌, Bool, List, [], ◌++◌, length, drop, append_assoc, append-nil, refl, ap, subst, ◌∙◌, sym, inl, inr, arith}
use Rattle.std.specs.Prelude.{◌⊎◌, Option, Some, None, Result, Ok, Err, is_err, IfOk}
use Rattle.std.proofs.lemmas.List.{drop_all}
use Rattle.chaos_lab.specs.declared.stamped.Stamped.{Stamped}
use Rattle.chaos_packet.specs.Item.{ItemView}
use Rattle.chaos_packet.specs.Packet.{PacketView}
use Rattle.chaos_lab.specs.declared.event.StepDone.{StepDone}
use Rattle.chaos_lab.specs.declared.event.Stepped.{Stepped}
use Rattle.chaos_lab.specs.declared.fault.LabFault.{LabFault}
use Rattle.chaos_lab.specs.declared.fault.LabFault.TheVariants.{NoSuchCopy, Stale, Refused, NoMemory, ByServer}
use Rattle.chaos_lab.specs.Laboratory.{LabView, Happening, Happens, happen}
use Rattle.chaos_lab.specs.Told.{told}
use Rattle.chaos_lab.proofs.Happening.{no_memory}
use Rattle.chaosd_io.specs.declared.fault.RunFault.{RunFault}
use Rattle.chaosd_io.specs.declared.fault.RunFault.TheVariants as run
use Rattle.chaosd_lab.specs.Answers.{answer_text, refusal_text, copies_text}
use Rattle.chaosd_lab.specs.Player.{IsLineFault}
use Rattle.chaosd_lab.specs.Happen.{event_text, PlaysEvent}
use Rattle.chaosd_lab.specs.Play.{refused_or_ended}

pub by_answer : {X : Type 0} (answer : Result X LabFault) (P : Bool → Type 0) → P (is_err answer)
    → IfOk (refused_or_ended answer) P
by_answer (Ok stepped) P p = p
by_answer (Err NoSuchCopy) P p = p
by_answer (Err Stale) P p = p
by_answer (Err (Refused why)) P p = p
by_answer (Err NoMemory) P p = tt
by_answer (Err ByServer) P p = p

-- an event that was let happen
pub event_plays : (before after : LabView) (old mid new : List ℕ) (event : Happening) (answer : Result Stepped LabFault)
    (result : Result Bool RunFault)
    → Happens before event after answer → mid ≡ old ++ answer_text answer
    → new ≡ mid ++ copies_text (length before.copies) (drop (length before.copies) after.copies)
    → result ≡ refused_or_ended answer
    → IfOk result (λ refused. PlaysEvent event before after old new refused)
unfolding event_text
event_plays before after old mid new event answer result happens first last same =
    let P : Bool → Type 0 = λ refused. PlaysEvent event before after old new refused in
    let n = length before.copies in
    let joined : List ℕ = copies_text n (drop n after.copies) in
    subst (λ r. IfOk r P) (sym same) (elim happens [
      | inl h ↦ by_answer answer P (record {
        lab = h.0;
        text = last ∙ ap (λ l. l ++ joined) first ∙ append_assoc old (answer_text answer) joined
            ∙ ap (λ a. old ++ (answer_text a ++ joined)) h.1
            ∙ ap (λ l. old ++ (answer_text (happen before event).answer ++ copies_text n (drop n l.copies))) h.0;
        count = ap is_err h.1;
      })
      | inr h ↦ let (none, lab, ans) = h in subst (λ a. IfOk (refused_or_ended a) P) (sym ans) tt
    ])

-- whether an answer refuses is the same of the small one
pub told_refused : (packet : PacketView) (items : List ItemView) (answer : Result StepDone LabFault)
    → refused_or_ended answer ≡ refused_or_ended (told packet items answer)
told_refused packet items (Ok done) = refl
told_refused packet items (Err why) = refl

-- ---- out of memory

pub is_want : {X : Type 0} (answer : Result X LabFault) → refused_or_ended answer ≡ Err run.NoMemory → answer ≡ Err NoMemory
is_want (Ok stepped) h = absurd (cc)
is_want (Err NoSuchCopy) h = absurd (cc)
is_want (Err Stale) h = absurd (cc)
is_want (Err (Refused why)) h = absurd (cc)
is_want (Err NoMemory) h = refl
is_want (Err ByServer) h = absurd (cc)

pub no_copies : (copies : List Stamped) (n : ℕ) → length copies ≤ n → copies_text n (drop n copies) ≡ []
unfolding copies_text
no_copies copies n le = ap (copies_text n) (drop_all n copies le)

pub event_wants : (before after : LabView) (old mid new : List ℕ) (event : Happening) (answer : Result Stepped LabFault)
    (result : Result Bool RunFault)
    → Happens before event after answer → mid ≡ old ++ answer_text answer
    → new ≡ mid ++ copies_text (length before.copies) (drop (length before.copies) after.copies)
    → result ≡ refused_or_ended answer → result ≡ Err run.NoMemory
    → (after ≡ before) × (new ≡ old ++ refusal_text NoMemory)
event_wants before after old mid new event answer result happens first last same wants =
    let n = length before.copies in
    let none : answer ≡ Err NoMemory = is_want answer (sym same ∙ wants) in
    elim happens [
      | inl h ↦ absurd (no_memory before event (sym h.1 ∙ none))
      | inr h ↦ let (checked, same_lab, ans) = h in (
        same_lab,
        last ∙ ap (λ l. mid ++ copies_text n (drop n l.copies)) same_lab
            ∙ ap (λ l. mid ++ l) (no_copies before.copies n (omega arith)) ∙ append-nil mid
            ∙ first ∙ ap (λ a. old ++ answer_text a) none,
      )
    ]

pub some_said : {X : Type 0} (said : Option X) (event : X) → said ≡ Some event → said ≢ None
some_said None event h none = absurd (cc)
some_said (Some e) event h none = cc

-- ---- faults

-- the faults of an event are those of a line
pub line_fault : (fault : RunFault) → (fault ≡ run.NoMemory) ⊎ (fault ≡ run.WriteFault) → IsLineFault fault
line_fault fault (inl is) = subst IsLineFault (sym is) tt
line_fault fault (inr is) = subst IsLineFault (sym is) tt
