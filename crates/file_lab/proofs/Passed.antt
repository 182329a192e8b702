-- Lists of events of FILE that help and are taken.
use Rattle.std.proofs.Common.{◌≡◌, ℕ, ◌+◌, ◌≤◌, List, [], ◌∷◌, ◌++◌, length, map, Result, Ok, Err, refl, sym, ap, subst, arith}
use Rattle.std.proofs.lemmas.Bool.{cond-false}
use Rattle.chaos_lab.specs.Laboratory.{Happening, happen}
use Rattle.chaos_lab.specs.declared.fault.LabFault.{LabFault}
use Rattle.chaos_lab.specs.declared.event.Stepped.{Stepped}
use Rattle.chaos_lab.specs.Progress.{AreHelp, AreTaken}
use Rattle.file_lab.specs.View.{FileLabView}
use Rattle.file_lab.specs.Events.{FileHappening, At, lab_answer}
use Rattle.file_lab.specs.Exact.{FileDone, file_happen, lab_done}
use Rattle.file_lab.specs.Settling.{after_events, in_lab}
use Rattle.file_lab.specs.Progress.{AreFileHelp, IsDone, AreDone}
use Rattle.file_lab.proofs.QuietEvents.{IsQuiet, AreQuiet, quiet_served}

-- these events are few, help and are taken, and lead from l to m
pub record Passes (n : ℕ) (l : FileLabView) (events : List FileHappening) (m : FileLabView) (most : ℕ) : Type 0 where
  pub few : length events ≤ most
  pub help : AreFileHelp n events
  pub taken : AreDone l events
  pub after : after_events l events ≡ m

pub passes_none : (n : ℕ) (l : FileLabView) → Passes n l [] l 0
passes_none n l = record { few = omega arith; help = tt; taken = tt; after = refl }

pub passes_most : (n : ℕ) (l m : FileLabView) (events : List FileHappening) (most more : ℕ) → most ≤ more
    → Passes n l events m most → Passes n l events m more
passes_most n l m events most more h p =
    record { few = omega (arith, p.few, h); help = p.help; taken = p.taken; after = p.after }

-- an event, and then others
pub passes_first : (n : ℕ) (l m : FileLabView) (event : FileHappening) (events : List FileHappening) (most : ℕ)
    → AreFileHelp n (event ∷ []) → IsDone (file_happen l event).answer
    → Passes n (file_happen l event).view events m most → Passes n l (event ∷ events) m (most + 1)
passes_first n l m event events most help done rest =
    record { few = omega (arith, rest.few); help = (help.0, rest.help); taken = (done, rest.taken); after = rest.after }

-- ---- events of the laboratory

quiet_is : (l : FileLabView) (event : Happening) → IsQuiet event → file_happen l (At event) ≡ lab_done l event
quiet_is l event q = cond-false _ _ _ (quiet_served event q)

lab_is_done : (r : Result Stepped LabFault) (s : Stepped) → r ≡ Ok s → IsDone (lab_answer r)
lab_is_done (Ok x) s is = tt
lab_is_done (Err why) s is = absurd (cc)

pub passes_lab : (events : List Happening) (n : ℕ) (l m : FileLabView) (others : List FileHappening) (most : ℕ)
    → AreQuiet events → AreHelp n events → AreTaken l.lab events → Passes n (in_lab l events) others m most
    → Passes n l (map At events ++ others) m (length events + most)
passes_lab [] n l m others most q help taken rest =
    record { few = omega (arith, rest.few); help = rest.help; taken = rest.taken; after = rest.after }
passes_lab (event ∷ events) n l m others most q help taken rest =
    let is = quiet_is l event q.0 in
    let next : FileLabView = record l { lab = (happen l.lab event).lab } in
    let view : (file_happen l (At event)).view ≡ next = ap (λ (d : FileDone). d.view) is in
    let more = passes_lab events n next m others most q.1 help.1 taken.1 rest in
    let done : IsDone (file_happen l (At event)).answer =
    subst IsDone (sym (ap (λ (d : FileDone). d.answer) is))
    (lab_is_done (happen l.lab event).answer taken.0.0 taken.0.1) in
    let here : Passes n (file_happen l (At event)).view (map At events ++ others) m (length events + most) =
    subst (λ k. Passes n k (map At events ++ others) m (length events + most)) (sym view) more in
    let all = passes_first n l m (At event) (map At events ++ others) (length events + most) (help.0, tt) done here in
    record { few = omega (arith, all.few); help = all.help; taken = all.taken; after = all.after }
