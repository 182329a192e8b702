-- The end of a run: what was handed on, and what was read.
use Rattle.std.proofs.Common.{◌≡◌, ℕ, ◌<◌, ◌≤◌, List, [], length, take, ◌∙◌, subst}
use Rattle.std.specs.Prelude.{Option, None, Some, Result, Ok, Err, IfSome, IsErrAnd}
use Rattle.std.specs.Io.KnownBytes.{Appends, Keeps}
use Rattle.std.proofs.KnownBytes.{Appends-kept}
use Rattle.chaosd_io.specs.declared.fault.RunFault.{RunFault}
use Rattle.chaosd_io.specs.declared.fault.RunFault.TheVariants as run
use Rattle.chaosd_io.specs.declared.limits.TheConstants.{INPUT_LIMIT, KEPT_LEN}
use Rattle.chaosd_io.specs.Buffer.{written_of}
use Rattle.chaosd_io.specs.Lines.{ended_lines, lines_of}
use Rattle.chaosd_io.specs.Reader.{LinesView, GivesMore}
use Rattle.chaosd_io.proofs.Cutting.{if_some}
use Rattle.chaosd_io.proofs.Runs.{handed}
use Rattle.chaosd_lab.specs.declared.standing.Standing.{Standing}
use Rattle.chaosd_lab.specs.declared.bad_line.BadLine.{BadLine}
use Rattle.chaosd_lab.specs.Script.{Script, text_of, play_of, NoneBad, wrong_line}
use Rattle.chaosd_lab.specs.Player.{IsAt, PlaysGiven, PlaysAll, PlaysWithin, StopsAt, StopsBad, Wants, PlaysFront, StopsRun, HasNoneWrong, wrong_if_bad}

-- ---- what was handed on

-- what was written before all was handed on is what the writer holds
held_now : (before written held : Option (List ℕ)) (waiting text : List ℕ) → Keeps written (written_of held waiting)
    → waiting ≡ [] → Appends before written text → Appends before held text
held_now before written held waiting text keeps none p =
    handed before held waiting text none (Appends-kept before written (written_of held waiting) text p keeps)

pub all_handed : {X : Type 0} (script : Script X) (known before written held : Option (List ℕ)) (waiting : List ℕ)
    (refused refused' : ℕ)
    → Keeps written (written_of held waiting) → waiting ≡ [] → refused' ≡ refused
    → IfSome known (PlaysWithin script before written refused) → IfSome known (PlaysAll script before held refused')
all_handed script known before written held waiting refused refused' keeps none same p =
    if_some known (PlaysWithin script before written refused) (PlaysAll script before held refused')
    (λ l q. (q.1.0, q.1.1, same ∙ q.1.2, held_now before written held waiting _ keeps none q.1.3)) p

pub within : {X : Type 0} (script : Script X) (known before written : Option (List ℕ)) (refused : ℕ)
    → IfSome known (PlaysWithin script before written refused) → IfSome known (λ l. length l ≤ INPUT_LIMIT)
within script known before written refused p =
    if_some known (PlaysWithin script before written refused) (λ l. length l ≤ INPUT_LIMIT) (λ l q. q.0) p

pub stops_handed : {X : Type 0} (script : Script X) (old new before written held : Option (List ℕ)) (waiting : List ℕ)
    (wrong : Option BadLine) (fault : RunFault)
    → Keeps written (written_of held waiting) → waiting ≡ []
    → StopsRun script old new before written wrong fault → StopsRun script old new before held wrong fault
stops_handed script old new before written held waiting wrong (run.BadScript number) keeps none s =
    if_some old (StopsBad script before written wrong number) (StopsBad script before held wrong number)
    (λ l q. ((q.0.0, q.0.1, held_now before written held waiting _ keeps none q.0.2), q.1)) s
stops_handed script old new before written held waiting wrong run.NoMemory keeps none s =
    if_some old (Wants script before written) (Wants script before held)
    (λ l q. (q.0, q.1, q.2, q.3, q.4, q.5, q.6, held_now before written held waiting _ keeps none q.7)) s
stops_handed script old new before written held waiting wrong run.InputTooLong keeps none s =
    if_some old (PlaysFront script before written) (PlaysFront script before held)
    (λ l q. (q.0, q.1, held_now before written held waiting _ keeps none q.2)) s
stops_handed script old new before written held waiting wrong run.ReadFault keeps none s =
    (s.0, s.1, s.2, held_now before written held waiting _ keeps none s.3)
stops_handed script old new before written held waiting wrong run.WriteFault keeps none s = tt
stops_handed script old new before written held waiting wrong run.LinkFault keeps none s = absurd s
stops_handed script old new before written held waiting wrong run.ClockFault keeps none s = absurd s

-- ---- what was read

-- the lines that were played are of good form
none_bad : {X : Type 0} (script : Script X) (lab : Option X) (refused : ℕ) (ended : List (List ℕ))
    → IsAt script lab refused ended → NoneBad script ended
none_bad script None refused ended at some = absurd (some at.0)
none_bad script (Some lab) refused ended at some = λ none. let (p, is, same, count, ready) = at in absurd (cc)

-- no more came of the input
pub reading_stops : {X : Type 0} (script : Script X) (input mid rest before written : Option (List ℕ)) (at : Standing X)
    (lines lines' : LinesView) (wrong : Option BadLine) (fault : RunFault)
    → (s : PlaysGiven script input mid before written at lines)
    → GivesMore KEPT_LEN INPUT_LIMIT input rest s.given lines' (Err fault)
    → StopsRun script input rest before written wrong fault
reading_stops script input mid rest before written at lines lines' wrong run.ReadFault s (read, came, same) = (
  read,
  came,
  subst (NoneBad script) same (none_bad script at.lab at.refused s.given s.plays.state),
  subst (λ l. Appends before written (text_of (play_of script l))) same s.plays.text,
)
reading_stops script input mid rest before written at lines lines' wrong run.InputTooLong s past =
    if_some input (λ all. (INPUT_LIMIT < length all) × (s.given ≡ ended_lines (take INPUT_LIMIT all)))
    (PlaysFront script before written)
    (λ all h. (
      h.0,
      subst (NoneBad script) h.1 (none_bad script at.lab at.refused s.given s.plays.state),
      subst (λ l. Appends before written (text_of (play_of script l))) h.1 s.plays.text,
    )) past
reading_stops script input mid rest before written at lines lines' wrong run.WriteFault s h = absurd h
reading_stops script input mid rest before written at lines lines' wrong run.NoMemory s h = absurd h
reading_stops script input mid rest before written at lines lines' wrong (run.BadScript number) s h = absurd h
reading_stops script input mid rest before written at lines lines' wrong run.LinkFault s h = absurd h
reading_stops script input mid rest before written at lines lines' wrong run.ClockFault s h = absurd h

-- what was told stops the run
pub stops_told : {X Y : Type 0} (script : Script X) (r : Result Y RunFault) (old new before written : Option (List ℕ))
    (wrong : Option BadLine) (e f : RunFault)
    → IsErrAnd r (λ y. y ≡ e) → r ≡ Err f → StopsRun script old new before written wrong e
    → StopsRun script old new before written wrong f
stops_told script (Ok x) old new before written wrong e f is same s = absurd is
stops_told script (Err y) old new before written wrong e f is same s =
    let this : e ≡ f = cc in
    subst (StopsRun script old new before written wrong) this s

-- ---- a bad line

pub bad_at : {X : Type 0} (script : Script X) (known before written : Option (List ℕ)) (wrong : Option BadLine)
    (number : ℕ)
    → IfSome known (StopsBad script before written wrong number) → IfSome known (StopsAt script before written number)
bad_at script known before written wrong number s =
    if_some known (StopsBad script before written wrong number) (StopsAt script before written number) (λ l q. q.0) s

pub bad_wrong : {X : Type 0} (script : Script X) (known before written : Option (List ℕ)) (wrong : Option BadLine)
    (number : ℕ)
    → IfSome known (StopsBad script before written wrong number)
    → IfSome known (λ l. wrong ≡ Some (wrong_line script number (lines_of l)))
bad_wrong script known before written wrong number s =
    if_some known (StopsBad script before written wrong number)
    (λ l. wrong ≡ Some (wrong_line script number (lines_of l))) (λ l q. q.1) s

-- what is reported of a bad line is what is wrong with it
reported_bad : {Y : Type 0} (fault : RunFault) (number : ℕ) (wrong reported : Option BadLine)
    → reported ≡ wrong_if_bad fault wrong → ◌≡◌ {A = Result Y RunFault} (Err fault) (Err (run.BadScript number))
    → reported ≡ wrong
reported_bad (run.BadScript n) number wrong reported is bad = is
reported_bad run.NoMemory number wrong reported is bad = absurd (cc)
reported_bad run.WriteFault number wrong reported is bad = absurd (cc)
reported_bad run.ReadFault number wrong reported is bad = absurd (cc)
reported_bad run.InputTooLong number wrong reported is bad = absurd (cc)
reported_bad run.LinkFault number wrong reported is bad = absurd (cc)
reported_bad run.ClockFault number wrong reported is bad = absurd (cc)

pub wrong_reported : {Y : Type 0} (known : Option (List ℕ)) (P : List ℕ → BadLine) (fault : RunFault) (number : ℕ)
    (wrong reported : Option BadLine)
    → reported ≡ wrong_if_bad fault wrong → ◌≡◌ {A = Result Y RunFault} (Err fault) (Err (run.BadScript number))
    → IfSome known (λ x. wrong ≡ Some (P x)) → IfSome known (λ x. reported ≡ Some (P x))
wrong_reported known P fault number wrong reported is bad said =
    let same : reported ≡ wrong = reported_bad fault number wrong reported is bad in
    if_some known (λ x. wrong ≡ Some (P x)) (λ x. reported ≡ Some (P x)) (λ x w. same ∙ w) said

-- nothing is reported where another fault ended the run
pub none_wrong : (fault : RunFault) (wrong reported : Option BadLine) → reported ≡ wrong_if_bad fault wrong
    → HasNoneWrong (Err fault) reported
none_wrong (run.BadScript n) wrong reported is = tt
none_wrong run.NoMemory wrong reported is = is
none_wrong run.WriteFault wrong reported is = is
none_wrong run.ReadFault wrong reported is = is
none_wrong run.InputTooLong wrong reported is = is
none_wrong run.LinkFault wrong reported is = is
none_wrong run.ClockFault wrong reported is = is
