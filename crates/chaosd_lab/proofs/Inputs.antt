-- The lines of a script that were given: one more, the last, and one that isn't played.
use Rattle.std.proofs.Common.{◌≡◌, ℕ, ◌+◌, ◌-◌, ◌≤◌, true, List, [], ◌∷◌, ◌++◌, length, take, inr, refl, sym, ap, ◌∙◌, subst, arith, length-append}
use Rattle.std.specs.Prelude.{Option, None, Some, Result, Ok, Err, OnOk, IsOk, IfErr, IfSome, MatchResult, slice_get}
use Rattle.std.specs.Io.KnownBytes.{Appends, Keeps}
use Rattle.std.proofs.KnownBytes.{Appends-kept}
use Rattle.std.proofs.Math.Seq.{take-append-add}
use Rattle.chaosd_io.specs.declared.fault.RunFault.{RunFault}
use Rattle.chaosd_io.specs.declared.fault.RunFault.TheVariants as run
use Rattle.chaosd_io.specs.declared.limits.TheConstants.{INPUT_LIMIT, KEPT_LEN}
use Rattle.chaosd_io.specs.Buffer.{written_of}
use Rattle.chaosd_io.specs.Lines.{lines_of, IsMet}
use Rattle.chaosd_io.specs.Reader.{LinesView, Gives, GivesNext, GivesLast}
use Rattle.chaosd_io.proofs.Cutting.{IsGiven, given_met, last_met, if_some}
use Rattle.chaosd_lab.specs.declared.standing.Standing.{Standing}
use Rattle.chaosd_lab.specs.declared.bad_line.BadLine.{BadLine}
use Rattle.chaosd_lab.specs.declared.bad_line.BadLine.TheVariants.{NoEnds}
use Rattle.chaosd_lab.specs.Script.{Script, play_of, text_of, IsFirstBad, wrong_at, wrong_line}
use Rattle.chaosd_lab.specs.Player.{IsAt, PlaysLines, IsWantText, StopsLine, PlaysGiven, PlaysDone, StopsBad, Wants, StopsRun, PlaysWithin}
use Rattle.chaosd_lab.proofs.Plays.{play_of-alike, alike_same, wrong-alike, first_bad, lines_before, text_more}

-- ---- lines that were played

-- handing on changes nothing of what was played
pub lines_kept : {X : Type 0} (script : Script X) (before written written' : Option (List ℕ)) (at at' : Standing X)
    (ended : List (List ℕ))
    → Keeps written written' → at' ≡ at
    → PlaysLines script before written at ended → PlaysLines script before written' at' ended
lines_kept script before written written' at at' ended keeps same s =
    subst (λ a. PlaysLines script before written' a ended) (sym same)
    (record { state = s.state; text = Appends-kept before written written' _ s.text keeps; count = s.count })

-- a line plays what another one does that begins alike
lines_alike : {X : Type 0} (script : Script X) (before written : Option (List ℕ)) (lab : Option X) (lines refused : ℕ)
    (ended : List (List ℕ)) (f g : List ℕ)
    → take KEPT_LEN f ≡ take KEPT_LEN g
    → PlaysLines script before written (record { lab = lab; lines = lines; refused = refused }) (ended ++ f ∷ [])
    → PlaysLines script before written (record { lab = lab; lines = lines; refused = refused }) (ended ++ g ∷ [])
lines_alike script before written None lines refused ended f g e s =
    absurd (omega (arith, ap length s.state.0, length-append ended (f ∷ [])))
lines_alike script before written (Some lab) lines refused ended f g e s =
    let (p, is, same, count, ready) = s.state in
    record {
      state = (p, sym (play_of-alike script ended f g e) ∙ is, same, count, ready);
      text = subst (Appends before written) (ap text_of (play_of-alike script ended f g e)) s.text;
      count = s.count ∙ length-append ended (f ∷ []) ∙ sym (length-append ended (g ∷ []));
    }

-- ---- lines that were given

-- more came, or the end did
pub given_of : {X : Type 0} (script : Script X) (input rest rest' before written : Option (List ℕ)) (at : Standing X)
    (lines lines' : LinesView)
    → (s : PlaysGiven script input rest before written at lines)
    → Gives KEPT_LEN INPUT_LIMIT input rest' s.given lines' → PlaysGiven script input rest' before written at lines'
given_of script input rest rest' before written at lines lines' s gives =
    record { given = s.given; gives = gives; plays = s.plays }

pub given_kept : {X : Type 0} (script : Script X) (input rest before written written' : Option (List ℕ))
    (at at' : Standing X) (lines : LinesView)
    → Keeps written written' → at' ≡ at
    → PlaysGiven script input rest before written at lines → PlaysGiven script input rest before written' at' lines
given_kept script input rest before written written' at at' lines keeps same s = record {
  given = s.given;
  gives = s.gives;
  plays = lines_kept script before written written' at at' s.given keeps same s.plays;
}

pub done_kept : {X : Type 0} (script : Script X) (input rest before written written' : Option (List ℕ))
    (at at' : Standing X)
    → Keeps written written' → at' ≡ at
    → PlaysDone script input rest before written at → PlaysDone script input rest before written' at'
done_kept script input rest before written written' at at' keeps same s = record {
  given = s.given;
  done = s.done;
  plays = lines_kept script before written written' at at' s.given keeps same s.plays;
}

-- the next line was played
pub next_played : {X : Type 0} (script : Script X) (input rest before written written' : Option (List ℕ))
    (at at' : Standing X) (lines lines' : LinesView) (line : List ℕ)
    → (s : PlaysGiven script input rest before written at lines)
    → GivesNext KEPT_LEN INPUT_LIMIT input rest s.given lines' true → line ≡ lines'.line
    → (PlaysLines script before written at s.given → PlaysLines script before written' at' (s.given ++ line ∷ []))
    → PlaysGiven script input rest before written' at' lines'
next_played script input rest before written written' at at' lines lines' line s (raw, front, gives) e plays = record {
  given = s.given ++ raw ∷ [];
  gives = gives;
  plays =
      lines_alike script before written' at'.lab at'.lines at'.refused s.given line raw (ap (take KEPT_LEN) e ∙ front)
      (plays s.plays);
}

-- there is no last line, or it was played
pub none_played : {X : Type 0} (script : Script X) (input rest before written : Option (List ℕ)) (at : Standing X)
    (lines : LinesView)
    → (s : PlaysGiven script input rest before written at lines)
    → GivesLast KEPT_LEN INPUT_LIMIT input rest s.given None → PlaysDone script input rest before written at
none_played script input rest before written at lines s done = record { given = s.given; done = done; plays = s.plays }

pub last_played : {X : Type 0} (script : Script X) (input rest before written written' : Option (List ℕ))
    (at at' : Standing X) (lines : LinesView) (line : List ℕ)
    → (s : PlaysGiven script input rest before written at lines)
    → GivesLast KEPT_LEN INPUT_LIMIT input rest s.given (Some line)
    → (PlaysLines script before written at s.given → PlaysLines script before written' at' (s.given ++ line ∷ []))
    → PlaysDone script input rest before written' at'
last_played script input rest before written written' at at' lines line s (raw, front, done) plays = record {
  given = s.given ++ raw ∷ [];
  done = done;
  plays = lines_alike script before written' at'.lab at'.lines at'.refused s.given line raw front (plays s.plays);
}

-- ---- a line that isn't played

alike_wants : {X : Type 0} (script : Script X) (ended : List (List ℕ)) (f g text : List ℕ) → f ≡ g
    → IsWantText script (play_of script ended) f text → IsWantText script (play_of script ended) g text
alike_wants script ended f g text same is = subst (λ l. IsWantText script (play_of script ended) l text) same is

-- of two lines that begin alike
stops_alike : {X : Type 0} (script : Script X) (before written : Option (List ℕ)) (ended : List (List ℕ)) (f g : List ℕ)
    (wrong : Option BadLine) (fault : RunFault)
    → take KEPT_LEN f ≡ take KEPT_LEN g → StopsLine script before written ended f wrong fault
    → StopsLine script before written ended g wrong fault
stops_alike script before written ended f g wrong (run.BadScript number) e stops =
    (stops.0, sym (play_of-alike script ended f g e) ∙ stops.1, stops.2, stops.3 ∙ ap Some (wrong-alike script ended f g e))
stops_alike script before written ended f g wrong run.NoMemory e stops = (
  λ none. stops.0 (play_of-alike script ended f g e ∙ none),
  stops.1,
  alike_wants script ended f g stops.1 (alike_same script ended f g e stops.0) stops.2,
  stops.3,
)
stops_alike script before written ended f g wrong run.WriteFault e stops = tt
stops_alike script before written ended f g wrong run.ReadFault e stops = absurd stops
stops_alike script before written ended f g wrong run.InputTooLong e stops = absurd stops
stops_alike script before written ended f g wrong run.LinkFault e stops = absurd stops
stops_alike script before written ended f g wrong run.ClockFault e stops = absurd stops

line_behind : (ended more : List (List ℕ)) (line : List ℕ) → slice_get (ended ++ line ∷ more) (length ended) ≡ Some line
line_behind [] more line = refl
line_behind (one ∷ others) more line = line_behind others more line

-- a line of these, behind some that were played
stops_at : {X : Type 0} (script : Script X) (before written : Option (List ℕ)) (lab : Option X) (refused number : ℕ)
    (ended : List (List ℕ)) (line input : List ℕ) (wrong : Option BadLine)
    → IsAt script lab refused ended
    → StopsLine script before written ended line wrong (run.BadScript number) → IsGiven INPUT_LIMIT ended line input
    → StopsBad script before written wrong number input
stops_at script before written lab refused number ended line input wrong at (is, bad, text, why) (more, all, met) =
    let less : number - 1 ≡ length ended = omega arith in
    let front : take (number - 1) (lines_of input) ≡ ended =
    ap (λ n. take n (lines_of input)) less ∙ ap (take (length ended)) all ∙ lines_before ended (line ∷ more) in
    let here : slice_get (lines_of input) (number - 1) ≡ Some line =
    ap (slice_get (lines_of input)) less ∙ ap (λ l. slice_get l (length ended)) all ∙ line_behind ended more line in (
      (
        subst (λ n. IsFirstBad script n (lines_of input)) (sym is)
            (subst (IsFirstBad script (length ended + 1)) (sym all)
            (first_bad script lab refused ended more line at bad)),
        subst (λ n. IsMet INPUT_LIMIT n input) (sym is) met,
        subst (λ l. Appends before written (text_of (play_of script l))) (sym front) text,
      ),
      why
          ∙ ap Some
          (sym (ap (λ l. wrong_at script l (slice_get (lines_of input) (number - 1))) front ∙ ap (wrong_at script ended) here)),
    )

wants_at : {X : Type 0} (script : Script X) (before written : Option (List ℕ)) (ended : List (List ℕ))
    (line input : List ℕ)
    (wrong : Option BadLine)
    → StopsLine script before written ended line wrong run.NoMemory → IsGiven INPUT_LIMIT ended line input
    → Wants script before written input
wants_at script before written ended line input wrong (good, text, is, wrote) (more, all, met) =
    let front : take (length ended) (lines_of input) ≡ ended =
    ap (take (length ended)) all ∙ lines_before ended (line ∷ more) in
    let through : take (length ended + 1) (lines_of input) ≡ ended ++ line ∷ [] =
    ap (take (length ended + 1)) all ∙ take-append-add ended (line ∷ more) 1 in (
      length ended,
      line,
      ap (λ l. slice_get l (length ended)) all ∙ line_behind ended more line,
      λ none. good (ap (play_of script) (sym through) ∙ none),
      met,
      text,
      subst (λ l. IsWantText script (play_of script l) line text) (sym front) is,
      subst (λ l. Appends before written (text_of (play_of script l) ++ text)) (sym front) wrote,
    )

stops_within : {X : Type 0} (script : Script X) (input rest before written : Option (List ℕ)) (lab : Option X)
    (refused : ℕ) (ended : List (List ℕ)) (line : List ℕ) (wrong : Option BadLine) (fault : RunFault)
    → IsAt script lab refused ended
    → IfSome input (IsGiven INPUT_LIMIT ended line) → StopsLine script before written ended line wrong fault
    → StopsRun script input rest before written wrong fault
stops_within script input rest before written lab refused ended line wrong (run.BadScript number) at given stops =
    if_some input (IsGiven INPUT_LIMIT ended line) (StopsBad script before written wrong number)
    (λ all. stops_at script before written lab refused number ended line all wrong at stops) given
stops_within script input rest before written lab refused ended line wrong run.NoMemory at given stops =
    if_some input (IsGiven INPUT_LIMIT ended line) (Wants script before written)
    (λ all. wants_at script before written ended line all wrong stops) given
stops_within script input rest before written lab refused ended line wrong run.WriteFault at given stops = tt
stops_within script input rest before written lab refused ended line wrong run.ReadFault at given stops = absurd stops
stops_within script input rest before written lab refused ended line wrong run.InputTooLong at given stops = absurd stops
stops_within script input rest before written lab refused ended line wrong run.LinkFault at given stops = absurd stops
stops_within script input rest before written lab refused ended line wrong run.ClockFault at given stops = absurd stops

-- the next line wasn't played
pub next_stops : {X : Type 0} (script : Script X) (input rest before written written' : Option (List ℕ))
    (at : Standing X) (lines lines' : LinesView) (line : List ℕ) (wrong : Option BadLine) (fault : RunFault)
    → (s : PlaysGiven script input rest before written at lines)
    → GivesNext KEPT_LEN INPUT_LIMIT input rest s.given lines' true → line ≡ lines'.line
    → (PlaysLines script before written at s.given → StopsLine script before written' s.given line wrong fault)
    → StopsRun script input rest before written' wrong fault
next_stops script input rest before written written' at lines lines' line wrong fault s (raw, front, gives) e stops =
    stops_within script input rest before written' at.lab at.refused s.given raw wrong fault s.plays.state
    (given_met KEPT_LEN INPUT_LIMIT input rest s.given raw lines' gives)
    (stops_alike script before written' s.given line raw wrong fault (ap (take KEPT_LEN) e ∙ front) (stops s.plays))

-- the last line wasn't played
pub last_stops : {X : Type 0} (script : Script X) (input rest before written written' : Option (List ℕ))
    (at : Standing X) (lines : LinesView) (line : List ℕ) (wrong : Option BadLine) (fault : RunFault)
    → (s : PlaysGiven script input rest before written at lines)
    → GivesLast KEPT_LEN INPUT_LIMIT input rest s.given (Some line)
    → (PlaysLines script before written at s.given → StopsLine script before written' s.given line wrong fault)
    → StopsRun script input rest before written' wrong fault
last_stops script input rest before written written' at lines line wrong fault s (raw, front, done) stops =
    stops_within script input rest before written' at.lab at.refused s.given raw wrong fault s.plays.state
    (last_met INPUT_LIMIT input rest s.given raw done)
    (stops_alike script before written' s.given line raw wrong fault front (stops s.plays))

-- ---- the end of the input

-- there was no first line
pub no_first_line : {X : Type 0} (script : Script X) (input rest before written : Option (List ℕ)) (at : Standing X)
    → at.lab ≡ None → PlaysDone script input rest before written at
    → StopsRun script input rest before written (Some NoEnds) (run.BadScript 1)
no_first_line script input rest before written at none s =
    let (nil, none_refused) = subst (λ l. IsAt script l at.refused s.given) none s.plays.state in
    let bad : IsFirstBad script 1 [] =
    record { counts = omega arith; bad = refl; good = λ n some few. absurd (omega arith) } in
    if_some input (λ all. (length all ≤ INPUT_LIMIT) × (lines_of all ≡ s.given)) (StopsBad script before written (Some NoEnds) 1)
    (λ all h. (
      (
        subst (IsFirstBad script 1) (sym (h.1 ∙ nil)) bad,
        inr h.0,
        subst (Appends before written) (ap (λ l. text_of (play_of script l)) nil) s.plays.text,
      ),
      ap Some (ap (wrong_line script 1) (sym (h.1 ∙ nil))),
    )) s.done.lines

-- all lines were played, and what is said at the end was written
pub end_said : {X : Type 0} (script : Script X) (input rest before held : Option (List ℕ)) (at : Standing X)
    (old new : List ℕ) (l : X)
    → at.lab ≡ Some l
    → new ≡ old ++ script.ended l → PlaysDone script input rest before (written_of held old) at
    → IfSome input (PlaysWithin script before (written_of held new) at.refused)
end_said script input rest before held at old new l some more s =
    let (p, is, same, count, ready) = subst (λ x. IsAt script x at.refused s.given) some s.plays.state in
    let said : new ≡ old ++ script.ended p.lab = more ∙ ap (λ x. old ++ script.ended x) (sym same) in
    if_some input (λ all. (length all ≤ INPUT_LIMIT) × (lines_of all ≡ s.given))
    (PlaysWithin script before (written_of held new) at.refused)
    (λ all h.
    (h.0, (p, ap (play_of script) h.1 ∙ is, sym count, text_more before held old new p.text (script.ended p.lab) (subst (Appends before (written_of held old)) (ap text_of is) s.plays.text) said)))
    s.done.lines

-- ---- calls that may fail

pub after_written : {X Y E P S : Type 0} (end : Result X E) (answer : Result Y RunFault)
    → MatchResult end (λ _. IsOk answer) (λ _. answer ≡ Err run.WriteFault) → OnOk end P → (P → S) → OnOk answer S
after_written (Ok x) (Ok y) fault p f = f p
after_written (Ok x) (Err e) fault p f = tt
after_written {Y = Y} {S = S} (Err x) answer fault p f = subst (λ (r : Result Y RunFault). OnOk r S) (sym fault) tt

not_ok : (X E : Type 0) (e : E) → IsOk {T = X} {E = E} (Err e) → ⊥
not_ok X E e h = cc

-- of a writer that failed nothing is said
pub written_stops : {X Y E : Type 0} (end : Result X E) (answer : Result Y RunFault) (P : RunFault → Type 0)
    → MatchResult end (λ _. IsOk answer) (λ _. answer ≡ Err run.WriteFault) → P run.WriteFault → IfErr answer P
written_stops (Ok x) (Ok y) P fault p = tt
written_stops {Y = Y} (Ok x) (Err e) P fault p = absurd (not_ok Y RunFault e fault)
written_stops {Y = Y} (Err x) answer P fault p = subst (λ (r : Result Y RunFault). IfErr r P) (sym fault) p
