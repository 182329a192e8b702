-- Lines that are played one after another.
use Rattle.std.proofs.Common.{◌≡◌, ◌≢◌, ℕ, zero, suc, ◌+◌, ◌<◌, ◌≤◌, Bool, true, false, cond, ltb, List, [], ◌∷◌, ◌++◌, length, take, take_all, refl, sym, ap, ◌∙◌, subst, arith, append_assoc, append-nil, length-take, length-append}
use Rattle.std.specs.Prelude.{Option, None, Some, Result, Ok, Err, IfErr, IsErrAnd, option_map}
use Rattle.std.specs.Io.BufRead.{strip_last}
use Rattle.std.specs.Io.KnownBytes.{Appends, Keeps}
use Rattle.std.proofs.KnownBytes.{Appends-kept, Appends-trans}
use Rattle.std.proofs.Math.Seq.{take-append-add}
use Rattle.std.proofs.lemmas.Bool.{lt-ltb}
use Rattle.std.proofs.lemmas.Bool.Decides.{nat_tests}
use Rattle.std.proofs.lemmas.List.{take-append-le}
use Rattle.chaosd_io.specs.declared.fault.RunFault.{RunFault}
use Rattle.chaosd_io.specs.declared.fault.RunFault.TheVariants as run
use Rattle.chaosd_io.specs.declared.limits.TheConstants.{KEPT_LEN, LINE_LIMIT}
use Rattle.chaosd_io.specs.Buffer.{written_of}
use Rattle.chaosd_io.proofs.Steps.{length-strip_last}
use Rattle.chaosd_lab.specs.declared.bad_line.BadLine.{BadLine}
use Rattle.chaosd_lab.specs.declared.bad_line.BadLine.TheVariants.{TooLong}
use Rattle.chaosd_lab.specs.Script.{Done, Script, Played, start_play, says_by, with_reading, with_line, play_on, play_of, text_of, IsFirstBad, PlaysLine, wrong_behind, wrong_by}
use Rattle.chaosd_lab.specs.declared.standing.Standing.{Standing}
use Rattle.chaosd_lab.specs.Player.{IsAt, PlaysLines, IsLineFault, StopsLine, IsWantText}

-- ---- a long line

-- a line of as many bytes as are kept is too long, whatever its last byte
says_nothing : {X : Type 0} (reading : List ℕ → Option X) (raw : List ℕ) → KEPT_LEN ≤ length raw
    → says_by reading raw ≡ None
says_nothing reading raw long =
    let test : ltb LINE_LIMIT (length (strip_last 13 raw)) ≡ true =
    lt-ltb LINE_LIMIT _ (omega (arith, length-strip_last 13 raw)) in
    ap (λ b. cond b None (reading (strip_last 13 raw))) test

front_decides : {X : Type 0} (reading : List ℕ → Option X) (f g : List ℕ) (is_short : Bool)
    → ltb (length f) KEPT_LEN ≡ is_short → take KEPT_LEN f ≡ take KEPT_LEN g → says_by reading f ≡ says_by reading g
front_decides reading f g true short e =
    let len : length (take KEPT_LEN f) ≡ length (take KEPT_LEN g) = ap length e in
    let few : length f < KEPT_LEN = grind (arith, nat_tests) in
    ap (says_by reading)
    (sym (take_all KEPT_LEN f (omega arith)) ∙ e
    ∙ take_all KEPT_LEN g (omega (arith, length-take KEPT_LEN f, length-take KEPT_LEN g)))
front_decides reading f g false long e =
    let len : length (take KEPT_LEN f) ≡ length (take KEPT_LEN g) = ap length e in
    let many : KEPT_LEN ≤ length f = grind (arith, nat_tests) in
    says_nothing reading f many
    ∙ sym (says_nothing reading g (omega (arith, length-take KEPT_LEN f, length-take KEPT_LEN g)))

-- so what is kept of a line decides what it says
said_alike : {X : Type 0} (reading : List ℕ → Option X) (f g : List ℕ) → take KEPT_LEN f ≡ take KEPT_LEN g
    → says_by reading f ≡ says_by reading g
said_alike reading f g e = front_decides reading f g (ltb (length f) KEPT_LEN) refl e

-- a line that says something is what another one is that begins alike
same_line : {X : Type 0} (reading : List ℕ → Option X) (f g : List ℕ) (is_short : Bool)
    → ltb (length f) KEPT_LEN ≡ is_short → take KEPT_LEN f ≡ take KEPT_LEN g → says_by reading f ≢ None → f ≡ g
same_line reading f g true short e some =
    let len : length (take KEPT_LEN f) ≡ length (take KEPT_LEN g) = ap length e in
    let few : length f < KEPT_LEN = grind (arith, nat_tests) in
    sym (take_all KEPT_LEN f (omega arith)) ∙ e
    ∙ take_all KEPT_LEN g (omega (arith, length-take KEPT_LEN f, length-take KEPT_LEN g))
same_line reading f g false long e some = absurd (some (says_nothing reading f (grind (arith, nat_tests))))

-- ---- what is wrong with a line

-- a long line is too long
wrong_long : (reading : List ℕ → BadLine) (raw : List ℕ) → KEPT_LEN ≤ length raw → wrong_by reading raw ≡ TooLong
wrong_long reading raw long =
    let test : ltb LINE_LIMIT (length (strip_last 13 raw)) ≡ true =
    lt-ltb LINE_LIMIT _ (omega (arith, length-strip_last 13 raw)) in
    ap (λ b. cond b TooLong (reading (strip_last 13 raw))) test

wrong_decides : (reading : List ℕ → BadLine) (f g : List ℕ) (is_short : Bool) → ltb (length f) KEPT_LEN ≡ is_short
    → take KEPT_LEN f ≡ take KEPT_LEN g → wrong_by reading f ≡ wrong_by reading g
wrong_decides reading f g true short e =
    let len : length (take KEPT_LEN f) ≡ length (take KEPT_LEN g) = ap length e in
    let few : length f < KEPT_LEN = grind (arith, nat_tests) in
    ap (wrong_by reading)
    (sym (take_all KEPT_LEN f (omega arith)) ∙ e
    ∙ take_all KEPT_LEN g (omega (arith, length-take KEPT_LEN f, length-take KEPT_LEN g)))
wrong_decides reading f g false long e =
    let len : length (take KEPT_LEN f) ≡ length (take KEPT_LEN g) = ap length e in
    let many : KEPT_LEN ≤ length f = grind (arith, nat_tests) in
    wrong_long reading f many
    ∙ sym (wrong_long reading g (omega (arith, length-take KEPT_LEN f, length-take KEPT_LEN g)))

-- so what is kept of a line decides what is wrong with it
pub wrong-alike : {X : Type 0} (script : Script X) (ended : List (List ℕ)) (f g : List ℕ)
    → take KEPT_LEN f ≡ take KEPT_LEN g → wrong_behind script ended f ≡ wrong_behind script ended g
wrong-alike script [] f g e = wrong_decides script.first_wrong f g (ltb (length f) KEPT_LEN) refl e
wrong-alike script (first ∷ lines) f g e = wrong_decides script.wrong f g (ltb (length f) KEPT_LEN) refl e

too_long_wrong : {X : Type 0} (script : Script X) (ended : List (List ℕ)) (raw : List ℕ)
    → ltb LINE_LIMIT (length (strip_last 13 raw)) ≡ true → wrong_behind script ended raw ≡ TooLong
too_long_wrong script [] raw long = ap (λ b. cond b TooLong (script.first_wrong (strip_last 13 raw))) long
too_long_wrong script (first ∷ lines) raw long = ap (λ b. cond b TooLong (script.wrong (strip_last 13 raw))) long

-- a line behind some that were played is a later one
later_wrong : {X : Type 0} (script : Script X) (ended : List (List ℕ)) (p : Played X) (raw : List ℕ)
    → play_of script ended ≡ Some p → ltb LINE_LIMIT (length (strip_last 13 raw)) ≡ false
    → wrong_behind script ended raw ≡ script.wrong (strip_last 13 raw)
later_wrong script [] p raw is short = absurd (cc)
later_wrong script (first ∷ lines) p raw is short = ap (λ b. cond b TooLong (script.wrong (strip_last 13 raw))) short

first_line_wrong : {X : Type 0} (script : Script X) (ended : List (List ℕ)) (raw : List ℕ) → ended ≡ []
    → ltb LINE_LIMIT (length (strip_last 13 raw)) ≡ false
    → wrong_behind script ended raw ≡ script.first_wrong (strip_last 13 raw)
first_line_wrong script ended raw nil short =
    ap (λ l. wrong_behind script l raw) nil ∙ ap (λ b. cond b TooLong (script.first_wrong (strip_last 13 raw))) short

-- ---- one line more

play_on-push : {X : Type 0} (script : Script X) (p : Option (Played X)) (lines : List (List ℕ)) (raw : List ℕ)
    → play_on script p (lines ++ raw ∷ []) ≡ with_line script (play_on script p lines) raw
play_on-push script p [] raw = refl
play_on-push script p (first ∷ lines) raw = play_on-push script (with_line script p first) lines raw

with_line-alike : {X : Type 0} (script : Script X) (p : Option (Played X)) (f g : List ℕ)
    → take KEPT_LEN f ≡ take KEPT_LEN g → with_line script p f ≡ with_line script p g
with_line-alike script None f g e = refl
with_line-alike script (Some p) f g e = ap (with_reading p) (said_alike script.event f g e)

says_none : {X : Type 0} (script : Script X) (p : Option (Played X)) (raw : List ℕ) → says_by script.event raw ≡ None
    → with_line script p raw ≡ None
says_none script None raw none = refl
says_none script (Some p) raw none = ap (with_reading p) none

-- a line plays what another one does that begins alike
pub play_of-alike : {X : Type 0} (script : Script X) (lines : List (List ℕ)) (f g : List ℕ)
    → take KEPT_LEN f ≡ take KEPT_LEN g → play_of script (lines ++ f ∷ []) ≡ play_of script (lines ++ g ∷ [])
play_of-alike script [] f g e = ap (option_map (start_play script)) (said_alike script.first f g e)
play_of-alike script (first ∷ lines) f g e =
    let p = option_map (start_play script) (says_by script.first first) in
    play_on-push script p lines f ∙ with_line-alike script (play_on script p lines) f g e
    ∙ sym (play_on-push script p lines g)

-- the line behind some that were played
play_of-push : {X : Type 0} (script : Script X) (lines : List (List ℕ)) (p : Played X) (raw : List ℕ)
    → play_of script lines ≡ Some p → play_of script (lines ++ raw ∷ []) ≡ with_reading p (says_by script.event raw)
play_of-push script [] p raw h = absurd (cc)
play_of-push script (first ∷ lines) p raw h =
    play_on-push script (option_map (start_play script) (says_by script.first first)) lines raw
    ∙ ap (λ q. with_line script q raw) h

-- of two lines that begin alike, and of which one is of a form
pub alike_same : {X : Type 0} (script : Script X) (lines : List (List ℕ)) (f g : List ℕ)
    → take KEPT_LEN f ≡ take KEPT_LEN g → play_of script (lines ++ f ∷ []) ≢ None → f ≡ g
alike_same script [] f g e some =
    same_line script.first f g (ltb (length f) KEPT_LEN) refl e
    (λ none. some (ap (option_map (start_play script)) none))
alike_same script (first ∷ lines) f g e some =
    same_line script.event f g (ltb (length f) KEPT_LEN) refl e
    (λ none. some
    (play_on-push script (option_map (start_play script) (says_by script.first first)) lines f
    ∙ says_none script (play_on script (option_map (start_play script) (says_by script.first first)) lines)
    f none))

-- ---- the first line that is of no form

on_none : {X : Type 0} (script : Script X) (lines : List (List ℕ)) → play_on script None lines ≡ None
on_none script [] = refl
on_none script (raw ∷ lines) = on_none script lines

on_front : {X : Type 0} (script : Script X) (p : Option (Played X)) (lines : List (List ℕ)) (n : ℕ)
    → play_on script p (take n lines) ≡ None → play_on script p lines ≡ None
on_front script p lines zero none = ap (λ q. play_on script q lines) none ∙ on_none script lines
on_front script p [] (suc n) none = none
on_front script p (raw ∷ lines) (suc n) none = on_front script (with_line script p raw) lines n none

none_front : {X : Type 0} (script : Script X) (lines : List (List ℕ)) (n : ℕ) → 0 < n
    → play_of script (take n lines) ≡ None → play_of script lines ≡ None
none_front script [] n some none = refl
none_front script (first ∷ lines) zero some none = absurd (omega arith)
none_front script (first ∷ lines) (suc n) some none =
    on_front script (option_map (start_play script) (says_by script.first first)) lines n none

all_good : {X : Type 0} (script : Script X) (lab : Option X) (refused : ℕ) (ended : List (List ℕ)) (n : ℕ)
    → IsAt script lab refused ended → 0 < n → n ≤ length ended → play_of script (take n ended) ≢ None
all_good script None refused ended n at some few none = absurd (omega (arith, ap length at.0))
all_good script (Some lab) refused ended n at some few none =
    let (p, is, same, count, ready) = at in
    let bad : play_of script ended ≡ None = none_front script ended n some none in
    cc

pub first_bad : {X : Type 0} (script : Script X) (lab : Option X) (refused : ℕ) (ended more : List (List ℕ))
    (line : List ℕ)
    → IsAt script lab refused ended → play_of script (ended ++ line ∷ []) ≡ None
    → IsFirstBad script (length ended + 1) (ended ++ line ∷ more)
first_bad script lab refused ended more line at none = record {
  counts = omega arith;
  bad = ap (play_of script) (take-append-add ended (line ∷ more) 1) ∙ none;
  good =
      λ n some few bad. all_good script lab refused ended n at some (omega arith)
      (ap (play_of script) (sym (take-append-le n ended (line ∷ more) (omega arith))) ∙ bad);
}

-- the lines before that one
pub lines_before : (ended more : List (List ℕ)) → take (length ended) (ended ++ more) ≡ ended
lines_before ended more =
    take-append-le (length ended) ended more (omega arith) ∙ take_all (length ended) ended (omega arith)

-- ---- what a line does

-- text that waits behind what was written
pub waits_more : (held : Option (List ℕ)) (old new more : List ℕ) → new ≡ old ++ more
    → Appends (written_of held old) (written_of held new) more
waits_more None old new more e = tt
waits_more (Some x) old new more e = ap (λ l. x ++ l) e ∙ sym (append_assoc x old more)

pub text_more : (before held : Option (List ℕ)) (old new text more : List ℕ) → Appends before (written_of held old) text
    → new ≡ old ++ more → Appends before (written_of held new) (text ++ more)
text_more before held old new text more so_far e =
    Appends-trans before (written_of held old) (written_of held new) text more so_far (waits_more held old new more e)

says : {X : Type 0} (reading : List ℕ → Option X) (raw : List ℕ) (said : Option X)
    → ltb LINE_LIMIT (length (strip_last 13 raw)) ≡ false → reading (strip_last 13 raw) ≡ said
    → says_by reading raw ≡ said
says reading raw said short is = ap (λ b. cond b None (reading (strip_last 13 raw))) short ∙ is

-- the first line was played
pub begins : {X : Type 0} (script : Script X) (before held : Option (List ℕ)) (at at' : Standing X)
    (ended : List (List ℕ)) (raw old new : List ℕ) (made : X)
    → at.lab ≡ None → at' ≡ record { lab = Some made; lines = at.lines + 1; refused = at.refused }
    → ltb LINE_LIMIT (length (strip_last 13 raw)) ≡ false → script.first (strip_last 13 raw) ≡ Some made
    → new ≡ old ++ script.begun made → script.ready made
    → PlaysLines script before (written_of held old) at ended
    → PlaysLines script before (written_of held new) at' (ended ++ raw ∷ [])
begins script before held at at' ended raw old new made none next short said more ready s =
    let (nil, none_yet) = subst (λ l. IsAt script l at.refused ended) none s.state in
    let played_first : play_of script (ended ++ raw ∷ []) ≡ Some (start_play script made) =
    ap (λ l. play_of script (l ++ raw ∷ [])) nil
    ∙ ap (option_map (start_play script)) (says script.first raw (Some made) short said) in
    subst (λ n. PlaysLines script before (written_of held new) n (ended ++ raw ∷ [])) (sym next) (record {
      state = (start_play script made, played_first, refl, sym none_yet, ready);
      text = subst (Appends before (written_of held new)) (sym (ap text_of played_first))
          (text_more before held old new [] _
          (subst (Appends before (written_of held old)) (ap (λ l. text_of (play_of script l)) nil) s.text) more);
      count = omega (arith, s.count, ap length nil, ap (λ l. length (l ++ raw ∷ [])) nil);
    })

-- an event was let happen
pub plays_event : {X : Type 0} (script : Script X) (before old new : Option (List ℕ)) (at at' : Standing X)
    (ended : List (List ℕ)) (raw : List ℕ) (l l' : X) (was_refused : Bool)
    → at.lab ≡ Some l
    → at' ≡ record { lab = Some l'; lines = at.lines + 1; refused = at.refused + cond was_refused 1 0 }
    → ltb LINE_LIMIT (length (strip_last 13 raw)) ≡ false
    → (script.ready l → PlaysLine script (strip_last 13 raw) l l' old new was_refused × script.ready l')
    → PlaysLines script before old at ended → PlaysLines script before new at' (ended ++ raw ∷ [])
plays_event {X = X} script before old new at at' ended raw l l' was_refused some next short plays s =
    let (p, is, same, so_far, ready) = subst (λ x. IsAt script x at.refused ended) some s.state in
    let (did, ready') = plays ready in
    let does : X → Done X = did.does in
    let after : Played X = record {
      lab = (does p.lab).lab;
      text = p.text ++ (does p.lab).text;
      refused = p.refused + cond (does p.lab).is_refused 1 0;
    } in
    let played_more : play_of script (ended ++ raw ∷ []) ≡ Some after =
    play_of-push script ended p raw is ∙ ap (with_reading p) (says script.event raw (Some does) short did.said) in
    subst (λ n. PlaysLines script before new n (ended ++ raw ∷ [])) (sym next) (record {
      state = (
        after,
        played_more,
        ap (λ x. (does x).lab) same ∙ sym did.lab,
        ap (λ x. p.refused + cond (does x).is_refused 1 0) same ∙ ap (λ b. p.refused + cond b 1 0) (sym did.count)
            ∙ ap (λ n. n + cond was_refused 1 0) so_far,
        ready',
      );
      text = subst (Appends before new) (sym (ap text_of played_more))
          (Appends-trans before old new p.text _ (subst (Appends before old) (ap text_of is) s.text)
          (subst (λ x. Appends old new (does x).text) (sym same) did.text));
      count = omega (arith, s.count, length-append ended (raw ∷ []));
    })

-- ---- a line that isn't played

unplayed_first : {X : Type 0} (script : Script X) (lab : Option X) (refused : ℕ) (ended : List (List ℕ)) (raw : List ℕ)
    → lab ≡ None → IsAt script lab refused ended → says_by script.first raw ≡ None
    → play_of script (ended ++ raw ∷ []) ≡ None
unplayed_first script lab refused ended raw none at said =
    let (nil, none_yet) = subst (λ l. IsAt script l refused ended) none at in
    ap (λ l. play_of script (l ++ raw ∷ [])) nil ∙ ap (option_map (start_play script)) said

unplayed_event : {X : Type 0} (script : Script X) (lab : Option X) (refused : ℕ) (ended : List (List ℕ)) (raw : List ℕ)
    (l : X)
    → lab ≡ Some l → IsAt script lab refused ended → says_by script.event raw ≡ None
    → play_of script (ended ++ raw ∷ []) ≡ None
unplayed_event script lab refused ended raw l some at said =
    let (p, is, same, so_far, ready) = subst (λ x. IsAt script x refused ended) some at in
    play_of-push script ended p raw is ∙ ap (with_reading p) said

unplayed : {X : Type 0} (script : Script X) (lab : Option X) (refused : ℕ) (ended : List (List ℕ)) (raw : List ℕ)
    → IsAt script lab refused ended → says_by script.first raw ≡ None → says_by script.event raw ≡ None
    → play_of script (ended ++ raw ∷ []) ≡ None
unplayed script None refused ended raw at first event = unplayed_first script None refused ended raw refl at first
unplayed script (Some l) refused ended raw at first event =
    unplayed_event script (Some l) refused ended raw l refl at event

-- a line that is too long
pub too_long_stops : {X : Type 0} (script : Script X) (before written : Option (List ℕ)) (at : Standing X)
    (ended : List (List ℕ)) (raw : List ℕ)
    → ltb LINE_LIMIT (length (strip_last 13 raw)) ≡ true
    → PlaysLines script before written at ended
    → StopsLine script before written ended raw (Some TooLong) (run.BadScript (at.lines + 1))
too_long_stops script before written at ended raw long s =
    let none_first : says_by script.first raw ≡ None = ap (λ b. cond b None (script.first (strip_last 13 raw))) long in
    let none_event : says_by script.event raw ≡ None = ap (λ b. cond b None (script.event (strip_last 13 raw))) long in (
      ap (λ n. n + 1) s.count,
      unplayed script at.lab at.refused ended raw s.state none_first none_event,
      s.text,
      ap Some (sym (too_long_wrong script ended raw long)),
    )

some_with : {X : Type 0} (p : Played X) (o : Option (X → Done X)) → o ≢ None → with_reading p o ≢ None
some_with p None some none = some refl
some_with p (Some does) some none = cc

want_behind : {X : Type 0} (script : Script X) (ended : List (List ℕ)) (p : Played X) (line : List ℕ) (after : X)
    (text : List ℕ)
    → play_of script ended ≡ Some p → script.wants p.lab (strip_last 13 line) after text
    → IsWantText script (play_of script ended) line text
want_behind script ended p line after text is w =
    subst (λ played. IsWantText script played line text) (sym is) (after, w)

-- an event wasn't let happen
pub event_stops : {X Y : Type 0} (script : Script X) (fault : RunFault) (before old new : Option (List ℕ))
    (at : Standing X) (ended : List (List ℕ)) (raw : List ℕ) (l after : X) (wrong : Option BadLine)
    → at.lab ≡ Some l
    → ltb LINE_LIMIT (length (strip_last 13 raw)) ≡ false → IsLineFault fault
    → ((n : ℕ) → ◌≡◌ {A = Result Y RunFault} (Err fault) (Err (run.BadScript n))
    → (n ≡ at.lines + 1) × (script.event (strip_last 13 raw) ≡ None) × Keeps old new)
    → ((n : ℕ) → ◌≡◌ {A = Result Y RunFault} (Err fault) (Err (run.BadScript n))
    → wrong ≡ Some (script.wrong (strip_last 13 raw)))
    → (◌≡◌ {A = Result Y RunFault} (Err fault) (Err run.NoMemory)
    → (script.event (strip_last 13 raw) ≢ None)
    × (script.ready l → (text : List ℕ) × script.wants l (strip_last 13 raw) after text × Appends old new text))
    → PlaysLines script before old at ended → StopsLine script before new ended raw wrong fault
event_stops script (run.BadScript n) before old new at ended raw l after wrong some short is bad why want s =
    let (number, said, same) = bad n refl in
    let (p, is_played, same_lab, so_far, ready) = subst (λ x. IsAt script x at.refused ended) some s.state in (
      number ∙ ap (λ k. k + 1) s.count,
      unplayed_event script at.lab at.refused ended raw l some s.state (says script.event raw None short said),
      Appends-kept before old new _ s.text same,
      why n refl ∙ ap Some (sym (later_wrong script ended p raw is_played short)),
    )
event_stops script run.NoMemory before old new at ended raw l after wrong some short is bad why want s =
    let (said, told) = want refl in
    let (p, is_played, same, so_far, ready) = subst (λ x. IsAt script x at.refused ended) some s.state in
    let (text, wants, more) = told ready in
    let good : says_by script.event raw ≢ None =
    λ nothing. said (sym (says script.event raw _ short refl) ∙ nothing) in (
      λ nothing. some_with p (says_by script.event raw) good
          (sym (play_of-push script ended p raw is_played) ∙ nothing),
      text,
      want_behind script ended p raw after text is_played
          (subst (λ x. script.wants x (strip_last 13 raw) after text) (sym same) wants),
      Appends-trans before old new (text_of (play_of script ended)) text s.text more,
    )
event_stops script run.WriteFault before old new at ended raw l after wrong some short is bad why want s = tt
event_stops script run.ReadFault before old new at ended raw l after wrong some short is bad why want s = absurd is
event_stops script run.InputTooLong before old new at ended raw l after wrong some short is bad why want s = absurd is
event_stops script run.LinkFault before old new at ended raw l after wrong some short is bad why want s = absurd is
event_stops script run.ClockFault before old new at ended raw l after wrong some short is bad why want s = absurd is

some_made : {X Y : Type 0} (f : X → Y) (o : Option X) → o ≢ None → option_map f o ≢ None
some_made f None some none = some refl
some_made f (Some x) some none = cc

-- the laboratory wasn't made
pub first_stops : {X Y : Type 0} (script : Script X) (fault : RunFault) (before held : Option (List ℕ))
    (at : Standing X) (ended : List (List ℕ)) (raw old new : List ℕ) (wrong : Option BadLine)
    → at.lab ≡ None
    → ltb LINE_LIMIT (length (strip_last 13 raw)) ≡ false → IsLineFault fault
    → ((n : ℕ) → ◌≡◌ {A = Result Y RunFault} (Err fault) (Err (run.BadScript n))
    → (n ≡ at.lines + 1) × (script.first (strip_last 13 raw) ≡ None) × (new ≡ old))
    → ((n : ℕ) → ◌≡◌ {A = Result Y RunFault} (Err fault) (Err (run.BadScript n))
    → wrong ≡ Some (script.first_wrong (strip_last 13 raw)))
    → (◌≡◌ {A = Result Y RunFault} (Err fault) (Err run.NoMemory)
    → (script.first (strip_last 13 raw) ≢ None) × (new ≡ old))
    → PlaysLines script before (written_of held old) at ended
    → StopsLine script before (written_of held new) ended raw wrong fault
first_stops script (run.BadScript n) before held at ended raw old new wrong none short is bad why want s =
    let (number, said, same) = bad n refl in
    let (nil, none_yet) = subst (λ l. IsAt script l at.refused ended) none s.state in (
      number ∙ ap (λ k. k + 1) s.count,
      unplayed_first script at.lab at.refused ended raw none s.state (says script.first raw None short said),
      subst (λ x. Appends before (written_of held x) (text_of (play_of script ended))) (sym same) s.text,
      why n refl ∙ ap Some (sym (first_line_wrong script ended raw nil short)),
    )
first_stops script run.NoMemory before held at ended raw old new wrong none short is bad why want s =
    let (said, same) = want refl in
    let (nil, none_yet) = subst (λ l. IsAt script l at.refused ended) none s.state in
    let good : says_by script.first raw ≢ None =
    λ nothing. said (sym (says script.first raw _ short refl) ∙ nothing) in (
      λ nothing. some_made (start_play script) (says_by script.first raw) good
          (sym (ap (λ l. play_of script (l ++ raw ∷ [])) nil) ∙ nothing),
      [],
      subst (λ (l : List (List ℕ)). IsWantText script (play_of script l) raw []) (sym nil) refl,
      text_more before held old new (text_of (play_of script ended)) [] s.text (same ∙ sym (append-nil old)),
    )
first_stops script run.WriteFault before held at ended raw old new wrong none short is bad why want s = tt
first_stops script run.ReadFault before held at ended raw old new wrong none short is bad why want s = absurd is
first_stops script run.InputTooLong before held at ended raw old new wrong none short is bad why want s = absurd is
first_stops script run.LinkFault before held at ended raw old new wrong none short is bad why want s = absurd is
first_stops script run.ClockFault before held at ended raw old new wrong none short is bad why want s = absurd is

-- ---- calls that may fail

pub on_fault : {X : Type 0} (r : Result X RunFault) (e : RunFault) (P : RunFault → Type 0) → IsErrAnd r (λ y. y ≡ e)
    → P e → IfErr r P
on_fault (Ok x) e P is p = absurd is
on_fault (Err y) e P is p = subst P (sym is) p
