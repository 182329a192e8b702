-- A run: what was shown, and what is told at the end.
use Rattle.std.proofs.Common.{◌≡◌, ℕ, ◌<◌, ◌≤◌, true, eqb, List, [], ◌∷◌, ◌++◌, length, take, sym, ap, ◌∙◌, subst}
use Rattle.std.specs.Prelude.{Option, None, Some, IfSome}
use Rattle.std.specs.Io.KnownBytes.{Appends, Keeps, Consumes}
use Rattle.std.proofs.KnownBytes.{Appends-kept}
use Rattle.chaosd_io.specs.declared.limits.TheConstants.{INPUT_LIMIT}
use Rattle.chaosd_show.specs.declared.format.Format.{Format}
use Rattle.chaosd_show.specs.declared.view.View.{View}
use Rattle.chaosd_show.specs.declared.limits.TheConstants.{SHOW_KEPT_LEN}
use Rattle.chaosd_show.specs.declared.tally.Tally.{Tally}
use Rattle.chaosd_io.specs.Buffer.{written_of}
use Rattle.chaosd_io.specs.Lines.{ended_lines, lines_of}
use Rattle.chaosd_show.specs.Show.{line_report, reports_of, tally_of, gap, counted, ReportsRead}
use Rattle.chaosd_io.specs.Reader.{LinesView, Gives, Done, GivesNext, GivesLast}
use Rattle.chaosd_show.specs.Shown.{Shows, ShowsAll}
use Rattle.chaosd_io.proofs.Steps.{nothing_waits}
use Rattle.chaosd_show.proofs.Steps.{line_more}
use Rattle.chaosd_io.proofs.Runs.{handed}
use Rattle.chaosd_io.proofs.Cutting.{if_some}

-- ---- what was shown

pub nothing_shown : (format : Format) (view : View) (input before : Option (List ℕ)) (waiting : List ℕ) (tally : Tally) (lines : LinesView)
    → waiting ≡ [] → tally ≡ tally_of format [] → Gives SHOW_KEPT_LEN INPUT_LIMIT input input [] lines
    → Shows format view input input before (written_of before waiting) tally lines
nothing_shown format view input before waiting tally lines waits count gives =
    record { given = []; gives = gives; text = nothing_waits before waiting waits; count = count }

-- more came, or the end did
pub shown_of : (format : Format) (view : View) (input rest rest' before written : Option (List ℕ)) (tally : Tally) (lines lines' : LinesView)
    → (s : Shows format view input rest before written tally lines)
    → Gives SHOW_KEPT_LEN INPUT_LIMIT input rest' s.given lines' → Shows format view input rest' before written tally lines'
shown_of format view input rest rest' before written tally lines lines' s gives =
    record { given = s.given; gives = gives; text = s.text; count = s.count }

-- one line more
pub more_shown : (format : Format) (view : View) (input rest before written written' : Option (List ℕ)) (tally tally' : Tally)
    (lines lines' : LinesView) (line : List ℕ)
    → (s : Shows format view input rest before written tally lines)
    → GivesNext SHOW_KEPT_LEN INPUT_LIMIT input rest s.given lines' true → line ≡ lines'.line
    → Appends written written' (gap (eqb tally.reports 0) ++ line_report format view line) → tally' ≡ counted format tally line
    → Shows format view input rest before written' tally' lines'
more_shown format view input rest before written written' tally tally' lines lines' line s (raw, front, gives) e more next =
    let reported =
    line_more format view before written written' tally tally' s.given raw line (ap (take SHOW_KEPT_LEN) e ∙ front) s.text
    s.count more next in
    record { given = s.given ++ raw ∷ []; gives = gives; text = reported.0; count = reported.1 }

-- the end of the input
pub all_shown : (format : Format) (view : View) (input rest before written : Option (List ℕ)) (tally : Tally) (lines : LinesView)
    → (s : Shows format view input rest before written tally lines)
    → GivesLast SHOW_KEPT_LEN INPUT_LIMIT input rest s.given None → ShowsAll format view input rest before written tally
all_shown format view input rest before written tally lines s done =
    record { given = s.given; done = done; text = s.text; count = s.count }

pub last_shown : (format : Format) (view : View) (input rest before written written' : Option (List ℕ)) (tally tally' : Tally) (lines : LinesView)
    (line : List ℕ)
    → (s : Shows format view input rest before written tally lines)
    → GivesLast SHOW_KEPT_LEN INPUT_LIMIT input rest s.given (Some line)
    → Appends written written' (gap (eqb tally.reports 0) ++ line_report format view line) → tally' ≡ counted format tally line
    → ShowsAll format view input rest before written' tally'
last_shown format view input rest before written written' tally tally' lines line s (raw, front, done) more next =
    let reported = line_more format view before written written' tally tally' s.given raw line front s.text s.count more next in
    record { given = s.given ++ raw ∷ []; done = done; text = reported.0; count = reported.1 }

-- handing on changes nothing of what was shown
pub shown_kept : (format : Format) (view : View) (input rest before written written' : Option (List ℕ)) (tally tally' : Tally) (lines : LinesView)
    → Keeps written written' → tally' ≡ tally
    → Shows format view input rest before written tally lines → Shows format view input rest before written' tally' lines
shown_kept format view input rest before written written' tally tally' lines keeps same s = record {
  given = s.given;
  gives = s.gives;
  text = Appends-kept before written written' _ s.text keeps;
  count = same ∙ s.count;
}

-- the reports of all, which were handed on
pub all_handed : (format : Format) (view : View) (input rest before written held : Option (List ℕ)) (waiting : List ℕ) (tally tally' : Tally)
    → Keeps written (written_of held waiting) → waiting ≡ [] → tally' ≡ tally
    → ShowsAll format view input rest before written tally → ShowsAll format view input rest before held tally'
all_handed format view input rest before written held waiting tally tally' keeps none same s = record {
  given = s.given;
  done = s.done;
  text = handed before held waiting _ none (Appends-kept before written _ _ s.text keeps);
  count = same ∙ s.count;
}

-- ---- what is told at the end

pub past_shown : (format : Format) (view : View) (input before held : Option (List ℕ)) (given : List (List ℕ)) → Appends before held (reports_of format view given)
    → IfSome input (λ all. (INPUT_LIMIT < length all) × (given ≡ ended_lines (take INPUT_LIMIT all)))
    → IfSome input
    (λ all. (INPUT_LIMIT < length all) × Appends before held (reports_of format view (ended_lines (take INPUT_LIMIT all))))
past_shown format view input before held given text past =
    if_some input (λ all. (INPUT_LIMIT < length all) × (given ≡ ended_lines (take INPUT_LIMIT all)))
    (λ all. (INPUT_LIMIT < length all) × Appends before held (reports_of format view (ended_lines (take INPUT_LIMIT all))))
    (λ all p. (p.0, subst (λ l. Appends before held (reports_of format view l)) p.1 text)) past

pub unread_shown : (format : Format) (view : View) (input rest before held : Option (List ℕ)) (given : List (List ℕ)) → Appends before held (reports_of format view given) → (read : List ℕ) × Consumes input rest read × (given ≡ ended_lines read)
    → ReportsRead format view input rest before held
unread_shown format view input rest before held given text (read, came, same) = (read, came, subst (λ l. Appends before held (reports_of format view l)) same text)

-- what holds of all lines
pub of_lines : (input rest : Option (List ℕ)) (given : List (List ℕ)) (P : List (List ℕ) → Type 0)
    → Done INPUT_LIMIT input rest given → P given → IfSome input (λ all. P (lines_of all))
of_lines input rest given P done p =
    if_some input (λ all. (length all ≤ INPUT_LIMIT) × (lines_of all ≡ given)) (λ all. P (lines_of all))
    (λ all h. subst P (sym h.1) p) done.lines

pub within : (input rest : Option (List ℕ)) (given : List (List ℕ)) → Done INPUT_LIMIT input rest given
    → IfSome input (λ all. length all ≤ INPUT_LIMIT)
within input rest given done =
    if_some input (λ all. (length all ≤ INPUT_LIMIT) × (lines_of all ≡ given)) (λ all. length all ≤ INPUT_LIMIT)
    (λ all h. h.0) done.lines
