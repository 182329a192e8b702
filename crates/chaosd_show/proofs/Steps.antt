-- What a line is reported as, and one line more.
use Rattle.std.proofs.Common.{◌≡◌, ℕ, suc, ◌+◌, ◌<◌, ◌≤◌, Bool, true, false, cond, eqb, ltb, List, [], ◌∷◌, ◌++◌, length, take, take_all, refl, sym, ap, ◌∙◌, subst, arith, append_assoc, length-take, length-append}
use Rattle.std.specs.Prelude.{Option}
use Rattle.std.specs.Io.BufRead.{strip_last}
use Rattle.std.specs.Io.KnownBytes.{Appends}
use Rattle.std.proofs.KnownBytes.{Appends-trans, Keeps-refl, append_known-grown}
use Rattle.std.proofs.lemmas.Bool.{lt-ltb}
use Rattle.std.proofs.lemmas.Bool.Decides.{nat_tests}
use Rattle.std.proofs.lemmas.List.Sums.{sum_by-append}
use Rattle.chaosd_show.specs.declared.format.Format.{Format}
use Rattle.chaosd_show.specs.declared.format.Format.TheVariants.{Own, Chudp}
use Rattle.chaosd_show.specs.declared.view.View.{View}
use Rattle.chaosd_show.specs.declared.limits.TheConstants.{SHOW_KEPT_LEN, SHOW_LINE_LIMIT}
use Rattle.chaosd_show.specs.declared.tally.Tally.{Tally}
use Rattle.chaosd_io.specs.Buffer.{written_of}
use Rattle.chaosd_io.proofs.Steps.{length-strip_last}
use Rattle.chaosd_show.specs.Hex.{hex_bytes}
use Rattle.chaosd_show.specs.Entry.Entry.{Unreadable}
use Rattle.chaosd_show.specs.Entry.{Entry, entry_of, entry_of_text, entry_text, entry_of_bytes, entry_of_datagram, is_refusal}
use Rattle.chaosd_show.specs.Show.{line_report, reports_of, tally_of, gap, counted}

-- ---- a long line

-- a line of as many bytes as are kept is too long, whatever its last byte
long_entry : (format : Format) (raw : List ℕ) → SHOW_KEPT_LEN ≤ length raw → entry_of format raw ≡ Unreadable
unfolding entry_of
long_entry format raw long =
    let test : ltb SHOW_LINE_LIMIT (length (strip_last 13 raw)) ≡ true =
    lt-ltb SHOW_LINE_LIMIT _ (omega (arith, length-strip_last 13 raw)) in
    ap (λ b. cond b Unreadable (entry_of_bytes format (hex_bytes (strip_last 13 raw)))) test

front_decides : (format : Format) (f g : List ℕ) (is_short : Bool) → ltb (length f) SHOW_KEPT_LEN ≡ is_short
    → take SHOW_KEPT_LEN f ≡ take SHOW_KEPT_LEN g → entry_of format f ≡ entry_of format g
front_decides format f g true short e =
    let len : length (take SHOW_KEPT_LEN f) ≡ length (take SHOW_KEPT_LEN g) = ap length e in
    let few : length f < SHOW_KEPT_LEN = grind (arith, nat_tests) in
    ap (entry_of format)
    (sym (take_all SHOW_KEPT_LEN f (omega arith)) ∙ e
    ∙ take_all SHOW_KEPT_LEN g (omega (arith, length-take SHOW_KEPT_LEN f, length-take SHOW_KEPT_LEN g)))
front_decides format f g false long e =
    let len : length (take SHOW_KEPT_LEN f) ≡ length (take SHOW_KEPT_LEN g) = ap length e in
    let many : SHOW_KEPT_LEN ≤ length f = grind (arith, nat_tests) in
    long_entry format f many ∙ sym (long_entry format g (omega (arith, length-take SHOW_KEPT_LEN f, length-take SHOW_KEPT_LEN g)))

-- so what is kept of a line decides what it is
same_front : (format : Format) (f g : List ℕ) → take SHOW_KEPT_LEN f ≡ take SHOW_KEPT_LEN g → entry_of format f ≡ entry_of format g
same_front format f g e = front_decides format f g (ltb (length f) SHOW_KEPT_LEN) refl e

-- an empty line is the empty datagram
pub empty_text : (format : Format) (text : List ℕ) → eqb (length text) 0 ≡ true
    → entry_of_text format text ≡ entry_of_datagram format []
unfolding hex_bytes
empty_text format [] none = refl
empty_text format (b ∷ bs) none = absurd (grind (arith, nat_tests, none))

none_refused : (format : Format) → is_refusal (entry_of_datagram format []) ≡ true
none_refused Own = refl
none_refused Chudp = refl

-- which is refused
pub empty_refused : (format : Format) (text : List ℕ) → eqb (length text) 0 ≡ true → is_refusal (entry_of_text format text) ≡ true
empty_refused format text none = ap is_refusal (empty_text format text none) ∙ none_refused format

-- ---- what is put into the buffer

-- it stands behind all that was written
pub put_behind : (held : Option (List ℕ)) (old new text : List ℕ) → new ≡ old ++ text
    → Appends (written_of held old) (written_of held new) text
put_behind held old new text more = append_known-grown (written_of held old) held old new text (Keeps-refl _) more

-- so does the report of an empty line behind other reports
pub empty_behind : (held : Option (List ℕ)) (old new : List ℕ) (format : Format) (view : View) (reports : ℕ) (raw text : List ℕ)
    → 0 < reports → text ≡ strip_last 13 raw → eqb (length text) 0 ≡ true
    → new ≡ old ++ (gap false ++ entry_text view (entry_of_datagram format []))
    → Appends (written_of held old) (written_of held new) (gap (eqb reports 0) ++ line_report format view raw)
unfolding entry_of
empty_behind held old new format view reports raw text some is none more =
    let entry : entry_of format raw ≡ entry_of_datagram format [] = ap (entry_of_text format) (sym is) ∙ empty_text format text none in
    let behind : eqb reports 0 ≡ false = grind (arith, nat_tests) in
    put_behind held old new _
    (more ∙ ap (λ b. old ++ (gap b ++ entry_text view (entry_of_datagram format []))) (sym behind)
    ∙ ap (λ e. old ++ (gap (eqb reports 0) ++ entry_text view e)) (sym entry))

-- ---- one line more

is_more : (n : ℕ) → eqb (suc n) 0 ≡ false
is_more n = grind (arith, nat_tests)

reports_of-push : (format : Format) (view : View) (lines : List (List ℕ)) (raw : List ℕ)
    → reports_of format view (lines ++ raw ∷ []) ≡ reports_of format view lines ++ (gap (eqb (length lines) 0) ++ line_report format view raw)
reports_of-push format view [] raw = refl
reports_of-push format view (first ∷ []) raw = refl
reports_of-push format view (first ∷ next ∷ others) raw =
    ap (λ l. line_report format view first ++ 10 ∷ l) (reports_of-push format view (next ∷ others) raw)
    ∙ ap (λ b. line_report format view first ++ 10 ∷ (reports_of format view (next ∷ others) ++ (gap b ++ line_report format view raw)))
    (is_more (length others) ∙ sym (is_more (length (next ∷ others))))
    ∙ sym (append_assoc (line_report format view first) (10 ∷ reports_of format view (next ∷ others)) _)

same_tally : (m n a b : ℕ) → m ≡ n → a ≡ b
    → ◌≡◌ {A = Tally} (record { reports = m; refused = a }) (record { reports = n; refused = b })
same_tally m n a b p q = cc

tally_of-push : (format : Format) (lines : List (List ℕ)) (raw : List ℕ) → tally_of format (lines ++ raw ∷ []) ≡ counted format (tally_of format lines) raw
tally_of-push format lines raw =
    same_tally _ _ _ _ (omega (arith, length-append lines (raw ∷ [])))
    (sum_by-append (λ l. cond (is_refusal (entry_of format l)) 1 0) lines (raw ∷ []) ∙ omega arith)

-- a tally counts what a line is
abbrev counted_entry : Tally → Entry → Tally
counted_entry tally entry =
    record { reports = tally.reports + 1; refused = tally.refused + cond (is_refusal entry) 1 0 }

-- the report of one line more, which is what another one is that begins alike
pub line_more : (format : Format) (view : View) (before written written' : Option (List ℕ)) (tally tally' : Tally) (lines : List (List ℕ))
    (line raw : List ℕ)
    → take SHOW_KEPT_LEN raw ≡ take SHOW_KEPT_LEN line
    → Appends before written (reports_of format view lines) → tally ≡ tally_of format lines
    → Appends written written' (gap (eqb tally.reports 0) ++ line_report format view raw) → tally' ≡ counted format tally raw
    → Appends before written' (reports_of format view (lines ++ line ∷ [])) × (tally' ≡ tally_of format (lines ++ line ∷ []))
line_more format view before written written' tally tally' lines line raw alike text count more next =
    let same : entry_of format raw ≡ entry_of format line = same_front format raw line alike in (
      subst (Appends before written')
          (ap (λ n. reports_of format view lines ++ (gap (eqb n 0) ++ line_report format view raw)) (ap (λ t. t.reports) count)
          ∙ ap (λ e. reports_of format view lines ++ (gap (eqb (length lines) 0) ++ entry_text view e)) same
          ∙ sym (reports_of-push format view lines line))
          (Appends-trans before written written' _ _ text more),
      next ∙ ap (λ t. counted format t raw) count ∙ ap (counted_entry (tally_of format lines)) same ∙ sym (tally_of-push format lines line),
    )
