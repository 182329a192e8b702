-- A refusal that is counted in a row.
use Rattle.std.proofs.Common.{◌≡◌, ℕ, List, length, drop, Option, get_or, inl, ap, ap₂, ◌∙◌, sym, length-set}
use Rattle.std.specs.Prelude.{slice_get, slice_set}
use Rattle.std.specs.List.{refill}
use Rattle.std.specs.declared.net.socket_addr.SocketAddr.{SocketAddr}
use Rattle.std.proofs.lemmas.List.{take_at}
use Rattle.std.proofs.lemmas.Option.{get_or_from_slice_get}
use Rattle.chaos_seal.specs.declared.fault.SealFault.{SealFault}
use Rattle.chaosd_log.specs.declared.refusals.Refused.{Refused}
use Rattle.chaosd_log.specs.declared.refusals.RefusalReport.{RefusalReport}
use Rattle.chaosd_log.specs.declared.refusals.RefusalTally.{RefusalTally}
use Rattle.chaosd_log.specs.Refusals.{Counts, IsRowAt, RefusalsView, count_due, counted, report_known, row_of}

-- the table once one row was changed in place
changed : (v : RefusalsView) (items now : List Refused) (others : RefusalTally) (i : ℕ) (q r : Refused)
    → ◌≡◌ {A = RefusalsView} (record { known = items; others = others }) v → now ≡ items → q ≡ r
    → ◌≡◌ {A = RefusalsView} (record { known = refill (length items) items (slice_set now i q); others = others })
    (record v { known = slice_set v.known i r })
changed v items now others i q r view is same =
    let s = slice_set now i q in
    let whole : refill (length items) items s ≡ s =
    take_at s (drop (length s) items) (length items) (length-set now i q ∙ ap length is) in
    let there : s ≡ slice_set items i r = ap₂ (λ l x. slice_set l i x) is same in
    ap (λ l. record { known = l; others = others }) (whole ∙ there)
    ∙ ap (λ (u : RefusalsView). record u { known = slice_set u.known i r }) view

-- the refusal is counted in the row that is at this place
pub in_row : (v : RefusalsView) (items now : List Refused) (others : RefusalTally) (from : SocketAddr) (fault : SealFault) (second : ℕ)
    (i : ℕ) (d : Refused) (tally : RefusalTally) (due : Option ℕ) (report : RefusalReport)
    → ◌≡◌ {A = RefusalsView} (record { known = items; others = others }) v → now ≡ items → IsRowAt from fault i items
    → due ≡ count_due second (get_or now i d).tally → tally ≡ counted second (get_or now i d).tally → report ≡ report_known due
    → Counts from fault second v report
    (record {
      known = refill (length items) items
          (slice_set now i (record { from = (get_or now i d).from; fault = (get_or now i d).fault; tally = tally }));
      others = others;
    })
in_row v items now others from fault second i d tally due report view is (row, at, named) due_is tally_is report_is =
    let read : get_or now i d ≡ row = ap (λ l. get_or l i d) is ∙ get_or_from_slice_get items i row d at in
    let reported : report ≡ report_known (count_due second row.tally) =
    report_is ∙ ap report_known (due_is ∙ ap (λ (r : Refused). count_due second r.tally) read) in
    let told : tally ≡ counted second row.tally = tally_is ∙ ap (λ (r : Refused). counted second r.tally) read in
    let kept : ◌≡◌ {A = Refused} (record { from = (get_or now i d).from; fault = (get_or now i d).fault; tally = tally })
    (row_of from fault (counted second row.tally)) =
    (λ j. record {
      from = (ap (λ (r : Refused). r.from) read ∙ named.0) j;
      fault = (ap (λ (r : Refused). r.fault) read ∙ named.1) j;
      tally = told j;
    }) in
    inl (
      i,
      row,
      ap (λ (u : RefusalsView). slice_get u.known i) (sym view) ∙ at,
      named,
      reported,
      changed v items now others i _ _ view is kept,
    )
