use Rattle.std.proofs.Common.{ap, ◌∙◌, arith, ◌≡◌}
use Rattle.std.specs.Prelude.{Err}
use Rattle.std.specs.Io.KnownBytes.{Appends}
use Rattle.chaosd_show.specs.declared.limits.TheConstants.{SHOW_KEPT_LEN}
use Rattle.chaosd_io.specs.declared.limits.TheConstants.{INPUT_LIMIT}
use Rattle.chaosd_io.specs.declared.fault.RunFault.TheVariants.{InputTooLong, ReadFault}
use Rattle.chaosd_io.specs.Reader.{GivesMore}
use Rattle.chaosd_show.specs.Show.{reports_of, tally_of}
use Rattle.chaosd_io.proofs.Cutting.{more_came, none_came, told}
use Rattle.chaosd_io.proofs.Runs.{went_well, handed}
use Rattle.chaosd_show.proofs.Runs.{nothing_shown, shown_of, shown_kept, all_handed, past_shown, unread_shown, of_lines, within}
use Rattle.chaosd_show.proofs.run.run_show_by.Goals as goal

pub reads-init : goal.reads-init
reads-init g c = (
  omega (arith, c.new-lines.ensures.left, ap (λ t. t.reports) c.new-reporter.ensures.tally),
  nothing_shown c.args.format c.args.view _ _ _ _ _ c.new-reporter.ensures.out c.new-reporter.ensures.tally (c.new-lines.ensures.given _),
)

pub returns-in_err-refill-clause-too_long : goal.returns-in_err-refill-clause-too_long
returns-in_err-refill-clause-too_long g c is =
    let s =
    shown_kept c.args.format c.args.view _ _ _ _ _ _ _ _ c.hand_on.ensures.kept c.hand_on.ensures.tally
    (went_well _ _ _ c.written.ensures c.in_ok-written.was c.report_ended.ensures.shown _ _ _
    c.reads.invariant.1) in
    past_shown c.args.format c.args.view _ _ _ s.given
    (handed _ _ _ _ (went_well _ _ _ c.written-in-reads.ensures c.in_ok-written-2.was c.hand_on.ensures.empty)
    s.text)
    (told c.from_residual-in_err-refill.result c.in_err-refill.field-0.0 InputTooLong
    (λ f. GivesMore SHOW_KEPT_LEN INPUT_LIMIT (g.R.Read.remaining c.args.reader.now)
    (g.R.Read.remaining c.refill.new.reader) s.given c.refill.new.self (Err f))
    c.from_residual-in_err-refill.ensures.1 is (c.in_err-refill.ensures.given _ _ s.given s.gives))

pub returns-in_err-refill-clause-unread : goal.returns-in_err-refill-clause-unread
returns-in_err-refill-clause-unread g c is =
    let s =
    shown_kept c.args.format c.args.view _ _ _ _ _ _ _ _ c.hand_on.ensures.kept c.hand_on.ensures.tally
    (went_well _ _ _ c.written.ensures c.in_ok-written.was c.report_ended.ensures.shown _ _ _
    c.reads.invariant.1) in
    unread_shown c.args.format c.args.view _ _ _ _ s.given
    (handed _ _ _ _ (went_well _ _ _ c.written-in-reads.ensures c.in_ok-written-2.was c.hand_on.ensures.empty)
    s.text)
    (told c.from_residual-in_err-refill.result c.in_err-refill.field-0.0 ReadFault
    (λ f. GivesMore SHOW_KEPT_LEN INPUT_LIMIT (g.R.Read.remaining c.args.reader.now)
    (g.R.Read.remaining c.refill.new.reader) s.given c.refill.new.self (Err f))
    c.from_residual-in_err-refill.ensures.1 is (c.in_err-refill.ensures.given _ _ s.given s.gives))

pub reads-preserved : goal.reads-preserved
reads-preserved g c =
    let s =
    shown_kept c.args.format c.args.view _ _ _ _ _ _ _ _ c.hand_on.ensures.kept c.hand_on.ensures.tally
    (went_well _ _ _ c.written.ensures c.in_ok-written.was c.report_ended.ensures.shown _ _ _
    c.reads.invariant.1) in
    let few = went_well _ _ _ c.written.ensures c.in_ok-written.was c.report_ended.ensures.count in (
      omega (arith, few, c.in_ok-refill.ensures.left, ap (λ t. t.reports) c.hand_on.ensures.tally),
      shown_of c.args.format c.args.view _ _ _ _ _ _ _ _ s
          (more_came _ _ _ _ s.given _ c.in_ok-refill.field-0 c.if-not-branch.false
          (c.in_ok-refill.ensures.given _ _ s.given s.gives)),
    )

pub report_last-requires-clause-none : goal.report_last-requires-clause-none
report_last-requires-clause-none g c = (c.in_ok-refill.ensures.end c.if-not-branch.true).0

pub returns-clause-report : goal.returns-clause-report
returns-clause-report g c =
    let s =
    shown_kept c.args.format c.args.view _ _ _ _ _ _ _ _ c.hand_on.ensures.kept c.hand_on.ensures.tally
    (went_well _ _ _ c.written.ensures c.in_ok-written.was c.report_ended.ensures.shown _ _ _
    c.reads.invariant.1) in
    let end =
    none_came _ _ _ _ s.given _ c.in_ok-refill.field-0 c.if-not-branch.true
    (c.in_ok-refill.ensures.given _ _ s.given s.gives) in
    let shown =
    went_well _ _ _ c.written-2.ensures c.in_ok-written-3.was c.report_last.ensures.shown _ _ _
    (shown_of c.args.format c.args.view _ _ _ _ _ _ _ _ s end.0) end.2 in
    let all =
    all_handed c.args.format c.args.view _ _ _ _ _ _ _ _ c.hand_on-2.ensures.kept
    (went_well _ _ _ c.written-3.ensures c.in_ok-written-4.was c.hand_on-2.ensures.empty)
    c.hand_on-2.ensures.tally shown in
    of_lines _ _ all.given
    (λ l. Appends (g.W.Write.contents c.args.writer.now) (g.W.Write.contents c.hand_on-2.new.writer) (reports_of c.args.format c.args.view l))
    all.done all.text

pub returns-clause-tally : goal.returns-clause-tally
returns-clause-tally g c =
    let s =
    shown_kept c.args.format c.args.view _ _ _ _ _ _ _ _ c.hand_on.ensures.kept c.hand_on.ensures.tally
    (went_well _ _ _ c.written.ensures c.in_ok-written.was c.report_ended.ensures.shown _ _ _
    c.reads.invariant.1) in
    let end =
    none_came _ _ _ _ s.given _ c.in_ok-refill.field-0 c.if-not-branch.true
    (c.in_ok-refill.ensures.given _ _ s.given s.gives) in
    let all =
    went_well _ _ _ c.written-2.ensures c.in_ok-written-3.was c.report_last.ensures.shown _ _ _
    (shown_of c.args.format c.args.view _ _ _ _ _ _ _ _ s end.0) end.2 in
    of_lines _ _ all.given (λ l. c.hand_on-2.new.self.tally ≡ tally_of c.args.format l) all.done
    (c.hand_on-2.ensures.tally ∙ all.count)

pub returns-clause-ended : goal.returns-clause-ended
returns-clause-ended g c = (c.in_ok-refill.ensures.end c.if-not-branch.true).1

pub returns-clause-within : goal.returns-clause-within
returns-clause-within g c =
    let s =
    shown_kept c.args.format c.args.view _ _ _ _ _ _ _ _ c.hand_on.ensures.kept c.hand_on.ensures.tally
    (went_well _ _ _ c.written.ensures c.in_ok-written.was c.report_ended.ensures.shown _ _ _
    c.reads.invariant.1) in
    let end =
    none_came _ _ _ _ s.given _ c.in_ok-refill.field-0 c.if-not-branch.true
    (c.in_ok-refill.ensures.given _ _ s.given s.gives) in
    let all =
    went_well _ _ _ c.written-2.ensures c.in_ok-written-3.was c.report_last.ensures.shown _ _ _
    (shown_of c.args.format c.args.view _ _ _ _ _ _ _ _ s end.0) end.2 in
    within _ _ all.given all.done
