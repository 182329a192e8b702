use Rattle.std.proofs.Common.{◌≡◌, sym, ◌∙◌, subst}
use Rattle.std.specs.Prelude.{codes, IfErr}
use Rattle.chaosd_lab.proofs.Words.{Strips, deliver_event, deliver_wrong, write_event, write_wrong, read_event, read_wrong}
use Rattle.chaosd_lab.proofs.parse.event_of.Goals as goal

pub returns-in-Some-clause-event : goal.returns-in-Some-clause-event
returns-in-Some-clause-event c =
    let s : Strips (codes "deliver ") c.args.line.now c.as_slice.result.now c.in-Some.rest.now = record {
      is = c.as_slice.ensures;
      starts = c.in-Some.ensures.cases.0;
      behind = c.in-Some.ensures.cases.1;
    } in
    c.deliver_of.ensures.event ∙ sym (deliver_event _ _ _ s)

pub returns-in-Some-clause-wrong : goal.returns-in-Some-clause-wrong
returns-in-Some-clause-wrong c =
    let s : Strips (codes "deliver ") c.args.line.now c.as_slice.result.now c.in-Some.rest.now = record {
      is = c.as_slice.ensures;
      starts = c.in-Some.ensures.cases.0;
      behind = c.in-Some.ensures.cases.1;
    } in
    subst (λ w. IfErr c.deliver_of.result (λ wrong. wrong ≡ w)) (sym (deliver_wrong _ _ _ s)) c.deliver_of.ensures.wrong

pub returns-in-Some-strip_prefix-clause-event : goal.returns-in-Some-strip_prefix-clause-event
returns-in-Some-strip_prefix-clause-event c =
    let s : Strips (codes "write ") c.args.line.now c.as_slice-2.result.now c.in-Some-strip_prefix.rest.now = record {
      is = c.as_slice-2.ensures;
      starts = c.in-Some-strip_prefix.ensures.cases.0;
      behind = c.in-Some-strip_prefix.ensures.cases.1;
    } in
    c.write_of.ensures.event ∙ sym (write_event _ _ _ s)

pub returns-in-Some-strip_prefix-clause-wrong : goal.returns-in-Some-strip_prefix-clause-wrong
returns-in-Some-strip_prefix-clause-wrong c =
    let s : Strips (codes "write ") c.args.line.now c.as_slice-2.result.now c.in-Some-strip_prefix.rest.now = record {
      is = c.as_slice-2.ensures;
      starts = c.in-Some-strip_prefix.ensures.cases.0;
      behind = c.in-Some-strip_prefix.ensures.cases.1;
    } in
    subst (λ w. IfErr c.write_of.result (λ wrong. wrong ≡ w)) (sym (write_wrong _ _ _ s)) c.write_of.ensures.wrong

pub returns-in-Some-strip_prefix-2-clause-event : goal.returns-in-Some-strip_prefix-2-clause-event
returns-in-Some-strip_prefix-2-clause-event c =
    let s : Strips (codes "read ") c.args.line.now c.as_slice-3.result.now c.in-Some-strip_prefix-2.rest.now = record {
      is = c.as_slice-3.ensures;
      starts = c.in-Some-strip_prefix-2.ensures.cases.0;
      behind = c.in-Some-strip_prefix-2.ensures.cases.1;
    } in
    c.read_of.ensures.event ∙ sym (read_event _ _ _ s)

pub returns-in-Some-strip_prefix-2-clause-wrong : goal.returns-in-Some-strip_prefix-2-clause-wrong
returns-in-Some-strip_prefix-2-clause-wrong c =
    let s : Strips (codes "read ") c.args.line.now c.as_slice-3.result.now c.in-Some-strip_prefix-2.rest.now = record {
      is = c.as_slice-3.ensures;
      starts = c.in-Some-strip_prefix-2.ensures.cases.0;
      behind = c.in-Some-strip_prefix-2.ensures.cases.1;
    } in
    subst (λ w. IfErr c.read_of.result (λ wrong. wrong ≡ w)) (sym (read_wrong _ _ _ s)) c.read_of.ensures.wrong
