-- The parts up to the first that is not empty.
use Rattle.std.proofs.Common.{◌∙◌, ◌<◌, arith, length, rules}
use Rattle.chaosd_hosts.proofs.Cut.{behind_shorter, fields_first, fields_none, fields_passed}
use Rattle.chaosd_hosts.proofs.fields.next_field.Goals as goal

pub returns-then-not-is_empty-clause-fields : goal.returns-then-not-is_empty-clause-fields
returns-then-not-is_empty-clause-fields c =
    c.loop-rest.invariant.fields
    ∙ fields_first _ _ _ c.cut_at_blank.ensures.before c.cut_at_blank.ensures.behind (grind (arith, c.if-not-is_empty.ensures, c.if-not-is_empty.true))

pub loop-rest-preserved : goal.loop-rest-preserved
loop-rest-preserved c =
    let some : 0 < length c.loop-rest.rest.now = grind (arith, c.loop-rest-test.ensures, c.loop-rest-test.true) in
    let less : length c.cut_at_blank.result.1.now < length c.loop-rest.rest.now = behind_shorter _ _ c.cut_at_blank.ensures.behind some in
    record {
      text = search rules;
      fields = c.loop-rest.invariant.fields
          ∙ fields_passed _ _ _ c.cut_at_blank.ensures.before c.cut_at_blank.ensures.behind (grind (arith, c.if-not-is_empty.ensures, c.if-not-is_empty.false));
      shorter = omega (arith, less, c.loop-rest.invariant.shorter);
    }

pub returns-clause-fields : goal.returns-clause-fields
returns-clause-fields c =
    c.loop-rest.invariant.fields ∙ fields_none _ (grind (arith, c.loop-rest-test.ensures, c.loop-rest-test.false))
