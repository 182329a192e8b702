use Rattle.std.proofs.Common.{◌∙◌, ap, add-one}
use Rattle.std.specs.Prelude.{ℕ}
use Rattle.chaos_node.specs.Passing.{after_passing, pass_slots}
use Rattle.chaos_node.proofs.passing.pass_indices.Goals as goal

pub loop-passed-preserved : goal.loop-passed-preserved
loop-passed-preserved c =
    let so_far = c.loop-passed.invariant in
    rw (add-one c.loop-passed.passed)
    (record {
      out = c.pass_slots.ensures.out ∙ so_far.out;
      host =
          c.pass_slots.ensures.host ∙ ap (pass_slots c.args.to c.conns-slots.result) so_far.host
          ∙ ap (λ (n : ℕ). pass_slots c.args.to n (after_passing c.args.to c.loop-passed.passed c.args.host.now)) c.conns-slots.ensures.value;
      size = c.pass_slots.ensures.size ∙ so_far.size;
    })
