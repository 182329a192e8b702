use Rattle.std.proofs.Common.{◌≡◌, length}
use Rattle.chaos_node.specs.Passing.{after_passing}
use Rattle.chaos_node.proofs.passing.pass_indices.Given as goal

-- each slot has used up so many indices
abbrev pub invariant-loop-passed : goal.invariant-loop-passed
invariant-loop-passed l = record {
  out : l.out ≡ l.fn.out;
  host : l.host ≡ after_passing l.to l.passed l.fn.host;
  size : length l.host.slots ≡ length l.fn.host.slots;
}
