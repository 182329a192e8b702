use Rattle.std.proofs.Common.{◌≡◌, ◌≤◌, drop}
use Rattle.std.specs.Prelude.{Some}
use Rattle.chaosd_lab.specs.Numbers.{digits_behind}
use Rattle.chaosd_lab.proofs.numbers.value_of.Given as goal

-- the digits that are left, behind the value so far
abbrev pub invariant-loop-b : goal.invariant-loop-b
invariant-loop-b l = record {
  within : l.value ≤ l.most;
  value : digits_behind l.most (Some l.value) (drop l.b-index l.field) ≡ digits_behind l.most (Some 0) l.field;
}
