use Rattle.std.proofs.Common.{◌≡◌, ◌+◌, ◌≤◌, List, length}
use Rattle.std.specs.Iterator.{AlwaysYields}
use Rattle.std.specs.Str.Iter.{lines_rest, lines_steps}
use Rattle.chaosd_hosts.specs.Table.{table_from, table_of}
use Rattle.chaosd_hosts.specs.Text.{Text}
use Rattle.chaosd_hosts.proofs.table.HostsTable.read.Given as goal

-- the table so far, and the lines from here on
abbrev pub invariant-loop-line : goal.invariant-loop-line
invariant-loop-line l = record {
  can : (goal.iterator-loop-line).can_next l.line-iterator;
  finite : (goal.iterator-loop-line).is_finite l.line-iterator;
  numbered : l.number + length (lines_rest l.line-iterator) ≤ length l.text;
  rest : (lines : List Text) × AlwaysYields lines_steps (λ x. x.now) l.line-iterator lines
      × (table_of l.text ≡ table_from (l.number + 1) lines l.table);
}
