use Rattle.std.proofs.Common.{◌≡◌, length}
use denote.Text.{Utf8}
use denote.Shadow.{shadow}
use Rattle.chaosd_hosts.specs.Fields.{fields_of, names_among}
use Rattle.chaosd_hosts.specs.Table.{first_taken}
use Rattle.chaosd_hosts.proofs.table.HostsTable.first_taken.Given as goal

-- no name so far is taken
abbrev pub invariant-loop-name : goal.invariant-loop-name
invariant-loop-name l = record {
  text : shadow (Utf8 l.rest);
  fields : first_taken l.self (names_among (fields_of l.fields)) ≡ first_taken l.self (names_among (fields_of l.rest));
}

abbrev pub decreases-loop-name : goal.decreases-loop-name
decreases-loop-name l = length l.rest
