use Rattle.std.proofs.Common.{◌≡◌, length}
use denote.Text.{Utf8}
use denote.Shadow.{shadow}
use Rattle.chaosd_hosts.specs.Fields.{fields_of, names_among}
use Rattle.chaosd_hosts.specs.Table.{bad_name}
use Rattle.chaosd_hosts.proofs.reading.bad_name.Given as goal

-- each name so far is a host's
abbrev pub invariant-loop-name : goal.invariant-loop-name
invariant-loop-name l = record {
  text : shadow (Utf8 l.rest);
  fields : bad_name (names_among (fields_of l.fields)) ≡ bad_name (names_among (fields_of l.rest));
}

abbrev pub decreases-loop-name : goal.decreases-loop-name
decreases-loop-name l = length l.rest
