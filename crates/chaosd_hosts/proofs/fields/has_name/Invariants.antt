use Rattle.std.proofs.Common.{◌≡◌, length}
use denote.Text.{Utf8}
use denote.Shadow.{shadow}
use Rattle.std.specs.List.{list_any}
use Rattle.chaosd_hosts.specs.Fields.{fields_of, names_among}
use Rattle.chaosd_hosts.specs.Names.{is_same_name}
use Rattle.chaosd_hosts.proofs.fields.has_name.Given as goal

-- no field so far is the name
abbrev pub invariant-loop-field : goal.invariant-loop-field
invariant-loop-field l = record {
  text : shadow (Utf8 l.rest);
  fields : list_any (is_same_name l.name) (names_among (fields_of l.text)) ≡ list_any (is_same_name l.name) (names_among (fields_of l.rest));
}

abbrev pub decreases-loop-field : goal.decreases-loop-field
decreases-loop-field l = length l.rest
