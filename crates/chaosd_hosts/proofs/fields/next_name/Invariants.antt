use Rattle.std.proofs.Common.{◌≡◌, ◌≤◌, length}
use denote.Text.{Utf8}
use denote.Shadow.{shadow}
use Rattle.chaosd_hosts.specs.Fields.{fields_of, names_among}
use Rattle.chaosd_hosts.proofs.fields.next_name.Given as goal

-- the rest has the same of these fields
abbrev pub invariant-loop-field : goal.invariant-loop-field
invariant-loop-field l = record {
  text : shadow (Utf8 l.rest);
  fields : names_among (fields_of l.text) ≡ names_among (fields_of l.rest);
  shorter : length l.rest ≤ length l.text;
}

abbrev pub decreases-loop-field : goal.decreases-loop-field
decreases-loop-field l = length l.rest
