-- std's test of two texts without case is the test of their small letters.
use Rattle.std.proofs.Common.{rules}
use Rattle.std.proofs.lemmas.Slice.Eq.{bytes_eq-Decides}
use Rattle.chaosd_hosts.specs.Names.{is_same_name}
use Rattle.chaosd_hosts.proofs.names.is_same_name.Goals as goal

pub returns : goal.returns
unfolding is_same_name
returns c = search (rules, bytes_eq-Decides)
