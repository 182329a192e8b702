use Rattle.std.proofs.Common.{refl}
use Rattle.chaosd_io.proofs.Cutting.{none_given}
use Rattle.chaosd_io.proofs.reader.LineReader.new.Goals as goal

pub returns-clause-given : goal.returns-clause-given
returns-clause-given g c input = none_given _ _ input _ refl refl refl
