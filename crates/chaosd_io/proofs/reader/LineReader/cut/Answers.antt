use Rattle.chaosd_io.proofs.Cutting.{next_given}
use Rattle.chaosd_io.proofs.reader.LineReader.cut.Goals as goal

pub returns-clause-given : goal.returns-clause-given
returns-clause-given g c limit input rest given s = next_given _ limit input rest given _ _ _ c.cut_off.ensures.cut s
