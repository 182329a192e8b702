use Rattle.chaosd_io.proofs.ReadBack.{read_back}
use Rattle.chaosd_io.proofs.escapes.law_read_back.Goals as goal

pub returns : goal.returns
returns c = read_back
