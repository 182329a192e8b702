use Rattle.chaosd_io.proofs.Cutting.{more_given}
use Rattle.chaosd_io.proofs.reader.LineReader.refill_by.Goals as goal

pub returns-clause-given : goal.returns-clause-given
returns-clause-given g c limit input given s =
    more_given _ limit input _ _ given _ _ _ c.requires.waiting c.read_on.ensures.read s
