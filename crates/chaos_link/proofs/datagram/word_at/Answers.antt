use Rattle.std.proofs.Common.{arith}
use Rattle.chaos_link.proofs.Words.{word_at}
use Rattle.chaos_link.proofs.datagram.word_at.Goals as goal

pub returns : goal.returns
returns c = omega (arith, c.from_be_bytes.ensures, word_at c.args.bytes.now c.args.i c.requires)
