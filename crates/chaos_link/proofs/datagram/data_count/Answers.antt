use Rattle.std.proofs.Common.{arith}
use Rattle.chaos_link.specs.Datagram.{words_of}
use Rattle.chaos_link.proofs.Words.{length-words_of}
use Rattle.chaos_link.proofs.Made.{truncated, whole}
use Rattle.chaos_link.proofs.datagram.data_count.Goals as goal

pub returns-then-words-count-clause-fault : goal.returns-then-words-count-clause-fault
returns-then-words-count-clause-fault c =
    truncated (words_of c.args.bytes.now) c.from-count.result (omega (arith, c.from-count.ensures, c.word_at.ensures))
    (omega (arith, length-words_of c.args.bytes.now)) c.if-count-gt-MAX_DATA.false
    (omega (arith, length-words_of c.args.bytes.now))

pub returns-clause-fault : goal.returns-clause-fault
returns-clause-fault c =
    whole (words_of c.args.bytes.now) c.from-count.result (omega (arith, c.from-count.ensures, c.word_at.ensures))
    (omega (arith, length-words_of c.args.bytes.now)) c.if-count-gt-MAX_DATA.false
    (omega (arith, length-words_of c.args.bytes.now))
