use Rattle.std.proofs.Common.{◌++◌, drop, ap, arith}
use Rattle.chaos_chudp.proofs.Plain.{closed_up}
use Rattle.chaos_chudp.proofs.write.close.Goals as goal

pub returns-clause-bytes : goal.returns-clause-bytes
returns-clause-bytes c =
    closed_up c.args.buffer.now _ c.put_word.new.buffer c.put_word-2.new.buffer c.put_word-3.new.buffer
    c.args.end c.args.to c.args.me c.checksum_of-sum.result c.requires.long (omega (arith, c.requires.room))
    (ap (λ l. l ++ drop 4 c.args.buffer.now) c.copy_from_slice.ensures.after) c.put_word.ensures c.put_word-2.ensures
    c.checksum_of-sum.ensures c.put_word-3.ensures
