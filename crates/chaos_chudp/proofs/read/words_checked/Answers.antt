use Rattle.std.proofs.Common.{arith}
use Rattle.chaos_link.proofs.Words.{word_at}
use Rattle.chaos_chudp.proofs.Plain.{cut_short, faulty_there, left_over, no_fault, sound_there}
use Rattle.chaos_chudp.proofs.read.words_checked.Goals as goal

pub returns-then-whole-count-clause-fault : goal.returns-then-whole-count-clause-fault
returns-then-whole-count-clause-fault c =
    let ws = c.args.words.now in
    cut_short ws c.from-count.result (omega (arith, c.from-count.ensures, c.word_at.ensures, word_at ws 1 (omega arith)))
    (omega arith) (omega arith) (omega arith)

pub returns-then-words-count-clause-fault : goal.returns-then-words-count-clause-fault
returns-then-words-count-clause-fault c =
    let ws = c.args.words.now in
    left_over ws c.from-count.result (omega (arith, c.from-count.ensures, c.word_at.ensures, word_at ws 1 (omega arith)))
    (omega arith) (omega arith) (omega arith) (omega arith)

pub returns-clause-fault : goal.returns-clause-fault
returns-clause-fault c =
    let ws = c.args.words.now in
    no_fault ws c.from-count.result (omega (arith, c.from-count.ensures, c.word_at.ensures, word_at ws 1 (omega arith)))
    (omega arith) (omega arith) (omega arith) (omega arith)

pub returns-then-whole-count-clause-plain : goal.returns-then-whole-count-clause-plain
returns-then-whole-count-clause-plain c = faulty_there c.args.words.now _ (returns-then-whole-count-clause-fault c)

pub returns-clause-plain : goal.returns-clause-plain
returns-clause-plain c = sound_there c.args.words.now (returns-clause-fault c)
