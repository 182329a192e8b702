use Rattle.std.proofs.Common.{◌≡◌, ◌∙◌, ap, sym, length, Some, None, true, false, ◌≤◌, arith, rules}
use Rattle.std.specs.Fmt.{decimal}
use Rattle.file_copy.proofs.ReadBack.{given_is, given_back}
use Rattle.file_copy.proofs.Talks.{untaken}
use Rattle.file_copy.proofs.get.given_piece.Goals as goal
use Rattle.file_copy.proofs.get.given_piece.Goals.{in_default-via-in-Some+else-piece-len, in_default-via-in_default}

pub returns-then-not-came : goal.returns-then-not-came
returns-then-not-came c = λ piece size e.
    let none : c.args.came ≡ false = search rules in
    absurd (untaken c.args.came c.args.reply.now.items _ none e)

pub returns-in-Some : goal.returns-in-Some
returns-in-Some c =
    let here : c.args.came ≡ true = search rules in
    (search rules, given_is c.args.came (decimal c.args.tid) c.args.reply.now.items c.in-Some.piece.now here (sym c.in-Some.ensures))

pub returns-in_default : goal.returns-in_default
returns-in_default c = λ piece size e.
    let short : length piece ≤ 448 = omega (arith, size, c.requires.len) in
    let back = given_back c.args.came c.args.tid c.args.reply.now.items piece c.requires.tid short e in
    elim c.in_default.branch [
      | in_default-via-in-Some+else-piece-len w ↦
          let both : Some w.in-Some.piece.now ≡ Some piece = w.in-Some.ensures ∙ back in
          let same : w.in-Some.piece.now ≡ piece = cc in
          w.if-piece-len.false (ap length same ∙ size)
      | in_default-via-in_default w ↦ let both : None ≡ Some piece = w.in_default.ensures ∙ back in cc
    ]
