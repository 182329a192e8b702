use Rattle.std.proofs.Common.{rules, arith, ◌≡◌, ◌≤◌, ◌∙◌, length, sym, subst}
use Rattle.std.specs.Fmt.{decimal}
use Rattle.std.proofs.lemmas.Fmt.{length-decimal-le}
use Rattle.chaosd_ask.proofs.typed.write_tid.Goals as goal

-- seven digits at most, so that all has room
pub returns : goal.returns
returns c =
    let is : c.as_bytes-digits.result.now ≡ decimal c.args.number = c.as_bytes-digits.ensures.value ∙ c.format.ensures.text in
    let short : length c.as_bytes-digits.result.now ≤ 7 =
    subst (λ l. length l ≤ 7) (sym is) (length-decimal-le 7 c.args.number (omega arith) (omega arith) (omega arith)) in
    search rules
