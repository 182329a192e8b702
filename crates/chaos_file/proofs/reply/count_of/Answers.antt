use Rattle.std.proofs.Common.{◌≡◌, true, Ok, Err, ◌∙◌, ap, sym, arith}
use Rattle.std.specs.Fmt.{decimal}
use Rattle.std.proofs.lemmas.Bool.{le-leb}
use Rattle.std.proofs.lemmas.Slice.Eq.{bytes_eq-Decides}
use Rattle.chaos_file.specs.declared.limits.TheConstants.{MAX_FILE}
use Rattle.chaos_file.proofs.ReadReplies.{count_is, count_is_text, count_parsed, no_count}
use Rattle.chaos_file.proofs.reply.count_of.Goals as goal
use Rattle.chaos_file.proofs.reply.count_of.Goals.{else-count-le-MAX_FILE-via-then-count-le-MAX_FILE+else-eq, else-count-le-MAX_FILE-via-else-count-le-MAX_FILE}

pub returns-in_default : goal.returns-in_default
returns-in_default c =
    sym (no_count c.args.digits.now (λ n fits is. c.in_default.ensures.cases.0 (count_is_text c.args.digits.now n fits is)))

pub returns-in_default-parse : goal.returns-in_default-parse
returns-in_default-parse c = sym (no_count c.args.digits.now (λ n fits is.
    let read : c.parse.result ≡ Ok n =
    count_parsed c.in-Ok.text.now n c.parse.result fits (c.in-Ok.ensures.cases.0 ∙ is) c.parse.ensures.value.0 in
    let both : Err c.in_default-parse.field-0 ≡ Ok n = sym c.in_default-parse.is ∙ read in
    cc))

pub returns-then-eq : goal.returns-then-eq
returns-then-eq c =
    let same : c.as_bytes.result.now ≡ c.args.digits.now =
    (bytes_eq-Decides c.as_bytes.result.now c.args.digits.now).0 (sym c.eq.ensures ∙ c.if-eq.true) in
    let written : decimal c.in-Ok-parse.count ≡ c.args.digits.now =
    sym (c.as_bytes.ensures.value ∙ c.format.ensures.text) ∙ same in
    sym
    (count_is c.args.digits.now c.in-Ok-parse.count (le-leb c.in-Ok-parse.count MAX_FILE c.if-count-le-MAX_FILE.true)
    written)

pub returns-else-count-le-MAX_FILE : goal.returns-else-count-le-MAX_FILE
returns-else-count-le-MAX_FILE c = sym (no_count c.args.digits.now (λ n fits is.
    let read : c.parse.result ≡ Ok n =
    count_parsed c.in-Ok.text.now n c.parse.result fits (c.in-Ok.ensures.cases.0 ∙ is) c.parse.ensures.value.0 in
    let both : Ok c.in-Ok-parse.count ≡ Ok n = sym c.in-Ok-parse.is ∙ read in
    let one : c.in-Ok-parse.count ≡ n = cc in
    elim c.else-count-le-MAX_FILE.branch [
      | else-count-le-MAX_FILE-via-then-count-le-MAX_FILE+else-eq w ↦
          let written : w.as_bytes.result.now ≡ c.args.digits.now =
          w.as_bytes.ensures.value ∙ w.format.ensures.text ∙ ap decimal one ∙ sym is in
          let yes : w.eq.result ≡ true =
          w.eq.ensures ∙ (bytes_eq-Decides w.as_bytes.result.now c.args.digits.now).1 written in
          let no = w.if-eq.false in cc
      | else-count-le-MAX_FILE-via-else-count-le-MAX_FILE w ↦ absurd (omega (arith, fits, one, w.if-count-le-MAX_FILE.false))
    ]))
