use Rattle.std.proofs.Common.{◌≢◌, ◌∙◌, ◌<◌, [], length, sym, refl, arith, inr}
use Rattle.std.proofs.lemmas.Bool.Decides.{nat_tests}
use Rattle.chaos_seal.specs.Seal.{payload_of}
use Rattle.chaos_seal.proofs.Parts.{some_payload}
use Rattle.chaos_seal.proofs.seals.give.Goals as goal

pub returns-else-is_all_from : goal.returns-else-is_all_from
returns-else-is_all_from c =
    let test = sym c.is_empty.ensures ∙ c.if-is_empty.false in
    let long : 0 < length c.payload-payload.result.now = grind (arith, nat_tests) in
    let some : payload_of c.args.bytes.now ≢ [] = rw c.payload-payload.ensures.payload at (some_payload c.payload-payload.result.now long) in
    inr (inr (
      some,
      λ all.
          let yes = c.is_all_from.ensures.1 (rw c.payload-payload.ensures.payload all) in
          cc (yes, c.if-is_all_from.false),
      refl,
    ))
