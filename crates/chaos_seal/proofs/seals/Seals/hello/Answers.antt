use Rattle.std.proofs.Common.{◌∙◌, [], arith, refl, sym, take}
use Rattle.chaos_seal.proofs.Sealed.{can_seal, cannot, exact_bytes, if_one, keeps_so, no_some, sealed_for}
use Rattle.chaos_seal.proofs.seals.Seals.hello.Goals as goal

pub returns-in_err-place-clause-some : goal.returns-in_err-place-clause-some
returns-in_err-place-clause-some c = (
  λ some. absurd (no_some c.from_residual.result c.from_residual.ensures some),
  λ can. absurd (cannot c.args.self.now c.args.to (sym c.place_of.ensures.place ∙ c.in_err-place.was) can),
)

pub returns-clause-sealed : goal.returns-clause-sealed
returns-clause-sealed c =
    if_one c.write.result _ _
    (λ n. sealed_for c.args.self.now c.args.to c.in_ok-place.place (sym c.place_of.ensures.place ∙ c.in_ok-place.was)
    c.write.new.self c.args.session (λ _. c.args.session) [] _ (λ p there. refl))
    c.write.ensures.sealed

pub returns-clause-exact : goal.returns-clause-exact
returns-clause-exact c =
    if_one c.write.result _ _
    (λ n. exact_bytes c.args.self.now c.write.new.self c.args.to (λ _. c.args.session) [] _)
    (returns-clause-sealed c)

pub returns-clause-some : goal.returns-clause-some
returns-clause-some c =
    let can = can_seal c.args.self.now c.args.to c.in_ok-place.place (sym c.place_of.ensures.place ∙ c.in_ok-place.was) [] in
    (λ some. (can.0 (c.write.ensures.some.0 some)).0, λ may. c.write.ensures.some.1 (can.1 (may, omega arith)))

pub returns-clause-keeps : goal.returns-clause-keeps
returns-clause-keeps c =
    keeps_so c.args.self.now c.write.new.self c.args.to (λ _. c.args.session) [] (λ n. take n c.write.new.room) c.write.result _
    (returns-clause-sealed c) c.write.ensures.none
