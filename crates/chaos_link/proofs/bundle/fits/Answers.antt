use Rattle.std.proofs.Common.{arith}
use Rattle.std.proofs.lemmas.Bool.Decides.{nat_tests}
use Rattle.chaos_link.proofs.Bundled.{fit_where_carried}
use Rattle.chaos_link.proofs.bundle.fits.Goals as goal

pub returns-clause-exact : goal.returns-clause-exact
returns-clause-exact c = grind (arith, nat_tests, c.bytes_of_all.ensures.bytes)

pub returns-clause-carried : goal.returns-clause-carried
returns-clause-carried c =
    fit_where_carried c.args.packets.now _ (returns-clause-exact c) (λ _. c.bytes_of_all.ensures.spelled)
