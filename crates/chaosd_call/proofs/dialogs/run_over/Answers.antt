use Rattle.std.proofs.Common.{refl, rules}
use Rattle.chaosd_call.proofs.dialogs.run_over.Goals as goal

pub returns : goal.returns
returns g c done =
    let did = c.run.ensures done in
    (_, did.0, refl, c.new-driver.ensures.timing.1, search rules, did.1)
