use Rattle.std.proofs.Common.{arith}
use Rattle.chaos_seal.proofs.Parts.{lifted}
use Rattle.chaos_seal.proofs.form.lift.Goals as goal

pub returns : goal.returns
returns c =
    lifted c.args.buffer.now c.copy_within.new.self c.args.count (omega (arith, c.requires.long))
    (omega (arith, c.requires.fits, c.told-buffer)) c.copy_within.ensures.after
