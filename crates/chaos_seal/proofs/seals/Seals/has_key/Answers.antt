use Rattle.std.proofs.Common.{◌∙◌, ap, is_some}
use Rattle.chaos_seal.proofs.Table.{found_so}
use Rattle.chaos_seal.proofs.seals.Seals.has_key.Goals as goal

pub returns : goal.returns
returns c = c.is_some.ensures ∙ ap is_some c.place_of.ensures.place ∙ found_so c.args.address c.args.self.now
