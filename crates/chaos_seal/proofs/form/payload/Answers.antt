use Rattle.chaos_seal.proofs.Parts.{behind_head}
use Rattle.chaos_seal.proofs.form.payload.Goals as goal

pub returns-clause-payload : goal.returns-clause-payload
returns-clause-payload c = behind_head c.args.bytes.now
