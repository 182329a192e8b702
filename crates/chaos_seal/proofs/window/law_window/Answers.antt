use Rattle.chaos_seal.proofs.Windows.{exact}
use Rattle.chaos_seal.proofs.window.law_window.Goals as goal

pub returns : goal.returns
returns c = exact
