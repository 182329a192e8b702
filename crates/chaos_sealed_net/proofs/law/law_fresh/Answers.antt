use Rattle.chaos_sealed_net.proofs.Fresh.{sealed_runs, sealed_law}
use Rattle.chaos_sealed_net.proofs.law.law_fresh.Goals as goal

pub returns : goal.returns
returns c = record { runs = sealed_runs; law = sealed_law }
