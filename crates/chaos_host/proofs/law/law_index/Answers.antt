use Rattle.chaos_host.proofs.Indices.{index_names, index_is_of}
use Rattle.chaos_host.proofs.law.law_index.Goals as goal

pub returns-clause-names : goal.returns-clause-names
returns-clause-names c = index_names

pub returns-clause-named : goal.returns-clause-named
returns-clause-named c = index_is_of
