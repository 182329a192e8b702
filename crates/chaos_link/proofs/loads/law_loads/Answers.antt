use Rattle.chaos_link.proofs.Cut.{each_fits, each_longest, each_one, only, whole}
use Rattle.chaos_link.proofs.loads.law_loads.Goals as goal

pub returns-clause-whole : goal.returns-clause-whole
returns-clause-whole c = whole

pub returns-clause-fit : goal.returns-clause-fit
returns-clause-fit c = each_fits

pub returns-clause-one : goal.returns-clause-one
returns-clause-one c = each_one

pub returns-clause-longest : goal.returns-clause-longest
returns-clause-longest c = each_longest

pub returns-clause-only : goal.returns-clause-only
returns-clause-only c = only
