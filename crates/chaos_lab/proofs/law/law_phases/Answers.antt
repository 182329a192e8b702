use Rattle.chaos_lab.proofs.Phases.{never_asks, new_asked, open_met}
use Rattle.chaos_lab.proofs.law.law_phases.Goals as goal

pub returns-clause-answers : goal.returns-clause-answers
returns-clause-answers c = never_asks

pub returns-clause-asked : goal.returns-clause-asked
returns-clause-asked c = new_asked

pub returns-clause-met : goal.returns-clause-met
returns-clause-met c = open_met
