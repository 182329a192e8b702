use Rattle.chaos_lab.proofs.Plays.{keeps_play, keeps_quiet, may_begin, may_replace}
use Rattle.chaos_lab.proofs.law.law_plays.Goals as goal

pub returns-clause-calls : goal.returns-clause-calls
returns-clause-calls c = keeps_play

pub returns-clause-quiet : goal.returns-clause-quiet
returns-clause-quiet c = keeps_quiet

pub returns-clause-begins : goal.returns-clause-begins
returns-clause-begins c = may_begin

pub returns-clause-replaces : goal.returns-clause-replaces
returns-clause-replaces c = may_replace
