use Rattle.std.proofs.Common.{rules}
use Rattle.chaos_lab.proofs.Happening.{met, passed}
use Rattle.chaos_lab.proofs.rig.Rig.attempt.Goals as goal

-- out of memory changes nothing
pub returns-in-Err-NoMemory-clause-err : goal.returns-in-Err-NoMemory-clause-err
returns-in-Err-NoMemory-clause-err c = met _ _ _ _ c.step.ensures (search rules)

-- and the event had passed its checks
pub returns-in-Err-NoMemory-clause-passed : goal.returns-in-Err-NoMemory-clause-passed
returns-in-Err-NoMemory-clause-passed c = passed _ _ _ _ c.step.ensures (search rules)
