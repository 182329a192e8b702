use Rattle.std.proofs.Common.{rules}
use Rattle.file_lab.proofs.Passing.{passed}
use Rattle.file_lab.proofs.file_lab.FileLab.attempt.Goals as goal

-- out of memory comes at an event that passed its checks
pub returns-in-Err-NoMemory-clause-passed : goal.returns-in-Err-NoMemory-clause-passed
returns-in-Err-NoMemory-clause-passed c = passed _ _ _ _ c.step.ensures.happens (search rules)
