-- What a task of the code stands for.
use Rattle.chaos_file.specs.ServeWork.{Work, NotOpen, Nothing, Full, LastItem, Command}
use Rattle.chaos_file.specs.declared.serve_task.Task.{Task}
use Rattle.chaos_file.specs.declared.serve_task.Task.TheVariants as task

abbrev pub work_in : Task → Work
work_in (task.NotOpen state) = NotOpen state
work_in task.Nothing = Nothing
work_in task.Full = Full
work_in task.LastItem = LastItem
work_in (task.Command body) = Command body.now
