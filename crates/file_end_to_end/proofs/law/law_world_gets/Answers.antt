use Rattle.file_end_to_end.proofs.Got.{file_is_got}
use Rattle.file_end_to_end.proofs.law.law_world_gets.Goals as goal

pub returns : goal.returns
returns c = file_is_got
