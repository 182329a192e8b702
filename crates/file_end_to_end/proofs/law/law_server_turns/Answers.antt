use Rattle.file_end_to_end.proofs.Turn.{server_turns_are_file_runs}
use Rattle.file_end_to_end.proofs.law.law_server_turns.Goals as goal

pub returns : goal.returns
returns g c = server_turns_are_file_runs g.S.Store.contents g.S.Store.may_give g.S.Store.count
