use Rattle.chaos_link.specs.Link.{Asks}
use Rattle.chaos_file.specs.Store.{change}
use Rattle.file_end_to_end.proofs.Server.{server_turns_are_runs, server_runs_are_runs}
use Rattle.file_end_to_end.proofs.law.law_file_turns.Goals as goal

pub returns : goal.returns
returns g c =
    let changes = change g.S.Store.contents g.S.Store.may_give g.S.Store.count in
    record { turns = server_turns_are_runs changes; runs = λ old new. server_runs_are_runs changes (Asks (g.L.Link.asked old) (g.L.Link.asked new)) }
