use Rattle.chaos_link.specs.Link.{Asks}
use Rattle.chaos_file.specs.Store.{change}
use Rattle.chaos_net.proofs.Behind.{new_systems_stand, stays, systems_hold}
use Rattle.file_end_to_end.specs.Program.{program_host, program_turns, program_upon}
use Rattle.file_end_to_end.proofs.Programs.{client_turns_are_steps, program_turns_are_runs, server_turns_are_steps}
use Rattle.file_end_to_end.proofs.law.law_programs.Goals as goal

pub returns : goal.returns
returns g c =
    let changes = change g.S.Store.contents g.S.Store.may_give g.S.Store.count in
    record {
      begin = new_systems_stand program_host;
      stay = stays program_host program_upon (program_turns changes) (program_turns_are_runs changes);
      law = systems_hold program_host c.law_network.ensures;
      clients = λ old new. client_turns_are_steps changes (Asks (g.L.Link.asked old) (g.L.Link.asked new));
      servers = λ old new. server_turns_are_steps changes (Asks (g.L.Link.asked old) (g.L.Link.asked new));
    }
