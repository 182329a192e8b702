-- The parts' clauses speak of what was parsed, and the whole's of the command's bytes: the lemmas join them.
use Rattle.std.proofs.Common.{◌≡◌}
use Rattle.chaos_file.specs.Views.{parsed_view}
use Rattle.chaos_file.proofs.Apply.{is_applied, refused_short, front_to}
use Rattle.chaos_file.proofs.Changed.{is_change}
use Rattle.chaos_file.proofs.session.Session.apply_into.Goals as goal

pub end-requires : goal.end-requires
end-requires g c = refused_short _ _ _ _ _ _ c.begin.ensures.room c.act-done.result _ c.act-done.ensures.done

pub returns-clause-applied : goal.returns-clause-applied
returns-clause-applied g c =
    let front : c.begin.new.reply.items ≡ front_to (parsed_view c.parse_command-parsed.result) = cc in
    is_applied _ c.args.self.now c.act-done.new.self c.args.command.now _ _ c.act-done.result _ _
    c.parse_command-parsed.ensures.value front c.end.ensures c.act-done.ensures.done

pub returns-clause-changed : goal.returns-clause-changed
returns-clause-changed g c =
    let front : c.begin.new.reply.items ≡ front_to (parsed_view c.parse_command-parsed.result) = cc in
    is_change _ c.args.self.now c.act-done.new.self c.args.command.now _ _ c.act-done.result _ _ _ _
    c.parse_command-parsed.ensures.value front c.end.ensures c.act-done.ensures.done c.act-done.ensures.change
    c.report.ensures
