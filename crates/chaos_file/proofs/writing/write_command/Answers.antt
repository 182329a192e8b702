use Rattle.std.proofs.Common.{◌≡◌, ◌++◌, ap, ◌∙◌}
use Rattle.chaos_file.specs.Grammar.{parse_of}
use Rattle.chaos_file.specs.Spelling.{spelling_of, spelling_of_command}
use Rattle.chaos_file.specs.Views.{command_view}
use Rattle.chaos_file.proofs.Spelling.{front_apart, parsed_spelled}
use Rattle.chaos_file.proofs.writing.write_command.Goals as goal

pub returns : goal.returns
returns c =
    let command = command_view c.args.command in
    let is : c.put_command.new.out.items ≡ spelling_of c.args.tid.now c.args.handle.now command =
    c.put_command.ensures ∙ ap (λ front. front ++ spelling_of_command command) c.begin.ensures.value
    ∙ front_apart c.args.tid.now c.args.handle.now (spelling_of_command command) in
    record {
      spelled = is;
      read_back = λ good. ap parse_of is ∙ parsed_spelled c.args.tid.now c.args.handle.now command good;
    }
