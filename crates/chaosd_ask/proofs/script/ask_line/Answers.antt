use Rattle.std.proofs.Common.{◌∙◌, sym, ap}
use Rattle.std.specs.Prelude.{None, option_map}
use Rattle.std.specs.Result.{result_ok}
use Rattle.file_client.specs.Talk.{Anything}
use Rattle.file_client.proofs.Asked.{exchanges_by}
use Rattle.chaosd_ask.proofs.script.ask_line.Goals as goal

pub returns-then-not-branch-clause-asks : goal.returns-then-not-branch-clause-asks
returns-then-not-branch-clause-asks g c = (
  c.read_command.new.command.items,
  sym c.read_command.ensures.command
      ∙ ap (λ r. option_map (λ none. c.read_command.new.command.items) (result_ok r)) c.in-Ok.is,
  rw (c.no_reply.ensures.same.0, c.no_reply.ensures.same.1)
      (exchanges_by _ Anything (λ asks asked. tt) _ _ c.read_command.new.command.items None _
      (rw (c.if-not-branch.true, c.as_slice.ensures.value) at c.in_ok-ask.ensures.talk)),
  c.in_ok-print_none.ensures.text,
)
