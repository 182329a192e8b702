use Rattle.std.proofs.Common.{sym, ◌∙◌}
use Rattle.file_transfer.specs.Sessions.{get_of}
use Rattle.file_transfer.proofs.Entering.{done_inside}
use Rattle.file_transfer.proofs.session.Session.get_on.Goals as goal

pub invariant_of-self-clause-inside : goal.invariant_of-self-clause-inside
invariant_of-self-clause-inside g c = λ is.
    done_inside g.T.Talk.talked c.args.self.now.user c.get_file-end.new.talk (get_of c.args.path.now c.get_file-end.new.bytes.items) c.get_file-end.result
    c.get_file-end.ensures.done (sym c.is_done-self.ensures ∙ is)
