use Rattle.std.proofs.Common.{sym, ◌∙◌}
use Rattle.file_transfer.specs.Sessions.{rename_of}
use Rattle.file_transfer.proofs.Entering.{replied_inside}
use Rattle.file_transfer.proofs.session.Session.rename_on.Goals as goal

pub invariant_of-self-clause-inside : goal.invariant_of-self-clause-inside
invariant_of-self-clause-inside g c = λ is.
    replied_inside g.T.Talk.talked c.args.self.now.user c.rename_file-end.new.talk (rename_of c.args.old.now c.args.new.now) _ _ _ c.rename_file-end.result
    c.rename_file-end.ensures.done c.rename_file-end.ensures.ended (sym c.is_replied-self.ensures ∙ is)
