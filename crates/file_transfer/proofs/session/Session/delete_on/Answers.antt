use Rattle.std.proofs.Common.{sym, ◌∙◌}
use Rattle.file_transfer.specs.Sessions.{delete_of}
use Rattle.file_transfer.proofs.Entering.{replied_inside}
use Rattle.file_transfer.proofs.session.Session.delete_on.Goals as goal

pub invariant_of-self-clause-inside : goal.invariant_of-self-clause-inside
invariant_of-self-clause-inside g c = λ is.
    replied_inside g.T.Talk.talked c.args.self.now.user c.delete_file-end.new.talk (delete_of c.args.path.now) _ _ _ c.delete_file-end.result
    c.delete_file-end.ensures.done c.delete_file-end.ensures.ended (sym c.is_replied-self.ensures ∙ is)
