use Rattle.std.proofs.Common.{sym, ◌∙◌}
use Rattle.file_transfer.specs.Sessions.{put_of}
use Rattle.file_transfer.proofs.Entering.{done_inside}
use Rattle.file_transfer.proofs.session.Session.put_on.Goals as goal

pub invariant_of-self-clause-inside : goal.invariant_of-self-clause-inside
invariant_of-self-clause-inside g c = λ is.
    done_inside g.T.Talk.talked c.args.self.now.user c.put_file-end.new.talk (put_of c.args.path.now c.args.bytes.now) c.put_file-end.result
    c.put_file-end.ensures.done (sym c.is_done-self.ensures ∙ is)
