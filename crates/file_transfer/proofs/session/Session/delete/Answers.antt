use Rattle.std.proofs.Common.{◌∙◌}
use Rattle.file_transfer.specs.Sessions.{delete_of}
use Rattle.file_transfer.proofs.Ending.{changed_behind, changed_in}
use Rattle.file_transfer.proofs.session.Session.delete.Goals as goal

pub returns-clause-done : goal.returns-clause-done
returns-clause-done g c =
    let was = c.args.self.now in
    changed_behind g.T.Talk.talked g.T.Talk.connects was.is_in was.login.now was.user c.enter.new.self.user (delete_of c.args.path.now)
    c.delete_on-end.result c.change_end.result c.settle.result _ _ c.change_end.ensures c.settle.ensures.done
    c.settle.ensures.still was.inside c.in_ok-enter.ensures.entered c.delete_on-end.ensures.done

pub returns-clause-inside : goal.returns-clause-inside
returns-clause-inside g c =
    changed_in c.delete_on-end.result c.change_end.result c.settle.result _ c.change_end.ensures (c.settle.ensures.same.0 ∙ c.delete_on-end.ensures.stays)
    c.settle.ensures.done
