use Rattle.std.proofs.Common.{◌∙◌}
use Rattle.file_transfer.specs.Sessions.{get_of}
use Rattle.file_transfer.proofs.Entering.{left}
use Rattle.file_transfer.proofs.Ending.{settled_behind, settled_in}
use Rattle.file_transfer.proofs.session.Session.get.Goals as goal

pub returns-clause-got : goal.returns-clause-got
returns-clause-got g c =
    let was = c.args.self.now in
    settled_behind g.T.Talk.talked g.T.Talk.connects was.is_in was.login.now was.user c.enter.new.self.user
    (get_of c.args.path.now c.get_on-end.new.bytes.items) c.get_on-end.result c.settle.result _ _ c.settle.ensures.done
    c.settle.ensures.still was.inside c.in_ok-enter.ensures.entered (rw c.as_bytes.ensures.value at c.get_on-end.ensures.got)

pub returns-clause-inside : goal.returns-clause-inside
returns-clause-inside g c = settled_in c.get_on-end.result c.settle.result _ (c.settle.ensures.same.0 ∙ c.get_on-end.ensures.stays) c.settle.ensures.done

pub returns-clause-outside : goal.returns-clause-outside
returns-clause-outside g c =
    left c.settle.result _ _ _ c.settle.ensures.same.0 c.get_on-end.ensures.stays c.settle.ensures.failed
