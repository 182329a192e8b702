use Rattle.std.proofs.Common.{◌∙◌}
use Rattle.file_transfer.specs.Sessions.{put_of}
use Rattle.file_transfer.proofs.Entering.{left}
use Rattle.file_transfer.proofs.Ending.{settled_behind, settled_in}
use Rattle.file_transfer.proofs.session.Session.put.Goals as goal

pub returns-clause-put : goal.returns-clause-put
returns-clause-put g c =
    let was = c.args.self.now in
    settled_behind g.T.Talk.talked g.T.Talk.connects was.is_in was.login.now was.user c.enter.new.self.user
    (put_of c.args.path.now c.args.bytes.now) c.put_on-end.result c.settle.result _ _ c.settle.ensures.done
    c.settle.ensures.still was.inside c.in_ok-enter.ensures.entered c.put_on-end.ensures.put

pub returns-clause-inside : goal.returns-clause-inside
returns-clause-inside g c = settled_in c.put_on-end.result c.settle.result _ (c.settle.ensures.same.0 ∙ c.put_on-end.ensures.stays) c.settle.ensures.done

pub returns-clause-outside : goal.returns-clause-outside
returns-clause-outside g c =
    left c.settle.result _ _ _ c.settle.ensures.same.0 c.put_on-end.ensures.stays c.settle.ensures.failed
