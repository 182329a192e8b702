use Rattle.file_transfer.specs.Sessions.{get_of}
use Rattle.file_transfer.proofs.Ending.{stays_done}
use Rattle.file_transfer.proofs.get_files.GetFiles.bytes_of.Goals as goal

pub returns-in-Ok-clause-stays : goal.returns-in-Ok-clause-stays
returns-in-Ok-clause-stays g c =
    let was = c.args.self.now.session in
    stays_done g.T.Talk.talked g.T.Talk.connects was.is_in was.login.now was.user.talk _ _ (get_of c.args.path.now c.get.new.bytes.items)
    c.get.result c.get.ensures.got c.get.ensures.outside

pub returns-in-Err-clause-stays : goal.returns-in-Err-clause-stays
returns-in-Err-clause-stays g c =
    let was = c.args.self.now.session in
    stays_done g.T.Talk.talked g.T.Talk.connects was.is_in was.login.now was.user.talk _ _ (get_of c.args.path.now c.get.new.bytes.items)
    c.get.result c.get.ensures.got c.get.ensures.outside
