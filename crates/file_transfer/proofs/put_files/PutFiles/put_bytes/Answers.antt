use Rattle.file_transfer.specs.Sessions.{put_of}
use Rattle.file_transfer.proofs.Ending.{stays_done}
use Rattle.file_transfer.proofs.put_files.PutFiles.put_bytes.Goals as goal

pub returns-clause-stays : goal.returns-clause-stays
returns-clause-stays g c =
    let was = c.args.self.now.session in
    let same = c.report_returns.ensures in
    stays_done g.T.Talk.talked g.T.Talk.connects was.is_in was.login.now was.user.talk _ _
    (put_of c.args.path.now c.as_slice-in-Ok.result.now) c.put.result (rw (same.0, same.1, same.2) at c.put.ensures.put)
    c.put.ensures.outside
