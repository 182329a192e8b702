use Rattle.file_copy.proofs.ReadBack.{error_decides}
use Rattle.file_copy.proofs.window.is_error.Goals as goal

pub returns : goal.returns
returns c =
    error_decides c.args.tid c.args.handle.now c.args.reply.now.items c.is_refused.result c.requires.tid
    c.requires.handle c.is_refused.ensures
