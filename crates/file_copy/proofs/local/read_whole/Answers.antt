use Rattle.std.proofs.Common.{arith, ◌<◌, length}
use Rattle.chaos_file.proofs.AllRead.{all_read}
use Rattle.file_copy.proofs.local.read_whole.Goals as goal

-- less than the limit came: that is all
pub returns-clause-whole : goal.returns-clause-whole
returns-clause-whole g c =
    let less : length c.read_to_end.new.buf.items < c.take.result.limit =
    omega (arith, c.take.ensures.limit, c.saturating_add.ensures, c.len.ensures, c.if-len-gt-MAX_FILE.false) in
    all_read g.F.Read.remaining c.take.result c.args.from c.new-bytes.result.items c.read_to_end.new.buf.items
    c.in_ok-read_to_end.ensures.bytes c.new-bytes.ensures.items c.take.ensures.inner less
