-- FILE over a losing network.
use Rattle.std.specs.Prelude.{◌≡◌, false}
use Rattle.std.specs.FinMap as map
use Rattle.chaos_packet.specs.Begins.{Begins}
use Rattle.chaos_file.specs.Replies.{replies_of}
use Rattle.file_lab.specs.View.{FileLabView, commands_of, replies_to_a, wrote_mem}

-- Unless B wrote an out-of-memory reply, what A read is a beginning of the replies, by the definition of the
-- language and over no files at first, to the commands that A wrote: each command was carried out once, in order.
abbrev pub RepliesBegin : FileLabView → Type 0
RepliesBegin l = wrote_mem l ≡ false → Begins (replies_to_a l) (replies_of map.empty (commands_of l))
