use Rattle.std.proofs.Common.{◌≡◌, ◌≤◌, ◌+◌, length}
use Rattle.chaosd_io.specs.declared.limits.TheConstants.{INPUT_LIMIT}
use Rattle.chaosd_io.specs.Buffer.{written_of}
use Rattle.chaosd_io.specs.Reader.{left_of}
use Rattle.chaosd_ask.specs.Asking.{AskedGiven}
use Rattle.chaosd_ask.specs.Notes.{NotesReplies}
use Rattle.file_client.specs.Talk.{talker}
use Rattle.chaosd_ask.proofs.script.ask_lines.Given as goal

-- the commands of the lines that were cut off were asked
abbrev pub invariant-lines : goal.invariant-lines
invariant-lines g l = record {
  few : l.replied + left_of l.lines ≤ INPUT_LIMIT;
  same_links : g.D.Driver.links l.client.driver ≡ g.D.Driver.links l.fn.client.driver;
  same_time : g.D.Driver.time l.client.driver ≡ g.D.Driver.time l.fn.client.driver;
  room : l.lines.room ≡ l.initial.lines.room;
  well : g.D.Driver.failures l.client.driver ≤ g.D.Driver.failures l.fn.client.driver;
  asked : AskedGiven (g.D.Driver.pace (g.D.Driver.time l.fn.client.driver))
      (talker l.fn.client.host.now.caller (g.D.Driver.queue l.fn.client.driver)) (talker l.client.host.now.caller (g.D.Driver.queue l.client.driver))
      (g.R.Read.remaining l.fn.reader) (g.R.Read.remaining l.reader)
      (written_of (g.W.Write.contents l.fn.writer) l.fn.buffers.out) (written_of (g.W.Write.contents l.writer) l.buffers.out) l.replied
      l.lines;
  noted : NotesReplies l.replied (written_of (g.W.Write.contents l.fn.writer) l.fn.buffers.out)
      (written_of (g.W.Write.contents l.writer) l.buffers.out) l.buffers.notes.replies;
}

-- fewer bytes wait
abbrev pub decreases-lines : goal.decreases-lines
decreases-lines g l = length l.lines.waiting

-- those of the lines that ended in what came were asked
abbrev pub invariant-reads : goal.invariant-reads
invariant-reads g l = record {
  few : l.replied + left_of l.lines ≤ INPUT_LIMIT;
  same_links : g.D.Driver.links l.client.driver ≡ g.D.Driver.links l.fn.client.driver;
  same_time : g.D.Driver.time l.client.driver ≡ g.D.Driver.time l.fn.client.driver;
  well : g.D.Driver.failures l.client.driver ≤ g.D.Driver.failures l.fn.client.driver;
  asked : AskedGiven (g.D.Driver.pace (g.D.Driver.time l.fn.client.driver))
      (talker l.fn.client.host.now.caller (g.D.Driver.queue l.fn.client.driver)) (talker l.client.host.now.caller (g.D.Driver.queue l.client.driver))
      (g.R.Read.remaining l.fn.reader) (g.R.Read.remaining l.reader)
      (written_of (g.W.Write.contents l.fn.writer) l.fn.buffers.out) (written_of (g.W.Write.contents l.writer) l.buffers.out) l.replied
      l.lines;
  noted : NotesReplies l.replied (written_of (g.W.Write.contents l.fn.writer) l.fn.buffers.out)
      (written_of (g.W.Write.contents l.writer) l.buffers.out) l.buffers.notes.replies;
}

-- fewer bytes may come
abbrev pub decreases-reads : goal.decreases-reads
decreases-reads g l = l.lines.room
