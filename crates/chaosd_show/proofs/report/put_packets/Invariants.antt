use Rattle.std.proofs.Common.{◌≡◌, ◌++◌, List, ℕ, length}
use Rattle.std.specs.Io.KnownBytes.{Appends}
use Rattle.chaosd_io.specs.Buffer.{written_of}
use Rattle.chaosd_show.specs.Report.{packets_text}
use Rattle.chaosd_show.proofs.report.put_packets.Given as goal

-- what was written, with the packets that are left behind it, is the text of all
abbrev pub invariant-loop-packet : goal.invariant-loop-packet
invariant-loop-packet g l = (done : List ℕ)
    × Appends (written_of (g.W.Write.contents l.fn.writer) l.fn.out) (written_of (g.W.Write.contents l.writer) l.out) done
    × (done ++ packets_text l.view l.packets ≡ packets_text l.view l.fn.packets)

-- fewer packets are left
abbrev pub decreases-loop-packet : goal.decreases-loop-packet
decreases-loop-packet g l = length l.packets
