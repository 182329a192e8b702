use Rattle.std.proofs.Common.{◌≡◌, ◌*◌, ◌≤◌, take}
use Rattle.chaos_link.specs.Datagram.{words_of}
use Rattle.chaos_chudp.proofs.Summed.{total}
use Rattle.chaos_chudp.proofs.sum.checksum_of.Given as goal

-- So far the sum of the first words.
abbrev pub invariant-loop-i : goal.invariant-loop-i
invariant-loop-i l = record {
  sum : l.total ≡ total (take l.i (words_of l.bytes));
  few : l.total ≤ 65535 * l.i;
}
