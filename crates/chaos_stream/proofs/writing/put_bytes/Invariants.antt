use Rattle.std.proofs.Common.{length, drop, ◌-◌, ◌≡◌, ◌≤◌}
use Rattle.chaos_stream.specs.Writing.{after_taking, put_of}
use Rattle.chaos_stream.proofs.writing.put_bytes.Given as goal

-- what is taken so far, and what comes of the rest, come to what comes of all
abbrev pub invariant-loop-taken : goal.invariant-loop-taken
invariant-loop-taken l = record {
  within : l.taken ≤ length l.bytes;
  all : after_taking l.taken (put_of l.conn l.out (drop l.taken l.bytes) l.now)
      ≡ put_of l.fn.conn l.fn.out l.bytes l.now;
}

abbrev pub decreases-loop-taken : goal.decreases-loop-taken
decreases-loop-taken l = length l.bytes - l.taken
