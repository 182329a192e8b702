use Rattle.std.proofs.Common.{length, ◌-◌, ◌≡◌, ◌≤◌, Some}
use Rattle.chaos_host.specs.declared.slot.Slot.{Slot}
use Rattle.chaos_host.specs.Slot.{named_slot}
use Rattle.chaos_stream.proofs.HostPutting.{Midway}
use Rattle.chaos_stream.proofs.host_writing.put_named.Given as goal

abbrev pub invariant-loop-taken : goal.invariant-loop-taken
invariant-loop-taken l = record {
  within : l.taken ≤ length l.bytes;
  midway : (slot : Slot) → (there : named_slot l.fn.host.slots l.id ≡ Some slot)
      → Midway l.fn.host l.fn.out l.bytes l.now l.id slot there l.host l.out l.taken;
}

abbrev pub decreases-loop-taken : goal.decreases-loop-taken
decreases-loop-taken l = length l.bytes - l.taken
