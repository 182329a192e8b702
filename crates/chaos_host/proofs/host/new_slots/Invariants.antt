use Rattle.std.proofs.Common.{◌≡◌, replicate}
use Rattle.chaos_host.specs.View.{new_slot}
use Rattle.chaos_host.proofs.host.new_slots.Given as goal

abbrev pub invariant-loop-i : goal.invariant-loop-i
invariant-loop-i l = l.slots.items ≡ replicate l.i (new_slot l.config)
