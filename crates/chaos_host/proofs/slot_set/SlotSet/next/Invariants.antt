use Rattle.std.proofs.Common.{◌≡◌, ℕ, ◌*◌, ◌<◌, ◌≤◌, false}
use Rattle.chaos_host.specs.SlotSet.{has}
use Rattle.chaos_host.proofs.slot_set.SlotSet.next.Given as goal

-- no place before this word is left
abbrev pub invariant-loop-later : goal.invariant-loop-later
invariant-loop-later l = (k : ℕ) → l.from ≤ k → k < 64 * l.later → has l.self.words k ≡ false
