use Rattle.std.proofs.Common.{◌≡◌, ℕ, ◌<◌, ◌^◌, take}
use Rattle.std.specs.List.{list_all}
use Rattle.chaos_conn.specs.NextDue.{is_quiet_at, is_before}
use Rattle.chaos_host.proofs.next_due.next_of.Given as goal

abbrev pub invariant-loop-slot : goal.invariant-loop-slot
invariant-loop-slot l =
    (now : ℕ) → now < 2 ^ 64
    → list_all (λ slot. is_quiet_at slot.conn now) (take l.slot-index l.slots) ≡ is_before now l.next
