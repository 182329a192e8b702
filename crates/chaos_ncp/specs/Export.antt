-- What an export makes of the node that its handle has.
use Rattle.std.specs.Prelude.{◌≡◌, ◌<◌, ℕ, ℤ, pos, negsuc, Option, Some, true}
use Rattle.chaos_packet.specs.Outbox.{room_of}
use Rattle.chaos_host.specs.Acted.{HostActed}
use Rattle.chaos_ncp.specs.Handle.{has_node}
use Rattle.chaos_ncp.specs.Node.{IsUnused, after_call, after_pass}
use Rattle.chaos_ncp.specs.declared.node.Node.{Node}

-- A call of the host is made where there is room for a packet, and its packets wait. Otherwise the call is refused, by the
-- number of `OutboxFull`, and the node stays as it is.
pub record Calls {A : Type 0} (old new : Node) (acted : HostActed A) (answer : ℤ) : Type 0 where
  pub made : 0 < room_of old.out → new ≡ after_call old acted
  pub full : room_of old.out ≡ 0 → (answer ≡ negsuc 6) × (new ≡ old)

-- an export's call of the host: by the handle's mark, the node behind its pointer before, and the one behind it after
abbrev pub CallsHost : {A : Type 0} → ℕ → Option Node → Option Node → (Node → HostActed A) → ℤ → Type 0
CallsHost mark before after acted answer = (old new : Node) → has_node mark ≡ true → before ≡ Some old → after ≡ Some new →
    Calls old new (acted old) answer

-- an export's call after which the node is this one
abbrev pub Becomes : ℕ → Option Node → Option Node → (Node → Node) → Type 0
Becomes mark before after made = (old new : Node) → has_node mark ≡ true → before ≡ Some old → after ≡ Some new → new ≡ made old

-- Each slot of an unused node uses up so many indices. A node that refuses this, by the number of `InUse`, stays as it is.
pub record Passed (old new : Node) (count : ℕ) (answer : ℤ) : Type 0 where
  pub made : IsUnused old → 0 < room_of old.out → (answer ≡ pos 0) × (new ≡ after_pass count old)
  pub refused : answer ≡ negsuc 20 → new ≡ old

-- an export by which a node passes over indices
abbrev pub Passes : ℕ → Option Node → Option Node → ℕ → ℤ → Type 0
Passes mark before after count answer = (old new : Node) → has_node mark ≡ true → before ≡ Some old → after ≡ Some new →
    Passed old new count answer
