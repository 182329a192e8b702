-- What calls make of a node.
use Rattle.std.specs.Prelude.{◌≡◌, ◌<◌, ℕ, List, [], take, Option, Some, None, Result, Err, IsSomeAnd}
use Rattle.chaos_packet.specs.Packet.{PacketView}
use Rattle.chaos_packet.specs.Outbox.{room_of, with_put}
use Rattle.chaos_link.specs.Datagram.{datagram_of}
use Rattle.chaos_host.specs.Acted.{HostActed}
use Rattle.chaos_host.specs.NextInUse.{IsNextInUse}
use Rattle.chaos_node.specs.Passing.{after_passing}
use Rattle.chaos_ncp.specs.declared.fault.Fault.{Fault}
use Rattle.chaos_ncp.specs.declared.fault.Fault.TheVariants.{OutboxFull}
use Rattle.chaos_ncp.specs.declared.node.Node.{Node}
use Rattle.chaos_ncp.specs.declared.node.TheConstants.{ANYONE}
use Rattle.chaos_packet.specs.Item.{ItemView}
use Rattle.std.specs.Prelude.{option_map}
use Rattle.chaos_ncp.specs.declared.node.Front.{Front}
use Rattle.chaos_ncp.specs.declared.node.Outgoing.{Outgoing}

-- What is taken of an outbox with this packet in front: nothing, or the packet's canonical datagram, in the front of the
-- caller's buffer, with the address of its destination.
abbrev pub Takes : Option PacketView → List ℕ → Option Outgoing → Type 0
Takes None buffer outgoing = outgoing ≡ None
Takes (Some p) buffer outgoing = IsSomeAnd outgoing (λ o. (o.to ≡ p.dst) × (take o.count buffer ≡ datagram_of p))

-- the item that was copied to the front of this buffer, if any was
abbrev pub item_of : List ℕ → Option Front → Option ItemView
item_of buffer = option_map (λ front. record { op = front.op; body = take front.count buffer })

module _ {A : Type 0} where
  -- a node after a call of its host, whose packets wait
  abbrev pub after_call : Node → HostActed A → Node
  after_call node acted = record node { host = acted.view; out = with_put node.out acted.packets }

-- A call of the host is made where there is room for a packet. Otherwise the call is refused, and nothing changes.
pub record MakesCall {A B : Type 0} (old new : Node) (acted : HostActed A) (answer : Result B Fault) : Type 0 where
  pub made : 0 < room_of old.out → new ≡ after_call old acted
  pub full : room_of old.out ≡ 0 → (answer ≡ Err OutboxFull) × (new ≡ old)

-- Each slot of the node's host is free, and no packet waits.
pub record IsUnused (node : Node) : Type 0 where
  pub free : IsNextInUse node.host 0 None
  pub empty : node.out.packets ≡ []

-- a node each of whose slots used up so many indices
abbrev pub after_pass : ℕ → Node → Node
after_pass count node = record node { host = after_passing ANYONE count node.host }
