-- Phases of a turn, one after the other.
use Rattle.std.specs.Prelude.{◌≡◌, zero, suc, ℕ, Bool, List, [], ◌∷◌, ◌++◌, length}
use Rattle.chaos_packet.specs.Packet.{PacketView}
use Rattle.chaos_host.specs.View.{HostView}
use Rattle.chaos_host.specs.Acted.{HostActed}
use Rattle.chaos_link.specs.declared.carriage.Carriage.{Carriage}
use Rattle.chaos_link.specs.Link.{Ask}
use Rattle.chaos_node.specs.Link.{SendsLots, has_packets, singly}
use Rattle.chaos_node.specs.Station.{Station}

-- what a phase makes of a host, and the packets that go out, lot by lot
pub record Effect : Type 0 where
  pub host : HostView
  pub lots : List (List PacketView)

abbrev pub no_effect_on : HostView → Effect
no_effect_on h = record { host = h; lots = [] }

module _ {A : Type 0} where
  -- of a call on the host: what it puts out is sent at once
  abbrev pub effect_of : HostActed A → Effect
  effect_of acted = record { host = acted.view; lots = acted.packets ∷ [] }

  -- of a call on the host: what it puts out is sent at once, each packet as a lot of its own
  abbrev pub effect_singly_of : HostActed A → Effect
  effect_singly_of acted = record { host = acted.view; lots = singly acted.packets }

-- one phase, and another after it
abbrev pub and_then : Effect → (HostView → Effect) → Effect
and_then first next = record { host = (next first.host).host; lots = first.lots ++ (next first.host).lots }

-- a phase over the first so many slots, in rising order
abbrev pub over_slots : (ℕ → HostView → Effect) → ℕ → HostView → Effect
over_slots phase zero h = no_effect_on h
over_slots phase (suc n) h = and_then (over_slots phase n h) (phase n)

-- a phase over packets, in order
abbrev pub over_packets : (PacketView → HostView → Effect) → List PacketView → HostView → Effect
over_packets phase [] h = no_effect_on h
over_packets phase (p ∷ ps) h = and_then (phase p h) (over_packets phase ps)

-- A phase had this effect on a host at its link: the link was asked to send its packets by this carriage, and nothing
-- else, and it told whether there were any. The outbox is as it was; so are the configuration and the number of slots.
pub record DoesPhase (asked : List Ask → Type 0) (carriage : Carriage) (effect : Effect)
    (before after : Station HostView) (sent : Bool) : Type 0 where
  pub host : after.node ≡ effect.host
  pub sends : SendsLots asked carriage before.queue effect.lots after.queue
  pub outbox : after.outbox ≡ before.outbox
  pub told : sent ≡ has_packets effect.lots
  pub config : after.node.config ≡ before.node.config
  pub size : length after.node.slots ≡ length before.node.slots
