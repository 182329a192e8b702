use Rattle.std.proofs.Common.{◌≡◌, ◌+◌, ◌≤◌, ◌++◌, List, length, map}
use Rattle.chaos_packet.specs.Packet.{PacketView}
use Rattle.chaos_link.specs.Packets.{CarriesAll}
use Rattle.chaos_seal.proofs.sources.sources.Given as goal

-- The sources so far, and those of the packets that are left, are those of the packets that the bytes carry.
abbrev pub invariant-loop-turn : goal.invariant-loop-turn
invariant-loop-turn l = record {
  whole : (packets : List PacketView) × CarriesAll packets l.bytes
      × (l.sources.items ++ map (λ packet. packet.src) l.packets ≡ map (λ packet. packet.src) packets);
  taken : length l.sources.items ≤ l._turn;
  few : length l.packets + l._turn ≤ 8;
}
