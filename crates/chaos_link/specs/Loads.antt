-- How packets that wait are cut into datagrams of version 2.
use Rattle.std.specs.Prelude.{◌≡◌, ℕ, ◌+◌, ◌≤◌, List, [], ◌∷◌, ◌++◌, length, take, drop, All, slice_index, Bool, true, false, ◌==◌, ◌&&◌, if◌then◌else◌}
use Rattle.chaos_packet.specs.Packet.{PacketView}
use Rattle.chaos_packet.specs.Words.{Spells, spelling_of}
use Rattle.chaos_packet.specs.declared.limits.TheConstants.{MAX_DATA}
use Rattle.chaos_link.specs.Bundle.{bytes_for, datagram_of_all, fit_within}
use Rattle.chaos_link.specs.Datagram.{words_of}
use Rattle.chaos_link.specs.Packets.{packets_at}
use Rattle.chaos_link.specs.declared.limits.TheConstants.{MARK_BYTES, MAX_LOAD}

-- A load is the packets of one datagram that is sent, all to one destination. A packet joins one that is begun, where it
-- goes to the same destination and the datagram of them all has at most 1,472 bytes.
abbrev pub joins : List PacketView → PacketView → Bool
joins [] p = false
joins (first ∷ others) p = (p.dst == first.dst) && fit_within MAX_LOAD (first ∷ others ++ p ∷ [])

-- the load with the packet, where it joins
abbrev pub joined : List PacketView → PacketView → List PacketView
joined load p = if joins load p then load ++ p ∷ [] else load

-- a load that is begun, and the loads of the packets behind it
abbrev pub loads_from : List PacketView → List PacketView → List (List PacketView)
loads_from load [] = load ∷ []
loads_from load (p ∷ ps) = if joins load p then loads_from (load ++ p ∷ []) ps else load ∷ loads_from (p ∷ []) ps

-- the loads of packets that wait, in order: the first begins a load; each other joins the load before it, or begins one
abbrev pub loads_of : List PacketView → List (List PacketView)
loads_of [] = []
loads_of (p ∷ ps) = loads_from (p ∷ []) ps

-- ---- What is true of the loads

-- the packets of loads, one load behind the other
abbrev pub packets_of : List (List PacketView) → List PacketView
packets_of [] = []
packets_of (load ∷ loads) = load ++ packets_of loads

-- A packet has no more data than packets have.
abbrev pub IsSmall : PacketView → Type 0
IsSmall p = length p.body ≤ MAX_DATA

-- all of a load go to one destination
abbrev pub HasOneDestination : List PacketView → Type 0
HasOneDestination load = (to : ℕ) × All (λ p. p.dst ≡ to) load

-- The first packet of the next load doesn't join this one.
abbrev pub EndsBefore : List PacketView → List (List PacketView) → Type 0
EndsBefore load [] = Unit {0}
EndsBefore load ([] ∷ loads) = Unit {0}
EndsBefore load ((p ∷ ps) ∷ loads) = joins load p ≡ false

-- Each load is the longest front of what is left.
abbrev pub AreLongest : List (List PacketView) → Type 0
AreLongest [] = Unit {0}
AreLongest (load ∷ loads) = EndsBefore load loads × AreLongest loads

-- The loads are the packets in order; each fits a datagram that is sent, has one destination, and is the longest front of
-- what is left.
pub record AreLoadsOf (ps : List PacketView) (loads : List (List PacketView)) : Type 0 where
  pub whole : packets_of loads ≡ ps
  pub fit : All (λ load. fit_within MAX_LOAD load ≡ true) loads
  pub one : All HasOneDestination loads
  pub longest : AreLongest loads

-- ---- A load in a buffer

-- each of the packets is spelled by its words
abbrev pub EachSpelled : List PacketView → Type 0
EachSpelled [] = Unit {0}
EachSpelled (p ∷ ps) = Spells p (spelling_of p) × EachSpelled ps

-- The datagram of a load to this destination lies in front of the bytes, and ends there.
pub record IsBuilt (load : List PacketView) (to end : ℕ) (bytes : List ℕ) : Type 0 where
  pub fit : fit_within MAX_LOAD load ≡ true
  pub one : All (λ p. p.dst ≡ to) load
  pub spelled : EachSpelled load
  pub size : end ≡ MARK_BYTES + bytes_for load
  pub front : take end bytes ≡ datagram_of_all load

-- the packets of the datagram that ends there
abbrev pub load_in : ℕ → List ℕ → List PacketView
load_in end bytes = packets_at (slice_index bytes 3) (words_of (drop MARK_BYTES (take end bytes)))
