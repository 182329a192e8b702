-- What is received of a queue.
use Rattle.std.proofs.Common.{◌≡◌, ℕ, List, [], ◌∷◌, take, drop, length, Option, Some, None, Result, IfSome, ap, ◌∙◌}
use Rattle.chaos_packet.specs.Packet.{PacketView}
use Rattle.chaos_link.specs.declared.fault.LinkFault.{LinkFault}
use Rattle.chaos_link.specs.declared.link.Received.TheVariants as receiving
use Rattle.chaos_link.specs.Packets.{packets_read}
use Rattle.chaos_link.specs.Link.{Addressed, QueueView, ReceivesFrom}
use Rattle.chaos_node.specs.Arrive.{Receives}
use Rattle.std.proofs.Math.Seq.{take-append_seam}

in_front : (ds : List Addressed) (cap : ℕ) (after : Option QueueView) (old new : List ℕ) (count : ℕ)
    (result : Result (List PacketView) LinkFault)
    → result ≡ packets_read (take count new)
    → ReceivesFrom old new (receiving.Got count) after (record { datagrams = ds; cap = cap })
    → Receives (Some result) after (record { datagrams = ds; cap = cap })
in_front [] cap after old new count result e from = let none = from.0.0 in absurd (cc)
in_front (oldest ∷ others) cap after old new count result e from =
    let some = from.0.0 in
    let many : count ≡ length oldest.bytes = cc in
    let bytes : take count new ≡ oldest.bytes =
    ap (λ n. take n new) many ∙ ap (take (length oldest.bytes)) from.0.1
    ∙ take-append_seam oldest.bytes (drop (length oldest.bytes) old) in
    (ap (λ (r : Result (List PacketView) LinkFault). Some r) (e ∙ ap packets_read bytes), from.1)

pub receives : (before after : Option QueueView) (old new : List ℕ) (count : ℕ)
    (result : Result (List PacketView) LinkFault)
    → result ≡ packets_read (take count new) → IfSome before (ReceivesFrom old new (receiving.Got count) after)
    → IfSome before (Receives (Some result) after)
receives None after old new count result e from = tt
receives (Some queue) after old new count result e from =
    in_front queue.datagrams queue.cap after old new count result e from
