-- The text of several packets.
use Rattle.std.proofs.Common.{◌≡◌, List, [], ◌∷◌, ◌++◌, drop, refl}
use Rattle.std.specs.Prelude.{Some, slice_get}
use Rattle.chaos_packet.specs.Packet.{PacketView}
use Rattle.chaosd_show.specs.declared.view.View.{View}
use Rattle.chaosd_show.specs.Report.{packet_text, packets_text}

-- it is that of the first, and of those behind it
pub packets_first : (view : View) (packets others : List PacketView) (p : PacketView) → Some p ≡ slice_get packets 0
    → others ≡ drop 1 packets → 10 ∷ (packet_text view p ++ packets_text view others) ≡ packets_text view packets
packets_first view [] others p first rest = absurd (cc)
packets_first view (q ∷ qs) others p first rest = let same : p ≡ q = cc in rw (same, rest) refl
