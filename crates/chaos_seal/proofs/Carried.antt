-- The sources of packets that are taken one after the other.
use Rattle.std.proofs.Common.{◌≡◌, ◌↔◌, ℕ, ◌+◌, ◌≤◌, List, [], ◌∷◌, ◌++◌, length, drop, map, arith, ap, ◌∙◌, sym, append_assoc, append-nil, Some, None, option_map, slice_get, inl, inr, All}
use Rattle.std.proofs.lemmas.List.Elements.{All-cons, All-head, All-map, All-nil, All-tail}
use Rattle.chaos_packet.specs.Packet.{PacketView}
use Rattle.chaos_link.specs.Packets.{AtMostOneList, CarriesAll}
use Rattle.chaos_seal.specs.Sources.{AreSources, EachSource}

abbrev pub source_of : PacketView → ℕ
source_of packet = packet.src

pub at_most : (packets : List PacketView) (bs : List ℕ) → CarriesAll packets bs → length packets ≤ 8
at_most packets bs (inl (p, e, carries)) = omega (arith, ap length e)
at_most packets bs (inr carries) = carries.few

-- one packet more
pub one_more : (items : List ℕ) (left : List PacketView) (source : ℕ) → Some source ≡ option_map source_of (slice_get left 0)
    → items ++ map source_of left ≡ (items ++ source ∷ []) ++ map source_of (drop 1 left)
one_more items [] source e = absurd (cc)
one_more items (p ∷ ps) source e =
    let same : source ≡ p.src = cc in
    ap (λ s. items ++ s ∷ map source_of ps) (sym same) ∙ sym (append_assoc items (source ∷ []) (map source_of ps))

pub fewer : (left : List PacketView) (source : ℕ) → Some source ≡ option_map source_of (slice_get left 0)
    → length (drop 1 left) + 1 ≡ length left
fewer [] source e = absurd (cc)
fewer (p ∷ ps) source e = omega arith

-- none is left
pub no_more : (items : List ℕ) (left : List PacketView) → None ≡ option_map source_of (slice_get left 0)
    → items ++ map source_of left ≡ items
no_more items [] e = append-nil items
no_more items (p ∷ ps) e = absurd (cc)

pub none_left : (items : List ℕ) (left : List PacketView) → length left ≡ 0 → items ++ map source_of left ≡ items
none_left items [] e = append-nil items
none_left items (p ∷ ps) e = absurd (omega arith)

-- ---- what is true of each source

all_mapped : (P : ℕ → Type 0) (packets : List PacketView) → All P (map source_of packets) → All (λ packet. P packet.src) packets
all_mapped P [] all = All-nil (λ (packet : PacketView). P packet.src)
all_mapped P (p ∷ ps) all =
    All-cons (λ (packet : PacketView). P packet.src) p ps (All-head P p.src (map source_of ps) all)
    (all_mapped P ps (All-tail P p.src (map source_of ps) all))

pub each_source : (P : ℕ → Type 0) (bs sources : List ℕ) → AtMostOneList → AreSources bs sources
    → All P sources ↔ EachSource P bs
each_source P bs sources once (inl (packets, carried, is)) = (
  λ all others carried_too.
      let mapped : All P (map source_of packets) = rw is at all in
      let same : packets ≡ others = once packets others bs carried carried_too in
      rw same at (all_mapped P packets mapped),
  λ each. rw is (All-map P source_of packets (each packets carried)),
)
each_source P bs sources once (inr (none, is)) = (
  λ all packets carried. absurd (none packets carried),
  λ each. rw is (All-nil P),
)
