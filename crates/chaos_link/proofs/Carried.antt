-- What is read of bytes is what they carry.
use Rattle.std.proofs.Common.{◌≡◌, ℕ, ◌+◌, ◌*◌, ◌<◌, ◌≤◌, Bool, true, false, List, [], ◌∷◌, length, get_or, take, drop, refl, arith, ap, ◌∙◌, sym, cond, not, ◌&&◌, eqb, nat_lt, Option, Some, None, Ok, Err, Result, IfOk, All, length-drop, inl, inr}
use Rattle.std.proofs.lemmas.List.{take_all, get_or-drop, get_or_past}
use Rattle.std.proofs.lemmas.List.Elements.{All-get_or}
use Rattle.std.proofs.lemmas.Bool.{cases_lt}
use Rattle.std.proofs.lemmas.Bool.Decides.{nat_tests}
use Rattle.chaos_packet.specs.Packet.{PacketView}
use Rattle.chaos_packet.specs.Words.{Spells, words_for, count_of, words_fault, packet_at}
use Rattle.chaos_packet.specs.declared.fault.PacketFault.{PacketFault}
use Rattle.chaos_packet.proofs.Headers.{spelled_at, whole_packet, no_words_fault}
use Rattle.chaos_link.specs.Datagram.{wire, words_of, Carries, datagram_len, fault_after, fault_of, read_by, datagram_read}
use Rattle.chaos_link.specs.declared.fault.LinkFault.{LinkFault}
use Rattle.chaos_link.proofs.Words.{length-words_of, words_of-wire, wire-words_of, length-wire}

-- bytes that are all below 256 are so by their index
pub all_below : (bs : List ℕ) → All (λ b. b < 256) bs → (i : ℕ) → get_or bs i 0 < 256
all_below bs small i =
    elim (cases_lt i (length bs)) [
      | inl inside ↦ All-get_or (λ b. b < 256) bs i 0 inside small
      | inr past ↦ rw (get_or_past bs i 0 past) (omega arith)
    ]

-- ---- from the fault to the carriage

-- a choice that comes to nothing wasn't taken, and what stands behind it comes to nothing
not_taken : {X : Type 0} (b : Bool) (x : X) (o : Option X) → cond b (Some x) o ≡ None → (b ≡ false) × (o ≡ None)
not_taken true x o h = cc
not_taken false x o h = (refl, h)

none_after : (bs : List ℕ) (o : Option PacketFault) → fault_after bs o ≡ None
    → (o ≡ None) × (nat_lt (datagram_len (count_of (words_of (drop 4 bs)))) (length bs) ≡ false)
none_after bs (Some f) h = cc
none_after bs None h = (refl, (not_taken _ _ _ h).0)

both_equal : (a m b n : ℕ) → not (eqb a m && eqb b n) ≡ false → (a ≡ m) × (b ≡ n)
both_equal a m b n h = (grind (arith, nat_tests), grind (arith, nat_tests))

pub at_least : (m n : ℕ) → nat_lt m n ≡ false → n ≤ m
at_least m n h = grind (arith, nat_tests)

-- four bytes and what follows them
pub front_four : (bs : List ℕ) → 4 ≤ length bs
    → bs ≡ get_or bs 0 0 ∷ get_or bs 1 0 ∷ get_or bs 2 0 ∷ get_or bs 3 0 ∷ drop 4 bs
front_four [] h = absurd (omega arith)
front_four (a ∷ []) h = absurd (omega arith)
front_four (a ∷ b ∷ []) h = absurd (omega arith)
front_four (a ∷ b ∷ c ∷ []) h = absurd (omega arith)
front_four (a ∷ b ∷ c ∷ d ∷ bs) h = refl

-- a mark, and words that spell the packet and leave nothing over
carried_by : (p : PacketView) (bs : List ℕ) (used : ℕ) → ((i : ℕ) → get_or bs i 0 < 256) → 4 ≤ length bs
    → (get_or bs 0 0 ≡ 0x43) × (get_or bs 1 0 ≡ 0x48) → (get_or bs 2 0 ≡ 1) × (get_or bs 3 0 ≡ 0)
    → used ≤ length (words_of (drop 4 bs)) → Spells p (take used (words_of (drop 4 bs))) → length bs ≤ 4 + 2 * used
    → Carries p bs
carried_by p bs used small long mark version le spelled all =
    let even : length (drop 4 bs) ≡ 2 * length (words_of (drop 4 bs)) =
    omega (arith, length-words_of (drop 4 bs), length-drop 4 bs) in
    let whole : take used (words_of (drop 4 bs)) ≡ words_of (drop 4 bs) =
    take_all used (words_of (drop 4 bs)) (omega (arith, length-words_of (drop 4 bs), length-drop 4 bs)) in
    let after : wire (words_of (drop 4 bs)) ≡ drop 4 bs =
    wire-words_of (drop 4 bs) (λ i. rw get_or-drop (small (4 + i))) even in
    (words_of (drop 4 bs), rw whole at spelled, front_four bs long ∙ cc (mark.0, mark.1, version.0, version.1, after))

-- bytes without a fault carry the packet that is read of them
carried_without_fault : (bs : List ℕ) → ((i : ℕ) → get_or bs i 0 < 256) → fault_of bs ≡ None
    → Carries (packet_at (words_of (drop 4 bs))) bs
carried_without_fault bs small none =
    let ws = words_of (drop 4 bs) in
    let (long, past_length) = not_taken _ _ _ none in
    let (mark, past_mark) = not_taken _ _ _ past_length in
    let (version, past_version) = not_taken _ _ _ past_mark in
    let (words, length_is) = none_after bs _ past_version in
    let (header, past_header) = not_taken _ _ _ words in
    let (count, past_count) = not_taken _ _ _ past_header in
    let (whole, _) = not_taken _ _ _ past_count in
    carried_by (packet_at ws) bs (8 + words_for (count_of ws)) small (at_least _ _ long) (both_equal _ _ _ _ mark)
    (both_equal _ _ _ _ version)
    (at_least _ _ whole) (spelled_at ws (at_least _ _ count) (at_least _ _ whole)) (at_least _ _ length_is)

carried_read_by : (bs : List ℕ) → ((i : ℕ) → get_or bs i 0 < 256) → (fault : Option LinkFault) → fault_of bs ≡ fault
    → IfOk (read_by bs fault) (λ p. Carries p bs)
carried_read_by bs small None e = carried_without_fault bs small e
carried_read_by bs small (Some f) e = tt

-- what is read is carried
pub carried_read : (r : Result PacketView LinkFault) (bs : List ℕ) → ((i : ℕ) → get_or bs i 0 < 256)
    → r ≡ datagram_read bs → IfOk r (λ p. Carries p bs)
carried_read r bs small e = rw e (carried_read_by bs small (fault_of bs) refl)

-- ---- and back

-- what carries a packet spells it after the mark, to the end
spelled_after_mark : (p : PacketView) (bs : List ℕ) → Carries p bs
    → Spells p (words_of (drop 4 bs)) × (length bs ≡ 4 + 2 * length (words_of (drop 4 bs)))
spelled_after_mark p bs carried =
    let after : drop 4 bs ≡ wire carried.0 = ap (drop 4) carried.2 in
    let words : words_of (drop 4 bs) ≡ carried.0 = ap words_of after ∙ words_of-wire carried.0 in
    let len : length bs ≡ 4 + length (wire carried.0) = ap length carried.2 ∙ omega arith in
    (rw words carried.1, rw words (omega (arith, length-wire carried.0)))

no_fault : (bs : List ℕ) (ws : List ℕ) → bs ≡ 0x43 ∷ 0x48 ∷ 1 ∷ 0 ∷ ws → words_fault (words_of (drop 4 bs)) ≡ None
    → length bs ≤ datagram_len (count_of (words_of (drop 4 bs))) → fault_of bs ≡ None
no_fault bs ws e none fits =
    let long : length bs ≡ 4 + length ws = ap length e ∙ omega arith in
    let b0 : get_or bs 0 0 ≡ 0x43 = ap (λ l. get_or l 0 0) e in
    let b1 : get_or bs 1 0 ≡ 0x48 = ap (λ l. get_or l 1 0) e in
    let b2 : get_or bs 2 0 ≡ 1 = ap (λ l. get_or l 2 0) e in
    let b3 : get_or bs 3 0 ≡ 0 = ap (λ l. get_or l 3 0) e in
    let last : nat_lt (datagram_len (count_of (words_of (drop 4 bs)))) (length bs) ≡ false = grind (arith, nat_tests) in
    let first : nat_lt (length bs) 4 ≡ false = grind (arith, nat_tests) in
    rw (first, b0, b1, b2, b3, none, last) refl

-- whatever is carried is read
pub read_carried : (p : PacketView) (bs : List ℕ) → Carries p bs → datagram_read bs ≡ Ok p
read_carried p bs carried =
    let (spelled, len) = spelled_after_mark p bs carried in
    let (packet, used) = whole_packet p (words_of (drop 4 bs)) spelled in
    rw (no_fault bs (wire carried.0) carried.2 (no_words_fault p _ spelled) (omega arith)) (ap Ok (sym packet))

-- so bytes with a fault carry no packet
apart : (r : Result PacketView LinkFault) (p : PacketView) (f : LinkFault)
    → ◌≡◌ {A = Result PacketView LinkFault} (Err f) (Ok p) → r ≡ Ok p
apart r p f h = cc

pub none_carried : (r : Result PacketView LinkFault) (p : PacketView) (bs : List ℕ) (f : LinkFault)
    → fault_of bs ≡ Some f → Carries p bs → r ≡ Ok p
none_carried r p bs f e carried = apart r p f (ap (read_by bs) (sym e) ∙ read_carried p bs carried)
