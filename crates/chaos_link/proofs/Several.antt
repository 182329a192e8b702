-- Packets one behind the other.
use Rattle.std.proofs.Common.{◌≡◌, ℕ, zero, suc, ◌+◌, ◌-◌, ◌*◌, ◌/◌, ◌<◌, ◌≤◌, List, [], ◌∷◌, length, get_or, take, drop, refl, arith, ap, ◌∙◌, sym, subst, Option, Some, None, length-drop}
use Rattle.std.proofs.lemmas.List.{get_or-take, length-take-le, nil_from_length}
use Rattle.std.proofs.lemmas.Bool.Decides.{nat_tests}
use Rattle.chaos_packet.specs.Packet.{PacketView}
use Rattle.chaos_packet.specs.Words.{Spells, words_for, count_of, words_fault, packet_at}
use Rattle.chaos_packet.specs.declared.fault.PacketFault.{PacketFault}
use Rattle.chaos_packet.proofs.Headers.{used_is, one_packet, spelled_at}
use Rattle.chaos_link.specs.Datagram.{words_of}
use Rattle.chaos_link.specs.Packets.{SpellsAll, front_len, packets_at, packets_len, packets_fault, first_fault}
use Rattle.chaos_link.specs.declared.fault.LinkFault.{LinkFault}
use Rattle.chaos_link.specs.declared.fault.LinkFault.TheVariants.{PacketAt}
use Rattle.chaos_link.proofs.Words.{drop-words_of}

-- ---- the packet in front

-- words whose first n spell a packet
pub record InFront (p : PacketView) (ws : List ℕ) (n : ℕ) : Type 0 where
  pub none : words_fault ws ≡ None
  pub packet : packet_at ws ≡ p
  pub used : front_len ws ≡ n

pub in_front : (p : PacketView) (ws : List ℕ) (n : ℕ) → n ≤ length ws → Spells p (take n ws) → InFront p ws n
in_front p ws n le s =
    let used : n ≡ 8 + words_for (count_of ws) = used_is p ws n le s in
    let whole : length (take n ws) ≡ n = length-take-le n ws le in
    let same : get_or (take n ws) 1 0 ≡ get_or ws 1 0 = get_or-take n ws 1 0 (omega arith) in
    let small : count_of ws ≤ 488 = omega (arith, s.count, s.small) in
    let long : 8 + words_for (count_of ws) ≤ length ws = omega arith in
    record {
      none = grind (arith, nat_tests);
      packet = sym (one_packet p (packet_at ws) _ (rw used at s) (spelled_at ws small long));
      used = sym used;
    }

-- no fault of the first, and then none of the others
pub none_twice : (k : ℕ) (o : Option PacketFault) (r : Option LinkFault) → first_fault k o r ≡ None
    → (o ≡ None) × (r ≡ None)
none_twice k (Some f) r h = cc
none_twice k None r h = (refl, h)

-- that there is none doesn't depend on how they are counted
pub none_from : (n k j : ℕ) (ws : List ℕ) → packets_fault n k ws ≡ None → packets_fault n j ws ≡ None
none_from zero k j ws h = refl
none_from (suc n) k j ws h =
    let both = none_twice k (words_fault ws) _ h in
    ap (λ o. first_fault j o (packets_fault n (j + 1) (drop (front_len ws) ws))) both.0
    ∙ none_from n (k + 1) (j + 1) (drop (front_len ws) ws) both.1

-- ---- taken one after the other from bytes

-- the words behind the packet in front are those of the bytes behind it
pub behind : (count : ℕ) (bs : List ℕ) → count ≡ count_of (words_of bs)
    → drop (front_len (words_of bs)) (words_of bs) ≡ words_of (drop (2 * (8 + (count + 1) / 2)) bs)
behind count bs e =
    drop-words_of (front_len (words_of bs)) bs ∙ ap (λ n. words_of (drop (2 * (8 + (n + 1) / 2)) bs)) (sym e)

pub record Taken (left count : ℕ) (bs : List ℕ) : Type 0 where
  pub packets : packets_at left (words_of bs)
      ≡ packet_at (words_of bs) ∷ packets_at (left - 1) (words_of (drop (2 * (8 + (count + 1) / 2)) bs))
  pub none : packets_fault (left - 1) 1 (words_of (drop (2 * (8 + (count + 1) / 2)) bs)) ≡ None

pub taken : (left count : ℕ) (bs : List ℕ) → 0 < left → count ≡ count_of (words_of bs)
    → packets_fault left 1 (words_of bs) ≡ None → Taken left count bs
taken zero count bs some e none = absurd (omega arith)
taken (suc n) count bs some e none =
    let less : suc n - 1 ≡ n = omega arith in
    let after = (none_twice 1 (words_fault (words_of bs)) _ none).1 in
    record {
      packets = rw less (ap (λ ws. packet_at (words_of bs) ∷ packets_at n ws) (behind count bs e));
      none =
          rw less (subst (λ (ws : List ℕ). packets_fault n 1 ws ≡ None) (behind count bs e) (none_from n 2 1 _ after));
    }

-- ---- looked through from bytes

-- one packet less is left
pub fault_goes_on : (left k count : ℕ) (bs : List ℕ) → 0 < left → count ≡ count_of (words_of bs)
    → words_fault (words_of bs) ≡ None
    → packets_fault left k (words_of bs)
    ≡ packets_fault (left - 1) (k + 1) (words_of (drop (2 * (8 + (count + 1) / 2)) bs))
fault_goes_on zero k count bs some e none = absurd (omega arith)
fault_goes_on (suc n) k count bs some e none =
    let less : suc n - 1 ≡ n = omega arith in
    rw less
    (ap (λ o. first_fault k o (packets_fault n (k + 1) (drop (front_len (words_of bs)) (words_of bs)))) none
    ∙ ap (packets_fault n (k + 1)) (behind count bs e))

pub len_goes_on : (left count : ℕ) (bs : List ℕ) → 0 < left → count ≡ count_of (words_of bs)
    → packets_len left (words_of bs)
    ≡ 8 + (count + 1) / 2 + packets_len (left - 1) (words_of (drop (2 * (8 + (count + 1) / 2)) bs))
len_goes_on zero count bs some e = absurd (omega arith)
len_goes_on (suc n) count bs some e =
    let less : suc n - 1 ≡ n = omega arith in
    rw less (ap (λ ws. front_len (words_of bs) + packets_len n ws) (behind count bs e)
    ∙ ap (λ m. 8 + (m + 1) / 2 + packets_len n (words_of (drop (2 * (8 + (count + 1) / 2)) bs))) (sym e))

-- or the packet in front is at fault
pub fault_here : (left k : ℕ) (ws : List ℕ) (f : PacketFault) → 0 < left → words_fault ws ≡ Some f
    → packets_fault left k ws ≡ Some (PacketAt k f)
fault_here zero k ws f some e = absurd (omega arith)
fault_here (suc n) k ws f some e = ap (λ o. first_fault k o (packets_fault n (k + 1) (drop (front_len ws) ws))) e

-- ---- what is spelled is read

pub record AllRead (ps : List PacketView) (k : ℕ) (ws : List ℕ) : Type 0 where
  pub none : packets_fault (length ps) k ws ≡ None
  pub packets : packets_at (length ps) ws ≡ ps
  pub whole : packets_len (length ps) ws ≡ length ws

pub all_read : (ps : List PacketView) (k : ℕ) (ws : List ℕ) → SpellsAll ps ws → AllRead ps k ws
all_read [] k ws s = record { none = refl; packets = refl; whole = sym (ap length s) }
all_read (p ∷ ps) k ws s =
    let front = in_front p ws s.0 s.1 s.2 in
    let rest = all_read ps (k + 1) (drop s.0 ws) s.3 in
    record {
      none = ap (λ o. first_fault k o (packets_fault (length ps) (k + 1) (drop (front_len ws) ws))) front.none
          ∙ ap (λ n. packets_fault (length ps) (k + 1) (drop n ws)) front.used ∙ rest.none;
      packets =
          ap (λ n. packet_at ws ∷ packets_at (length ps) (drop n ws)) front.used
          ∙ ap (λ q. q ∷ packets_at (length ps) (drop s.0 ws)) front.packet
          ∙ ap (λ qs. p ∷ qs) rest.packets;
      whole =
          ap (λ n. n + packets_len (length ps) (drop n ws)) front.used ∙ omega (arith, rest.whole, length-drop s.0 ws);
    }

-- ---- and what is read is spelled

-- words without a fault are enough, and have no more data than a packet has
enough : (ws : List ℕ) → words_fault ws ≡ None → (count_of ws ≤ 488) × (front_len ws ≤ length ws)
enough ws none = (grind (arith, nat_tests), grind (arith, nat_tests))

pub length_within : (n k : ℕ) (ws : List ℕ) → packets_fault n k ws ≡ None → packets_len n ws ≤ length ws
length_within zero k ws none = omega arith
length_within (suc n) k ws none =
    let both = none_twice k (words_fault ws) _ none in
    let fits = enough ws both.0 in
    omega (arith, fits.1, length_within n (k + 1) (drop (front_len ws) ws) both.1, length-drop (front_len ws) ws)

pub all_spelled : (n k : ℕ) (ws : List ℕ) → packets_fault n k ws ≡ None → packets_len n ws ≡ length ws
    → SpellsAll (packets_at n ws) ws
all_spelled zero k ws none whole = nil_from_length ws (sym whole)
all_spelled (suc n) k ws none whole =
    let both = none_twice k (words_fault ws) _ none in
    let fits = enough ws both.0 in
    let rest : packets_len n (drop (front_len ws) ws) ≡ length (drop (front_len ws) ws) =
    omega (arith, whole, fits.1, length-drop (front_len ws) ws) in
    (front_len ws, fits.1, spelled_at ws fits.0 fits.1, all_spelled n (k + 1) (drop (front_len ws) ws) both.1 rest)

pub length-packets_at : (n : ℕ) (ws : List ℕ) → length (packets_at n ws) ≡ n
length-packets_at zero ws = refl
length-packets_at (suc n) ws = ap suc (length-packets_at n (drop (front_len ws) ws))
