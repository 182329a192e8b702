-- What the header says is spelled by the words, and nothing else is.
use Rattle.std.proofs.Common.{◌≡◌, ℕ, ◌+◌, ◌-◌, ◌<◌, ◌≤◌, List, length, take, drop, get_or, arith, ap, sym, None, ◌∙◌, length-take, length-drop}
use Rattle.std.proofs.lemmas.List.{get_or-take, length-take-le, drop-take, take_all}
use Rattle.std.proofs.lemmas.Bool.Decides.{nat_tests}
use Rattle.std.proofs.lemmas.Grind.{common_steps}
use Rattle.chaos_packet.specs.Packet.{PacketView}
use Rattle.chaos_packet.specs.Words.{Spells, halves, words_for, count_of, words_fault, packet_with, packet_at}
use Rattle.chaos_packet.proofs.Pairs.{length-halves}

-- which is what `from_words` makes
pub made : (ws bs : List ℕ) (count : ℕ) → count ≡ count_of ws
    → bs ≡ take count (halves (take (8 + words_for count - 8) (drop 8 ws))) → packet_with ws bs ≡ packet_at ws
made ws bs count e b =
    let m : 8 + words_for count - 8 ≡ words_for count = omega arith in
    ap (packet_with ws)
    (b ∙ ap (λ k. take count (halves (take k (drop 8 ws)))) m
    ∙ ap (λ k. take k (halves (take (words_for k) (drop 8 ws)))) e)

pub length_body : (ws : List ℕ) → 8 + words_for (count_of ws) ≤ length ws → length (packet_at ws).body ≡ count_of ws
length_body ws long =
    simp (length-take, length-halves, length-drop) (omega arith)

pub spelled_at : (ws : List ℕ) → count_of ws ≤ 488 → 8 + words_for (count_of ws) ≤ length ws
    → Spells (packet_at ws) (take (8 + words_for (count_of ws)) ws)
spelled_at ws small long =
    let size : length (packet_at ws).body ≡ count_of ws = length_body ws long in
    let all : length (take (8 + words_for (count_of ws)) ws) ≡ 8 + words_for (count_of ws) =
    length-take-le (8 + words_for (count_of ws)) ws long in
    let count_there : get_or (take (8 + words_for (count_of ws)) ws) 1 0 ≡ get_or ws 1 0 =
    get_or-take (8 + words_for (count_of ws)) ws 1 0 (omega arith) in
    record {
      header = grind (arith, common_steps);
      op = grind (arith, common_steps);
      count = omega arith;
      dst = grind (arith, common_steps);
      dst_index = grind (arith, common_steps);
      src = grind (arith, common_steps);
      src_index = grind (arith, common_steps);
      num = grind (arith, common_steps);
      ack = grind (arith, common_steps);
      small = omega arith;
      body = record {
        size =
            length-drop 8 (take (8 + words_for (count_of ws)) ws) ∙ ap (λ k. k - 8) all ∙ (omega arith)
            ∙ ap words_for (sym size);
        bytes = ap (λ k. take k (halves (take (words_for (count_of ws)) (drop 8 ws)))) (sym size)
            ∙ ap (λ ws'. take (length (packet_at ws).body) (halves ws'))
            (sym (drop-take 8 (words_for (count_of ws)) ws));
      };
    }

pub used_is : (p : PacketView) (ws : List ℕ) (n : ℕ) → n ≤ length ws → Spells p (take n ws)
    → n ≡ 8 + words_for (count_of ws)
used_is p ws n le s =
    let long : length (take n ws) ≡ n = length-take-le n ws le in
    let h : 8 ≤ length (take n ws) = s.header in
    let rest : length (drop 8 (take n ws)) ≡ words_for (length p.body) = s.body.size in
    let there : 1 < n = omega arith in
    let same : get_or (take n ws) 1 0 ≡ get_or ws 1 0 = get_or-take n ws 1 0 there in
    omega (arith, length-drop 8 (take n ws), s.count, s.small)

-- at most one packet is spelled by any words
pub one_packet : (p q : PacketView) (ws : List ℕ) → Spells p ws → Spells q ws → p ≡ q
one_packet p q ws s t = grind (arith, common_steps)

-- so what is spelled at the front of the words is what is made of them
pub only_packet : (p q : PacketView) (ws : List ℕ) (n m : ℕ) → q ≡ packet_at ws → m ≡ count_of ws → m ≤ 488
    → 8 + words_for m ≤ length ws → n ≤ length ws → Spells p (take n ws) → (q ≡ p) × (8 + words_for m ≡ n)
only_packet p q ws n m e em small long le s =
    let used : n ≡ 8 + words_for (count_of ws) = used_is p ws n le s in
    let same : p ≡ packet_at ws =
    one_packet p (packet_at ws) _ (rw used at s) (spelled_at ws (omega arith) (omega arith)) in
    (e ∙ sym same, omega arith)

-- words that spell a packet have no fault
pub no_words_fault : (p : PacketView) (ws : List ℕ) → Spells p ws → words_fault ws ≡ None
no_words_fault p ws s =
    let small : count_of ws ≤ 488 = omega (arith, s.count, s.small) in
    let long : length ws ≡ 8 + words_for (count_of ws) =
    omega (arith, length-drop 8 ws, s.count, s.small, s.header, s.body.size) in
    grind (arith, nat_tests)

-- and are what they are read as, to their end
pub whole_packet : (p : PacketView) (ws : List ℕ) → Spells p ws
    → (p ≡ packet_at ws) × (length ws ≡ 8 + words_for (count_of ws))
whole_packet p ws s =
    let small : count_of ws ≤ 488 = omega (arith, s.count, s.small) in
    let long : length ws ≡ 8 + words_for (count_of ws) =
    omega (arith, length-drop 8 ws, s.count, s.small, s.header, s.body.size) in
    let all : take (8 + words_for (count_of ws)) ws ≡ ws = take_all (8 + words_for (count_of ws)) ws (omega arith) in
    (one_packet p (packet_at ws) ws s (rw all at (spelled_at ws small (omega arith))), long)
