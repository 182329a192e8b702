-- A load that is built in a buffer.
use Rattle.std.proofs.Common.{◌≡◌, ℕ, ◌+◌, ◌*◌, ◌<◌, ◌≤◌, true, List, [], ◌∷◌, ◌++◌, length, get_or, set, take, drop, refl, arith, ap, ◌∙◌, sym, subst, not, ◌&&◌, eqb, leb, nat_lt, length-append}
use Rattle.std.proofs.Math.Seq.{take-set-lt}
use Rattle.std.proofs.lemmas.List.{get_or-take}
use Rattle.std.proofs.lemmas.List.Elements.{All-append, All-cons, All-head, All-nil}
use Rattle.std.proofs.lemmas.Bool.Decides.{nat_tests}
use Rattle.chaos_packet.specs.Packet.{PacketView}
use Rattle.chaos_packet.specs.Words.{Spells, spelling_of, words_for}
use Rattle.chaos_link.specs.Bundle.{bytes_for, fit_within, spelling_of_all}
use Rattle.chaos_link.specs.Datagram.{wire, words_of}
use Rattle.chaos_link.specs.Loads.{IsBuilt, joins, load_in}
use Rattle.chaos_link.specs.Packets.{Carries2, mark_of, packets_at}
use Rattle.chaos_link.proofs.Bundled.{bytes_behind, carried_together, each_behind, fit, sent_fit, spelled_in_turn, spelling_behind, wire-append}
use Rattle.chaos_link.proofs.Several.{all_read}
use Rattle.chaos_link.proofs.Words.{words_of-wire}

-- byte 3 counts the packets
pub number_is : (load : List PacketView) (to end : ℕ) (bytes : List ℕ) → IsBuilt load to end bytes
    → get_or bytes 3 0 ≡ length load
number_is load to end bytes built =
    let inside : 3 < end = omega (arith, built.size) in
    sym (get_or-take end bytes 3 0 inside) ∙ ap (λ l. get_or l 3 0) built.front

-- and what is read of the bytes is the load
pub view_of : (load : List PacketView) (to end : ℕ) (bytes : List ℕ) → IsBuilt load to end bytes
    → load_in end bytes ≡ load
view_of load to end bytes built =
    let words : words_of (drop 4 (take end bytes)) ≡ spelling_of_all load =
    ap (λ l. words_of (drop 4 l)) built.front ∙ words_of-wire (spelling_of_all load) in
    ap (λ n. packets_at n (words_of (drop 4 (take end bytes)))) (number_is load to end bytes built)
    ∙ ap (packets_at (length load)) words
    ∙ (all_read load 1 (spelling_of_all load) (spelled_in_turn load built.spelled)).packets

pub built_in : (load : List PacketView) (to end : ℕ) (bytes : List ℕ) → IsBuilt load to end bytes
    → IsBuilt (load_in end bytes) to end bytes
built_in load to end bytes built =
    subst (λ (ps : List PacketView). IsBuilt ps to end bytes) (sym (view_of load to end bytes built)) built

pub built_carries : (load : List PacketView) (to end : ℕ) (bytes : List ℕ) → IsBuilt load to end bytes
    → Carries2 load (take end bytes)
built_carries load to end bytes built =
    rw built.front (carried_together load (sent_fit load built.fit) (spelled_in_turn load built.spelled))

-- ---- the first packet

pub one_fits : (p : PacketView) → length p.body ≤ 488 → fit_within 1472 (p ∷ []) ≡ true
one_fits p small =
    let bytes : 4 + bytes_for (p ∷ []) ≤ 1472 = omega arith in
    grind (arith, nat_tests)

-- ---- one more

-- whether a packet joins shows in where the load goes, in byte 3, and in the bytes
pub joins_is : (load : List PacketView) (p : PacketView) (to end n : ℕ) (bytes : List ℕ) → IsBuilt load to end bytes
    → n ≡ 2 * (8 + words_for (length p.body))
    → joins load p ≡ (eqb p.dst to && (nat_lt (get_or bytes 3 0) 8 && not (nat_lt 1472 (end + n))))
joins_is [] p to end n bytes built size = absurd (omega (arith, (fit 1472 [] built.fit).some))
joins_is (first ∷ others) p to end n bytes built size =
    let number = number_is (first ∷ others) to end bytes built in
    let more = bytes_behind (first ∷ others) p in
    let one : first.dst ≡ to = All-head (λ q. q.dst ≡ to) first others built.one in
    let count : length (first ∷ others ++ p ∷ []) ≡ length (first ∷ others) + 1 =
    length-append (first ∷ others) (p ∷ []) in
    let few : nat_lt (length (first ∷ others ++ p ∷ [])) 9 ≡ nat_lt (get_or bytes 3 0) 8 = grind (arith, nat_tests) in
    let some : nat_lt 0 (length (first ∷ others ++ p ∷ [])) ≡ true = grind (arith, nat_tests) in
    let all : 4 + bytes_for (first ∷ others ++ p ∷ []) ≡ end + n = omega (arith, more, built.size, size) in
    rw (one, some, few, all) refl

pub joined_built : (load : List PacketView) (p : PacketView) (to end new_end : ℕ) (bytes new : List ℕ)
    → IsBuilt load to end bytes → joins load p ≡ true
    → Spells p (spelling_of p) → new_end ≡ end + 2 * (8 + words_for (length p.body))
    → take new_end new ≡ take end (set bytes 3 (get_or bytes 3 0 + 1)) ++ wire (spelling_of p)
    → IsBuilt (load ++ p ∷ []) to new_end new
joined_built [] p to end new_end bytes new built h spelled size front =
    absurd (omega (arith, (fit 1472 [] built.fit).some))
joined_built (first ∷ others) p to end new_end bytes new built h spelled size front =
    let load = first ∷ others in
    let one : first.dst ≡ to = All-head (λ q. q.dst ≡ to) first others built.one in
    let same : p.dst ≡ first.dst = grind (arith, nat_tests) in
    let number = number_is load to end bytes built in
    let count : get_or bytes 3 0 + 1 ≡ length (load ++ p ∷ []) = omega (arith, number, length-append load (p ∷ [])) in
    let inside : 3 < end = omega (arith, built.size) in
    let counted : take end (set bytes 3 (get_or bytes 3 0 + 1))
    ≡ mark_of (length (load ++ p ∷ [])) ++ wire (spelling_of_all load) =
    take-set-lt end bytes 3 (get_or bytes 3 0 + 1) inside ∙ ap (λ l. set l 3 (get_or bytes 3 0 + 1)) built.front
    ∙ ap (λ n. mark_of n ++ wire (spelling_of_all load)) count in
    record {
      fit = grind arith;
      one =
          All-append (λ q. q.dst ≡ to) load (p ∷ []) built.one
          (All-cons (λ q. q.dst ≡ to) p [] (same ∙ one) (All-nil (λ q. q.dst ≡ to)));
      spelled = each_behind load p built.spelled spelled;
      size = omega (arith, size, built.size, bytes_behind load p);
      front = front ∙ ap (λ l. l ++ wire (spelling_of p)) counted
          ∙ ap (λ l. mark_of (length (load ++ p ∷ [])) ++ l)
          (sym (wire-append (spelling_of_all load) (spelling_of p)) ∙ ap wire (sym (spelling_behind load p)));
    }

-- where the load has room for one more, whether a packet joins is read off the bytes
pub in_bytes : (load : List PacketView) (p : PacketView) (to end n : ℕ) (bytes : List ℕ) → IsBuilt load to end bytes
    → n ≡ 2 * (8 + words_for (length p.body))
    → p.dst ≡ to → (get_or bytes 3 0 ≡ 8 → ⊥) → leb (end + n) 1472 ≡ joins load p
in_bytes load p to end n bytes built size same other =
    let count = number_is load to end bytes built in
    let few : get_or bytes 3 0 < 8 = omega (arith, count, other, (fit 1472 load built.fit).few) in
    let yes : eqb p.dst to ≡ true = grind (arith, nat_tests) in
    let more : nat_lt (get_or bytes 3 0) 8 ≡ true = grind (arith, nat_tests) in
    let so : not (nat_lt 1472 (end + n)) ≡ leb (end + n) 1472 = grind (arith, nat_tests) in
    sym (joins_is load p to end n bytes built size ∙ rw (yes, more) so)

-- and there is room for one that does
pub together : (load : List PacketView) (p : PacketView) → joins load p ≡ true → fit_within 1472 (load ++ p ∷ []) ≡ true
together [] p h = cc
together (first ∷ others) p h = grind arith

pub room_for : (load : List PacketView) (p : PacketView) (to end : ℕ) (bytes : List ℕ) → IsBuilt load to end bytes
    → joins load p ≡ true
    → end + 2 * (8 + words_for (length p.body)) ≤ 1472
room_for load p to end bytes built h =
    omega (arith, built.size, bytes_behind load p, (fit 1472 (load ++ p ∷ []) (together load p h)).bytes)
