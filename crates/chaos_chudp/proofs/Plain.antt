-- The faults of words between head and trailer, and behind the mark of a datagram of version 1.
use Rattle.std.proofs.Common.{◌≡◌, ℕ, suc, ◌+◌, ◌-◌, ◌*◌, ◌<◌, ◌≤◌, ◌/◌, Bool, true, false, List, [], ◌∷◌, ◌++◌, length, take, drop, length-drop, length-take-le, append_assoc, refl, arith, ap, ap₂, ◌∙◌, sym, cond, nat_lt, Option, Some, None, inl, inr}
use Rattle.std.proofs.lemmas.List.{take_at, drop-take, drop-append-le, take-take}
use Rattle.std.proofs.lemmas.Bool.{cases_lt}
use Rattle.std.proofs.lemmas.Bool.Decides.{nat_tests}
use Rattle.chaos_packet.specs.Words.{words_fault, words_for, count_of}
use Rattle.chaos_packet.specs.declared.fault.PacketFault.{PacketFault}
use Rattle.chaos_packet.specs.declared.fault.PacketFault.TheVariants.{Truncated}
use Rattle.chaos_link.specs.Datagram.{mark, wire, words_of, fault_after, fault_of}
use Rattle.chaos_link.specs.declared.fault.LinkFault.TheVariants as link
use Rattle.chaos_link.proofs.Words.{length-words_of}
use Rattle.chaos_link.proofs.Made.{truncated, whole}
use Rattle.chaos_chudp.specs.Sum.{checksum}
use Rattle.chaos_chudp.specs.Chudp.{chudp_form, fault_between, fault_past, middle, plain_of}
use Rattle.chaos_chudp.specs.declared.fault.ChudpFault.{ChudpFault}
use Rattle.chaos_chudp.specs.declared.fault.ChudpFault.TheVariants.{Packet, Trailing}

-- too few words for the count
pub cut_short : (ws : List ℕ) (n : ℕ) → n ≡ count_of (words_of ws) → 8 ≤ length ws / 2 → n ≤ 488
    → length ws / 2 < 8 + words_for n → fault_between ws ≡ Some (Packet Truncated)
cut_short ws n e header small few =
    ap (fault_past ws) (truncated (words_of ws) n e (omega (arith, length-words_of ws)) small (omega (arith, length-words_of ws)))

whole_words : (ws : List ℕ) (n : ℕ) → n ≡ count_of (words_of ws) → 8 ≤ length ws / 2 → n ≤ 488
    → 8 + words_for n ≤ length ws / 2 → fault_between ws ≡ fault_past ws None
whole_words ws n e header small enough =
    ap (fault_past ws) (whole (words_of ws) n e (omega (arith, length-words_of ws)) small (omega (arith, length-words_of ws)))

-- bytes behind the data
pub left_over : (ws : List ℕ) (n : ℕ) → n ≡ count_of (words_of ws) → 8 ≤ length ws / 2 → n ≤ 488
    → 8 + words_for n ≤ length ws / 2 → 2 * (8 + words_for n) < length ws → fault_between ws ≡ Some Trailing
left_over ws n e header small enough more =
    let test : nat_lt (2 * (8 + words_for (count_of (words_of ws)))) (length ws) ≡ true =
    rw (← e) (grind (arith, nat_tests)) in
    whole_words ws n e header small enough ∙ rw test refl

-- and none
pub no_fault : (ws : List ℕ) (n : ℕ) → n ≡ count_of (words_of ws) → 8 ≤ length ws / 2 → n ≤ 488
    → 8 + words_for n ≤ length ws / 2 → length ws ≤ 2 * (8 + words_for n) → fault_between ws ≡ None
no_fault ws n e header small enough all =
    let test : nat_lt (2 * (8 + words_for (count_of (words_of ws)))) (length ws) ≡ false =
    rw (← e) (grind (arith, nat_tests)) in
    whole_words ws n e header small enough ∙ rw test refl

-- ---- the same words in a datagram of version 1

fault_behind : (ws : List ℕ) → fault_of (mark ++ ws) ≡ fault_after (mark ++ ws) (words_fault (words_of ws))
fault_behind ws =
    let long : nat_lt (length (mark ++ ws)) 4 ≡ false = grind (arith, nat_tests) in
    rw long refl

none_either : {A B : Type 0} (t u : Bool) (a : A) (b : B) → t ≡ u → cond t (Some a) None ≡ None → cond u (Some b) None ≡ None
none_either t true a b same e =
    let set : cond t (Some a) None ≡ Some a = ap (λ (v : Bool). cond v (Some a) None) same in
    cc (set, e)
none_either t false a b same e = refl

-- four more on either side
alike : (m n : ℕ) → nat_lt (4 + m) (suc (suc (suc (suc n)))) ≡ nat_lt m n
alike m n =
    elim (cases_lt m n) [
      | inl less ↦
          let here : nat_lt m n ≡ true = grind (arith, nat_tests, less) in
          let there : nat_lt (4 + m) (suc (suc (suc (suc n)))) ≡ true = grind (arith, nat_tests, less) in
          there ∙ sym here
      | inr more ↦
          let here : nat_lt m n ≡ false = grind (arith, nat_tests, more) in
          let there : nat_lt (4 + m) (suc (suc (suc (suc n)))) ≡ false = grind (arith, nat_tests, more) in
          there ∙ sym here
    ]

none_there : (ws : List ℕ) (o : Option PacketFault) → fault_past ws o ≡ None → fault_after (mark ++ ws) o ≡ None
none_there ws None e =
    none_either _ _ Trailing link.Trailing (sym (alike (2 * (8 + words_for (count_of (words_of ws)))) (length ws))) e
none_there ws (Some f) e = cc

none_here : (ws : List ℕ) (o : Option PacketFault) → fault_after (mark ++ ws) o ≡ None → fault_past ws o ≡ None
none_here ws None e =
    none_either _ _ link.Trailing Trailing (alike (2 * (8 + words_for (count_of (words_of ws)))) (length ws)) e
none_here ws (Some f) e = cc

-- The words have no fault behind the mark exactly where they have none between head and trailer.
pub sound_there : (ws : List ℕ) → fault_between ws ≡ None → fault_of (mark ++ ws) ≡ None
sound_there ws none = fault_behind ws ∙ none_there ws (words_fault (words_of ws)) none

pub sound_here : (ws : List ℕ) → fault_of (mark ++ ws) ≡ None → fault_between ws ≡ None
sound_here ws none = none_here ws (words_fault (words_of ws)) (sym (fault_behind ws) ∙ none)

-- A fault is none there.
pub faulty_there : (ws : List ℕ) (f : ChudpFault) → fault_between ws ≡ Some f → fault_of (mark ++ ws) ≡ None → ⊥
faulty_there ws f fault none = let here : fault_between ws ≡ None = sound_here ws none in cc (fault, here)

-- ---- a mark in place of another head

pub take_marked : (n : ℕ) (l : List ℕ) → 4 ≤ n → take n (mark ++ l) ≡ mark ++ take (n - 4) l
take_marked n l h =
    let front : n ≡ suc (suc (suc (suc (n - 4)))) = omega (arith, h) in
    ap (λ m. take m (mark ++ l)) front

pub drop_front : (n : ℕ) (l : List ℕ) → 4 ≤ n → drop 4 (take n l) ≡ take (n - 4) (drop 4 l)
drop_front n l h = ap (λ m. drop 4 (take m l)) (omega (arith, h)) ∙ drop-take 4 (n - 4) l

-- The mark stands over the front of bytes that were copied.
pub copied : (bs rest : List ℕ) → 4 ≤ length bs → take (length bs) (mark ++ drop 4 (bs ++ rest)) ≡ mark ++ drop 4 bs
copied bs rest long =
    take_marked (length bs) (drop 4 (bs ++ rest)) long
    ∙ ap (λ l. mark ++ take (length bs - 4) l) (drop-append-le 4 bs rest long)
    ∙ ap (λ l. mark ++ l) (take_at (drop 4 bs) rest (length bs - 4) (length-drop 4 bs))

pub front_plain : (bs to : List ℕ) → 26 ≤ length bs
    → take (length (take (length bs - 6) bs)) to ≡ mark ++ drop 4 (take (length bs - 6) bs)
    → take (length bs - 6) to ≡ plain_of bs
front_plain bs to long over =
    let size : length (take (length bs - 6) bs) ≡ length bs - 6 = length-take-le (length bs - 6) bs (omega arith) in
    let less : length bs - 6 - 4 ≡ length bs - 10 = omega arith in
    ap (λ n. take n to) (sym size) ∙ over
    ∙ ap (λ l. mark ++ l) (drop_front (length bs - 6) bs (omega (arith, long)))
    ∙ ap (λ n. mark ++ take n (drop 4 bs)) less

-- and over the front of a datagram that came
pub opened : (bs : List ℕ) (n : ℕ) → 10 ≤ n → n ≤ length bs
    → take (n - 6) (mark ++ drop 4 bs) ≡ plain_of (take n bs)
opened bs n long fits =
    let size : length (take n bs) ≡ n = length-take-le n bs fits in
    let mid : middle (take n bs) ≡ take (n - 10) (drop 4 bs) =
    ap (λ m. take (m - 10) (drop 4 (take n bs))) size ∙ ap (take (n - 10)) (drop_front n bs (omega (arith, long)))
    ∙ take-take (n - 10) (n - 4) (drop 4 bs) (omega arith) in
    let less : n - 6 - 4 ≡ n - 10 = omega arith in
    take_marked (n - 6) (drop 4 bs) (omega (arith, long)) ∙ ap (λ m. mark ++ take m (drop 4 bs)) less
    ∙ ap (λ l. mark ++ l) (sym mid)

-- ---- the trailer

pub closed_up : (b0 b1 b2 b3 b4 : List ℕ) (end to me sum : ℕ) → 4 ≤ end → end ≤ length b0
    → b1 ≡ 1 ∷ 1 ∷ 0 ∷ 0 ∷ drop 4 b0
    → take (end + 2) b2 ≡ take end b1 ++ wire (to ∷ [])
    → take (end + 2 + 2) b3 ≡ take (end + 2) b2 ++ wire (me ∷ [])
    → sum ≡ checksum (words_of (take (end + 4 - 4) (drop 4 b3)))
    → take (end + 4 + 2) b4 ≡ take (end + 4) b3 ++ wire (sum ∷ [])
    → take (end + 6) b4 ≡ chudp_form to me (take end b0)
closed_up b0 b1 b2 b3 b4 end to me sum long fits head first second check third =
    let d = drop 4 (take end b0) in
    let body = d ++ wire (to ∷ me ∷ []) in
    let front : end ≡ suc (suc (suc (suc (end - 4)))) = omega (arith, long) in
    let headed : take end b1 ≡ 1 ∷ 1 ∷ 0 ∷ 0 ∷ take (end - 4) (drop 4 b0) =
    ap (take end) head ∙ ap (λ n. take n (1 ∷ 1 ∷ 0 ∷ 0 ∷ drop 4 b0)) front in
    let headed_too : take end b1 ≡ 1 ∷ 1 ∷ 0 ∷ 0 ∷ d =
    headed ∙ ap (λ l. 1 ∷ 1 ∷ 0 ∷ 0 ∷ l) (sym (drop_front end b0 long)) in
    let hops : take (end + 4) b3 ≡ 1 ∷ 1 ∷ 0 ∷ 0 ∷ body =
    ap (λ n. take n b3) (omega arith) ∙ second ∙ ap (λ l. l ++ wire (me ∷ [])) first
    ∙ append_assoc (take end b1) (wire (to ∷ [])) (wire (me ∷ [])) ∙ ap (λ l. l ++ wire (to ∷ me ∷ [])) headed_too in
    let summed : take (end + 4 - 4) (drop 4 b3) ≡ body =
    sym (drop_front (end + 4) b3 (omega (arith, long))) ∙ ap (drop 4) hops in
    let sum_is : sum ≡ checksum (words_of body) = check ∙ ap (λ l. checksum (words_of l)) summed in
    ap (λ n. take n b4) (omega arith) ∙ third ∙ ap₂ (λ l w. l ++ wire (w ∷ [])) hops sum_is
