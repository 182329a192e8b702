-- Packets that wait, cut into loads.
use Rattle.std.proofs.Common.{◌≡◌, ℕ, ◌+◌, ◌≤◌, true, false, eqb, List, [], ◌∷◌, ◌++◌, length, refl, arith, ap, ◌∙◌, sym, subst, All, append_assoc, append-nil, length-append}
use Rattle.std.specs.List.{Contains}
use Rattle.std.proofs.lemmas.Bool.{cond_both, cond-true, cond-false}
use Rattle.std.proofs.lemmas.Bool.Decides.{nat_tests}
use Rattle.std.proofs.lemmas.List.Elements.{All-append, All-cons, All-contains, All-head, All-nil, All-same, All-tail, Contains-append_right}
use Rattle.chaos_packet.specs.Packet.{PacketView}
use Rattle.chaos_link.specs.Bundle.{bytes_for, fit_within}
use Rattle.chaos_link.specs.Loads.{AreLoadsOf, AreLongest, EndsBefore, HasOneDestination, IsSmall, joins, loads_from, loads_of, packets_of}
use Rattle.chaos_link.proofs.Built.{one_fits, together}
use Rattle.chaos_link.proofs.Bundled.{fit}

-- ---- nothing is lost

whole_from : (load ps : List PacketView) → packets_of (loads_from load ps) ≡ load ++ ps
whole_from load [] = refl
whole_from load (p ∷ ps) = cond_both (joins load p) _ _ (λ loads. packets_of loads ≡ load ++ p ∷ ps)
    (λ with_it. whole_from (load ++ p ∷ []) ps ∙ append_assoc load (p ∷ []) ps)
    (λ apart. ap (λ qs. load ++ qs) (whole_from (p ∷ []) ps))

pub whole : (ps : List PacketView) → packets_of (loads_of ps) ≡ ps
whole [] = refl
whole (p ∷ ps) = whole_from (p ∷ []) ps

-- ---- each fits

fit_from : (load ps : List PacketView) → fit_within 1472 load ≡ true → All IsSmall ps
    → All (λ l. fit_within 1472 l ≡ true) (loads_from load ps)
fit_from load [] fits small = All-cons (λ l. fit_within 1472 l ≡ true) load [] fits (All-nil (λ l. fit_within 1472 l ≡ true))
fit_from load (p ∷ ps) fits small = cond_both (joins load p) _ _ (λ loads. All (λ l. fit_within 1472 l ≡ true) loads)
    (λ with_it. fit_from (load ++ p ∷ []) ps (together load p with_it) (All-tail IsSmall p ps small))
    (λ apart. All-cons (λ l. fit_within 1472 l ≡ true) load _ fits
    (fit_from (p ∷ []) ps (one_fits p (All-head IsSmall p ps small)) (All-tail IsSmall p ps small)))

pub each_fits : (ps : List PacketView) → All IsSmall ps → All (λ l. fit_within 1472 l ≡ true) (loads_of ps)
each_fits [] small = All-nil (λ l. fit_within 1472 l ≡ true)
each_fits (p ∷ ps) small = fit_from (p ∷ []) ps (one_fits p (All-head IsSmall p ps small)) (All-tail IsSmall p ps small)

-- ---- each has one destination

alone : (p : PacketView) → HasOneDestination (p ∷ [])
alone p = (p.dst, All-cons (λ q. q.dst ≡ p.dst) p [] refl (All-nil (λ q. q.dst ≡ p.dst)))

same_destination : (first : PacketView) (others : List PacketView) (p : PacketView) → joins (first ∷ others) p ≡ true
    → p.dst ≡ first.dst
same_destination first others p h = grind (arith, nat_tests)

goes_too : (load : List PacketView) (p : PacketView) → HasOneDestination load → joins load p ≡ true
    → HasOneDestination (load ++ p ∷ [])
goes_too [] p one h = alone p
goes_too (first ∷ others) p one h =
    let to : p.dst ≡ one.0 = same_destination first others p h ∙ All-head (λ q. q.dst ≡ one.0) first others one.1 in
    (one.0, All-append (λ q. q.dst ≡ one.0) (first ∷ others) (p ∷ []) one.1 (All-cons (λ q. q.dst ≡ one.0) p [] to (All-nil (λ q. q.dst ≡ one.0))))

one_from : (load ps : List PacketView) → HasOneDestination load → All HasOneDestination (loads_from load ps)
one_from load [] one = All-cons HasOneDestination load [] one (All-nil HasOneDestination)
one_from load (p ∷ ps) one = cond_both (joins load p) _ _ (λ loads. All HasOneDestination loads)
    (λ with_it. one_from (load ++ p ∷ []) ps (goes_too load p one with_it))
    (λ apart. All-cons HasOneDestination load _ one (one_from (p ∷ []) ps (alone p)))

pub each_one : (ps : List PacketView) → All HasOneDestination (loads_of ps)
each_one [] = All-nil HasOneDestination
each_one (p ∷ ps) = one_from (p ∷ []) ps (alone p)

-- ---- each is the longest front

-- a load that begins with a packet still does with more of them
begins : (load : List PacketView) (q : PacketView) (qs ps : List PacketView) → joins load q ≡ false
    → EndsBefore load (loads_from (q ∷ qs) ps)
begins load q qs [] apart = apart
begins load q qs (p ∷ ps) apart = cond_both (joins (q ∷ qs) p) _ _ (λ loads. EndsBefore load loads)
    (λ with_it. begins load q (qs ++ p ∷ []) ps apart)
    (λ other. apart)

longest_from : (load ps : List PacketView) → AreLongest (loads_from load ps)
longest_from load [] = (tt, tt)
longest_from load (p ∷ ps) = cond_both (joins load p) _ _ AreLongest
    (λ with_it. longest_from (load ++ p ∷ []) ps)
    (λ apart. (begins load p [] ps apart, longest_from (p ∷ []) ps))

pub each_longest : (ps : List PacketView) → AreLongest (loads_of ps)
each_longest [] = tt
each_longest (p ∷ ps) = longest_from (p ∷ []) ps

-- ---- and nothing else is all of that

bytes_of_both : (xs ys : List PacketView) → bytes_for (xs ++ ys) ≡ bytes_for xs + bytes_for ys
bytes_of_both [] ys = omega arith
bytes_of_both (x ∷ xs) ys = omega (arith, bytes_of_both xs ys)

-- a front of packets that fit fits, too
front_fits : (load : List PacketView) (p : PacketView) (more : List PacketView) → fit_within 1472 (load ++ p ∷ more) ≡ true
    → fit_within 1472 (load ++ p ∷ []) ≡ true
front_fits load p more h =
    let parts = fit 1472 (load ++ p ∷ more) h in
    let some : length (load ++ p ∷ []) ≡ length load + 1 = length-append load (p ∷ []) in
    let all : length (load ++ p ∷ more) ≡ length load + (length more + 1) =
    length-append load (p ∷ more) ∙ omega arith in
    let bytes : 4 + bytes_for (load ++ p ∷ []) ≤ 1472 =
    omega (arith, parts.bytes, bytes_of_both load (p ∷ more), bytes_of_both load (p ∷ [])) in
    let few : length (load ++ p ∷ []) ≤ 8 = omega (arith, parts.few, some, all) in
    grind (arith, nat_tests)

in_front : (m : PacketView) (more : List PacketView) → Contains (m ∷ more) m
in_front m more = (0, omega arith, refl)

front_joins : (first : PacketView) (others : List PacketView) (m : PacketView) (more : List PacketView) (to : ℕ)
    → fit_within 1472 (first ∷ others ++ m ∷ more) ≡ true → All (λ p. p.dst ≡ to) (first ∷ others ++ m ∷ more)
    → joins (first ∷ others) m ≡ true
front_joins first others m more to h one =
    let there : first.dst ≡ to = All-head (λ p. p.dst ≡ to) first _ one in
    let here : m.dst ≡ to =
    All-contains (λ p. p.dst ≡ to) (first ∷ others ++ m ∷ more) m one
    (Contains-append_right (first ∷ others) (m ∷ more) m (in_front m more)) in
    let same : eqb m.dst first.dst ≡ true = grind (arith, nat_tests) in
    rw (same, front_fits (first ∷ others) m more h) refl

-- the next packet doesn't join the load
abbrev NextIsApart : List PacketView → List PacketView → Type 0
NextIsApart load [] = Unit {0}
NextIsApart load (q ∷ qs) = joins load q ≡ false

next_is_apart : (load : List PacketView) (loads : List (List PacketView)) → All (λ l. fit_within 1472 l ≡ true) loads
    → EndsBefore load loads → NextIsApart load (packets_of loads)
next_is_apart load [] fits ends = tt
next_is_apart load ([] ∷ loads) fits ends =
    absurd (omega (arith, (fit 1472 [] (All-head (λ l. fit_within 1472 l ≡ true) [] loads fits)).some))
next_is_apart load ((p ∷ ps) ∷ loads) fits ends = ends

-- so a load that is begun takes in all that is left of it
taken_in : (first : PacketView) (others more rest : List PacketView) (to : ℕ)
    → fit_within 1472 (first ∷ others ++ more) ≡ true → All (λ p. p.dst ≡ to) (first ∷ others ++ more)
    → NextIsApart (first ∷ others ++ more) rest
    → loads_from (first ∷ others) (more ++ rest) ≡ (first ∷ others ++ more) ∷ loads_of rest
taken_in first others [] [] to fits one apart = ap (λ l. (first ∷ l) ∷ []) (sym (append-nil others))
taken_in first others [] (q ∷ qs) to fits one apart =
    let same : joins (first ∷ others) q ≡ false = ap (λ l. joins (first ∷ l) q) (sym (append-nil others)) ∙ apart in
    cond-false (joins (first ∷ others) q) _ _ same ∙ ap (λ l. (first ∷ l) ∷ loads_of (q ∷ qs)) (sym (append-nil others))
taken_in first others (m ∷ more) rest to fits one apart =
    let whole_is : (others ++ m ∷ []) ++ more ≡ others ++ m ∷ more = append_assoc others (m ∷ []) more in
    cond-true (joins (first ∷ others) m) _ _ (front_joins first others m more to fits one)
    ∙ taken_in first (others ++ m ∷ []) more rest to (ap (λ l. fit_within 1472 (first ∷ l)) whole_is ∙ fits)
    (All-same (λ p. p.dst ≡ to) _ (first ∷ others ++ m ∷ more) (ap (λ l. first ∷ l) whole_is) one)
    (subst (λ (l : List PacketView). NextIsApart (first ∷ l) rest) (sym whole_is) apart)
    ∙ ap (λ l. (first ∷ l) ∷ loads_of rest) whole_is

only_from : (loads : List (List PacketView)) → All (λ l. fit_within 1472 l ≡ true) loads → All HasOneDestination loads
    → AreLongest loads → loads ≡ loads_of (packets_of loads)
only_from [] fits one longest = refl
only_from ([] ∷ loads) fits one longest =
    absurd (omega (arith, (fit 1472 [] (All-head (λ l. fit_within 1472 l ≡ true) [] loads fits)).some))
only_from ((p ∷ ps) ∷ loads) fits one longest =
    let others = All-tail (λ l. fit_within 1472 l ≡ true) (p ∷ ps) loads fits in
    let to = All-head HasOneDestination (p ∷ ps) loads one in
    ap (λ ls. (p ∷ ps) ∷ ls) (only_from loads others (All-tail HasOneDestination (p ∷ ps) loads one) longest.1)
    ∙ sym
    (taken_in p [] ps (packets_of loads) to.0 (All-head (λ l. fit_within 1472 l ≡ true) (p ∷ ps) loads fits) to.1
    (next_is_apart (p ∷ ps) loads others longest.0))

pub only : (ps : List PacketView) (loads : List (List PacketView)) → AreLoadsOf ps loads → loads ≡ loads_of ps
only ps loads are = only_from loads are.fit are.one are.longest ∙ ap loads_of are.whole
