-- Lists that begin others, and sets of indices.
use Rattle.std.proofs.Common.{◌≡◌, ℕ, zero, suc, ◌<◌, ◌≤◌, List, [], ◌∷◌, ◌++◌, length, take, true, Some, refl, ap, arith, rules, ◌⊎◌}
use Rattle.std.specs.Prelude.{slice_get}
use Rattle.std.proofs.lemmas.Grind.{common_steps}
use Rattle.std.specs.Ordering.{nat_cmp}
use Rattle.std.specs.FinSet.{FinSet, contains, insert, members}
use Rattle.chaos_packet.specs.Item.{ItemView}
use Rattle.chaos_packet.specs.Begins.{Begins}

-- ---- sets of indices

pub contains-insert_cases :
    (i : ℕ) (g : FinSet nat_cmp) (j : ℕ) → contains (insert g i) j ≡ true → (j ≡ i) ⊎ (contains g j ≡ true)
contains-insert_cases i g j h = grind (members, rules)

pub contains-insert_keeps : (i : ℕ) (g : FinSet nat_cmp) (j : ℕ) → contains g j ≡ true → contains (insert g i) j ≡ true
contains-insert_keeps i g j h = grind (members, rules)

pub contains-insert_same : (i : ℕ) (g : FinSet nat_cmp) → contains (insert g i) i ≡ true
contains-insert_same i g = grind (members, rules)

-- ---- lists

pub length-one_more : (xs : List ItemView) (x : ItemView) → length (xs ++ x ∷ []) ≡ suc (length xs)
length-one_more xs x = grind (arith, common_steps)

-- an index inside a list has a member
pub member_at : (xs : List ItemView) (i : ℕ) → i < length xs → (x : ItemView) × (slice_get xs i ≡ Some x)
member_at [] i h = absurd (omega arith)
member_at (y ∷ ys) zero h = (y, refl)
member_at (y ∷ ys) (suc i) h = member_at ys i (omega arith)

-- ---- beginnings

pub begins_itself : (xs : List ItemView) → Begins xs xs
begins_itself [] = refl
begins_itself (x ∷ xs) = let rest : take (length xs) xs ≡ xs = begins_itself xs in cc

-- a beginning of a list begins what goes on after it
pub begins_longer : (xs ys zs : List ItemView) → Begins xs ys → Begins xs (ys ++ zs)
begins_longer [] ys zs b = refl
begins_longer (x ∷ xs) [] zs b = absurd (cc)
begins_longer (x ∷ xs) (y ∷ ys) zs b =
    let tail : take (length xs) ys ≡ xs = cc in
    let rest : take (length xs) (ys ++ zs) ≡ xs = begins_longer xs ys zs tail in
    cc

-- a beginning goes on with the next member
pub begins_one_more :
    (xs ys : List ItemView) (x : ItemView) → Begins xs ys → slice_get ys (length xs) ≡ Some x → Begins (xs ++ x ∷ []) ys
begins_one_more [] [] x b h = absurd (cc)
begins_one_more [] (y ∷ ys) x b h = let e : y ≡ x = cc in ap (λ (z : ItemView). z ∷ []) e
begins_one_more (z ∷ zs) [] x b h = absurd (cc)
begins_one_more (z ∷ zs) (y ∷ ys) x b h =
    let tail : take (length zs) ys ≡ zs = cc in
    let rest : take (length (zs ++ x ∷ [])) ys ≡ zs ++ x ∷ [] = begins_one_more zs ys x tail h in
    cc

pub begins_through : (xs ys zs : List ItemView) → Begins xs ys → Begins ys zs → Begins xs zs
begins_through [] ys zs b c = refl
begins_through (x ∷ xs) [] zs b c = absurd (cc)
begins_through (x ∷ xs) (y ∷ ys) [] b c = absurd (cc)
begins_through (x ∷ xs) (y ∷ ys) (z ∷ zs) b c =
    let first : take (length xs) ys ≡ xs = cc in
    let second : take (length ys) zs ≡ ys = cc in
    let rest : take (length xs) zs ≡ xs = begins_through xs ys zs first second in
    cc

pub begins_shorter : (xs ys : List ItemView) → Begins xs ys → length xs ≤ length ys
begins_shorter [] ys b = omega arith
begins_shorter (x ∷ xs) [] b = absurd (cc)
begins_shorter (x ∷ xs) (y ∷ ys) b =
    let tail : take (length xs) ys ≡ xs = cc in
    let rest = begins_shorter xs ys tail in
    omega arith

-- the members of a beginning stand at the same places
pub slice_get-begins :
    (xs ys : List ItemView) (i : ℕ) (x : ItemView) → Begins xs ys → slice_get xs i ≡ Some x → slice_get ys i ≡ Some x
slice_get-begins [] ys i x b h = absurd (cc)
slice_get-begins (z ∷ xs) [] i x b h = absurd (cc)
slice_get-begins (z ∷ xs) (y ∷ ys) zero x b h = cc
slice_get-begins (z ∷ xs) (y ∷ ys) (suc i) x b h =
    let tail : take (length xs) ys ≡ xs = cc in slice_get-begins xs ys i x tail h
