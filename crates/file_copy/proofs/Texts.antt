-- Texts that come back.
use Rattle.std.proofs.Common.{◌≡◌, ℕ, Bool, true, false, cond, List, [], ◌∷◌, Some, None, refl, ap, ◌∙◌, sym, subst, arith}
use Rattle.std.specs.Prelude.{◌==◌, ◌||◌, map, find, if◌then◌else◌}
use Rattle.std.proofs.lemmas.Bool.{eqb-true}
use Rattle.file_copy.specs.declared.text.Charset.{Charset}
use Rattle.file_copy.specs.declared.text.Charset.TheVariants as c
use Rattle.file_copy.specs.Text.{lisp_byte, ascii_byte, byte_in, other_set, is_lost}

-- ---- one of four bytes, or none of them

one_or_not : (b k : ℕ) (P : ℕ → Type 0) (v : Bool) → (b == k) ≡ v → P k → ((b == k) ≡ false → P b) → P b
one_or_not b k P true e p f = subst P (sym (eqb-true b k e)) p
one_or_not b k P false e p f = f e

four_or_not : (b k l m n : ℕ) (P : ℕ → Type 0) → P k → P l → P m → P n
    → ((b == k) ≡ false → (b == l) ≡ false → (b == m) ≡ false → (b == n) ≡ false → P b) → P b
four_or_not b k l m n P p q r s f =
    one_or_not b k P (b == k) refl p
    (λ e. one_or_not b l P (b == l) refl q
    (λ g. one_or_not b m P (b == m) refl r (λ h. one_or_not b n P (b == n) refl s (f e g h))))

none_chosen : (p q r s : Bool) (t u v w x : ℕ) → p ≡ false → q ≡ false → r ≡ false → s ≡ false
    → (if p then t else (if q then u else (if r then v else (if s then w else x)))) ≡ x
none_chosen p q r s t u v w x e f g h =
    λ i. if e i then t else (if f i then u else (if g i then v else (if h i then w else x)))

any_of : (p q r s : Bool) → p ≡ false → q ≡ false → r ≡ false → s ≡ false → (p || q || r || s) ≡ false
any_of p q r s e f g h = λ i. e i || f i || g i || h i

first_not : (p q : Bool) → (p || q) ≡ false → p ≡ false
first_not true q h = cc
first_not false q h = refl

second_not : (p q : Bool) → (p || q) ≡ false → q ≡ false
second_not true q h = cc
second_not false q h = h

-- ---- one byte

byte_back : (set : Charset) (b : ℕ) → is_lost set b ≡ false → byte_in (other_set set) (byte_in set b) ≡ b
byte_back c.LispMachine b =
    four_or_not b 8 9 10 12 (λ x. is_lost c.LispMachine x ≡ false → ascii_byte (lisp_byte x) ≡ x) (λ h. refl)
    (λ h. refl) (λ h. refl) (λ h. refl)
    (λ e f g k h. ap ascii_byte (none_chosen _ _ _ _ 136 137 141 140 b e f g k)
    ∙ (let three = first_not (b == 136 || b == 137 || b == 140) (b == 141) h in
    let two = first_not (b == 136 || b == 137) (b == 140) three in
    none_chosen _ _ _ _ 8 9 10 12 b (first_not (b == 136) (b == 137) two) (second_not (b == 136) (b == 137) two)
    (second_not (b == 136 || b == 137 || b == 140) (b == 141) h) (second_not (b == 136 || b == 137) (b == 140) three)))
byte_back c.Ascii b =
    four_or_not b 136 137 141 140 (λ x. is_lost c.Ascii x ≡ false → lisp_byte (ascii_byte x) ≡ x) (λ h. refl)
    (λ h. refl) (λ h. refl) (λ h. refl)
    (λ e f g k h. ap lisp_byte (none_chosen _ _ _ _ 8 9 10 12 b e f g k)
    ∙ (let three = first_not (b == 8 || b == 9 || b == 10) (b == 12) h in
    let two = first_not (b == 8 || b == 9) (b == 10) three in
    none_chosen _ _ _ _ 136 137 141 140 b (first_not (b == 8) (b == 9) two) (second_not (b == 8) (b == 9) two)
    (second_not (b == 8 || b == 9) (b == 10) three) (second_not (b == 8 || b == 9 || b == 10) (b == 12) h)))

byte_lost : (set : Charset) (b : ℕ) → is_lost set b ≡ true → byte_in (other_set set) (byte_in set b) ≡ b → ⊥
byte_lost c.LispMachine b =
    four_or_not b 136 137 140 141 (λ x. is_lost c.LispMachine x ≡ true → ascii_byte (lisp_byte x) ≡ x → ⊥)
    (λ h k. let l : 8 ≡ 136 = k in omega arith) (λ h k. let l : 9 ≡ 137 = k in omega arith)
    (λ h k. let l : 12 ≡ 140 = k in omega arith) (λ h k. let l : 10 ≡ 141 = k in omega arith)
    (λ e f g k h l. let w : true ≡ false = sym h ∙ any_of _ _ _ _ e f g k in cc)
byte_lost c.Ascii b =
    four_or_not b 8 9 10 12 (λ x. is_lost c.Ascii x ≡ true → lisp_byte (ascii_byte x) ≡ x → ⊥)
    (λ h k. let l : 136 ≡ 8 = k in omega arith) (λ h k. let l : 137 ≡ 9 = k in omega arith)
    (λ h k. let l : 141 ≡ 10 = k in omega arith) (λ h k. let l : 140 ≡ 12 = k in omega arith)
    (λ e f g k h l. let w : true ≡ false = sym h ∙ any_of _ _ _ _ e f g k in cc)

-- ---- a text

-- a text put into a set and back
abbrev there_and_back : Charset → List ℕ → List ℕ
there_and_back set bytes = map (byte_in (other_set set)) (map (byte_in set) bytes)

back_by : (set : Charset) (x : ℕ) (xs : List ℕ) (v : Bool) → is_lost set x ≡ v
    → cond v (Some x) (find (is_lost set) xs) ≡ None
    → (find (is_lost set) xs ≡ None → there_and_back set xs ≡ xs) → there_and_back set (x ∷ xs) ≡ x ∷ xs
back_by set x xs true e h f = cc
back_by set x xs false e h f = ap (λ y. y ∷ there_and_back set xs) (byte_back set x e) ∙ ap (λ l. x ∷ l) (f h)

pub text_back : (set : Charset) (bytes : List ℕ) → find (is_lost set) bytes ≡ None → there_and_back set bytes ≡ bytes
text_back set [] h = refl
text_back set (x ∷ xs) h = back_by set x xs (is_lost set x) refl h (text_back set xs)

lost_by : (set : Charset) (x : ℕ) (xs : List ℕ) (b : ℕ) (v : Bool) → is_lost set x ≡ v
    → cond v (Some x) (find (is_lost set) xs) ≡ Some b
    → (find (is_lost set) xs ≡ Some b → there_and_back set xs ≡ xs → ⊥) → there_and_back set (x ∷ xs) ≡ x ∷ xs → ⊥
lost_by set x xs b true e h f k = byte_lost set x e cc
lost_by set x xs b false e h f k = f h cc

pub text_lost : (set : Charset) (bytes : List ℕ) (b : ℕ) → find (is_lost set) bytes ≡ Some b
    → there_and_back set bytes ≡ bytes → ⊥
text_lost set [] b h k = cc
text_lost set (x ∷ xs) b h k = lost_by set x xs b (is_lost set x) refl h (text_lost set xs b) k
