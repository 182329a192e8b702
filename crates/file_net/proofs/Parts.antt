-- Parts of a history by what one connection said.
use Rattle.std.proofs.Common.{◌≡◌, ℕ, suc, ◌≤◌, ◌==◌, Bool, true, false, if◌then◌else◌, List, [], ◌∷◌, ◌++◌, drop, length, refl, sym, ap, ◌∙◌, arith, append_assoc}
use Rattle.std.proofs.lemmas.Bool.{false≢true, cond-true, cond-false, eqb-true, and_parts}
use Rattle.chaos_net.specs.Net.{Name, is_name}
use Rattle.chaos_net.proofs.Next.{same_name, other_name}
use Rattle.chaos_packet.specs.Begins.{Begins}
use Rattle.file_net.specs.History.{Transaction, Service, after_one, after_all, AreRight, commands_by, replies_to}
use Rattle.file_lab.proofs.BodyLists.{begins_split}
use Rattle.file_net.proofs.Lists.{commands_append, replies_append}

-- ---- names

pub is_same : (a b : Name) → is_name a b ≡ true → a ≡ b
is_same a b h =
    let p = and_parts (a.place == b.place) (a.turn == b.turn) h in
    let place : a.place ≡ b.place = eqb-true a.place b.place p.0 in
    let turn : a.turn ≡ b.turn = eqb-true a.turn b.turn p.1 in
    λ j. record { place = place j; turn = turn j }

pub is_apart : (a b : Name) → is_name a b ≡ false → a ≡ b → ⊥
is_apart a b h same = false≢true (sym h ∙ ap (λ z. is_name z b) same ∙ same_name b)

-- the session of another connection stays
pub other_session : (v : Service) (t : Transaction) (c : Name) → is_name t.by c ≡ false
    → (after_one v t).session c ≡ v.session c
other_session v t c h =
    cond-false (is_name c t.by) _ (v.session c) (other_name c t.by (λ same. is_apart t.by c h (sym same)))

-- ---- histories one behind the other

pub after_append : (v : Service) (h k : List Transaction) → after_all v (h ++ k) ≡ after_all (after_all v h) k
after_append v [] k = refl
after_append v (t ∷ h) k = after_append (after_one v t) h k

pub right_front : (v : Service) (h k : List Transaction) → AreRight v (h ++ k) → AreRight v h
right_front v [] k r = tt
right_front v (t ∷ h) k r = (r.0, right_front (after_one v t) h k r.1)

pub right_back : (v : Service) (h k : List Transaction) → AreRight v (h ++ k) → AreRight (after_all v h) k
right_back v [] k r = r
right_back v (t ∷ h) k r = right_back (after_one v t) h k r.1

-- ---- as many replies as commands

pub as_many : (c : Name) (h : List Transaction) → length (replies_to c h) ≡ length (commands_by c h)
as_many c [] = refl
as_many c (t ∷ h) = by (is_name t.by c) (as_many c h)
  where
    by : (b : Bool) → length (replies_to c h) ≡ length (commands_by c h)
        → length (if b then t.reply ∷ replies_to c h else replies_to c h)
        ≡ length (if b then t.command ∷ commands_by c h else commands_by c h)
    by true k = ap suc k
    by false k = k

-- ---- the first command of a connection

pub record First (c : Name) (h : List Transaction) (x : List ℕ) (xs : List (List ℕ)) : Type 0 where
  pub before : List Transaction
  pub transaction : Transaction
  pub later : List Transaction
  pub is : h ≡ before ++ transaction ∷ later
  pub none : commands_by c before ≡ []
  pub by : is_name transaction.by c ≡ true
  pub said : transaction.command ≡ x
  pub rest : commands_by c later ≡ xs
  pub replies : replies_to c h ≡ transaction.reply ∷ replies_to c later

pub head_eq : {X : Type 0} {x y : X} {xs ys : List X} → x ∷ xs ≡ y ∷ ys → x ≡ y
head_eq h = cc

pub tail_eq : {X : Type 0} {x y : X} {xs ys : List X} → x ∷ xs ≡ y ∷ ys → xs ≡ ys
tail_eq h = cc

pub first_of : (c : Name) (h : List Transaction) (x : List ℕ) (xs : List (List ℕ)) → commands_by c h ≡ x ∷ xs
    → First c h x xs
first_of c [] x xs e = absurd (cc)
first_of c (t ∷ h) x xs e = by (is_name t.by c) refl (λ said. first_of c h x xs said) e
  where
    by : (b : Bool) → is_name t.by c ≡ b → (commands_by c h ≡ x ∷ xs → First c h x xs)
        → (if b then t.command ∷ commands_by c h else commands_by c h) ≡ x ∷ xs → First c (t ∷ h) x xs
    by true is further e = record {
      before = [];
      transaction = t;
      later = h;
      is = refl;
      none = refl;
      by = is;
      said = head_eq e;
      rest = tail_eq e;
      replies = cond-true (is_name t.by c) (t.reply ∷ replies_to c h) (replies_to c h) is;
    }
    by false is further e =
        let k = further e in
        record {
          before = t ∷ k.before;
          transaction = k.transaction;
          later = k.later;
          is = ap (λ l. t ∷ l) k.is;
          none = cond-false (is_name t.by c) (t.command ∷ commands_by c k.before) (commands_by c k.before) is ∙ k.none;
          by = k.by;
          said = k.said;
          rest = k.rest;
          replies = cond-false (is_name t.by c) (t.reply ∷ replies_to c h) (replies_to c h) is ∙ k.replies;
        }

-- a history in which a connection said nothing leaves its session
pub silent : (c : Name) (v : Service) (h : List Transaction) → commands_by c h ≡ []
    → (after_all v h).session c ≡ v.session c
silent c v [] e = refl
silent c v (t ∷ h) e = by (is_name t.by c) refl (λ none. silent c (after_one v t) h none) e
  where
    by : (b : Bool) → is_name t.by c ≡ b
        → (commands_by c h ≡ [] → (after_all (after_one v t) h).session c ≡ (after_one v t).session c)
        → (if b then t.command ∷ commands_by c h else commands_by c h) ≡ []
        → (after_all (after_one v t) h).session c ≡ v.session c
    by true is further e = absurd (cc)
    by false is further e = further e ∙ other_session v t c is

-- ---- its first commands, and the others

pub record Parts (c : Name) (h : List Transaction) (xs ys : List (List ℕ)) : Type 0 where
  pub front : List Transaction
  pub back : List Transaction
  pub is : h ≡ front ++ back
  pub own : commands_by c front ≡ xs
  pub rest : commands_by c back ≡ ys

pub parts_of : (c : Name) (h : List Transaction) (xs ys : List (List ℕ)) → commands_by c h ≡ xs ++ ys → Parts c h xs ys
parts_of c h [] ys e = record { front = []; back = h; is = refl; own = refl; rest = e }
parts_of c h (x ∷ xs) ys e =
    let f = first_of c h x (xs ++ ys) e in
    let t : Transaction = f.transaction in
    let k = parts_of c f.later xs ys f.rest in
    record {
      front = f.before ++ t ∷ k.front;
      back = k.back;
      is =
          f.is ∙ ap (λ l. f.before ++ t ∷ l) k.is
          ∙ sym (append_assoc f.before (t ∷ k.front) k.back);
      own =
          commands_append c f.before (t ∷ k.front) ∙ ap (λ l. l ++ commands_by c (t ∷ k.front)) f.none
          ∙ cond-true (is_name t.by c) (t.command ∷ commands_by c k.front) (commands_by c k.front) f.by
          ∙ (λ j. f.said j ∷ k.own j);
      rest = k.rest;
    }

-- ---- replies to parts

pub same_length : {X : Type 0} (us bs xs ys : List X) → length us ≡ length bs → us ++ xs ≡ bs ++ ys
    → (us ≡ bs) × (xs ≡ ys)
same_length [] [] xs ys l e = (refl, e)
same_length [] (b ∷ bs) xs ys l e = absurd (omega (arith, l))
same_length (a ∷ us) [] xs ys l e = absurd (omega (arith, l))
same_length (a ∷ us) (b ∷ bs) xs ys l e =
    let k = same_length us bs xs ys (omega (arith, l)) (tail_eq e) in
    ((λ j. head_eq e j ∷ k.0 j), k.1)

pub replies_of_parts : (c : Name) (h : List Transaction) (xs ys rs qs : List (List ℕ)) (p : Parts c h xs ys)
    → length rs ≡ length xs → replies_to c h ≡ rs ++ qs → (replies_to c p.front ≡ rs) × (replies_to c p.back ≡ qs)
replies_of_parts c h xs ys rs qs p l e =
    same_length (replies_to c p.front) rs (replies_to c p.back) qs
    (as_many c p.front ∙ ap length p.own ∙ sym l)
    (sym (replies_append c p.front p.back) ∙ ap (replies_to c) (sym p.is) ∙ e)

-- ---- beginnings

longer : {X : Type 0} (xs more ps qs : List X) → xs ++ more ≡ ps ++ qs → length ps ≤ length xs
    → (rest : List X) × (xs ≡ ps ++ rest)
longer xs more [] qs e l = (xs, refl)
longer [] more (p ∷ ps) qs e l = absurd (omega (arith, l))
longer (x ∷ xs) more (p ∷ ps) qs e l =
    let k = longer xs more ps qs (tail_eq e) (omega (arith, l)) in
    (k.0, (λ j. head_eq e j ∷ k.1 j))

-- a beginning that is long enough begins with the front
pub begins_front : {X : Type 0} (xs ps qs : List X) → Begins xs (ps ++ qs) → length ps ≤ length xs
    → (rest : List X) × (xs ≡ ps ++ rest)
begins_front xs ps qs h l = longer xs (drop (length xs) (ps ++ qs)) ps qs (sym (begins_split xs (ps ++ qs) h)) l
