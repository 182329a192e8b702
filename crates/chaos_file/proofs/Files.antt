-- Files and their entries.
use Prim.Native.Nat.compare
use lib.Dec.{is_le}
use Rattle.std.proofs.Common.{◌≡◌, ℕ, ◌+◌, Bool, true, false, cond, List, [], ◌∷◌, ◌++◌, Option, Some, None, refl, ap, ◌∙◌, sym, zero, suc, rules, arith}
use Rattle.std.specs.Prelude.{not, find, option_map, position, is_some, unwrap_or, nat_lt, length}
use Rattle.std.specs.List.{position_or_len}
use Rattle.std.specs.Str.{bytes_eq}
use Rattle.std.specs.Ordering.{nat_cmp}
use Rattle.std.specs.Cmp.Lexicographic.{slice_cmp, nat_list_cmp_total}
use Rattle.std.specs.FinMap as map
use Rattle.std.specs.FinMap.{get-from_entries, get-insert, get-remove, same_map, slice_cmp-IsAntisymmetric, nat_cmp-IsAntisymmetric}
use Rattle.std.proofs.lemmas.Map.Text.{is_eq-slice_cmp}
use Rattle.std.proofs.lemmas.Slice.Eq.{bytes_eq-Decides}
use Rattle.chaos_file.specs.Store.{Files, with_moved}
use Rattle.chaos_file.specs.Entries.{Entry, is_at, files_of, others, with_path}

-- the bytes of a path's first entry
abbrev pub file_at : List ℕ → List Entry → Option (List ℕ)
file_at q [] = None
file_at q (e ∷ es) = cond (bytes_eq q e.0) (Some e.1) (file_at q es)

find_is : (q : List ℕ) (es : List Entry) → map.find (slice_cmp nat_cmp) q es ≡ file_at q es
find_is q [] = refl
find_is q (e ∷ es) =
    ap (λ b. cond b (Some e.1) (map.find (slice_cmp nat_cmp) q es)) (is_eq-slice_cmp q e.0)
    ∙ ap (cond (bytes_eq q e.0) (Some e.1)) (find_is q es)

pub get_files : (es : List Entry) (q : List ℕ) → map.get (files_of es) q ≡ file_at q es
unfolding files_of
get_files es q = get-from_entries nat_list_cmp_total es q ∙ find_is q es

pub find_file : (q : List ℕ) (es : List Entry) → option_map (λ e. e.1) (find (is_at q) es) ≡ file_at q es
find_file q [] = refl
find_file q (e ∷ es) =
    elim (bytes_eq q e.0) as
    (λ b. option_map (λ e. e.1) (cond b (Some e) (find (is_at q) es)) ≡ cond b (Some e.1) (file_at q es))
    [ true ↦ refl | false ↦ find_file q es ]

pub get_found : (es : List Entry) (q : List ℕ) → option_map (λ e. e.1) (find (is_at q) es) ≡ map.get (files_of es) q
get_found es q = find_file q es ∙ sym (get_files es q)

same_files : (m n : Files) → ((q : List ℕ) → map.get m q ≡ map.get n q) → m ≡ n
same_files m n h = same_map nat_list_cmp_total (slice_cmp-IsAntisymmetric nat_cmp-IsAntisymmetric) m n h

get_removed : (m : Files) (k q : List ℕ) → map.get (map.remove m k) q ≡ cond (bytes_eq q k) None (map.get m q)
get_removed m k q = get-remove nat_list_cmp_total m k q ∙ ap (λ b. cond b None (map.get m q)) (is_eq-slice_cmp q k)

get_inserted : (m : Files) (k v q : List ℕ) → map.get (map.insert m k v) q ≡ cond (bytes_eq q k) (Some v) (map.get m q)
get_inserted m k v q =
    get-insert nat_list_cmp_total m k v q ∙ ap (λ b. cond b (Some v) (map.get m q)) (is_eq-slice_cmp q k)

pub bytes_same : (x y : List ℕ) → bytes_eq x y ≡ true → x ≡ y
bytes_same x y h = search (rules, bytes_eq-Decides)

bytes_self : (x : List ℕ) → bytes_eq x x ≡ true
bytes_self x = search (rules, bytes_eq-Decides)

-- one entry of a list whose files of a path are taken out
drop_step : (a b c : Bool) (x f g : Option (List ℕ)) → (c ≡ true → b ≡ a) → (a ≡ true → c ≡ b) → g ≡ cond c None f
    → cond (not a) (cond b x g) g ≡ cond c None (cond b x f)
drop_step true true true x f g p q r = r
drop_step true false false x f g p q r = r
drop_step true true false x f g p q r = let e : false ≡ true = q refl in cc
drop_step true false true x f g p q r = let e : true ≡ false = q refl in cc
drop_step false true true x f g p q r = let e : true ≡ false = p refl in cc
drop_step false true false x f g p q r = refl
drop_step false false true x f g p q r = r
drop_step false false false x f g p q r = r

file_at_cond : (b : Bool) (q : List ℕ) (e : Entry) (es : List Entry)
    → file_at q (cond b (e ∷ es) es) ≡ cond b (cond (bytes_eq q e.0) (Some e.1) (file_at q es)) (file_at q es)
file_at_cond true q e es = refl
file_at_cond false q e es = refl

file_others : (k q : List ℕ) (es : List Entry) → file_at q (others k es) ≡ cond (bytes_eq q k) None (file_at q es)
file_others k q [] =
    elim (bytes_eq q k) as (λ b. ◌≡◌ {A = Option (List ℕ)} None (cond b None None)) [ true ↦ refl | false ↦ refl ]
file_others k q (e ∷ es) =
    file_at_cond (not (bytes_eq k e.0)) q e (others k es)
    ∙ drop_step (bytes_eq k e.0) (bytes_eq q e.0) (bytes_eq q k) (Some e.1) (file_at q es) (file_at q (others k es))
    (λ h. ap (λ z. bytes_eq z e.0) (bytes_same q k h))
    (λ h. ap (λ z. bytes_eq q z) (bytes_same k e.0 h))
    (file_others k q es)

pub files_dropped : (k : List ℕ) (es : List Entry) → files_of (others k es) ≡ map.remove (files_of es) k
files_dropped k es =
    same_files _ _
    (λ q. get_files (others k es) q ∙ file_others k q es ∙ ap (cond (bytes_eq q k) None) (sym (get_files es q))
    ∙ sym (get_removed (files_of es) k q))

or_else : Option (List ℕ) → Option (List ℕ) → Option (List ℕ)
or_else None y = y
or_else (Some x) y = Some x

or_none : (x : Option (List ℕ)) → or_else x None ≡ x
unfolding or_else
or_none None = refl
or_none (Some x) = refl

file_append : (q : List ℕ) (e : Entry) (es : List Entry)
    → file_at q (es ++ e ∷ []) ≡ or_else (file_at q es) (cond (bytes_eq q e.0) (Some e.1) None)
unfolding or_else
file_append q e [] = refl
file_append q e (d ∷ es) =
    elim (bytes_eq q d.0) as
    (λ b. cond b (Some d.1) (file_at q (es ++ e ∷ []))
    ≡ or_else (cond b (Some d.1) (file_at q es)) (cond (bytes_eq q e.0) (Some e.1) None))
    [ true ↦ refl | false ↦ file_append q e es ]

put_step : (t : Bool) (x : Option (List ℕ)) (v : List ℕ) → (t ≡ true → x ≡ None)
    → or_else x (cond t (Some v) None) ≡ cond t (Some v) x
unfolding or_else
put_step true x v h = ap (λ y. or_else y (Some v)) (h refl)
put_step false x v h = or_none x

-- an entry whose path is no longer there is put at the end
pub files_replaced : (k : List ℕ) (e : Entry) (es : List Entry) → map.get (map.remove (files_of es) k) e.0 ≡ None
    → files_of (others k es ++ e ∷ []) ≡ map.insert (map.remove (files_of es) k) e.0 e.1
files_replaced k e es none = same_files _ _ (λ q.
    let there : file_at q (others k es) ≡ map.get (map.remove (files_of es) k) q =
    sym (get_files (others k es) q) ∙ ap (λ m. map.get m q) (files_dropped k es) in
    get_files (others k es ++ e ∷ []) q ∙ file_append q e (others k es)
    ∙ put_step (bytes_eq q e.0) (file_at q (others k es)) e.1
    (λ h. there ∙ ap (λ z. map.get (map.remove (files_of es) k) z) (bytes_same q e.0 h) ∙ none)
    ∙ ap (cond (bytes_eq q e.0) (Some e.1)) there
    ∙ sym (get_inserted (map.remove (files_of es) k) e.0 e.1 q))

gone : (m : Files) (k : List ℕ) → map.get (map.remove m k) k ≡ None
gone m k = get_removed m k k ∙ ap (λ b. cond b None (map.get m k)) (bytes_self k)

shadow : (t : Bool) (x y : Option (List ℕ)) → cond t x (cond t None y) ≡ cond t x y
shadow true x y = refl
shadow false x y = refl

insert_removed : (m : Files) (k v : List ℕ) → map.insert (map.remove m k) k v ≡ map.insert m k v
insert_removed m k v =
    same_files _ _
    (λ q. get_inserted (map.remove m k) k v q ∙ ap (cond (bytes_eq q k) (Some v)) (get_removed m k q)
    ∙ shadow (bytes_eq q k) (Some v) (map.get m q) ∙ sym (get_inserted m k v q))

pub files_set : (k v : List ℕ) (es : List Entry) → files_of (others k es ++ (k, v) ∷ []) ≡ map.insert (files_of es) k v
files_set k v es = files_replaced k (k, v) es (gone (files_of es) k) ∙ insert_removed (files_of es) k v

pub files_none : files_of [] ≡ map.empty
unfolding files_of
files_none = refl

-- ---- the first entry of a path is given another path, which has none

-- the first entry of a path at another path
with_first : List ℕ → List ℕ → List Entry → List Entry
with_first old new [] = []
with_first old new (e ∷ es) = cond (is_at old e) ((new, e.1) ∷ es) (e ∷ with_first old new es)

one_more : (n : ℕ) → 1 + n ≡ suc n
one_more n = omega arith

lt_both : (a b : ℕ) → nat_lt (suc a) (suc b) ≡ nat_lt a b
lt_both a b = ap is_le (compare.suc-suc (suc a) b)

lt_first : (b : ℕ) → nat_lt 0 (suc b) ≡ true
lt_first zero = refl
lt_first (suc b) = ap is_le (compare.suc-suc 0 (suc b) ∙ compare.zero-suc b)

first_there : (old : List ℕ) (es : List Entry)
    → nat_lt (position_or_len (is_at old) es) (length es) ≡ is_some (file_at old es)
first_there old [] = refl
first_there old (e ∷ es) =
    elim (bytes_eq old e.0) as
    (λ b. nat_lt (cond (not b) (1 + position_or_len (is_at old) es) 0) (length (e ∷ es))
    ≡ is_some (cond b (Some e.1) (file_at old es)))
    [ true ↦ lt_first (length es) | false ↦ ap (λ k. nat_lt k (suc (length es))) (one_more (position_or_len (is_at old) es)) ∙ lt_both (position_or_len (is_at old) es) (length es) ∙ first_there old es ]

set_step : (old new : List ℕ) (e : Entry) (es : List Entry)
    → nat_lt (position_or_len (is_at old) (e ∷ es)) (length (e ∷ es)) ≡ true
    → (nat_lt (position_or_len (is_at old) es) (length es) ≡ true
    → with_path es (position_or_len (is_at old) es) new ≡ with_first old new es)
    → with_path (e ∷ es) (position_or_len (is_at old) (e ∷ es)) new ≡ with_first old new (e ∷ es)
unfolding with_first
set_step old new e es =
    elim (bytes_eq old e.0) as
    (λ b. nat_lt (cond (not b) (1 + position_or_len (is_at old) es) 0) (length (e ∷ es)) ≡ true
    → (nat_lt (position_or_len (is_at old) es) (length es) ≡ true
    → with_path es (position_or_len (is_at old) es) new ≡ with_first old new es)
    → with_path (e ∷ es) (cond (not b) (1 + position_or_len (is_at old) es) 0) new
    ≡ cond b ((new, e.1) ∷ es) (e ∷ with_first old new es))
    [ true ↦ λ there same. refl | false ↦ λ there same. ap (λ k. with_path (e ∷ es) k new) (one_more (position_or_len (is_at old) es)) ∙ ap (λ rest. e ∷ rest) (same (sym (ap (λ k. nat_lt k (suc (length es))) (one_more (position_or_len (is_at old) es)) ∙ lt_both (position_or_len (is_at old) es) (length es)) ∙ there)) ]

set_first : (old new : List ℕ) (es : List Entry) → nat_lt (position_or_len (is_at old) es) (length es) ≡ true
    → with_path es (position_or_len (is_at old) es) new ≡ with_first old new es
set_first old new [] there = let e : false ≡ true = there in cc
set_first old new (e ∷ es) there = set_step old new e es there (set_first old new es)

none_tail : (a : Bool) (x : List ℕ) (f : Option (List ℕ)) → cond a (Some x) f ≡ None → f ≡ None
none_tail true x f h = let e : Some x ≡ None = h in cc
none_tail false x f h = h

none_head : (a : Bool) (x : List ℕ) (f : Option (List ℕ)) → cond a (Some x) f ≡ None → a ≡ true → ⊥
none_head true x f h e = let k : Some x ≡ None = h in cc
none_head false x f h e = let k : false ≡ true = e in cc

step_at : (n a : Bool) (x f : Option (List ℕ)) → a ≡ false → cond n x f ≡ cond n x (cond a x f)
step_at n a x f h = ap (λ b. cond n x (cond b x f)) (sym h)

step_past : (n a : Bool) (x f g : Option (List ℕ)) → (n ≡ true → a ≡ true → ⊥)
    → cond a x (cond n g f) ≡ cond n g (cond a x f)
step_past true true x f g never = absurd (never refl refl)
step_past true false x f g never = refl
step_past false true x f g never = refl
step_past false false x f g never = refl

file_first_cons : (q old new : List ℕ) (e : Entry) (es : List Entry)
    → cond (bytes_eq new e.0) (Some e.1) (file_at new es) ≡ None → bytes_eq q old ≡ false
    → file_at q (with_first old new es) ≡ cond (bytes_eq q new) (file_at old es) (file_at q es) → (t : Bool)
    → bytes_eq old e.0 ≡ t
    → file_at q (cond t ((new, e.1) ∷ es) (e ∷ with_first old new es))
    ≡ cond (bytes_eq q new) (cond t (Some e.1) (file_at old es)) (file_at q (e ∷ es))
file_first_cons q old new e es none apart rest true h =
    step_at (bytes_eq q new) (bytes_eq q e.0) (Some e.1) (file_at q es)
    (sym (ap (λ z. bytes_eq q z) (bytes_same old e.0 h)) ∙ apart)
file_first_cons q old new e es none apart rest false h =
    ap (cond (bytes_eq q e.0) (Some e.1)) rest
    ∙ step_past (bytes_eq q new) (bytes_eq q e.0) (Some e.1) (file_at q es) (file_at old es)
    (λ n a. none_head (bytes_eq new e.0) e.1 (file_at new es) none
    (sym (ap (λ z. bytes_eq z e.0) (bytes_same q new n)) ∙ a))

file_first : (q old new : List ℕ) (es : List Entry) → file_at new es ≡ None → bytes_eq q old ≡ false
    → file_at q (with_first old new es) ≡ cond (bytes_eq q new) (file_at old es) (file_at q es)
unfolding with_first
file_first q old new [] none apart =
    elim (bytes_eq q new) as (λ b. ◌≡◌ {A = Option (List ℕ)} None (cond b None None)) [ true ↦ refl | false ↦ refl ]
file_first q old new (e ∷ es) none apart =
    file_first_cons q old new e es none apart
    (file_first q old new es (none_tail (bytes_eq new e.0) e.1 (file_at new es) none) apart) (bytes_eq old e.0) refl

some_is : (x : Option (List ℕ)) → is_some x ≡ true → x ≡ Some (unwrap_or x [])
some_is None h = let e : false ≡ true = h in cc
some_is (Some b) h = refl

none_both : (n : Bool) (x : Option (List ℕ)) → (n ≡ true → ⊥) → None ≡ cond n x None
none_both true x never = absurd (never refl)
none_both false x never = refl

moved_at : (q old new : List ℕ) (es : List Entry) → file_at new es ≡ None → is_some (file_at old es) ≡ true → (o : Bool)
    → bytes_eq q old ≡ o
    → cond o None (file_at q (with_first old new es))
    ≡ cond (bytes_eq q new) (Some (unwrap_or (file_at old es) [])) (cond o None (file_at q es))
moved_at q old new es none there true h = none_both (bytes_eq q new) (Some (unwrap_or (file_at old es) [])) (λ n.
    let same : old ≡ new = sym (bytes_same q old h) ∙ bytes_same q new n in
    let k : false ≡ true = sym (ap is_some (ap (λ z. file_at z es) same ∙ none)) ∙ there in cc)
moved_at q old new es none there false h =
    file_first q old new es none h ∙ ap (λ x. cond (bytes_eq q new) x (file_at q es)) (some_is (file_at old es) there)

files_first : (old new : List ℕ) (es : List Entry) → map.get (files_of es) new ≡ None → is_some (file_at old es) ≡ true
    → files_of (others old (with_first old new es)) ≡ with_moved (files_of es) old new
files_first old new es none there = same_files _ _ (λ q.
    get_files (others old (with_first old new es)) q ∙ file_others old q (with_first old new es)
    ∙ moved_at q old new es (sym (get_files es new) ∙ none) there (bytes_eq q old) refl
    ∙ ap (λ x. cond (bytes_eq q new) (Some (unwrap_or x [])) (cond (bytes_eq q old) None (file_at q es)))
    (sym (get_files es old))
    ∙ ap (λ x. cond (bytes_eq q new) (Some (unwrap_or (map.get (files_of es) old) [])) (cond (bytes_eq q old) None x))
    (sym (get_files es q))
    ∙ ap (cond (bytes_eq q new) (Some (unwrap_or (map.get (files_of es) old) [])))
    (sym (get_removed (files_of es) old q))
    ∙ sym (get_inserted (map.remove (files_of es) old) new (unwrap_or (map.get (files_of es) old) []) q))

first_is : (b : Bool) (n place : ℕ) → cond b (Some n) None ≡ Some place → (b ≡ true) × (n ≡ place)
first_is true n place h = let e : Some n ≡ Some place = h in (refl, cc)
first_is false n place h = let e : ◌≡◌ {A = Option ℕ} None (Some place) = h in cc

-- the entry at a path's first place moves to a path that has none, and no other entry of the old path is left
pub files_moved : (old new : List ℕ) (es : List Entry) (place : ℕ) → position (is_at old) es ≡ Some place
    → map.get (files_of es) new ≡ None
    → files_of (others old (with_path es place new)) ≡ with_moved (files_of es) old new
files_moved old new es place first none =
    let at =
    first_is (nat_lt (position_or_len (is_at old) es) (length es)) (position_or_len (is_at old) es) place first in
    ap (λ i. files_of (others old (with_path es i new))) (sym at.1)
    ∙ ap (λ xs. files_of (others old xs)) (set_first old new es at.0)
    ∙ files_first old new es none (sym (first_there old es) ∙ at.0)

some_not_none : (b : Bool) (n : ℕ) → cond b (Some n) None ≡ None → b ≡ false
some_not_none true n h = let e : Some n ≡ None = h in cc
some_not_none false n h = refl

-- a path without a place has no file
pub none_placed : (old : List ℕ) (es : List Entry) → position (is_at old) es ≡ None
    → is_some (map.get (files_of es) old) ≡ false
none_placed old es h =
    ap is_some (get_files es old) ∙ sym (first_there old es)
    ∙ some_not_none (nat_lt (position_or_len (is_at old) es) (length es)) (position_or_len (is_at old) es) h
