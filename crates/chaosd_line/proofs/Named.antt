-- Last names, byte by byte, and names that differ.
use Rattle.std.proofs.Common.{◌≡◌, ◌≢◌, ◌∙◌, ◌+◌, ◌-◌, ◌<◌, ◌≤◌, ◌==◌, ◌&&◌, ◌||◌, ◌++◌, ◌∷◌, ℕ, Bool, List, [], zero, suc, length, take, drop, get_or, map, not, true, false, refl, Some, Option, unwrap_or, if◌then◌else◌, add-one, ap, sym, arith}
use Rattle.std.proofs.Math.Seq.{take-suc}
use Rattle.std.proofs.lemmas.List.{at_drop_more, drop_all, drop-append-le, take_rest}
use Rattle.std.proofs.lemmas.Grind.{common_steps}
use Rattle.std.specs.List.{find, list_any}
use Rattle.chaos_file.specs.Names.{is_path}
use Rattle.clap.specs.Words.{Text}
use Rattle.chaosd_line.specs.Files.{are_apart, first_repeated, has_same_name, last_from, last_of}

last_behind : (name text : Text) (b : ℕ)
    → last_from name (text ++ b ∷ []) ≡ (if b == 47 then [] else last_from name text ++ b ∷ [])
last_behind name [] b = refl
last_behind name (x ∷ text) b = last_behind (if x == 47 then [] else name ++ x ∷ []) text b

-- one byte more
last_more : (text : Text) (i d : ℕ) → i < length text
    → last_of (take (i + 1) text)
    ≡ (if get_or text i d == 47 then [] else last_of (take i text) ++ get_or text i d ∷ [])
last_more text i d lt =
    let more : take (i + 1) text ≡ take i text ++ get_or text i d ∷ [] = rw add-one (take-suc text i d lt) in
    ap last_of more ∙ last_behind [] (take i text) (get_or text i d)

-- behind a slash nothing stands yet
pub last_begun : (text : Text) (i d : ℕ) → i < length text → get_or text i d ≡ 47
    → drop (i + 1) (take (i + 1) text) ≡ last_of (take (i + 1) text)
last_begun text i d lt e =
    let none : drop (i + 1) (take (i + 1) text) ≡ [] =
    drop_all (i + 1) (take (i + 1) text) (grind (arith, common_steps)) in
    none ∙ sym (last_more text i d lt ∙ ap (λ b. if b == 47 then [] else last_of (take i text) ++ b ∷ []) e)

apart : (b : ℕ) → b ≢ 47 → (b == 47) ≡ false
apart b ne = grind arith

-- another byte belongs to the name
pub last_kept : (text : Text) (i start d : ℕ) → i < length text → start ≤ i
    → drop start (take i text) ≡ last_of (take i text)
    → get_or text i d ≢ 47 → drop start (take (i + 1) text) ≡ last_of (take (i + 1) text)
last_kept text i start d lt le e ne =
    let more : take (i + 1) text ≡ take i text ++ get_or text i d ∷ [] = rw add-one (take-suc text i d lt) in
    let within : start ≤ length (take i text) = grind (arith, common_steps) in
    let kept : drop start (take i text ++ get_or text i d ∷ []) ≡ drop start (take i text) ++ get_or text i d ∷ [] =
    drop-append-le start (take i text) (get_or text i d ∷ []) within in
    ap (drop start) more ∙ kept ∙ ap (λ u. u ++ get_or text i d ∷ []) e
    ∙ sym
    (last_more text i d lt
    ∙ ap (λ b. if b then [] else last_of (take i text) ++ get_or text i d ∷ []) (apart (get_or text i d) ne))

pub any_of : {A T : Type 0} (p : A → Bool) (text : T → A) (ts : List T)
    → list_any p (map text ts) ≡ list_any (λ t. p (text t)) ts
any_of p text [] = refl
any_of p text (t ∷ ts) = ap (λ b. p (text t) || b) (any_of p text ts)

apart_next : {A T : Type 0} (same : A → A → Bool) (text : T → A) (ts : List T) (i : ℕ) (d : T) → i < length ts
    → are_apart same (map text (drop i ts))
    ≡ (not (list_any (λ u. same (text u) (text (get_or ts i d))) (drop (suc i) ts))
    && are_apart same (map text (drop (suc i) ts)))
apart_next same text [] i d lt = absurd (omega arith)
apart_next same text (t ∷ ts) zero d lt =
    ap (λ b. not b && are_apart same (map text ts)) (any_of (λ u. same u (text t)) text ts)
apart_next same text (t ∷ ts) (suc i) d lt = apart_next same text ts i d (omega arith)

-- one text more, which is the same as a later one or not
apart_step : {A T : Type 0} (same : A → A → Bool) (text : T → A) (ts : List T) (i : ℕ) (d : T) → i < length ts
    → are_apart same (map text (drop i ts))
    ≡ (not (list_any (λ u. same (text u) (text (get_or ts i d))) (drop (i + 1) ts))
    && are_apart same (map text (drop (i + 1) ts)))
apart_step same text ts i d lt = rw add-one (apart_next same text ts i d lt)

-- the same of what was found of it among the rest
pub apart_at : {A T : Type 0} (same : A → A → Bool) (text : T → A) (ts : List T) (i : ℕ) (d : T)
    (test : T → Bool) (found : Bool)
    → i < length ts → test ≡ (λ u. same (text u) (text (get_or ts i d)))
    → found ≡ list_any test (take (length ts - (i + 1)) (drop (i + 1) ts))
    → are_apart same (map text (drop i ts)) ≡ (not found && are_apart same (map text (drop (i + 1) ts)))
apart_at same text ts i d test found lt is e =
    let all : found ≡ list_any test (drop (i + 1) ts) = e ∙ ap (list_any test) (take_rest ts (i + 1)) in
    let again : list_any (λ u. same (text u) (text (get_or ts i d))) (drop (i + 1) ts) ≡ found =
    ap (λ f. list_any f (drop (i + 1) ts)) (sym is) ∙ sym all in
    apart_step same text ts i d lt ∙ ap (λ b. not b && are_apart same (map text (drop (i + 1) ts))) again

-- things are apart as what is made of them is
pub apart_of : {A T : Type 0} (same : A → A → Bool) (text : T → A) (ts : List T)
    → are_apart same (map text ts) ≡ are_apart (λ u t. same (text u) (text t)) ts
apart_of same text [] = refl
apart_of same text (t ∷ ts) =
    ap (λ b. not b && are_apart same (map text ts)) (any_of (λ u. same u (text t)) text ts)
    ∙ ap (λ b. not (list_any (λ u. same (text u) (text t)) ts) && b) (apart_of same text ts)

-- the first text whose name a later one has, from this one on
pub repeated_at : {T : Type 0} (text : T → Text) (ts : List T) (i : ℕ) (d : T) (test : T → Bool) (found : Bool)
    → i < length ts → test ≡ (λ u. has_same_name (text u) (text (get_or ts i d)))
    → found ≡ list_any test (take (length ts - (i + 1)) (drop (i + 1) ts))
    → first_repeated (map text (drop i ts))
    ≡ (if found then text (get_or ts i d) else first_repeated (map text (drop (i + 1) ts)))
repeated_at text ts i d test found lt is e =
    let rest = drop (i + 1) ts in
    let named = text (get_or ts i d) in
    let all : found ≡ list_any test rest = e ∙ ap (list_any test) (take_rest ts (i + 1)) in
    let again : list_any (λ u. has_same_name u named) (map text rest) ≡ found =
    any_of (λ u. has_same_name u named) text rest ∙ ap (λ f. list_any f rest) (sym is) ∙ sym all in
    at_drop_more (λ us. first_repeated (map text us)) ts i d lt
    ∙ ap (λ b. if b then named else first_repeated (map text rest)) again

-- the first text that is no path, from this one on, or else another
pub bad_at : {T : Type 0} (text : T → Text) (last : Text) (ts : List T) (i : ℕ) (d : T) → i < length ts
    → unwrap_or (find (λ t. not (is_path t)) (map text (drop i ts))) last
    ≡ (if is_path (text (get_or ts i d)) then unwrap_or (find (λ t. not (is_path t)) (map text (drop (i + 1) ts))) last else text (get_or ts i d))
bad_at text last ts i d lt =
    at_drop_more (λ us. unwrap_or (find (λ t. not (is_path t)) (map text us)) last) ts i d lt
    ∙ chosen (is_path (text (get_or ts i d))) (text (get_or ts i d)) (find (λ t. not (is_path t)) (map text (drop (i + 1) ts)))
  where
    chosen : (b : Bool) (t : Text) (o : Option Text)
        → unwrap_or (if not b then Some t else o) last ≡ (if b then unwrap_or o last else t)
    chosen true t o = refl
    chosen false t o = refl
