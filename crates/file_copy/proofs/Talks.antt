-- What was sent and received, step after step.
use Rattle.std.proofs.Common.{◌≡◌, ℕ, suc, ◌+◌, ◌<◌, ◌≤◌, Bool, true, false, List, [], ◌∷◌, ◌++◌, Option, Some, None, ap, ◌∙◌, sym, subst, arith}
use Rattle.std.specs.Prelude.{Result, Ok, Err, IfOk, OnErr, IfSome}
use Rattle.std.proofs.lemmas.List.{append_assoc, append-nil}
use Rattle.file_copy.specs.Copy.{upto}
use Rattle.file_copy.specs.Talk.{History, Since, received_in, sent_if, taken}

pub since_then : {T : Type 0} (a b c : History T) (xs rs ys qs : List (List ℕ)) → Since a b xs rs → Since b c ys qs
    → Since a c (xs ++ ys) (rs ++ qs)
since_then a b c xs rs ys qs h k = record {
  goes = λ first talk was.
      subst (c first)
      (ap (λ (l : List (List ℕ)). record { sent = l; received = (talk.received ++ rs) ++ qs })
      (append_assoc talk.sent xs ys)
      ∙ ap (λ (l : List (List ℕ)). record { sent = talk.sent ++ (xs ++ ys); received = l })
      (append_assoc talk.received rs qs))
      (k.goes first _ (h.goes first talk was));
}

pub upto_more : {A : Type 0} (f : ℕ → A) (i : ℕ) → upto f (i + 1) ≡ upto f i ++ f i ∷ []
upto_more f i = let e : i + 1 ≡ suc i = omega arith in ap (upto f) e

-- one more command was sent
pub sends_more : {T : Type 0} (a b c : History T) (f : ℕ → List ℕ) (i : ℕ) (rs : List (List ℕ)) → Since a b (upto f i) rs
    → Since b c (f i ∷ []) []
    → Since a c (upto f (i + 1)) rs
sends_more a b c f i rs h e =
    subst (λ cs. Since a c cs rs) (sym (upto_more f i))
    (subst (λ qs. Since a c (upto f i ++ f i ∷ []) qs) (append-nil rs)
    (since_then a b c (upto f i) rs (f i ∷ []) [] h e))

-- these replies were received, and nothing was sent
pub since_heard : {T : Type 0} (a b c : History T) (cs rs qs : List (List ℕ)) → Since a b cs rs → Since b c [] qs
    → Since a c cs (rs ++ qs)
since_heard a b c cs rs qs h e =
    subst (λ xs. Since a c xs (rs ++ qs)) (append-nil cs) (since_then a b c cs rs [] qs h e)

-- nothing was sent or received
pub since_still : {T : Type 0} (a b c : History T) (cs rs : List (List ℕ)) → Since a b cs rs → Since b c [] []
    → Since a c cs rs
since_still a b c cs rs h e = subst (λ l. Since a c cs l) (append-nil rs) (since_heard a b c cs rs [] h e)

-- ---- one command and its reply

one_upto : (f : ℕ → List ℕ) (sent : ℕ) → 0 < sent → sent ≤ 1 → upto f sent ≡ f 0 ∷ []
one_upto f sent l m = let e : sent ≡ 1 = omega arith in ap (upto f) e

pub asked_one : {F : Type 0} {T : Type 0} (a b : History T) (f : ℕ → List ℕ) (sent received : ℕ) (command reply : List ℕ)
    (result : Result Bool F)
    → f 0 ≡ command
    → IfOk result (λ came. IfSome (taken came reply) (λ _. (0 < sent) × (received ≡ 0 + 1))) → sent ≤ 1
    → IfOk result (λ came. Since a b (upto f sent) ([] ++ received_in (taken came reply)))
    → IfOk result (λ came. IfSome (taken came reply) (λ text. Since a b (command ∷ []) (text ∷ [])))
asked_one a b f sent received command reply (Err fault) e asked within h = tt
asked_one a b f sent received command reply (Ok false) e asked within h = tt
asked_one a b f sent received command reply (Ok true) e asked within h =
    subst (λ cs. Since a b cs (reply ∷ [])) (one_upto f sent asked.0 within ∙ ap (λ c. c ∷ []) e) h

-- ---- by the answers of the calls

pub kept_unsent : {T : Type 0} (a b u : History T) (cs rs : List (List ℕ)) (r : Bool) (c : List ℕ) → Since a b cs rs
    → Since b u (sent_if r c) [] → r ≡ false → Since a u cs rs
kept_unsent a b u cs rs false c h e f = since_still a b u cs rs h e
kept_unsent a b u cs rs true c h e f = cc

pub sent_next : {T : Type 0} (a b u : History T) (f : ℕ → List ℕ) (i : ℕ) (rs : List (List ℕ)) (r : Bool) (c : List ℕ)
    → Since a b (upto f i) rs → Since b u (sent_if r c) [] → r ≡ true → c ≡ f i
    → Since a u (upto f (i + 1)) rs
sent_next a b u f i rs false c h e k g = cc
sent_next a b u f i rs true c h e k g = sends_more a b u f i rs h (subst (λ x. Since b u (x ∷ []) []) g e)

pub received_next : {T : Type 0} (a b u : History T) (cs rs : List (List ℕ)) (came : Bool) (reply : List ℕ)
    → Since a b cs rs → Since b u [] (received_in (taken came reply)) → came ≡ true
    → Since a u cs (rs ++ reply ∷ [])
received_next a b u cs rs false reply h e k = cc
received_next a b u cs rs true reply h e k = since_heard a b u cs rs (reply ∷ []) h e

pub received_none : {T : Type 0} (a b u : History T) (cs rs : List (List ℕ)) (came : Bool) (reply : List ℕ)
    → Since a b cs rs → Since b u [] (received_in (taken came reply)) → came ≡ false
    → Since a u cs rs
received_none a b u cs rs false reply h e k = since_still a b u cs rs h e
received_none a b u cs rs true reply h e k = cc

pub nothing_more : {T : Type 0} (a b : History T) (cs rs : List (List ℕ)) → Since a b cs rs → Since a b cs (rs ++ [])
nothing_more a b cs rs h = subst (λ l. Since a b cs l) (sym (append-nil rs)) h

-- ---- a reply that is the one that was hoped for

pub none_some : (x : List ℕ) → None ≡ Some x → ⊥
none_some x e = cc

pub wanted_received : (P : List ℕ → Type 0) (last : Option (List ℕ)) (x y : List ℕ)
    → last ≡ Some x → x ≡ y → IfSome last P → P y
wanted_received P None x y e f h = absurd (none_some x e)
wanted_received P (Some v) x y e f h = let same : v ≡ x = cc in subst P (same ∙ f) h

pub wanted_asked : (P : Type 0) (last : Option (List ℕ)) (x : List ℕ) → last ≡ Some x → IfSome last (λ _. P) → P
wanted_asked P None x e h = absurd (none_some x e)
wanted_asked P (Some v) x e h = h

-- none was left where none came
pub untaken : (came : Bool) (reply x : List ℕ) → came ≡ false → taken came reply ≡ Some x → ⊥
untaken false reply x e h = none_some x h
untaken true reply x e h = cc

pub received_at : {T : Type 0} (a b : History T) (cs : List (List ℕ)) (g : ℕ → List ℕ) (i : ℕ) (o : Option (List ℕ)) (x : List ℕ)
    → o ≡ Some x → x ≡ g i → Since a b cs (upto g i ++ received_in o)
    → Since a b cs (upto g (i + 1))
received_at a b cs g i o x e f h =
    subst (λ rs. Since a b cs rs)
    (ap (λ p. upto g i ++ received_in p) e ∙ ap (λ y. upto g i ++ y ∷ []) f ∙ sym (upto_more g i)) h

pub on_err : {T F : Type 0} (r : Result T F) (P : Type 0) → P → OnErr r P
on_err (Ok x) P h = tt
on_err (Err x) P h = h

-- what was left is what the place holds
pub taken_is : (came : Bool) (reply x : List ℕ) → taken came reply ≡ Some x → reply ≡ x
taken_is true reply x e = cc
taken_is false reply x e = absurd (none_some x e)
