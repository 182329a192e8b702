-- Turns in which nothing is received.
use Rattle.std.proofs.Common.{◌≡◌, ℕ, ◌+◌, ◌-◌, ◌<◌, ◌≤◌, Bool, true, false, List, [], ◌∷◌, ◌++◌, Option, Some, None, refl, ap, ◌∙◌, sym, subst, arith, inl, inr}
use Rattle.std.specs.Prelude.{Result, Ok, Err, IfOk, MatchOption, ◌||◌}
use Rattle.file_copy.specs.declared.limits.TheConstants.{MOST_TURNS}
use Rattle.file_copy.specs.Copy.{upto}
use Rattle.file_copy.specs.Talk.{History, Since, Unheard, Turned, IsLate, IsLong, received_in, sent_if, taken, since_none}
use Rattle.file_copy.specs.declared.end.CopyEnd.{CopyEnd}
use Rattle.file_copy.specs.declared.end.CopyEnd.TheVariants as e
use Rattle.file_copy.specs.Ends.{EndedBy, UnlessCopied, UnlessAnswered, unanswered}
use Rattle.file_copy.proofs.Talks.{none_some, since_then}

pub unheard_then : {T : Type 0} (a b c : History T) → Unheard a b → Unheard b c → Unheard a c
unheard_then a b c (xs, h) (ys, k) = (xs ++ ys, since_then a b c xs [] ys [] h k)

pub unheard_none : {T : Type 0} (a : History T) → Unheard a a
unheard_none a = ([], since_none a)

-- a command that is sent is none that is received
pub quiet_send : {T : Type 0} (r : Bool) (command : List ℕ) (a b c : History T) → Unheard a b
    → Since b c (sent_if r command) [] → Unheard a c
quiet_send r command a b c h e = unheard_then a b c h (sent_if r command, e)

pub quiet_unreceived : {T : Type 0} (came : Bool) (reply : List ℕ) (a b c : History T) → came ≡ false → Unheard a b
    → Since b c [] (received_in (taken came reply)) → Unheard a c
quiet_unreceived false reply a b c none h e = unheard_then a b c h ([], e)
quiet_unreceived true reply a b c none h e = cc

pub turned_none : (a : Option ℕ) → Turned 0 a a
turned_none None = tt
turned_none (Some k) = let e : k ≡ k - 0 = omega arith in (omega arith, ap Some e)

pub turned_more : (n : ℕ) (a b c : Option ℕ) → Turned n a b → Turned 1 b c → Turned (n + 1) a c
turned_more n a b None h k = tt
turned_more n a b (Some k) h (one, same) =
    let t : Turned n a (Some (k - 1)) = subst (Turned n a) same h in
    let less : k - 1 - n ≡ k - (n + 1) = omega arith in
    (omega (arith, t.0, one), t.1 ∙ ap Some less)

-- one command, of which it is known whether it was sent
pub known : {F : Type 0} {T : Type 0} (a b : History T) (f : ℕ → List ℕ) (k : ℕ) (is_sent : Bool) (command reply : List ℕ)
    (result : Result Bool F)
    → f 0 ≡ command → k ≤ 1
    → (is_sent ≡ true → 0 < k) → (is_sent ≡ false → k ≤ 0)
    → IfOk result (λ came. Since a b (upto f k) ([] ++ received_in (taken came reply)))
    → IfOk result (λ came. MatchOption (taken came reply) (Since a b (sent_if is_sent command) []) (λ _. Unit {0}))
known a b f k s command reply (Err fault) e l m n h = tt
known a b f k s command reply (Ok true) e l m n h = tt
known a b f k true command reply (Ok false) e l m n h =
    let more : 0 < k = m refl in
    let one : k ≡ 1 = omega (arith, more) in
    subst (λ cs. Since a b cs []) (ap (upto f) one ∙ ap (λ c. c ∷ []) e) h
known a b f k false command reply (Ok false) e l m n h =
    let less : k ≤ 0 = n refl in
    let none : k ≡ 0 = omega (arith, less) in
    subst (λ cs. Since a b cs []) (ap (upto f) none) h

-- who got no reply waited for one
pub unanswered_by : (last : Option (List ℕ)) (tid handle : List ℕ) (W : List ℕ → Type 0) (end : CopyEnd) (P Q : Type 0)
    → UnlessCopied end (EndedBy tid handle W last) → MatchOption last P (λ _. Unit {0}) → (P → Q)
    → UnlessAnswered end Q
unanswered_by last tid handle W e.Done P Q h w f = tt
unanswered_by last tid handle W (e.Refused reply) P Q h w f = tt
unanswered_by last tid handle W (e.Strange reply) P Q h w f = tt
unanswered_by None tid handle W e.Unanswered P Q h w f = f w
unanswered_by (Some x) tid handle W e.Unanswered P Q h w f = absurd (none_some x (sym h))
unanswered_by last tid handle W e.Unknown P Q h w f = absurd h

pub where_none : (came : Bool) (reply : List ℕ) (P : Type 0) → came ≡ false
    → MatchOption (taken came reply) P (λ _. Unit {0}) → P
where_none false reply P e h = h
where_none true reply P e h = cc

pub unanswered_waited : (came : Bool) (reply : List ℕ) (end : CopyEnd) (is_sent : Bool) (P Q : Type 0)
    → end ≡ unanswered is_sent → came ≡ false → MatchOption (taken came reply) P (λ _. Unit {0}) → (P → Q)
    → UnlessAnswered end Q
unanswered_waited came reply end true P Q same e w f =
    subst (λ x. UnlessAnswered x Q) (sym same) (f (where_none came reply P e w))
unanswered_waited came reply end false P Q same e w f =
    subst (λ x. UnlessAnswered x Q) (sym same) (f (where_none came reply P e w))

-- a talk that is over, and one whose observer says that nobody is there
pub over_first : (a b : Bool) → a ≡ true → (a || b) ≡ true
over_first true b h = refl
over_first false b h = absurd (cc)

pub over_then : (a b : Bool) → b ≡ true → (a || b) ≡ true
over_then true b h = refl
over_then false b h = h

-- it was waited for long enough
pub late : (patience a b c : Option ℕ) (n since s m : ℕ) → Turned n a b → c ≡ b → since ≡ s
    → IsLate patience n (m - since)
    → (turns : ℕ) × Turned turns a c × IsLong patience turns s m
late patience a b c n since s m t e f long =
    (n, subst (Turned n a) (sym e) t, inl (subst (λ x. IsLate patience n (m - x)) f long))

pub latest : (patience a b : Option ℕ) (n s m : ℕ) → Turned n a b → n ≡ MOST_TURNS
    → (turns : ℕ) × Turned turns a b × IsLong patience turns s m
latest patience a b n s m t e = (n, t, inr e)
