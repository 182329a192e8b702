-- An item that comes to an open end inside its window is there.
use Rattle.std.proofs.Common.{◌≡◌, ℕ, ◌+◌, ◌<◌, length, false, ◌&&◌, leb, ltb, refl, sym, subst, inl, inr, ⊎_elim, arith}
use Rattle.std.proofs.lemmas.Bool.{cond_both, leb-false, ltb-false, and_cases}
use Rattle.chaos_lab.specs.Machine.{PlainEnd, Told, Copy, hear, take_in, Comes, OrNothing}
use Rattle.chaos_lab.specs.Machine.Phase.{Inactive, RfcSent, Open}
use Rattle.chaos_lab.specs.Machine.Kind.{Nth, Sns, Sts, Cls}
use Rattle.chaos_lab.specs.Machine.Told.{Nothing, Acknowledges, Status}
use Rattle.chaos_lab.specs.Law.{IsThere}
use Rattle.chaos_lab.proofs.Lists.{contains-insert_same}

take_in_there : (i : ℕ) (e : PlainEnd) → i < length e.read + e.announced → IsThere (take_in i e) i
take_in_there i e inside =
    cond_both (leb (length e.read) i && ltb i (length e.read + e.announced)) _ e (λ (f : PlainEnd). IsThere f i)
    (λ _. inr (contains-insert_same i e.arrived))
    (λ t. ⊎_elim
    (λ (u : leb (length e.read) i ≡ false). inl (leb-false (length e.read) i u))
    (λ (u : ltb i (length e.read + e.announced) ≡ false). absurd
    (omega (arith, ltb-false i (length e.read + e.announced) u)))
    (and_cases _ _ t))

pub heard_there : (told : Told) (i : ℕ) (e : PlainEnd) → i < length e.read + e.announced
    → IsThere (take_in i (hear told e)) i
heard_there Nothing i e inside = take_in_there i e inside
heard_there (Acknowledges a) i e inside = take_in_there i (hear (Acknowledges a) e) inside
heard_there (Status a r w) i e inside = take_in_there i (hear (Status a r w) e) inside

-- only the row for an item at an open end fits
pub comes_there :
    (c : Copy) (i : ℕ) (p e f : PlainEnd) → c.kind ≡ Nth i → e.phase ≡ Open → i < length e.read + e.announced →
    OrNothing (Comes c) p e f → IsThere f i
comes_there c i p e f kind at inside (inl (inl r)) = let not : e.phase ≡ Inactive = r.1 in absurd (cc)
comes_there c i p e f kind at inside (inl (inr (inl r))) = let not : e.phase ≡ RfcSent = r.1 in absurd (cc)
comes_there c i p e f kind at inside (inl (inr (inr (inl r)))) =
    let found : c.kind ≡ Nth r.1 = r.2 in
    let same : i ≡ r.1 = cc in
    subst (λ (g : PlainEnd). IsThere g i) (sym r.3)
    (subst (λ j. IsThere (take_in j (hear c.told e)) i) same (heard_there c.told i e inside))
comes_there c i p e f kind at inside (inl (inr (inr (inr (inl r))))) =
    absurd (⊎_elim (λ (t : c.kind ≡ Sns). cc) (λ (t : c.kind ≡ Sts). cc) r.1)
comes_there c i p e f kind at inside (inl (inr (inr (inr (inr r))))) = let not : c.kind ≡ Cls = r.0 in absurd (cc)
comes_there c i p e f kind at inside (inr r) =
    absurd (r.0 (take_in i (hear c.told e)) (inr (inr (inl (at, i, kind, refl)))))
