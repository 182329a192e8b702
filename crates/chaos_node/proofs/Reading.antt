-- Moments that are read, one after another.
use Rattle.std.proofs.Common.{◌≡◌, ℕ, List, [], ◌∷◌, ◌++◌, sym, subst, ap, arith, ◌∙◌}
use Rattle.std.specs.Prelude.{◌-◌}
use Rattle.std.specs.Duration.{as_nanos}
use Rattle.std.proofs.lemmas.List.{append_assoc, append-nil}
use Rattle.std.proofs.lemmas.List.Elements.{All-append, All-cons, All-nil}
use Rattle.chaos_node.specs.Clock.{BeginsBy, IsMoment, ShownSince, millis_of}
use Rattle.chaos_node.specs.Moments.{Readings, Reads}
use Rattle.chaos_node.specs.declared.clock.Epoch.{Epoch}

-- none, between a state and itself
pub reads_none : {M : Type 0} (state : Readings M) → Reads state state []
reads_none state = record { goes = λ first earlier h. subst (state first) (sym (append-nil earlier)) h }

-- some, and then others
pub reads_then : {M : Type 0} (a b c : Readings M) (some others : List ℕ) → Reads a b some → Reads b c others
    → Reads a c (some ++ others)
reads_then a b c some others one two = record {
  goes = λ first earlier h.
      subst (c first) (append_assoc earlier some others) (two.goes first (earlier ++ some) (one.goes first earlier h));
}

-- one more moment that a clock shows, behind those that it showed
pub shown_more : {C : Type 0} (shows : C → ℕ → Type 0) (clock start : C) (epoch begun : Epoch) (first last moment : ℕ)
    (earlier : List ℕ)
    → clock ≡ start → epoch ≡ begun → ShownSince (shows start) begun first last earlier → IsMoment (shows clock) epoch moment
    → ShownSince (shows start) begun first moment (earlier ++ moment ∷ [])
shown_more shows clock start epoch begun first last moment earlier same same' before shown from =
    let P : ℕ → Type 0 = IsMoment (shows start) begun in
    let one : P moment =
    subst (λ (e : Epoch). IsMoment (shows start) e moment) same'
    (subst (λ (c : _). IsMoment (shows c) epoch moment) same shown) in
    (All-append P earlier (moment ∷ []) (before from).0 (All-cons P moment [] one (All-nil P)), one)

-- the last moment that it showed once more
pub shown_again : (Shows : ℕ → Type 0) (epoch : Epoch) (first last : ℕ) (earlier : List ℕ)
    → ShownSince Shows epoch first last earlier → ShownSince Shows epoch first last (earlier ++ last ∷ [])
shown_again Shows epoch first last earlier before from =
    let P : ℕ → Type 0 = IsMoment Shows epoch in
    let now = before from in
    (All-append P earlier (last ∷ []) now.0 (All-cons P last [] now.1 (All-nil P)), now.1)

-- A run begins at moment 0, which the clock shows.
pub shown_first : (Shows Dates : ℕ → Type 0) (epoch : Epoch) (first : ℕ) → BeginsBy Shows Dates epoch → first ≡ 0
    → IsMoment Shows epoch first
shown_first Shows Dates epoch first begins e =
    let start = as_nanos epoch.start in
    let none : start - start ≡ 0 = omega arith in
    (start, begins.0, e ∙ sym (ap millis_of none))
