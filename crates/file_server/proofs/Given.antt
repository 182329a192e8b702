-- The files of sessions are given back, where only the first sessions may have any.
use Rattle.std.proofs.Common.{◌≡◌, ◌≢◌, zero, suc, ℕ, ◌<◌, ◌≤◌, List, length, Option, Some, None, slice_set, get_or-set_same, get_or-set_other, arith, inl, inr, refl, ap, sym, ◌∙◌, subst}
use Rattle.std.proofs.lemmas.Bool.{cases_eq, cases_lt}
use Rattle.std.proofs.lemmas.List.{set-get_or}
use Rattle.chaos_host.specs.View.{HostView, id_at}
use Rattle.file_server.specs.Sessions.{HasNoFiles, Serving, new_serving, serving_at, without_files}
use Rattle.file_server.specs.Slots.{given_back, given_back_at, given_back_in}

-- one session was put into its place
pub set_bare : (xs : List Serving) (place k : ℕ) (s : Serving) → place < length xs → (k ≡ place → HasNoFiles s)
    → (k ≢ place → HasNoFiles (serving_at xs k)) → HasNoFiles (serving_at (slice_set xs place s) k)
set_bare xs place k s within here others =
    elim (cases_eq k place) as (λ _. HasNoFiles (serving_at (slice_set xs place s) k)) [
      | inl same ↦
          subst (λ (x : Serving). HasNoFiles x)
          (sym (ap (λ (n : ℕ). serving_at (slice_set xs place s) n) same ∙ get_or-set_same xs place s new_serving within))
          (here same)
      | inr apart ↦
          subst (λ (x : Serving). HasNoFiles x) (sym (get_or-set_other xs place k s new_serving apart)) (others apart)
    ]

pub at_in : (there : Option ℕ) (place : ℕ) (xs : List Serving)
    → given_back_at there place xs ≡ slice_set xs place (given_back_in there (serving_at xs place))
at_in None place xs = refl
at_in (Some id) place xs = sym (set-get_or xs place new_serving)

at_other : (there : Option ℕ) (n k : ℕ) (xs : List Serving) → k ≢ n
    → serving_at (given_back_at there n xs) k ≡ serving_at xs k
at_other None n k xs apart = get_or-set_other xs n k (without_files (serving_at xs n)) new_serving apart
at_other (Some id) n k xs apart = refl

-- of the first sessions alone files are given back
pub beyond : (h : HostView) (n k : ℕ) (xs : List Serving) → n ≤ k
    → serving_at (given_back h n xs) k ≡ serving_at xs k
beyond h zero k xs behind = refl
beyond h (suc n) k xs behind =
    at_other (id_at h n) n k (given_back h n xs) (λ (e : k ≡ n). omega arith) ∙ beyond h n k xs (omega arith)

nothing : (there : Option ℕ) (n : ℕ) (xs : List Serving) → HasNoFiles (serving_at xs n) → given_back_at there n xs ≡ xs
nothing None n xs bare = ap (slice_set xs n) bare ∙ set-get_or xs n new_serving
nothing (Some id) n xs bare = refl

-- sessions that have none are left as they are
pub rest_bare : (h : HostView) (m n : ℕ) (xs : List Serving) → m ≤ n
    → ((k : ℕ) → m ≤ k → HasNoFiles (serving_at xs k)) → given_back h n xs ≡ given_back h m xs
rest_bare h m zero xs within bare =
    let same : 0 ≡ m = omega arith in ap (λ (k : ℕ). given_back h k xs) same
rest_bare h m (suc n) xs within bare =
    elim (cases_lt n m) as (λ _. given_back h (suc n) xs ≡ given_back h m xs) [
      | inl all ↦ let same : suc n ≡ m = omega arith in ap (λ (k : ℕ). given_back h k xs) same
      | inr less ↦
          ap (given_back_at (id_at h n) n) (rest_bare h m n xs less bare)
          ∙ nothing (id_at h n) n (given_back h m xs)
          (subst (λ (x : Serving). HasNoFiles x) (sym (beyond h m n xs less)) (bare n less))
    ]
