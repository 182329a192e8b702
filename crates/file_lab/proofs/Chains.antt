-- Events one after the other.
use Rattle.std.proofs.Common.{◌≡◌, ℕ, zero, suc, ◌+◌, List, [], ◌∷◌, take, Some, refl, sym, subst, arith}
use Rattle.std.specs.Prelude.{slice_get}
use Rattle.file_lab.specs.View.{FileLabView}
use Rattle.file_lab.specs.Events.{FileHappening, Passes, Runs}

-- one event more
pub run_more : (l k m : FileLabView) (events : List FileHappening) (i : ℕ) (event : FileHappening)
    → slice_get events i ≡ Some event → Runs l (take i events) k → Passes k event m → Runs l (take (suc i) events) m
run_more l k m [] i event at r p = absurd (cc)
run_more l k m (e ∷ events) zero event at r p =
    let same : e ≡ event = cc in
    (m, subst (λ (z : FileLabView × FileHappening). Passes z.0 z.1 m) (λ j. (r j, sym same j)) p, refl)
run_more l k m (e ∷ events) (suc i) event at r p = (r.0, r.1, run_more r.0 k m events i event at r.2 p)

pub run_next : (l k m : FileLabView) (events : List FileHappening) (i : ℕ) (event : FileHappening)
    → slice_get events i ≡ Some event → Runs l (take i events) k → Passes k event m → Runs l (take (i + 1) events) m
run_next l k m events i event at r p =
    let next : suc i ≡ i + 1 = omega arith in
    subst (λ n. Runs l (take n events) m) next (run_more l k m events i event at r p)
