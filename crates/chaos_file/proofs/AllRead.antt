-- Files that are read whole.
use Rattle.std.proofs.Common.{◌≡◌, ℕ, ◌<◌, List, [], ◌++◌, length, take, Option, Some, None, ap, ◌∙◌, subst, arith}
use Rattle.std.specs.Prelude.{IfSome, option_map}
use Rattle.std.specs.Io.Take.{take_remaining}
use Rattle.std.specs.declared.io.traits.Take.{Take}
use Rattle.std.proofs.lemmas.List.{take_all, length-take}

-- a reader that gave less than the limit gave all
pub all_read : {R : Type 0} (remaining : R → Option (List ℕ)) (t : Take R) (from : R) (old items : List ℕ)
    → IfSome (take_remaining remaining t) (λ xs. items ≡ old ++ xs)
    → old ≡ [] → t.inner ≡ from → length items < t.limit → IfSome (remaining from) (λ input. items ≡ input)
all_read remaining t from old items h e f l =
    subst (λ r. IfSome (remaining r) (λ input. items ≡ input)) f (by (remaining t.inner) h)
  where
    by : (known : Option (List ℕ)) → IfSome (option_map (take t.limit) known) (λ xs. items ≡ old ++ xs)
        → IfSome known (λ input. items ≡ input)
    by None g = tt
    by (Some input) g =
        let is : items ≡ take t.limit input = g ∙ ap (λ o. o ++ take t.limit input) e in
        is ∙ take_all t.limit input (omega (arith, ap length is, length-take t.limit input))
