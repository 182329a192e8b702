-- Names of local files.
use Rattle.std.proofs.Common.{◌≡◌, ℕ, ◌<◌, Bool, true, eqb, List, [], ◌∷◌, ◌++◌, length, refl, ap, ◌∙◌, sym, arith, inl, inr}
use Rattle.std.specs.Prelude.{◌==◌, get_or}
use Rattle.std.specs.List.{position_or_len, before_first, after_first}
use Rattle.std.proofs.lemmas.Bool.Decides.{nat_tests}
use Rattle.std.proofs.lemmas.List.{append_assoc}
use Rattle.std.proofs.lemmas.List.Sums.{split_at_first, passes_at_first}
use Rattle.file_copy.specs.Local.{IsBehindSlash}

abbrev pub is_slash : ℕ → Bool
is_slash b = b == 47

-- a whole path stands behind nothing
pub behind_nothing : (path : List ℕ) → IsBehindSlash path path
behind_nothing path = record { front = []; whole = refl; behind = inl refl }

-- what stands behind the first slash of such a name is such a name
pub behind_more : (path name : List ℕ) → IsBehindSlash path name → position_or_len is_slash name < length name
    → IsBehindSlash path (after_first is_slash name)
behind_more path name h l =
    let t : eqb (get_or name (position_or_len is_slash name) 0) 47 ≡ true = passes_at_first is_slash name 0 l in
    let e : get_or name (position_or_len is_slash name) 0 ≡ 47 = grind (arith, nat_tests) in
    record {
      front = (h.front ++ before_first is_slash name) ++ 47 ∷ [];
      whole =
          h.whole
          ∙ ap (λ n. h.front ++ n)
          (split_at_first is_slash name 0 l
          ∙ ap (λ y. before_first is_slash name ++ (y ∷ after_first is_slash name)) e)
          ∙ sym (append_assoc h.front (before_first is_slash name) (47 ∷ after_first is_slash name))
          ∙ sym (append_assoc (h.front ++ before_first is_slash name) (47 ∷ []) (after_first is_slash name));
      behind = inr (h.front ++ before_first is_slash name, refl);
    }
