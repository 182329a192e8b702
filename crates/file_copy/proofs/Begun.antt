-- What was said of a copy, however it ended.
use Rattle.std.proofs.Common.{◌≡◌, Bool, ℕ, suc, zero, ◌+◌, ◌*◌, ◌≤◌, List, [], ◌∷◌, ◌++◌, length, refl, ap, ◌∙◌, subst, arith, inl, inr}
use Rattle.std.specs.Prelude.{Result, Ok, Err, IfOk, OnErr}
use Rattle.std.specs.Fmt.{decimal}
use Rattle.std.proofs.lemmas.List.{append-nil}
use Rattle.chaos_file.specs.declared.limits.TheConstants.{MAX_FILE}
use Rattle.chaos_file.specs.Command.{OpenRead, Read, Close}
use Rattle.chaos_file.specs.Spelling.{spelling_of}
use Rattle.file_copy.specs.Copy.{upto, chunk_count, get_front}
use Rattle.file_copy.specs.Talk.{received_in, History, Since, SentOrNot, SentUpTo, taken}
use Rattle.file_copy.specs.Row.{file_handle}
use Rattle.file_copy.specs.Ends.{GetBegun, tids_from}
use Rattle.file_copy.proofs.Joined.{upto_same, since_same, next_tid}
use Rattle.file_copy.proofs.Talks.{since_then}

few_upto : {T : Type 0} (a b : History T) (f : ℕ → List ℕ) (k : ℕ) (rs : List (List ℕ)) (command : List ℕ) → f 0 ≡ command
    → k ≤ 1 → Since a b (upto f k) rs → SentOrNot a b command
few_upto a b f zero rs command e l h = (rs, inl h)
few_upto a b f (suc k) rs command e l h =
    let one : suc k ≡ 1 = omega arith in
    (rs, inr (subst (λ cs. Since a b cs rs) (ap (upto f) one ∙ ap (λ c. c ∷ []) e) h))

-- one command, whatever came of it
pub asked_or_not : {F : Type 0} {T : Type 0} (a b : History T) (f : ℕ → List ℕ) (k : ℕ) (command reply : List ℕ)
    (result : Result Bool F)
    → f 0 ≡ command → k ≤ 1
    → IfOk result (λ came. Since a b (upto f k) ([] ++ received_in (taken came reply)))
    → OnErr result (Since a b (upto f k) [])
    → SentOrNot a b command
asked_or_not a b f k command reply (Ok came) e l h g = few_upto a b f k _ command e l h
asked_or_not a b f k command reply (Err x) e l h g = few_upto a b f k _ command e l g

-- some of the commands of a row
pub sent_up_to : {T : Type 0} (a b : History T) (f : ℕ → List ℕ) (k m n : ℕ) (rs : List (List ℕ)) → k ≤ m → m ≡ n
    → Since a b (upto f k) rs → SentUpTo a b f n
sent_up_to a b f k m n rs l e h = (k, omega arith, rs, h)
