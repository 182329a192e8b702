-- A file that grows by its pieces.
use Rattle.std.proofs.Common.{◌≡◌, ℕ, ◌+◌, ◌*◌, ◌<◌, ◌≤◌, List, [], ◌∷◌, ◌++◌, length, take, drop, Option, Some, ap, ◌∙◌, sym, subst, arith, rules}
use Rattle.std.specs.Fmt.{decimal}
use Rattle.std.proofs.lemmas.List.{take_all, drop_all, take-append-le, drop-append-le, length-drop}
use Rattle.std.proofs.Math.Seq.{drop-append_seam}
use Rattle.chaos_file.specs.declared.limits.TheConstants.{MAX_CHUNK}
use Rattle.chaos_file.specs.Answer.{Given, AtEnd, read_answer}
use Rattle.file_copy.specs.Copy.{upto, chunk, reply_of}
use Rattle.file_copy.specs.Talk.{received_in, History, Since}
use Rattle.file_copy.specs.Row.{file_handle}
use Rattle.file_copy.specs.Ends.{read_received}
use Rattle.file_copy.proofs.Talks.{received_at}
use Rattle.file_copy.proofs.Joined.{upto_same}

chunk_front : (xs ys : List ℕ) (i j : ℕ) → j < i → length xs ≡ MAX_CHUNK * i → chunk (xs ++ ys) j ≡ chunk xs j
chunk_front xs ys i j l e =
    ap (take MAX_CHUNK) (drop-append-le (MAX_CHUNK * j) xs ys (omega arith))
    ∙ take-append-le MAX_CHUNK (drop (MAX_CHUNK * j) xs) ys (omega (arith, length-drop (MAX_CHUNK * j) xs))

chunk_last : (xs ys : List ℕ) (i : ℕ) → length xs ≡ MAX_CHUNK * i → length ys ≤ MAX_CHUNK → chunk (xs ++ ys) i ≡ ys
chunk_last xs ys i e l =
    ap (λ n. take MAX_CHUNK (drop n (xs ++ ys))) (sym e) ∙ ap (take MAX_CHUNK) (drop-append_seam xs ys)
    ∙ take_all MAX_CHUNK ys l

chunk_none : (xs : List ℕ) (i : ℕ) → length xs ≤ MAX_CHUNK * i → chunk xs i ≡ []
chunk_none xs i l = ap (take MAX_CHUNK) (drop_all (MAX_CHUNK * i) xs l)

pub given : (ys : List ℕ) → 0 < length ys → read_answer ys ≡ Given ys
given [] l = absurd (omega arith)
given (y ∷ ys) l = search rules

-- one more piece came
pub grows : {T : Type 0} (a b : History T) (cs : List (List ℕ)) (first i : ℕ) (xs ys : List ℕ) (o : Option (List ℕ))
    → length xs ≡ MAX_CHUNK * i → 0 < length ys → length ys ≤ MAX_CHUNK
    → o ≡ Some (reply_of (decimal (first + i)) file_handle (Given ys))
    → Since a b cs (upto (read_received first xs) i ++ received_in o)
    → Since a b cs (upto (read_received first (xs ++ ys)) (i + 1))
grows a b cs first i xs ys o e p l f h =
    received_at a b cs (read_received first (xs ++ ys)) i o _ f
    (sym
    (ap (λ z. reply_of (decimal (first + i)) file_handle (read_answer z)) (chunk_last xs ys i e l)
    ∙ ap (reply_of (decimal (first + i)) file_handle) (given ys p)))
    (subst (λ rs. Since a b cs (rs ++ received_in o))
    (upto_same (read_received first xs) (read_received first (xs ++ ys)) i
    (λ j m. ap (λ z. reply_of (decimal (first + j)) file_handle (read_answer z))
    (sym (chunk_front xs ys i j m e))))
    h)

-- the end was told
pub ends : {T : Type 0} (a b : History T) (cs : List (List ℕ)) (first : ℕ) (xs : List ℕ) (n : ℕ) (o : Option (List ℕ))
    → length xs ≤ MAX_CHUNK * n
    → o ≡ Some (reply_of (decimal (first + n)) file_handle AtEnd)
    → Since a b cs (upto (read_received first xs) n ++ received_in o)
    → Since a b cs (upto (read_received first xs) (n + 1))
ends a b cs first xs n o l f h =
    received_at a b cs (read_received first xs) n o _ f
    (sym (ap (λ z. reply_of (decimal (first + n)) file_handle (read_answer z)) (chunk_none xs n l))) h
