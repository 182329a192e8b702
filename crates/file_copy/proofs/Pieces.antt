-- A file in pieces.
use Rattle.std.proofs.Common.{◌≡◌, ℕ, ◌+◌, ◌*◌, ◌<◌, ◌≤◌, List, ◌++◌, length, take, drop, ap, ◌∙◌, sym, arith, length-append, subst}
use Rattle.std.specs.Prelude.{min}
use Rattle.std.proofs.lemmas.List.{take_all, length-take, drop_min}
use Rattle.std.proofs.Math.Seq.{take-add}
use Rattle.std.proofs.Math.Nat.{min-le_left}
use Rattle.chaos_file.specs.declared.limits.TheConstants.{MAX_CHUNK}
use Rattle.file_copy.specs.Copy.{chunk, chunk_count}

full_count : (n : ℕ) → n ≤ MAX_CHUNK * chunk_count n
full_count n = omega arith

pub within_count : (n i : ℕ) → i < chunk_count n → MAX_CHUNK * i < n
within_count n i l = omega arith

pub front_more : (bytes : List ℕ) (i : ℕ)
    → take (MAX_CHUNK * i) bytes ++ chunk bytes i ≡ take (MAX_CHUNK * (1 + i)) bytes
front_more bytes i = sym (take-add (MAX_CHUNK * i) MAX_CHUNK bytes) ∙ ap (λ k. take k bytes) (omega arith)

pub front_all : (bytes : List ℕ) → take (MAX_CHUNK * chunk_count (length bytes)) bytes ≡ bytes
front_all bytes = take_all (MAX_CHUNK * chunk_count (length bytes)) bytes (full_count (length bytes))

pub front_length : (bytes : List ℕ) (i : ℕ) → length (take (MAX_CHUNK * i) bytes) ≡ min (MAX_CHUNK * i) (length bytes)
front_length bytes i = length-take (MAX_CHUNK * i) bytes

-- a front and the next piece, counted
pub piece_more : (bytes : List ℕ) (i : ℕ)
    → length (take (MAX_CHUNK * i) bytes) + length (chunk bytes i) ≡ min (MAX_CHUNK * (1 + i)) (length bytes)
piece_more bytes i =
    sym (length-append (take (MAX_CHUNK * i) bytes) (chunk bytes i)) ∙ ap length (front_more bytes i)
    ∙ front_length bytes (1 + i)

pub piece_length : (bytes : List ℕ) (i : ℕ) → length (chunk bytes i) ≤ MAX_CHUNK
piece_length bytes i =
    subst (λ n. n ≤ MAX_CHUNK) (sym (length-take MAX_CHUNK (drop (MAX_CHUNK * i) bytes)))
    (min-le_left MAX_CHUNK (length (drop (MAX_CHUNK * i) bytes)))

-- what is left behind a front that may go past the end
pub drop_within : (a : ℕ) (xs : List ℕ) → drop (min a (length xs)) xs ≡ drop a xs
drop_within a xs = drop_min a xs

pub all_read : (bytes : List ℕ) → min (MAX_CHUNK * (1 + chunk_count (length bytes))) (length bytes) ≡ length bytes
all_read bytes = omega arith
