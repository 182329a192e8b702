-- The files of a copy and their sizes.
use Rattle.std.specs.Prelude.{ℕ, ◌+◌, List, fold, drop, min}

-- the greatest count of the machine, at which sums stop
abbrev pub most : ℕ
most = 18446744073709551615

-- the sum of these counts
abbrev pub sum_of : List ℕ → ℕ
sum_of counts = fold (λ sum count. min (sum + count) most) 0 counts

-- the bytes of the files behind a place
abbrev pub bytes_behind : List ℕ → ℕ → ℕ
bytes_behind sizes place = sum_of (drop (place + 1) sizes)
