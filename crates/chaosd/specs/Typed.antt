-- What is typed.
use Rattle.std.specs.Prelude.{ℕ, ◌+◌, ◌==◌, if◌then◌else◌}
use Rattle.chaosd_ask.specs.declared.typed.TheConstants.{MAX_TYPED}

-- the number behind this one, from 1 on again behind the greatest
abbrev pub number_behind : ℕ → ℕ
number_behind number = if number == MAX_TYPED then 1 else number + 1
