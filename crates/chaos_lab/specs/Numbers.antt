-- How a count is told on the wire.
use Rattle.std.specs.Prelude.{ℕ, ◌+◌, ◌%◌}

-- the number that tells a count of a direction whose first number is b: that of the last item counted. For none that is
-- the number before the first
abbrev pub told_num : ℕ → ℕ → ℕ
told_num b count = (b + 65535 + count) % 65536
