-- Packet numbers, which count modulo 65536.
use Rattle.std.specs.Prelude.{ℕ, ◌+◌, ◌-◌, ◌%◌, ◌<◌, ◌≤◌}

-- the number of item i in a direction whose first number is b
abbrev pub num : ℕ → ℕ → ℕ
num b i = (b + i) % 65536

-- how far number x is past number y, round the circle
abbrev pub off : ℕ → ℕ → ℕ
off x y = (x + (65536 - y)) % 65536

-- x is after y: past it by less than half the circle
abbrev pub After : ℕ → ℕ → Type 0
After x y = (1 ≤ off x y) × (off x y < 32768)
