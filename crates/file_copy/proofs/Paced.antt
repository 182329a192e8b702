-- No more commands are in flight than the server's window allows.
use Rattle.std.proofs.Common.{◌≡◌, ℕ, ◌≤◌, ◌+◌, ◌==◌, Bool, true, false, if◌then◌else◌, max, arith, refl}
use Rattle.std.proofs.Math.Nat.{min-le_right}
use Rattle.std.proofs.lemmas.Bool.Decides.{nat_tests}
use Rattle.file_copy.specs.Pace.{halved, looked, most_of}
use Rattle.file_copy.specs.declared.pace.Line.{Line}
use Rattle.file_copy.specs.declared.pace.Pace.{Pace}

-- what is in flight lies within the window
pub most_within : (p : Pace) → most_of p ≤ p.window
most_within p = min-le_right p.allowed p.window

first_stays : (known seen : ℕ) (b : Bool) → (b ≡ true → known ≡ 0) → known ≤ (if b then seen else known)
first_stays known seen true none = let zero : known ≡ 0 = none refl in omega (arith, zero)
first_stays known seen false none = omega arith

either : (b : Bool) (sent window : ℕ) (p : Pace) → window ≤ p.window → window ≤ (if b then halved sent p else p).window
either true sent window p within = within
either false sent window p within = within

-- a look at the line narrows no window
pub window_stays : (line : Line) (sent received : ℕ) (p : Pace) → p.window ≤ (looked line sent received p).window
window_stays line sent received p =
    either _ sent p.window _
    (first_stays p.window line.window (p.window == 0) (λ e. grind (arith, nat_tests, e)))

-- more commands were sent, as far as a window allows that is no narrower than before
pub few_more : (first sent more received window most wider : ℕ) → sent ≤ max first (received + window)
    → more ≤ max sent (received + most) → most ≤ wider → window ≤ wider → more ≤ max first (received + wider)
few_more first sent more received window most wider before now within wide =
    omega (arith, before, now, within, wide)
