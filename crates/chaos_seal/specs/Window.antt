-- Which counters were heard.
use Rattle.std.specs.Prelude.{◌≢◌, ◌↔◌, ℕ, ◌+◌, ◌<◌, ◌%◌, List, [], ◌∷◌, All, max, replicate, slice_index, slice_set}
use Rattle.chaos_seal.specs.declared.window.ReplayWindow.{ReplayWindow}

-- nothing was heard but 0, which nobody sends
abbrev pub nothing_heard : ReplayWindow
nothing_heard = record { greatest = 0; slots = replicate 256 0 }

-- The counter is greater than the greatest one heard of its residue by 256, and fewer than 256 below the greatest one heard.
abbrev pub IsFresh : ReplayWindow → ℕ → Type 0
IsFresh w counter = (slice_index w.slots (counter % 256) < counter) × (w.greatest < counter + 256)

-- the window once a counter is heard
abbrev pub hear : ℕ → ReplayWindow → ReplayWindow
hear counter w = record { greatest = max w.greatest counter; slots = slice_set w.slots (counter % 256) counter }

-- ---- What a window promises, whatever keeps it

-- the window once these counters were heard, the last one first
abbrev pub window_of : List ℕ → ReplayWindow
window_of [] = nothing_heard
window_of (c ∷ cs) = hear c (window_of cs)

-- Each of them was fresh when it was heard.
abbrev pub EachFresh : List ℕ → Type 0
EachFresh [] = Unit {0}
EachFresh (c ∷ cs) = IsFresh (window_of cs) c × EachFresh cs

-- A counter is fresh exactly where it isn't 0, wasn't heard, and lies fewer than 256 below each counter that was heard.
abbrev pub IsExact : Type 0
IsExact = (cs : List ℕ) (counter : ℕ) → EachFresh cs
    → IsFresh (window_of cs) counter ↔ ((0 < counter) × All (λ c. (c ≢ counter) × (c < counter + 256)) cs)
