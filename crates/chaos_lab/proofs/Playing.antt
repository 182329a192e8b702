-- Events that are played one after the other, of which none is refused, and none writes or closes.
use Rattle.std.proofs.Common.{◌≡◌, ℕ, List, [], ◌∷◌, ◌++◌, refl, sym, subst}
use Rattle.chaos_lab.specs.Machine.{Machine}
use Rattle.chaos_lab.specs.Laboratory.{LabView, Happening, happen, after_all}
use Rattle.chaos_lab.specs.Tied.{Ties}
use Rattle.chaos_lab.specs.Progress.{IsHelp, AreHelp, AreTaken}
use Rattle.chaos_lab.proofs.Keeps.{Keeps, keeps_same, keeps_through}
use Rattle.chaos_lab.proofs.Helping.{IsTaken}

-- these events are taken, deliver copies from the n-th on, and lead the machine from w to v
pub record Plays (n : ℕ) (w : Machine) (l : LabView) (events : List Happening) (v : Machine) : Type 0 where
  pub ties : Ties v (after_all l events)
  pub keeps : Keeps w v
  pub help : AreHelp n events
  pub taken : AreTaken l events

pub after_both : (l : LabView) (es fs : List Happening) → after_all l (es ++ fs) ≡ after_all (after_all l es) fs
after_both l [] fs = refl
after_both l (event ∷ es) fs = after_both (happen l event).lab es fs

help_both : (n : ℕ) (es fs : List Happening) → AreHelp n es → AreHelp n fs → AreHelp n (es ++ fs)
help_both n [] fs h k = k
help_both n (event ∷ es) fs h k = (h.0, help_both n es fs h.1 k)

taken_both : (l : LabView) (es fs : List Happening) → AreTaken l es → AreTaken (after_all l es) fs
    → AreTaken l (es ++ fs)
taken_both l [] fs h k = k
taken_both l (event ∷ es) fs h k = (h.0, taken_both (happen l event).lab es fs h.1 k)

pub plays_none : (n : ℕ) (w : Machine) (l : LabView) → Ties w l → Plays n w l [] w
plays_none n w l t = record { ties = t; keeps = keeps_same w; help = tt; taken = tt }

pub plays_one : (n : ℕ) (w v : Machine) (l : LabView) (event : Happening) → IsHelp n event → IsTaken l event
    → Ties v (happen l event).lab → Keeps w v → Plays n w l (event ∷ []) v
plays_one n w v l event help taken t k = record { ties = t; keeps = k; help = (help, tt); taken = (taken, tt) }

pub plays_both : (n : ℕ) (u w v : Machine) (l : LabView) (es fs : List Happening) → Plays n u l es w
    → Plays n w (after_all l es) fs v → Plays n u l (es ++ fs) v
plays_both n u w v l es fs p q =
    record {
      ties = subst (Ties v) (sym (after_both l es fs)) q.ties;
      keeps = keeps_through u w v p.keeps q.keeps;
      help = help_both n es fs p.help q.help;
      taken = taken_both l es fs p.taken q.taken;
    }

pub plays_first : (n : ℕ) (u w v : Machine) (l : LabView) (event : Happening) (events : List Happening)
    → Plays n u l (event ∷ []) w → Plays n w (happen l event).lab events v → Plays n u l (event ∷ events) v
plays_first n u w v l event events p q = plays_both n u w v l (event ∷ []) events p q
