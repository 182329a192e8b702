use Rattle.std.proofs.Common.{◌≡◌, drop}
use Rattle.chaos_window.proofs.kept.Kept.drop_front.Given as goal

-- So far as many are gone.
abbrev pub invariant-loop-i : goal.invariant-loop-i
invariant-loop-i l = l.self ≡ record l.fn.self { items = drop l.i l.fn.self.items }
