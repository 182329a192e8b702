use Rattle.std.proofs.Common.{◌≤◌, vec_len}
use Rattle.chaos_lab.proofs.data.set_more_aside.Given as goal

-- so many rooms are set aside
abbrev pub invariant-loop-place : goal.invariant-loop-place
invariant-loop-place l = l.place ≤ vec_len l.spares
