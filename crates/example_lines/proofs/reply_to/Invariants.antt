use Rattle.std.proofs.Common.{◌≤◌, length}
use Rattle.example_lines.proofs.reply_to.Given as goal

-- what was taken so far are bytes of the client
abbrev pub invariant-loop-place : goal.invariant-loop-place
invariant-loop-place l = l.taken ≤ length l.bytes
