use Rattle.std.proofs.Common.{◌≡◌, replicate}
use Rattle.file_server.specs.Sessions.{new_serving}
use Rattle.file_server.proofs.sessions.Sessions.new.Given as goal

abbrev pub invariant-loop-i : goal.invariant-loop-i
invariant-loop-i l = l.kept.items ≡ replicate l.i new_serving
