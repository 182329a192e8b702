use Rattle.std.proofs.Common.{length}
use denote.Text.{Utf8}
use denote.Shadow.{shadow}
use Rattle.file_copy.specs.Local.{IsBehindSlash}
use Rattle.file_copy.proofs.local.last_name.Given as goal

-- what is left of the path stands behind a slash or behind nothing
abbrev pub invariant-loop-behind : goal.invariant-loop-behind
invariant-loop-behind l = shadow (Utf8 l.name) × IsBehindSlash l.path l.name

-- and it grows shorter
abbrev pub decreases-loop-behind : goal.decreases-loop-behind
decreases-loop-behind l = length l.name
