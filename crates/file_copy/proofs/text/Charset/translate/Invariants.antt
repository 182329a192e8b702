use Rattle.std.proofs.Common.{◌≡◌, ◌++◌, take, drop}
use Rattle.std.specs.Prelude.{map}
use Rattle.file_copy.specs.Text.{byte_in}
use Rattle.file_copy.proofs.text.Charset.translate.Given as goal

abbrev pub invariant-loop-i : goal.invariant-loop-i
invariant-loop-i l = l.bytes ≡ map (byte_in l.self) (take l.i l.fn.bytes) ++ drop l.i l.fn.bytes
