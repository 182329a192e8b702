-- What is wrong with a line that is of no form.
use Rattle.std.specs.Prelude.{ℕ, List}
use Rattle.chaosd_lab.specs.declared.bad_line.BadLine.{BadLine}
use Rattle.chaosd_lab.specs.declared.bad_line.BadLine.TheVariants.{Serve, Form}
use Rattle.chaosd_lab.specs.declared.bad_line.LineForm.TheVariants as form
use Rattle.chaosd_lab.specs.Wrong.{wrong_of}

-- here `serve` has a form
abbrev pub with_serve : BadLine → BadLine
with_serve Serve = Form form.Serve
with_serve wrong = wrong

-- a later line
abbrev pub file_wrong_of : List ℕ → BadLine
file_wrong_of line = with_serve (wrong_of line)
