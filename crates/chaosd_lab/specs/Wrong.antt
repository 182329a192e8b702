-- What is wrong with a line that is of no form.
use Rattle.std.specs.Prelude.{ℕ, ◌-◌, ◌==◌, nat_eq, List, length, codes, Option, Some, None, is_some, if◌then◌else◌}
use Rattle.std.specs.List.{starts_with}
use Rattle.std.specs.Str.{bytes_eq}
use Rattle.chaosd_io.specs.Escapes.{data_of}
use Rattle.chaosd_io.specs.BadText.{why_text}
use Rattle.chaosd_lab.specs.declared.bad_line.BadLine.{BadLine}
use Rattle.chaosd_lab.specs.declared.bad_line.BadLine.TheVariants.{Empty, Comment, NoEnds, EndsAgain, Serve, NoWord, Form, Text}
use Rattle.chaosd_lab.specs.declared.bad_line.LineForm.{LineForm}
use Rattle.chaosd_lab.specs.declared.bad_line.LineForm.TheVariants as form
use Rattle.chaosd_lab.specs.Fields.{cut, field_and_text}

-- a first line
abbrev pub wrong_first : List ℕ → BadLine
wrong_first line = if starts_with nat_eq line (codes "#") then Comment else NoEnds

-- a line that begins with this word: it needs the word's form, or no later line begins so
abbrev pub wrong_word : List ℕ → BadLine
wrong_word word =
    if bytes_eq word (codes "write") then Form form.Write
    else (if bytes_eq word (codes "read") then Form form.Read
    else (if bytes_eq word (codes "window") then Form form.Window
    else (if bytes_eq word (codes "tick") then Form form.Tick
    else (if bytes_eq word (codes "close") then Form form.Close
    else (if bytes_eq word (codes "accept") then Form form.Accept
    else (if bytes_eq word (codes "deliver") then Form form.Deliver
    else (if bytes_eq word (codes "settle") then Form form.Settle
    else (if bytes_eq word (codes "ends") then EndsAgain
    else (if bytes_eq word (codes "serve") then Serve
    else (if starts_with nat_eq word (codes "#") then Comment else NoWord))))))))))

-- a line without a space
abbrev pub wrong_alone : List ℕ → BadLine
wrong_alone line = if length line == 0 then Empty else wrong_word line

-- a line that a text ends: the text stands for no bytes, or else the form is another
abbrev pub wrong_text : LineForm → List ℕ → List ℕ → BadLine
wrong_text form line text =
    if is_some (data_of text) then Form form else Text (why_text (length line - length text) text)

-- the text stands behind a side and an opcode
abbrev pub wrong_write : List ℕ → Option (List ℕ × List ℕ) → BadLine
wrong_write line None = Form form.Write
wrong_write line (Some p) = wrong_text form.Write line (field_and_text p.1).1

abbrev pub wrong_by : List ℕ → List ℕ → List ℕ → BadLine
wrong_by line word rest =
    if bytes_eq word (codes "write") then wrong_write line (cut rest)
    else (if bytes_eq word (codes "read") then Form form.Read
    else (if bytes_eq word (codes "window") then Form form.Window
    else (if bytes_eq word (codes "tick") then Form form.Tick
    else (if bytes_eq word (codes "close") then wrong_text form.Close line (field_and_text rest).1
    else (if bytes_eq word (codes "accept") then Form form.Accept
    else (if bytes_eq word (codes "deliver") then Form form.Deliver else wrong_word word))))))

abbrev pub wrong_parts : List ℕ → Option (List ℕ × List ℕ) → BadLine
wrong_parts line None = wrong_alone line
wrong_parts line (Some p) = wrong_by line p.0 p.1

-- a later line
unfoldable pub wrong_of : List ℕ → BadLine
wrong_of line = wrong_parts line (cut line)
