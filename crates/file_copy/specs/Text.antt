-- Text files of the Lisp machines: what stands there for backspace, tab, newline and page.
use Rattle.std.specs.Prelude.{ℕ, Bool, ◌==◌, ◌||◌, Option, Some, None, Result, Ok, Err, ⊤, if◌then◌else◌}
use Rattle.file_copy.specs.declared.text.Charset.{Charset}
use Rattle.file_copy.specs.declared.text.Charset.TheVariants as c

-- backspace, tab, newline and page as a Lisp machine's Overstrike (88), Tab (89), Return (8D) and Page (8C)
abbrev pub lisp_byte : ℕ → ℕ
lisp_byte b =
    if b == 8 then 136
    else (if b == 9 then 137
    else (if b == 10 then 141
    else (if b == 12 then 140 else b)))

-- and back
abbrev pub ascii_byte : ℕ → ℕ
ascii_byte b =
    if b == 136 then 8
    else (if b == 137 then 9
    else (if b == 141 then 10
    else (if b == 140 then 12 else b)))

-- a byte of the other character set, in this one
abbrev pub byte_in : Charset → ℕ → ℕ
byte_in c.LispMachine b = lisp_byte b
byte_in c.Ascii b = ascii_byte b

abbrev pub other_set : Charset → Charset
other_set c.LispMachine = c.Ascii
other_set c.Ascii = c.LispMachine

-- the bytes that this set has for the other's four: one that is there before the others are put in this set would come
-- back as another
abbrev pub is_lost : Charset → ℕ → Bool
is_lost c.LispMachine b = b == 136 || b == 137 || b == 140 || b == 141
is_lost c.Ascii b = b == 8 || b == 9 || b == 10 || b == 12

-- refused for a byte, where there is one
abbrev pub refused_for : Option ℕ → Result ⊤ ℕ
refused_for None = Ok tt
refused_for (Some b) = Err b
