-- A file that was copied.
use Rattle.std.specs.Prelude.{◌≡◌, ℕ, Bool, true, false, List, [], ◌∷◌, ◌++◌, map, length, Option, Some, None, option_map, IfSome}
use Rattle.sha2.specs.Sha256.{sha256}
use Rattle.file_copy.specs.declared.text.Charset.{Charset}
use Rattle.file_copy.specs.declared.text.Charset.TheVariants.{LispMachine, Ascii}
use Rattle.file_copy.specs.Text.{byte_in}
use Rattle.file_transfer.specs.declared.outcome.Contents.{Contents}

-- ---- local files

-- a local file that was written whole
pub record WrittenFile : Type 0 where
  pub name : List ℕ
  pub bytes : List ℕ

-- the files that were written, and this one behind them
abbrev pub written_after : List ℕ → List ℕ → Option (List WrittenFile) → Option (List WrittenFile)
written_after name bytes written = option_map (λ before. before ++ record { name = name; bytes = bytes } ∷ []) written

-- ---- texts

-- a file's bytes in the other character set, where it is a text
abbrev pub bytes_in : Charset → Bool → List ℕ → List ℕ
bytes_in set true bytes = map (byte_in set) bytes
bytes_in set false bytes = bytes

-- ---- one file

-- a local file's bytes, counted, and their digest where it is asked for
abbrev pub contents_of : Bool → List ℕ → Contents
contents_of true bytes = record { size = length bytes; digest = Some (sha256 bytes) }
contents_of false bytes = record { size = length bytes; digest = None }

-- These bytes were got, and then written whole here, as a text where that is asked for.
abbrev pub GetsWhole : (List ℕ → Type 0) → List ℕ → Bool → Bool → Contents → Option (List WrittenFile)
    → Option (List WrittenFile) → Type 0
GetsWhole Got local is_text is_digested contents before after = (bytes : List ℕ) × Got bytes
    × (after ≡ written_after local (bytes_in Ascii is_text bytes) before)
    × (contents ≡ contents_of is_digested (bytes_in Ascii is_text bytes))

-- All that this file has here was put, as a text where that is asked for.
abbrev pub PutsWhole : (List ℕ → Type 0) → Option (List ℕ) → Bool → Bool → Contents → Type 0
PutsWhole Put held is_text is_digested contents = (bytes : List ℕ) × IfSome held (λ all. bytes ≡ all)
    × Put (bytes_in LispMachine is_text bytes) × (contents ≡ contents_of is_digested bytes)
