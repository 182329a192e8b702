-- Files that a line names by words that are no text.
use Rattle.std.specs.Prelude.{◌==◌, ℕ, Bool, true, not, List, [], length, filter, find, count_by, Option, option_map}
use Rattle.std.specs.Borrow.{Bor}
use Rattle.std.specs.List.{list_any}
use Rattle.std.specs.Str.{bytes_eq}
use Rattle.file_names.specs.declared.put_file.PutFile.{PutFile}
use Rattle.chaosd_line.specs.declared.line.Line.{Line}
use Rattle.chaosd_line.specs.declared.line.Line.TheVariants as line
use Rattle.chaosd.specs.declared.words.Mark.{Mark}

-- a name is a mark's text
abbrev pub is_text_of : Mark → List ℕ → Bool
is_text_of mark name = bytes_eq name mark.text.bytes.items

-- a name is the text of one of the marks
abbrev pub is_marked : List Mark → List ℕ → Bool
is_marked marks name = list_any (λ mark. is_text_of mark name) marks

-- the files whose names are no mark's, in their order
abbrev pub unmarked : {F : Type 0} → (F → List ℕ) → List Mark → List F → List F
unmarked name marks files = filter (λ file. not (is_marked marks (name file))) files

-- a mark is the text of one name and of no other
abbrev pub stands_once : {F : Type 0} → (F → List ℕ) → List F → Mark → Bool
stands_once name files mark = count_by (λ file. is_text_of mark (name file)) files == 1

-- the place of the first mark that isn't
abbrev pub first_elsewhere : {F : Type 0} → (F → List ℕ) → List F → List Mark → Option ℕ
first_elsewhere name files marks = option_map (λ mark. mark.place) (find (λ mark. not (stands_once name files mark)) marks)

-- the files that a line names by words of any number: by their names alone, or each with its path
pub data LineFiles : Type 0 where
  Names : List (Bor (List ℕ)) → LineFiles
  Puts : List PutFile → LineFiles

abbrev pub files_of : Line → LineFiles
files_of (line.Get get) = Names get.paths.items
files_of (line.Put put) = Puts put.files.items
files_of (line.Delete delete) = Names delete.paths.items
files_of _ = Names []

-- the files of a line whose names are no mark's, in their order
abbrev pub unmarked_of : List Mark → LineFiles → LineFiles
unmarked_of marks (Names names) = Names (unmarked (λ name. name.now) marks names)
unmarked_of marks (Puts files) = Puts (unmarked (λ file. file.local.now) marks files)

-- the place of the first mark that isn't the text of exactly one of a line's names
abbrev pub first_elsewhere_of : LineFiles → List Mark → Option ℕ
first_elsewhere_of (Names names) marks = first_elsewhere (λ name. name.now) names marks
first_elsewhere_of (Puts files) marks = first_elsewhere (λ file. file.local.now) files marks

-- a line that names such files has work while it names one; any other line has
abbrev pub has_work : Line → Bool
has_work (line.Get get) = not (length get.paths.items == 0)
has_work (line.Put put) = not (length put.files.items == 0)
has_work (line.Delete delete) = not (length delete.paths.items == 0)
has_work _ = true
