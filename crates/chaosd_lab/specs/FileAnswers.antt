-- What came of an event, as text.
use Rattle.std.specs.Prelude.{ℕ, List, codes, Result, Ok, Err}
use Rattle.chaos_lab.specs.declared.fault.LabFault.{LabFault}
use Rattle.chaos_file.specs.declared.served.Served.{Served}
use Rattle.chaos_file.specs.declared.served.Served.TheVariants as told
use Rattle.file_lab.specs.declared.event.FileStepped.{FileStepped}
use Rattle.file_lab.specs.declared.event.FileStepped.TheVariants as stepped
use Rattle.chaosd_io.specs.Texts.{line}
use Rattle.chaosd_lab.specs.Names.{state_name}
use Rattle.chaosd_lab.specs.Answers.{named_line, stepped_text, refusal_text}

-- what became of the item in front
abbrev pub served_text : Served → List ℕ
served_text told.Replied = line (codes "served Replied")
served_text told.Eof = line (codes "served Eof")
served_text told.Idle = line (codes "served Idle")
served_text told.NoRoom = line (codes "served NoRoom")
served_text (told.Ended state) = named_line (codes "served ended") (state_name state)
served_text told.NoSuchConnection = line (codes "served NoSuchConnection")

abbrev pub file_stepped_text : FileStepped → List ℕ
file_stepped_text (stepped.Lab s) = stepped_text s
file_stepped_text (stepped.Served s) = served_text s

-- what came of an event
abbrev pub file_answer_text : Result FileStepped LabFault → List ℕ
file_answer_text (Ok s) = file_stepped_text s
file_answer_text (Err why) = refusal_text why
