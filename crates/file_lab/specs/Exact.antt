-- An event as a function, and what running out of memory makes of it.
use Rattle.std.specs.Prelude.{◌≡◌, ℕ, List, true, Result, Ok, Err, ◌⊎◌, if◌then◌else◌}
use Rattle.chaos_packet.specs.Opcode.{op_data}
use Rattle.chaos_file.specs.declared.error.FileError.TheVariants as e
use Rattle.chaos_file.specs.Answer.{reply_to}
use Rattle.chaos_file.specs.Apply.{MayGrow}
use Rattle.chaos_file.specs.Grammar.{parse_of}
use Rattle.chaos_file.specs.Plan.{plan_of}
use Rattle.chaos_file.specs.Step.{file_step}
use Rattle.chaos_file.specs.ServeWork.{Work, NotOpen, Nothing, Full, LastItem, Command, work_of}
use Rattle.chaos_file.specs.declared.served.Served.TheVariants as told
use Rattle.chaos_lab.specs.declared.fault.LabFault.{LabFault}
use Rattle.chaos_lab.specs.declared.fault.LabFault.TheVariants as fault
use Rattle.chaos_lab.specs.Laboratory.{Happening, happen, after_all}
use Rattle.chaos_lab.specs.Turn.{Reads, Replies, turn_events}
use Rattle.file_lab.specs.declared.event.FileStepped.{FileStepped}
use Rattle.file_lab.specs.declared.event.FileStepped.TheVariants as stepped
use Rattle.file_lab.specs.View.{FileLabView, wrote_mem}
use Rattle.file_lab.specs.Events.{FileHappening, At, Serve, is_by_server, lab_answer}

-- all after an event, and what it answers
pub record FileDone : Type 0 where
  pub view : FileLabView
  pub answer : Result FileStepped LabFault

-- serving once, by what is to be done: a command is carried out by the definition of the language
abbrev pub serve_work : FileLabView → Work → FileDone
serve_work l (NotOpen state) = record { view = l; answer = Ok (stepped.Served (told.Ended state)) }
serve_work l Nothing = record { view = l; answer = Ok (stepped.Served told.Idle) }
serve_work l Full = record { view = l; answer = Ok (stepped.Served told.NoRoom) }
serve_work l LastItem =
    record { view = record l { lab = after_all l.lab (turn_events Reads) }; answer = Ok (stepped.Served told.Eof) }
serve_work l (Command body) =
    let s = file_step l.files l.session body in
    record {
      view =
          record { lab = after_all l.lab (turn_events (Replies op_data s.reply)); session = s.session; files = s.files };
      answer = Ok (stepped.Served told.Replied);
    }

-- an event of the laboratory, which leaves the session and the files
abbrev pub lab_done : FileLabView → Happening → FileDone
lab_done l event =
    record { view = record l { lab = (happen l.lab event).lab }; answer = lab_answer (happen l.lab event).answer }

abbrev pub refused_done : FileLabView → LabFault → FileDone
refused_done l why = record { view = l; answer = Err why }

abbrev pub file_happen : FileLabView → FileHappening → FileDone
file_happen l (At event) = if is_by_server event then refused_done l fault.ByServer else lab_done l event
file_happen l Serve = serve_work l (work_of l.lab.b.conn)

-- an event did that; or there was no memory for the histories, and nothing changed
abbrev pub IsExact : FileLabView → FileHappening → FileLabView → Result FileStepped LabFault → Type 0
IsExact old event new answer =
    ((new ≡ (file_happen old event).view) × (answer ≡ (file_happen old event).answer))
    ⊎ ((new ≡ old) × (answer ≡ Err fault.NoMemory))

-- B's server found no memory for the command in front, one that may take some: its reply says so, and is written as any
-- other; neither the session nor the files changed
pub record ServeWants (old new : FileLabView) (answer : Result FileStepped LabFault) : Type 0 where
  pub body : List ℕ
  pub front : work_of old.lab.b.conn ≡ Command body
  pub may_grow : MayGrow (plan_of old.session (parse_of body))
  pub after : new
      ≡ record old
      { lab = after_all old.lab (turn_events (Replies op_data (reply_to (parse_of body) (Err e.NoMemory)))) }
  pub answered : answer ≡ Ok (stepped.Served told.Replied)
  pub wrote : wrote_mem new ≡ true

-- no other event is B's server's
abbrev pub Wants : FileLabView → FileHappening → FileLabView → Result FileStepped LabFault → Type 0
Wants old (At event) new answer = ⊥
Wants old Serve new answer = ServeWants old new answer
