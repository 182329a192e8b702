-- The events of a laboratory whose B serves FILE.
use Rattle.std.specs.Prelude.{◌≡◌, ◌≢◌, ℕ, Bool, true, false, List, [], ◌∷◌, take, Some, None, slice_get, Result, Ok, Err, ◌⊎◌, ⊤}
use Rattle.std.specs.Bool.{MatchBool}
use Rattle.chaos_file.specs.ServeWork.{work_of}
use Rattle.chaos_file.specs.declared.served.Served.{Served}
use Rattle.chaos_lab.specs.declared.side.Side.TheVariants.{B}
use Rattle.chaos_lab.specs.declared.event.Stepped.{Stepped}
use Rattle.chaos_lab.specs.declared.fault.LabFault.{LabFault}
use Rattle.chaos_lab.specs.declared.fault.LabFault.TheVariants as fault
use Rattle.chaos_lab.specs.Laboratory.{Happening, Happens, check}
use Rattle.chaos_lab.specs.Laboratory.Happening.{WriteBy, ReadBy}
use Rattle.chaos_lab.specs.Turn.{Turn}
use Rattle.chaos_lab.specs.Turns.{TurnHappens}
use Rattle.chaos_lab.specs.Inside.{happening_of}
use Rattle.file_lab.specs.declared.event.FileEvent.{FileEvent}
use Rattle.file_lab.specs.declared.event.FileEvent.TheVariants as event
use Rattle.file_lab.specs.declared.event.FileStepped.{FileStepped}
use Rattle.file_lab.specs.declared.event.FileStepped.TheVariants as stepped
use Rattle.file_lab.specs.View.{FileLabView}
use Rattle.file_lab.specs.Serving.{Service, ServesBy}

-- an event of the laboratory, or B's server serves once
pub data FileHappening : Type 0 where
  At : (event : Happening) → FileHappening
  Serve : FileHappening

abbrev pub file_event : FileEvent → FileHappening
file_event (event.At e) = At (happening_of e)
file_event event.Serve = Serve

-- B's writes and reads are its server's alone
abbrev pub is_by_server : Happening → Bool
is_by_server (WriteBy B op bytes) = true
is_by_server (ReadBy B) = true
is_by_server _ = false

-- ---- what an event does, and what it answers

abbrev pub lab_answer : Result Stepped LabFault → Result FileStepped LabFault
lab_answer (Ok s) = Ok (stepped.Lab s)
lab_answer (Err why) = Err why

-- nothing changed
abbrev pub IsRefused : (old new : FileLabView) → LabFault → Result FileStepped LabFault → Type 0
IsRefused old new why answer = (new ≡ old) × (answer ≡ Err why)

-- the laboratory's own event; the session and its files stay
pub record LabHappens (old : FileLabView) (event : Happening) (new : FileLabView)
    (answer : Result FileStepped LabFault) : Type 0 where
  pub done : Result Stepped LabFault
  pub lab : Happens old.lab event new.lab done
  pub answered : answer ≡ lab_answer done
  pub session : new.session ≡ old.session
  pub files : new.files ≡ old.files

abbrev pub service_of : FileLabView → Service
service_of l = record { session = l.session; files = l.files }

-- B's server served once, at its connection as it was
pub record Serving (old new : FileLabView) (served : Served) : Type 0 where
  pub turn : Turn
  pub serves : ServesBy (service_of old) (service_of new) turn served (work_of old.lab.b.conn)
  pub happens : TurnHappens old.lab turn new.lab

-- it served, or there was no memory for the histories
abbrev pub ServeHappens : (old new : FileLabView) → Result FileStepped LabFault → Type 0
ServeHappens old new answer =
    ((served : Served) × Serving old new served × (answer ≡ Ok (stepped.Served served)))
    ⊎ IsRefused old new fault.NoMemory answer

abbrev pub FileHappens : FileLabView → FileHappening → FileLabView → Result FileStepped LabFault → Type 0
FileHappens old (At event) new answer =
    MatchBool (is_by_server event) (IsRefused old new fault.ByServer answer) (LabHappens old event new answer)
FileHappens old Serve new answer = ServeHappens old new answer

-- an event happened, or was refused, and memory was not wanted
abbrev pub Passes : FileLabView → FileHappening → FileLabView → Type 0
Passes old event new =
    (answer : Result FileStepped LabFault) × FileHappens old event new answer × (answer ≢ Err fault.NoMemory)

-- a list of events, the refused ones passed over
abbrev pub Runs : FileLabView → List FileHappening → FileLabView → Type 0
Runs old [] new = new ≡ old
Runs old (event ∷ events) new = (mid : FileLabView) × Passes old event mid × Runs mid events new

-- it has passed the checks that come before all else: it isn't B's server's, and what the laboratory checks. Nothing is
-- checked before a serve
abbrev pub HasPassed : FileLabView → FileHappening → Type 0
HasPassed l (At event) = (is_by_server event ≡ false) × (check l.lab event ≡ None)
HasPassed l Serve = ⊤

-- Events stopped when out of memory: so many of them happened or were refused. The next one had passed its checks.
pub record Stops (old : FileLabView) (events : List FileHappening) (new : FileLabView) : Type 0 where
  pub done : ℕ
  pub event : FileHappening
  pub next : slice_get events done ≡ Some event
  pub passed : HasPassed new event
  pub after : Runs old (take done events) new
