-- Words of the law of progress of FILE.
use Rattle.std.specs.Prelude.{◌≡◌, ◌≤◌, ℕ, false, List, [], ◌∷◌, length, Result, Ok, ⊤}
use Rattle.std.specs.FinMap as map
use Rattle.chaos_file.specs.Replies.{replies_of}
use Rattle.chaos_file.specs.declared.served.Served.TheVariants as told
use Rattle.chaos_lab.specs.declared.fault.LabFault.{LabFault}
use Rattle.chaos_lab.specs.Progress.{CanSettle, IsSettled, IsHelp}
use Rattle.file_lab.specs.declared.event.FileStepped.{FileStepped}
use Rattle.file_lab.specs.declared.event.FileStepped.TheVariants as stepped
use Rattle.file_lab.specs.View.{FileLabView, commands_of, replies_to_a, wrote_mem}
use Rattle.file_lab.specs.Events.{FileHappening, At, Serve}
use Rattle.file_lab.specs.Exact.{file_happen}
use Rattle.file_lab.specs.Settling.{after_events}

-- Both ends can settle, and B wrote no out-of-memory reply.
pub record CanServe (l : FileLabView) : Type 0 where
  pub lab : CanSettle l.lab
  pub memory : wrote_mem l ≡ false

-- B's server serves, or an event helps, which delivers no copy that was sent before the n-th.
abbrev pub IsFileHelp : ℕ → FileHappening → Type 0
IsFileHelp n (At event) = IsHelp n event
IsFileHelp n Serve = ⊤

abbrev pub AreFileHelp : ℕ → List FileHappening → Type 0
AreFileHelp n [] = ⊤
AreFileHelp n (event ∷ events) = IsFileHelp n event × AreFileHelp n events

-- an event of the laboratory happened, or B's server read an item, and replied to it if it was a command
abbrev pub IsDone : Result FileStepped LabFault → Type 0
IsDone (Ok (stepped.Lab s)) = ⊤
IsDone (Ok (stepped.Served told.Replied)) = ⊤
IsDone (Ok (stepped.Served told.Eof)) = ⊤
IsDone _ = ⊥

abbrev pub AreDone : FileLabView → List FileHappening → Type 0
AreDone l [] = ⊤
AreDone l (event ∷ events) = IsDone (file_happen l event).answer × AreDone (file_happen l event).view events

-- In m each command that A wrote in l was served, and its reply read. Nothing is left to be read or sent at either end,
-- and both are open.
pub record AllServed (l m : FileLabView) : Type 0 where
  pub written : m.lab.a.written ≡ l.lab.a.written
  pub replies : replies_to_a m ≡ replies_of map.empty (commands_of l)
  pub settled : IsSettled m.lab m.lab

-- the most events that it takes
abbrev pub most_file_events : ℕ
most_file_events = 586

-- These events are few, none is a write, a close or an acceptance of the client's and none is refused, and they deliver
-- only what was sent since. After them all was served.
pub record Serves (l : FileLabView) (events : List FileHappening) : Type 0 where
  pub few : length events ≤ most_file_events
  pub help : AreFileHelp (length l.lab.copies) events
  pub taken : AreDone l events
  pub served : AllServed l (after_events l events)
