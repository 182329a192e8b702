-- What it means that the status of a line is Done.
use Rattle.file_copy.specs.declared.talk.Talk as t
use Rattle.file_client.specs.declared.client.Client.{Client}
use Rattle.file_client.specs.declared.clock_driver.ClockDriver.{ClockDriver}
use Rattle.chaosd_line.specs.declared.line.Calling.{Calling}
use Rattle.chaosd_line.specs.declared.line.Line.{Line}
use Rattle.chaosd_line.specs.declared.line.Line.TheVariants.{Delete, Get, Put, Rename}
use Rattle.chaosd_call.specs.Job.{Job, Deletes, Gets, Puts, Renames}
use Rattle.chaosd_call.specs.LineDone.{ByFraming, LineDone}

module _ {C L M : Type 0} (own : t.Ghosts (Client (ClockDriver C L))) (chudp : t.Ghosts (Client (ClockDriver C M))) where
  -- A new client called the line's server and did the whole job.
  abbrev pub CallDone : Calling → Job → Type 0
  CallDone calling job = ByFraming calling.framing (LineDone own calling job) (LineDone chudp calling job)

  -- All files of the line were got, put, deleted or renamed. Of a line that asks for no files nothing is said.
  abbrev pub AllDoneOf : Line → Type 0
  AllDoneOf (Get line) = CallDone line.copying.calling (Gets line.paths.items)
  AllDoneOf (Put line) = CallDone line.copying.calling (Puts line.files.items)
  AllDoneOf (Delete line) = CallDone line.calling (Deletes line.paths.items)
  AllDoneOf (Rename line) = CallDone line.calling (Renames line.from.now line.to.now)
  AllDoneOf _ = Unit {0}
