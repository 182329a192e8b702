-- What a line about a change is about.
use Rattle.std.specs.Prelude.{Option, Some}
use Rattle.chaos_file.specs.declared.change.Change.{Change}
use Rattle.chaos_file.specs.declared.change.Change.TheVariants.{Read, Refused}
use Rattle.chaos_file.specs.declared.error.FileError.TheVariants.{StoreFault}
use Rattle.chaos_file.specs.declared.store.Cause.{Cause}
use Rattle.chaos_file.specs.declared.store.Cause.TheVariants.{System}
use Rattle.chaosd_log.specs.declared.level.Topic.{Topic}
use Rattle.chaosd_log.specs.declared.level.Topic.TheVariants as topic

-- a file that was read; a fault of the system; a command that was refused; or a change
abbrev pub topic_of : Change → Option Cause → Topic
topic_of (Read path bytes) cause = topic.Read
topic_of (Refused attempt StoreFault) (Some (System fault)) = topic.Fault
topic_of (Refused attempt error) cause = topic.Refusal
topic_of change cause = topic.Change
