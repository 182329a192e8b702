-- Which lines a log has.
use Rattle.std.specs.Prelude.{ℕ, Bool, true, false}
use Rattle.chaosd_log.specs.declared.level.Level.{Level}
use Rattle.chaosd_log.specs.declared.level.Level.TheVariants.{Quiet, All}
use Rattle.chaosd_log.specs.declared.level.Topic.{Topic}
use Rattle.chaosd_log.specs.declared.level.Topic.TheVariants.{Fault, Socket, Stranger, Service, Connection, Change, Refusal, Read}

-- what failed and who isn't known always, files that were read only where all is logged, and the rest unless it is to be quiet
abbrev pub has_topic : Level → Topic → Bool
has_topic level Fault = true
has_topic level Socket = true
has_topic level Stranger = true
has_topic All Read = true
has_topic level Read = false
has_topic Quiet topic = false
has_topic level topic = true

-- the place of a topic in a table of all topics
abbrev pub place_of_topic : Topic → ℕ
place_of_topic Fault = 0
place_of_topic Socket = 1
place_of_topic Stranger = 2
place_of_topic Service = 3
place_of_topic Connection = 4
place_of_topic Change = 5
place_of_topic Refusal = 6
place_of_topic Read = 7
