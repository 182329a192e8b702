-- How long a client waits for a reply.
use Rattle.std.specs.Prelude.{◌*◌, ℕ, Option, Some, None}
use Rattle.file_client.specs.declared.patience.Patience.{Patience}
use Rattle.file_client.specs.declared.patience.Patience.TheVariants.{Millis}
use Rattle.file_client.specs.Patience.{usual_patience}

-- so many seconds by the clock where they are given, else as long as usual
abbrev pub patience_by : Option ℕ → Patience
patience_by None = usual_patience
patience_by (Some seconds) = Millis (seconds * 1000)
