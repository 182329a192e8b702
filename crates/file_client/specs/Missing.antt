-- Why no reply came, from turn to turn.
use Rattle.std.specs.Prelude.{ℕ, ◌-◌, true, false, Option, Some, None}
use Rattle.chaos_conn.specs.declared.answers.Delivered.TheVariants.{Opened, Answered, Forwarded, Closed, Lost}
use Rattle.chaos_host.specs.declared.answers.HostDelivered.{HostDelivered}
use Rattle.chaos_host.specs.declared.answers.HostDelivered.TheVariants.{At}
use Rattle.file_copy.specs.declared.no_reply.NoReply.{NoReply}

-- nothing was asked yet
abbrev pub untried : NoReply
untried = record { waited = 0; is_open = false; end = None }

-- a reply is waited for from now on
abbrev pub waits_from : NoReply → NoReply
waits_from m = record m { waited = 0 }

-- An OPN opens the connection, and an ANS, a FWD, a CLS or a LOS ends it. Nothing else that comes changes why no reply did.
abbrev pub missing_by : Option HostDelivered → NoReply → NoReply
missing_by (Some (At id Opened)) m = record m { is_open = true }
missing_by (Some (At id (Answered packet))) m = record m { end = Some (Answered packet) }
missing_by (Some (At id (Forwarded packet))) m = record m { end = Some (Forwarded packet) }
missing_by (Some (At id (Closed packet))) m = record m { end = Some (Closed packet) }
missing_by (Some (At id (Lost packet))) m = record m { end = Some (Lost packet) }
missing_by _ m = m

-- behind a turn at this moment, in which this became of the packet that came last
abbrev pub noted : ℕ → ℕ → Option HostDelivered → NoReply → NoReply
noted since now last_arrival m = missing_by last_arrival (record m { waited = now - since })
