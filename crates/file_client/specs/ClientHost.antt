-- The host of a client of a FILE server.
use Rattle.std.specs.Prelude.{ℕ, Option}
use Rattle.chaos_host.specs.declared.answers.HostDelivered.{HostDelivered}
use Rattle.file_client.specs.Caller.{CallerView}
use Rattle.file_copy.specs.declared.no_reply.NoReply.{NoReply}

-- The host with its connection, the moment of its last turn or of its last look at the clock, how many turns it began, since
-- when it waits for a reply, why none came, what became of the packet that came last, where that wasn't noted yet, and how many
-- packets showed that a packet was lost.
pub record ClientHostView : Type 0 where
  pub caller : CallerView
  pub now : ℕ
  pub count : ℕ
  pub since : ℕ
  pub missing : NoReply
  pub last_arrival : Option HostDelivered
  pub losses : ℕ
