-- What a turn works on.
use Rattle.std.specs.Prelude.{Option}
use Rattle.chaos_packet.specs.Outbox.{OutboxView}
use Rattle.chaos_link.specs.Link.{QueueView}

-- a node at its link: a host, or a host with its service; the queue that the link is, where it is one; the packets that
-- wait to be sent
pub record Station (N : Type 0) : Type 0 where
  pub node : N
  pub queue : Option QueueView
  pub outbox : OutboxView

abbrev pub station : {N : Type 0} → N → Option QueueView → OutboxView → Station N
station node queue out = record { node = node; queue = queue; outbox = out }
