use Rattle.std.proofs.Common.{◌≤◌, ◌+◌}
use Rattle.chaos_packet.specs.Outbox.{room_of}
use Rattle.chaos_link.specs.declared.limits.TheConstants.{MAX_PACKETS}
use Rattle.chaos_ncp.proofs.node.Node.feed.Given as goal

-- each packet so far took a place at most
abbrev pub invariant-loop-place : goal.invariant-loop-place
invariant-loop-place l = MAX_PACKETS ≤ room_of l.self.out + l._place
