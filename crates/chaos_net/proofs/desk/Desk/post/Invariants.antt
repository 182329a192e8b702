use Rattle.std.proofs.Common.{◌≡◌, ◌+◌, ◌≤◌, ◌++◌, length, map, vec_len, vec_capacity}
use Rattle.chaos_net.specs.Kept.{kept_by}
use Rattle.chaos_net.proofs.desk.Desk.post.Given as goal

-- what was put out is in what was sent, or still to come
abbrev pub invariant-loop : goal.invariant-loop
invariant-loop l = record {
  count : length l.self.out.packets + l.counter ≤ 64;
  room : vec_len l.sent + length l.self.out.packets ≤ vec_capacity l.sent;
  spares : length l.self.out.packets ≤ vec_len l.self.spares;
  joined : l.sent.items ++ map (kept_by l.fn.seat l.fn.self.events) l.self.out.packets
      ≡ l.fn.sent.items ++ map (kept_by l.fn.seat l.fn.self.events) l.fn.self.out.packets;
  cap : l.self.out.cap ≡ l.fn.self.out.cap;
  events : l.self.events ≡ l.fn.self.events;
}
