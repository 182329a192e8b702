use Rattle.std.proofs.Common.{◌≡◌, ◌+◌, ◌≤◌, ◌++◌, length, map, vec_len, vec_capacity}
use Rattle.chaos_lab.specs.Laboratory.{stamp}
use Rattle.chaos_lab.proofs.rig.post.Given as goal

-- what was put out is in the copies, or still to come
abbrev pub invariant-loop : goal.invariant-loop
invariant-loop l = record {
  count : length l.out.packets + l.counter ≤ 64;
  room : vec_len l.copies.list + length l.out.packets ≤ vec_capacity l.copies.list;
  spares : length l.out.packets ≤ vec_len l.copies.spares;
  joined : l.copies.list.items ++ map (stamp l.side l.len_a l.len_b) l.out.packets
      ≡ l.fn.copies.list.items ++ map (stamp l.side l.len_a l.len_b) l.fn.out.packets;
  cap : l.out.cap ≡ l.fn.out.cap;
}
