use Rattle.std.proofs.Common.{sym, ap, ◌∙◌}
use Rattle.std.specs.Option.{option_copied}
use Rattle.chaos_conn.proofs.Kept.{put_step, room_step}
use Rattle.chaos_conn.proofs.conn.Conn.put_kept.Goals as goal

pub loop-i-preserved : goal.loop-i-preserved
loop-i-preserved c =
    let items = c.self.inside.send.kept in
    let item = c.unwrap.result.now in
    let here = sym c.kept.ensures ∙ ap option_copied c.unwrap.ensures in
    record {
      room = rw c.put_again.ensures (room_step c.loop-i.out _ items c.loop-i.i item here c.loop-i.invariant.room);
      all =
          rw (c.put_again.ensures, c.next-num-in-loop-i.ensures)
          (put_step c.args.self.now c.loop-i.out _ c.loop-i.num items c.loop-i.i item here c.loop-i.invariant.all);
    }
