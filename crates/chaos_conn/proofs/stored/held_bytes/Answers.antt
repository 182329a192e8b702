use Rattle.std.proofs.Common.{arith, ◌∙◌, ◌<◌, is_some, cond, length}
use Rattle.chaos_conn.specs.Stored.{slot_bytes}
use Rattle.chaos_conn.proofs.Kept.{slots_sum, item_at_next}
use Rattle.chaos_conn.proofs.stored.held_bytes.Goals as goal

pub loop-i-preserved : goal.loop-i-preserved
loop-i-preserved c =
    let held = c.args.recv.now.held in
    let within : c.loop-i.i < length held = omega arith in
    let all = slots_sum slot_bytes held c.loop-i.i within in
    let some = slots_sum (λ s. cond (is_some s) 1 0) held c.loop-i.i within in
    let here = c.held_at.ensures ∙ item_at_next c.args.recv.now c.loop-i.i in
    let bytes = rw here at c.bytes_at-bytes.ensures.bytes in
    let fits = rw here at c.bytes_at-bytes.ensures.fits in
    record {
      so_far = omega (arith, all, bytes);
      fits = omega (arith, some, fits);
      small = omega arith;
    }
