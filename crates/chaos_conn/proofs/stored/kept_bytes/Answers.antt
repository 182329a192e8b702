use Rattle.std.proofs.Common.{sym, ap, ◌∙◌, arith}
use Rattle.std.specs.Option.{option_copied}
use Rattle.chaos_conn.specs.Stored.{item_bytes}
use Rattle.chaos_conn.proofs.Kept.{sum_step}
use Rattle.chaos_conn.proofs.stored.kept_bytes.Goals as goal

pub loop-i-preserved : goal.loop-i-preserved
loop-i-preserved c =
    let here = sym c.kept.ensures ∙ ap option_copied c.unwrap.ensures in
    record {
      so_far =
          rw c.bytes.ensures.value
          (sum_step item_bytes c.args.send.now.kept c.loop-i.i c.unwrap.result.now c.loop-i.bytes _ here
          c.loop-i.invariant.so_far);
      fits = omega arith;
      small = omega arith;
    }
