use Rattle.std.proofs.Common.{sym, ap, ◌∙◌}
use Rattle.std.specs.Option.{option_copied}
use Rattle.chaos_packet.specs.Opcode.{kind_of}
use Rattle.chaos_conn.specs.Sending.{carries_ack}
use Rattle.chaos_conn.proofs.Kept.{any_step}
use Rattle.chaos_conn.proofs.time.tells.Goals as goal

pub loop-i-preserved : goal.loop-i-preserved
loop-i-preserved c =
    let here = sym c.kept.ensures ∙ ap option_copied c.unwrap.ensures in
    any_step (λ item. carries_ack (kind_of item.op)) c.args.send.now.kept c.loop-i.i c.unwrap.result.now _ here
    (sym c.if-item_tells.ensures) c.loop-i.invariant
