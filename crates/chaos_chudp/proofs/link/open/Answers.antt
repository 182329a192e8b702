use Rattle.std.proofs.Common.{◌≤◌, ◌-◌, ◌∙◌, ◌++◌, length, length-take-le, take, drop, ap, arith, sym}
use Rattle.chaos_chudp.specs.Link.{handed_by}
use Rattle.chaos_chudp.proofs.Plain.{opened}
use Rattle.chaos_chudp.proofs.link.open.Goals as goal

pub returns-in-Ok-clause-bytes : goal.returns-in-Ok-clause-bytes
returns-in-Ok-clause-bytes c =
    let buffer = c.args.buffer.now in
    let n = c.args.count in
    let fits : n ≤ length buffer = omega (arith, c.requires, c.told-buffer) in
    let long : 26 ≤ n = omega (arith, c.in-Ok.ensures.long, length-take-le n buffer fits) in
    ap (λ l. take (n - 6) (l ++ drop 4 buffer)) c.copy_from_slice.ensures.after
    ∙ opened buffer n (omega (arith, long)) fits
    ∙ sym (ap (handed_by (take n buffer)) c.in-Ok.ensures.fault)
