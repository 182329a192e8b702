use Rattle.std.proofs.Common.{◌∙◌, ◌++◌, length, take, drop, ap₂}
use Rattle.chaos_chudp.proofs.Plain.{copied}
use Rattle.chaos_chudp.proofs.read.mark_over.Goals as goal

pub returns : goal.returns
returns c =
    let bs = c.args.from.now in
    let rest = drop (length bs) c.args.to.now in
    ap₂ (λ head l. take (length bs) (head ++ drop 4 (l ++ rest))) c.copy_from_slice-2.ensures.after
    c.copy_from_slice.ensures.after
    ∙ copied bs rest c.requires.long
