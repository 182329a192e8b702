use Rattle.std.proofs.Common.{◌≡◌, ◌+◌, ◌-◌, ◌∙◌, ap, sym, arith, take, drop, length, length-take}
use Rattle.std.proofs.lemmas.List.{drop-take}
use Rattle.chaosd_io.proofs.buffer.WriteBuffer.remove_front.Goals as goal

pub returns : goal.returns
returns c =
    let n = c.args.count in
    let had = c.self.inside.waiting in
    let bytes = c.self.inside.bytes in
    let same = ap length c.self.view_is in
    let whole : n + (had - n) ≡ had = omega (arith, same, length-take had bytes, c.requires) in
    c.move_to_front.ensures ∙ sym (drop-take n (had - n) bytes)
    ∙ ap (λ k. drop n (take k bytes)) whole ∙ ap (drop n) c.self.view_is
