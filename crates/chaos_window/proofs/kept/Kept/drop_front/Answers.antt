use Rattle.std.proofs.Common.{List, drop, ap, ◌∙◌}
use Rattle.std.proofs.lemmas.List.{drop-drop}
use Rattle.chaos_packet.specs.Item.{ItemView}
use Rattle.chaos_window.specs.Kept.{KeptView}
use Rattle.chaos_window.proofs.kept.Kept.drop_front.Goals as goal

pub loop-i-preserved : goal.loop-i-preserved
loop-i-preserved c =
    let old = c.args.self.now in
    c.drop_oldest.ensures ∙ ap (λ (k : KeptView). record k { items = drop 1 k.items }) c.loop-i.invariant
    ∙ ap (λ (xs : List ItemView). record old { items = xs }) (drop-drop 1 c.loop-i.i old.items)
