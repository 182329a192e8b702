use Rattle.std.proofs.Common.{rules, ◌≡◌, ap, ◌∙◌, ◌<◌, length, get_or, slice_set}
use Rattle.std.specs.Prelude.{slice_index}
use Rattle.std.proofs.lemmas.List.{get_or_default}
use Rattle.std.proofs.lemmas.List.Edits.{map_over_more}
use Rattle.file_copy.specs.Text.{byte_in}
use Rattle.file_copy.proofs.text.Charset.translate.Goals as goal

pub loop-i-preserved : goal.loop-i-preserved
loop-i-preserved c =
    let x = slice_index c.loop-i.bytes c.loop-i.i in
    let below : c.loop-i.i < length c.loop-i.bytes = search rules in
    let there : x ≡ get_or c.loop-i.bytes c.loop-i.i x = get_or_default c.loop-i.bytes c.loop-i.i 0 x below in
    ap (slice_set c.loop-i.bytes c.loop-i.i) c.byte.ensures
    ∙ map_over_more (byte_in c.args.self) c.args.bytes.now c.loop-i.bytes c.loop-i.i x c.loop-i-test.true
    c.loop-i.invariant there
