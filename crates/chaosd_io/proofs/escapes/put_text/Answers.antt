use Rattle.std.proofs.Common.{rules, ◌≡◌, ◌+◌, ◌++◌, drop, take, sym, ap, ◌∙◌, append_assoc}
use Rattle.std.specs.List.{flat_map}
use Rattle.std.proofs.Math.Seq.{take-add}
use Rattle.std.proofs.lemmas.Grind.{flat_map-append}
use Rattle.chaosd_io.specs.Escapes.{shown_byte}
use Rattle.chaosd_io.proofs.escapes.put_text.Goals as goal

-- one piece more
pub loop-i-preserved : goal.loop-i-preserved
loop-i-preserved c =
    let bytes = c.args.bytes.now in
    let i = c.loop-i.i in
    let n = c.min-count.result in
    let piece : c.put_piece.new.out ≡ c.loop-i.out ++ flat_map shown_byte (take n (drop i bytes)) = search rules in
    let shown : flat_map shown_byte (take (i + n) bytes)
    ≡ flat_map shown_byte (take i bytes) ++ flat_map shown_byte (take n (drop i bytes)) =
    ap (flat_map shown_byte) (take-add i n bytes)
    ∙ flat_map-append shown_byte (take i bytes) (take n (drop i bytes)) in
    record {
      within = search rules;
      written = piece ∙ ap (λ l. l ++ flat_map shown_byte (take n (drop i bytes))) c.loop-i.invariant.written
          ∙ append_assoc c.args.out.now (flat_map shown_byte (take i bytes))
          (flat_map shown_byte (take n (drop i bytes)))
          ∙ ap (λ l. c.args.out.now ++ l) (sym shown);
    }
