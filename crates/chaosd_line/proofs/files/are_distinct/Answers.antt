-- The name of each text in its turn is that of a later one or not.
use Rattle.std.proofs.Common.{◌≡◌, ◌∙◌, ◌+◌, ◌&&◌, ℕ, List, [], ap, drop, get_or, map, not, sym}
use Rattle.std.specs.Borrow.{Bor}
use Rattle.std.specs.Str.{bytes_eq}
use Rattle.chaosd_line.specs.Files.{are_distinct, has_same_name, last_of}
use Rattle.chaosd_line.proofs.Named.{apart_at}
use Rattle.chaosd_line.proofs.files.are_distinct.Goals as goal

abbrev text : Bor (List ℕ) → List ℕ
text t = t.now

abbrev none : Bor (List ℕ)
none = record { ref_ptr = (0, 0); now = [] }

pub returns-then-is_among : goal.returns-then-is_among
returns-then-is_among c =
    let named : c.last_name.result.now ≡ last_of (text (get_or c.args.texts.now c.loop-i.i none)) =
    c.last_name.ensures ∙ ap last_of c.as_bytes.ensures.value in
    sym (c.loop-i.invariant
    ∙ apart_at has_same_name text c.args.texts.now c.loop-i.i none
    (λ u. bytes_eq (last_of (text u)) c.last_name.result.now) c.is_among.result
    c.loop-i-test.true (ap (λ n u. bytes_eq (last_of (text u)) n) named) c.is_among.ensures
    ∙ ap (λ b. not b && are_distinct (map text (drop (c.loop-i.i + 1) c.args.texts.now))) c.if-is_among.true)

pub loop-i-preserved : goal.loop-i-preserved
loop-i-preserved c =
    let named : c.last_name.result.now ≡ last_of (text (get_or c.args.texts.now c.loop-i.i none)) =
    c.last_name.ensures ∙ ap last_of c.as_bytes.ensures.value in
    c.loop-i.invariant
    ∙ apart_at has_same_name text c.args.texts.now c.loop-i.i none
    (λ u. bytes_eq (last_of (text u)) c.last_name.result.now) c.is_among.result
    c.loop-i-test.true (ap (λ n u. bytes_eq (last_of (text u)) n) named) c.is_among.ensures
    ∙ ap (λ b. not b && are_distinct (map text (drop (c.loop-i.i + 1) c.args.texts.now))) c.if-is_among.false
