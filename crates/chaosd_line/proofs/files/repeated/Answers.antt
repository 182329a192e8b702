-- The name of each text in its turn is that of a later one or not.
use Rattle.std.proofs.Common.{◌≡◌, ◌∙◌, ◌+◌, ℕ, List, [], ap, drop, get_or, map, sym, if◌then◌else◌}
use Rattle.std.specs.Borrow.{Bor}
use Rattle.std.specs.Str.{bytes_eq}
use Rattle.chaosd_line.specs.Files.{first_repeated, last_of}
use Rattle.chaosd_line.proofs.Named.{repeated_at}
use Rattle.chaosd_line.proofs.files.repeated.Goals as goal

abbrev text : Bor (List ℕ) → List ℕ
text t = t.now

abbrev none : Bor (List ℕ)
none = record { ref_ptr = (0, 0); now = [] }

pub returns-then-is_among : goal.returns-then-is_among
returns-then-is_among c =
    let this = get_or c.args.texts.now c.loop-i.i none in
    let named : c.last_name.result.now ≡ last_of (text this) = c.last_name.ensures ∙ ap last_of c.as_bytes.ensures.value in
    sym (c.loop-i.invariant
    ∙ repeated_at text c.args.texts.now c.loop-i.i none
    (λ u. bytes_eq (last_of (text u)) c.last_name.result.now) c.is_among.result
    c.loop-i-test.true (ap (λ n u. bytes_eq (last_of (text u)) n) named) c.is_among.ensures
    ∙ ap (λ b. if b then text this else first_repeated (map text (drop (c.loop-i.i + 1) c.args.texts.now)))
    c.if-is_among.true)

pub loop-i-preserved : goal.loop-i-preserved
loop-i-preserved c =
    let this = get_or c.args.texts.now c.loop-i.i none in
    let named : c.last_name.result.now ≡ last_of (text this) = c.last_name.ensures ∙ ap last_of c.as_bytes.ensures.value in
    c.loop-i.invariant
    ∙ repeated_at text c.args.texts.now c.loop-i.i none
    (λ u. bytes_eq (last_of (text u)) c.last_name.result.now) c.is_among.result
    c.loop-i-test.true (ap (λ n u. bytes_eq (last_of (text u)) n) named) c.is_among.ensures
    ∙ ap (λ b. if b then text this else first_repeated (map text (drop (c.loop-i.i + 1) c.args.texts.now)))
    c.if-is_among.false
