-- The path of each file in its turn is that of a later one or not.
use Rattle.std.proofs.Common.{◌∙◌, ◌+◌, ◌&&◌, ap, drop, get_or, map, not, refl, sym}
use Rattle.chaosd_line.specs.Files.{are_apart, file_view, has_same_path}
use Rattle.chaosd_line.proofs.Named.{apart_at}
use Rattle.chaosd_line.proofs.paths.are_apart.Goals as goal

pub returns-then-is_taken : goal.returns-then-is_taken
returns-then-is_taken c =
    sym (c.loop-i.invariant
    ∙ apart_at has_same_path file_view c.args.files.now c.loop-i.i c.index-files-i.result
    (λ u. has_same_path (file_view u) (file_view (get_or c.args.files.now c.loop-i.i c.index-files-i.result))) c.is_taken.result
    c.loop-i-test.true refl
    c.is_taken.ensures
    ∙ ap (λ b. not b && are_apart has_same_path (map file_view (drop (c.loop-i.i + 1) c.args.files.now)))
    c.if-is_taken.true)

pub loop-i-preserved : goal.loop-i-preserved
loop-i-preserved c =
    c.loop-i.invariant
    ∙ apart_at has_same_path file_view c.args.files.now c.loop-i.i c.index-files-i.result
    (λ u. has_same_path (file_view u) (file_view (get_or c.args.files.now c.loop-i.i c.index-files-i.result))) c.is_taken.result
    c.loop-i-test.true refl
    c.is_taken.ensures
    ∙ ap (λ b. not b && are_apart has_same_path (map file_view (drop (c.loop-i.i + 1) c.args.files.now)))
    c.if-is_taken.false
