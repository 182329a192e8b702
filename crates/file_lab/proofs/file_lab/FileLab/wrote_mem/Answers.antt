use Rattle.std.proofs.Common.{rules, ◌≡◌, ap, ◌∙◌}
use Rattle.file_lab.specs.View.{wrote_mem}
use Rattle.file_lab.specs.Kept.{file_view}
use Rattle.file_lab.proofs.file_lab.FileLab.wrote_mem.Goals as goal

pub returns : goal.returns
returns c =
    let view : file_view c.self.inside ≡ c.args.self.now = search rules in
    c.self.invariant.flag ∙ ap wrote_mem view
