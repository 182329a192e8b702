use Rattle.std.proofs.Common.{inl, inr, sym, ◌∙◌}
use Rattle.file_lab.specs.SettlingLeft.{others}
use Rattle.file_lab.proofs.Stepping.{read_none}
use Rattle.file_lab.proofs.settling.FileSettling.read.Goals.{then-times-eq0-via-then-times-eq0, then-times-eq0-via-else-times-eq0+then-waits}
use Rattle.file_lab.proofs.settling.FileSettling.read.Goals as goal

-- nothing is read: the copies come
pub returns-then-times-eq0 : goal.returns-then-times-eq0
returns-then-times-eq0 c =
    read_none c.args.times c.args.self.now.from c.args.self.now.to (others c.args.self.now) c.args.lab.now
    (elim c.then-times-eq0.branch [
      | then-times-eq0-via-then-times-eq0 w ↦ inl w.if-times-eq0.true
      | then-times-eq0-via-else-times-eq0+then-waits w ↦ inr (sym w.waits.ensures ∙ w.if-waits.true)
    ])
    ∙ c.come.ensures
