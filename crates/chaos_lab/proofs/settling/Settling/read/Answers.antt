use Rattle.std.proofs.Common.{inl, inr, sym, ap, ◌∙◌}
use Rattle.chaos_lab.specs.declared.settling.Burst.{Burst}
use Rattle.chaos_lab.specs.Settling.{bringing}
use Rattle.chaos_lab.specs.SettlingLeft.{then_on, sent_to}
use Rattle.chaos_lab.proofs.Stepping.{read_none}
use Rattle.chaos_lab.proofs.settling.Settling.read.Goals.{then-times-eq0-via-then-times-eq0, then-times-eq0-via-else-times-eq0+then-waits}
use Rattle.chaos_lab.proofs.settling.Settling.read.Goals as goal

pub returns-then-times-eq0 : goal.returns-then-times-eq0
returns-then-times-eq0 c =
    read_none c.args.side c.args.self.now c.args.times c.args.lab.now
    (elim c.then-times-eq0.branch [
      | then-times-eq0-via-then-times-eq0 w ↦ inl w.if-times-eq0.true
      | then-times-eq0-via-else-times-eq0+then-waits w ↦ inr (sym w.waits.ensures ∙ w.if-waits.true)
    ])
    ∙ ap
    (λ (b : Burst). then_on c.args.side c.args.self.now
    (bringing c.args.side b.from (sent_to c.args.side c.args.self.now).to c.args.lab.now) c.args.lab.now)
    (sym c.sent_to.ensures)
    ∙ c.come.ensures
