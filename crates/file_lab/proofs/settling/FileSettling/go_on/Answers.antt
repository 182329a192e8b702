use Rattle.std.proofs.Common.{rules, ◌≡◌, ◌-◌, refl, sym, ◌∙◌}
use Rattle.file_lab.specs.declared.settling.FileSettling.{FileSettling}
use Rattle.file_lab.proofs.Stepping.{fetches_next, asks_next}
use Rattle.file_lab.proofs.settling.FileSettling.go_on.Goals as goal

-- the next item comes
pub returns-then-waits : goal.returns-then-waits
returns-then-waits c =
    let s : FileSettling = c.args.self.now in
    fetches_next s.before s.left (s.left - 1) c.saturating_sub-copy.result c.args.lab.now c.if-self-eq0.false refl
    (let is : c.saturating_sub-copy.result ≡ s.before - s.left = search rules in is)
    (sym c.waits.ensures ∙ c.if-waits.true)

-- it is in front
pub returns : goal.returns
returns c =
    let s : FileSettling = c.args.self.now in
    asks_next s.before s.left (s.left - 1) c.args.lab.now c.if-self-eq0.false refl
    (sym c.waits.ensures ∙ c.if-waits.false)
    ∙ c.tell.ensures
