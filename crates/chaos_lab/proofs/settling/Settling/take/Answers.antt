use Rattle.std.proofs.Common.{rules, ◌≡◌, ℕ, length, sym, ap, ◌∙◌, subst}
use Rattle.chaos_lab.specs.declared.side.Side.{Side}
use Rattle.chaos_lab.specs.declared.side.Side.TheVariants.{A, B}
use Rattle.chaos_lab.specs.declared.settling.Settling.{Settling}
use Rattle.chaos_lab.proofs.Stepping.{IsTaken, takes_as}
use Rattle.chaos_lab.proofs.settling.Settling.take.Goals.{in-A, in-B}
use Rattle.chaos_lab.proofs.settling.Settling.take.Goals as goal

pub returns : goal.returns
returns c =
    let n : ℕ = length c.args.lab.now.copies in
    let t : Settling = c.match-side.self in
    takes_as c.args.side c.args.self.now t c.args.lab.now c.recv_cap.result c.recv_cap.ensures
    (elim c.match-side.branch [
      | in-A w ↦ subst (λ (y : Side). IsTaken y n c.args.self.now t)
          (sym (let is : c.args.side ≡ A = search rules in is))
          (ap (λ (s : Settling). s.of_a) w.self-is, ap (λ (s : Settling). s.of_b.from) w.self-is, ap (λ (s : Settling). s.of_b.to) w.self-is ∙ ap length w.copies.ensures)
      | in-B w ↦ subst (λ (y : Side). IsTaken y n c.args.self.now t)
          (sym (let is : c.args.side ≡ B = search rules in is)) w.self-is
    ])
    ∙ c.read.ensures
