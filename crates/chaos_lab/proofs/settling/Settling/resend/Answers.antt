use Rattle.std.proofs.Common.{rules, ◌≡◌, ℕ, length, sym, ap, subst}
use Rattle.chaos_lab.specs.declared.side.Side.{Side}
use Rattle.chaos_lab.specs.declared.side.Side.TheVariants.{A, B}
use Rattle.chaos_lab.specs.declared.settling.Settling.{Settling}
use Rattle.chaos_lab.proofs.Stepping.{IsResent, resent}
use Rattle.chaos_lab.proofs.settling.Settling.resend.Goals.{in-A, in-B}
use Rattle.chaos_lab.proofs.settling.Settling.resend.Goals as goal

pub returns : goal.returns
returns c =
    let n : ℕ = length c.copies-first.result.now in
    let t : Settling = c.match-side.self in
    resent c.args.side c.args.self.now t c.args.lab.now c.resend_moment.result n c.resend_moment.ensures
    (ap length c.copies-first.ensures)
    (elim c.match-side.branch [
      | in-A w ↦ subst (λ (y : Side). IsResent y n c.args.self.now t)
          (sym (let is : c.args.side ≡ A = search rules in is))
          (ap (λ (s : Settling). s.place) w.self-is, ap (λ (s : Settling). s.of_a.from) w.self-is)
      | in-B w ↦ subst (λ (y : Side). IsResent y n c.args.self.now t)
          (sym (let is : c.args.side ≡ B = search rules in is))
          (ap (λ (s : Settling). s.place) w.self-is, ap (λ (s : Settling). s.of_b.from) w.self-is, ap (λ (s : Settling). s.of_a) w.self-is)
    ])
