use Rattle.std.proofs.Common.{rules, ◌≡◌, ℕ, length, sym, ap, subst}
use Rattle.chaos_lab.specs.declared.side.Side.{Side}
use Rattle.chaos_lab.specs.declared.side.Side.TheVariants.{A, B}
use Rattle.chaos_lab.specs.declared.settling.Settling.{Settling}
use Rattle.chaos_lab.specs.declared.settling.Place.TheVariants as place
use Rattle.chaos_lab.specs.Inside.{happening_of}
use Rattle.chaos_lab.proofs.Stepping.{IsTold, told}
use Rattle.chaos_lab.proofs.settling.Settling.tell.Goals.{in-A, in-B}
use Rattle.chaos_lab.proofs.settling.Settling.tell.Goals as goal

pub returns : goal.returns
returns c =
    let n : ℕ = length c.copies-copy.result.now in
    let t : Settling =
    record { place = place.Hear c.args.side n; of_a = c.match-side.self.of_a; of_b = c.match-side.self.of_b } in
    told c.args.side c.args.self.now t c.args.lab.now (happening_of c.announcement.result) n c.announcement.ensures
    (ap length c.copies-copy.ensures)
    (elim c.match-side.branch [
      | in-A w ↦ subst (λ (y : Side). IsTold y n c.args.self.now t)
          (sym (let is : c.args.side ≡ A = search rules in is))
          (ap (λ (s : Settling). s.of_a.from) w.self-is, ap (λ (s : Settling). s.of_a.to) w.self-is)
      | in-B w ↦ subst (λ (y : Side). IsTold y n c.args.self.now t)
          (sym (let is : c.args.side ≡ B = search rules in is)) tt
    ])
