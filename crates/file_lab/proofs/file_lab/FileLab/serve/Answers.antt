use Rattle.std.proofs.Common.{rules, ◌≡◌, ◌∙◌, ap, Ok, subst, refl, inl}
use Rattle.std.specs.Prelude.{◌||◌}
use Rattle.file_lab.specs.declared.event.FileStepped.TheVariants as stepped
use Rattle.chaos_file.specs.declared.served.Served.{Served}
use Rattle.file_lab.specs.Bodies.{told_want}
use Rattle.file_lab.specs.View.{FileLabView}
use Rattle.file_lab.specs.Events.{Serving, ServeHappens}
use Rattle.file_lab.specs.Kept.{file_view}
use Rattle.file_lab.proofs.KeptSteps.{Laws, LabLaws, serving_keeps, serving_told}
use Rattle.file_lab.proofs.Exactly.{serve_exact}
use Rattle.file_lab.proofs.file_lab.FileLab.serve.Goals as goal

-- B's server has answered one command more, or none
pub invariant_of-self-2 : goal.invariant_of-self-2
invariant_of-self-2 c =
    let l : FileLabView = file_view c.self.inside in
    let m : FileLabView =
    file_view
    (record
    { lab = c.take_turn.new.self; server = c.take_turn.new.user; wanted = c.wanted_after-self-inside.result }) in
    let served : Served = c.take_turn.new.user.served in
    let laws : Laws =
    record { go_on = c.law_replies.ensures.go_on; honest = c.law_memory.ensures; want = c.law_want.ensures.told; beginning = c.law_delivery.ensures.beginning } in
    let lab : LabLaws c.self.inside.lab =
    record { machine = c.law_headline.ensures.machine; opened = c.law_headline.ensures.opened } in
    let t = c.in-Ok.ensures.turn in
    let turn : Serving l m served = record { turn = t.0; serves = t.1; happens = t.2 } in
    record {
      served = serving_keeps laws l m served lab turn c.self.invariant.served;
      flag =
          c.wanted_after-self-inside.ensures ∙ ap (λ ws. c.self.inside.wanted || told_want served ws) c.written.ensures
          ∙ serving_told l m served c.self.inside.wanted turn c.self.invariant.flag;
    }

pub returns-clause-happens : goal.returns-clause-happens
returns-clause-happens c =
    let l : FileLabView = file_view c.self.inside in
    let m : FileLabView =
    file_view
    (record
    { lab = c.take_turn.new.self; server = c.take_turn.new.user; wanted = c.wanted_after-self-inside.result }) in
    let served : Served = c.take_turn.new.user.served in
    let t = c.in-Ok.ensures.turn in
    let turn : Serving l m served = record { turn = t.0; serves = t.1; happens = t.2 } in
    let view : l ≡ c.args.self.now = search rules in
    inl (served, subst (λ (k : FileLabView). Serving k m served) view turn, refl)

-- and as the definition says
pub returns-clause-exact : goal.returns-clause-exact
returns-clause-exact c =
    let l : FileLabView = file_view c.self.inside in
    let m : FileLabView =
    file_view
    (record
    { lab = c.take_turn.new.self; server = c.take_turn.new.user; wanted = c.wanted_after-self-inside.result }) in
    let served : Served = c.take_turn.new.user.served in
    let laws : Laws =
    record { go_on = c.law_replies.ensures.go_on; honest = c.law_memory.ensures; want = c.law_want.ensures.told; beginning = c.law_delivery.ensures.beginning } in
    let t = c.in-Ok.ensures.turn in
    let turn : Serving l m served = record { turn = t.0; serves = t.1; happens = t.2 } in
    let view : l ≡ c.args.self.now = search rules in
    let happens : ServeHappens c.args.self.now m (Ok (stepped.Served served)) =
    inl (served, subst (λ (k : FileLabView). Serving k m served) view turn, refl) in
    serve_exact laws c.args.self.now m (Ok (stepped.Served served)) happens
