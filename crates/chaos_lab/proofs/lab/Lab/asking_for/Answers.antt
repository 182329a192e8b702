use Rattle.std.proofs.Common.{rules, ◌≡◌, ◌<◌, ◌≤◌, length, sym, subst}
use Rattle.chaos_lab.specs.Tied.{Ties, HasMachine, machine_for}
use Rattle.chaos_lab.specs.Laboratory.{start_for}
use Rattle.chaos_lab.proofs.HeadlineLaw.{start_ties}
use Rattle.chaos_lab.proofs.lab.Lab.asking_for.Goals as goal

-- it stands for the start
pub invariant_of-result : goal.invariant_of-result
invariant_of-result c =
    let number : c.args.start_a < 65536 = search rules in
    let short : length c.args.contact.now ≤ 488 = search rules in
    let ties =
    start_ties c.args.contact.now c.args.config_a c.args.config_b c.args.start_a short number
    c.new.ensures.configs.0 c.new.ensures.configs.1 in
    let is : c.in_ok-rig.rig ≡ start_for c.args.contact.now c.args.config_a c.args.config_b c.args.start_a =
    search rules in
    subst HasMachine (sym is)
    (record { plain = machine_for c.args.contact.now c.args.config_a c.args.config_b; ties = ties })

pub returns-clause-machine : goal.returns-clause-machine
returns-clause-machine c =
    let number : c.args.start_a < 65536 = search rules in
    let short : length c.args.contact.now ≤ 488 = search rules in
    let ties =
    start_ties c.args.contact.now c.args.config_a c.args.config_b c.args.start_a short number
    c.new.ensures.configs.0 c.new.ensures.configs.1 in
    let is : c.in_ok-rig.rig ≡ start_for c.args.contact.now c.args.config_a c.args.config_b c.args.start_a =
    search rules in
    subst (Ties (machine_for c.args.contact.now c.args.config_a c.args.config_b)) (sym is) ties
