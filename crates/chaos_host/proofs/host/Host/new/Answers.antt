use Rattle.std.proofs.Common.{◌≡◌, replicate, arith, rules}
use Rattle.std.proofs.lemmas.Grind.{common_steps}
use Rattle.chaos_host.specs.View.{new_slot}
use Rattle.chaos_host.proofs.InUseSet.{used_new}
use Rattle.chaos_host.proofs.host.Host.new.Goals as goal

pub invariant_of-result : goal.invariant_of-result
invariant_of-result c =
    let slots : c.in_ok-slots.slots.items ≡ replicate c.args.conns (new_slot c.args.config) = search rules in
    record {
      host = grind (arith, common_steps, slots);
      in_use =
          used_new c.new-2.result.words c.args.conns c.args.config c.in_ok-slots.slots.items c.new-2.ensures slots;
    }
