use Rattle.std.proofs.Common.{refl, rules}
use Rattle.chaos_host.proofs.InUseSet.{used_called}
use Rattle.chaos_host.proofs.Places.{named_called, called_done}
use Rattle.chaos_host.proofs.host.Host.read_done.Goals as goal

pub invariant_of-self-2 : goal.invariant_of-self-2
invariant_of-self-2 c = record {
  host = search (named_called, c.self.invariant.host, c.in_ok-slot.ensures.found);
  in_use =
      used_called _ _ _ _ _ _ _ _ _ _ c.self.invariant.in_use c.in_ok-slot.ensures.found c.read_done.ensures refl;
}

pub returns : goal.returns
returns c = search (rules, called_done, c.in_ok-slot.ensures.found)
