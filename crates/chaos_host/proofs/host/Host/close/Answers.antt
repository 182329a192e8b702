use Rattle.std.proofs.Common.{rules, ◌∙◌}
use Rattle.chaos_host.proofs.InUseSet.{named_used}
use Rattle.chaos_host.proofs.Places.{named_ended, ending_done, refusal_reply}
use Rattle.chaos_host.proofs.host.Host.close.Goals as goal

pub invariant_of-self-2 : goal.invariant_of-self-2
invariant_of-self-2 c = record {
  host = search (named_ended, c.self.invariant.host, c.in_ok-slot.ensures.found);
  in_use =
      named_used _ _ _ _ _ _ _ c.self.invariant.in_use c.in_ok-slot.ensures.found c.place.ensures.value
      (c.set.ensures.here ∙ c.end_call.ensures.used) c.set.ensures.others;
}

pub returns : goal.returns
returns c = search (rules, ending_done, refusal_reply, c.in_ok-slot.ensures.found)
