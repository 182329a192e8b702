use Rattle.std.proofs.Common.{◌≡◌, false, refl, ◌∙◌}
use Rattle.chaos_conn.specs.State.{is_ended}
use Rattle.chaos_host.proofs.InUseSet.{named_used, named_unused}
use Rattle.chaos_host.proofs.Places.{named_ended, named_kept, unreleased_done}
use Rattle.chaos_host.proofs.host.Host.release.Goals as goal

pub invariant_of-self-then-not-is_ended : goal.invariant_of-self-then-not-is_ended
invariant_of-self-then-not-is_ended c = record {
  host = search (named_kept, c.self.invariant.host, c.in_ok-slot.ensures.found);
  in_use = named_unused _ _ _ _ c.self.invariant.in_use c.in_ok-slot.ensures.found;
}

pub returns-then-not-is_ended-clause-does : goal.returns-then-not-is_ended-clause-does
returns-then-not-is_ended-clause-does c =
    let active : is_ended c.in_ok-slot.slot.now.conn.state ≡ false = cc in
    rw (← c.self.view_is) (unreleased_done _ _ _ _ _ _ _ _ _ refl c.in_ok-slot.ensures.found active)

pub invariant_of-self-2 : goal.invariant_of-self-2
invariant_of-self-2 c = record {
  host = search (named_ended, c.self.invariant.host, c.in_ok-slot.ensures.found);
  in_use =
      named_used _ _ _ _ _ _ _ c.self.invariant.in_use c.in_ok-slot.ensures.found c.place.ensures.value
      (c.set.ensures.here ∙ c.end_call.ensures.used) c.set.ensures.others;
}
