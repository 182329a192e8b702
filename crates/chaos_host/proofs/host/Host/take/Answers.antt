use Rattle.chaos_host.proofs.InUseSet.{used_delivered}
use Rattle.chaos_host.proofs.Places.{host_called, delivered_done}
use Rattle.chaos_host.proofs.host.Host.take.Goals as goal

pub invariant_of-self : goal.invariant_of-self
invariant_of-self c =
    let within = rw (← c.self.view_is) at c.in-Slot.ensures.sound in
    record {
      host = host_called _ _ _ _ _ _ _ _ c.self.invariant.host within c.index_mut.ensures.value c.take.ensures;
      in_use =
          used_delivered _ _ _ _ _ _ _ _ _ _ c.self.invariant.in_use within c.index_mut.ensures.value c.take.ensures;
    }

pub returns-in-Slot-clause-does : goal.returns-in-Slot-clause-does
returns-in-Slot-clause-does c =
    let within = rw (← c.self.view_is) at c.in-Slot.ensures.sound in
    rw (← c.in-Slot.ensures.value, ← c.self.view_is)
    (delivered_done _ _ _ _ _ _ _ _ _ _ within c.index_mut.ensures.value c.index_at-id.ensures c.take.ensures)
