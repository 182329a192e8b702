use Rattle.std.proofs.Common.{refl, sym, ◌∙◌}
use Rattle.chaos_host.proofs.InUseSet.{used_at_called}
use Rattle.chaos_host.proofs.Places.{host_called, ticked_done}
use Rattle.chaos_host.proofs.host.Host.tick.Goals as goal

pub invariant_of-self : goal.invariant_of-self
invariant_of-self c =
    let used = c.if-not-is_used_at.false in
    record {
      host =
          host_called _ _ _ _ _ _ _ _ c.self.invariant.host (c.is_used_at.ensures.within used) c.index_mut.ensures.value
          c.tick.ensures;
      in_use =
          used_at_called _ _ _ _ _ _ _ _ _ c.self.invariant.in_use (c.is_used_at.ensures.within used)
          c.index_mut.ensures.value (sym c.is_used_at.ensures.used ∙ used) c.tick.ensures refl;
    }

pub returns : goal.returns
returns c =
    let used = c.if-not-is_used_at.false in
    rw (← c.self.view_is)
    (ticked_done _ _ _ _ _ _ _ _ c.self.invariant.host.table (c.is_used_at.ensures.within used) c.index_mut.ensures.value
    (sym c.is_used_at.ensures.used ∙ used) c.tick.ensures)
