use Rattle.chaos_host.specs.Inside.{host_view}
use Rattle.chaos_host.proofs.InUseSet.{used_by_asking}
use Rattle.chaos_host.proofs.Places.{host_called, connected_done}
use Rattle.chaos_host.proofs.Requests.{connected_asks}
use Rattle.chaos_host.proofs.host.Host.request.Goals as goal

pub invariant_of-self : goal.invariant_of-self
invariant_of-self c =
    let within = rw (← c.self.view_is) at c.requires.within in
    let vacant = rw (← c.self.view_is) at c.requires.vacant in
    let does = rw c.end_at-me.ensures at c.request.ensures.does in
    record {
      host =
          host_called _ _ _ _ _ _ _ _ c.self.invariant.host within c.index_mut.ensures.value c.request.ensures.does;
      in_use =
          used_by_asking (host_view c.self.inside) _ _ _ _ _ _ _ _ _ _ _ _ _ c.self.invariant.host within vacant
          c.requires.fits c.requires.peer c.index_mut.ensures.value does c.self.invariant.in_use c.set.ensures.here
          c.set.ensures.others;
    }

pub returns-clause-does : goal.returns-clause-does
returns-clause-does c =
    let within = rw (← c.self.view_is) at c.requires.within in
    let does = rw c.end_at-me.ensures at c.request.ensures.does in
    rw (← c.self.view_is)
    (connected_done _ _ _ _ _ _ _ _ _ _ _ _ within c.index_mut.ensures.value c.index_at-id.ensures does)

pub returns-clause-asks : goal.returns-clause-asks
returns-clause-asks c =
    let within = rw (← c.self.view_is) at c.requires.within in
    let vacant = rw (← c.self.view_is) at c.requires.vacant in
    let does = rw c.end_at-me.ensures at c.request.ensures.does in
    connected_asks (host_view c.self.inside) _ _ _ _ _ _ _ _ _ _ _ c.self.invariant.host within vacant c.requires.fits
    c.requires.peer c.index_mut.ensures.value c.index_at-id.ensures does
