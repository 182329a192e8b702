use Rattle.chaos_host.specs.Inside.{host_view}
use Rattle.chaos_host.proofs.InUseSet.{used_by_request}
use Rattle.chaos_host.proofs.Places.{host_called_quietly, requested_done}
use Rattle.chaos_host.proofs.Requests.{requested_holds}
use Rattle.chaos_host.proofs.host.Host.take_request.Goals as goal

pub invariant_of-self : goal.invariant_of-self
invariant_of-self c =
    let request = rw (← c.self.view_is) at c.requires in
    let does = rw c.end_at-me.ensures at c.take_request.ensures in
    record {
      host =
          host_called_quietly _ _ _ _ _ _ c.self.invariant.host request.within c.index_mut.ensures.value
          c.take_request.ensures;
      in_use =
          used_by_request (host_view c.self.inside) _ _ _ _ _ _ _ _ _ c.self.invariant.host request
          c.index_mut.ensures.value does c.self.invariant.in_use c.set.ensures.here c.set.ensures.others;
    }

pub returns-clause-does : goal.returns-clause-does
returns-clause-does c =
    let request = rw (← c.self.view_is) at c.requires in
    let does = rw c.end_at-me.ensures at c.take_request.ensures in
    rw (← c.self.view_is)
    (requested_done _ _ _ _ _ _ _ _ _ request.within c.index_mut.ensures.value c.index_at-id.ensures does)

pub returns-clause-holds : goal.returns-clause-holds
returns-clause-holds c id same =
    let does = rw c.end_at-me.ensures at c.take_request.ensures in
    let request = rw (← c.self.view_is) at c.requires in
    let there = requested_holds (host_view c.self.inside) _ _ _ _ _ c.index_at-id.result _
    c.self.invariant.host request c.index_mut.ensures.value c.index_at-id.ensures does in
    cc
