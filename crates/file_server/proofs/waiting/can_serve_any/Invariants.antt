use Rattle.std.proofs.Common.{◌≡◌, ◌-◌, ◌≤◌, false, length}
use Rattle.chaos_host.specs.View.{id_at}
use Rattle.chaos_node.specs.Slots.{any_within}
use Rattle.file_server.specs.Waiting.{serves_by}
use Rattle.file_server.proofs.waiting.can_serve_any.Given as goal

abbrev pub invariant-slots : goal.invariant-slots
invariant-slots l = record {
  within : l.from ≤ length l.fn.host.slots;
  none : any_within (λ place. serves_by l.fn.host (id_at l.fn.host place)) l.from ≡ false;
}

abbrev pub decreases-slots : goal.decreases-slots
decreases-slots l = length l.fn.host.slots - l.from
