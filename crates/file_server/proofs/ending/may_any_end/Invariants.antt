use Rattle.std.proofs.Common.{◌-◌, ◌≤◌, length}
use Rattle.file_server.specs.Slots.{EndsNothing}
use Rattle.file_server.proofs.ending.may_any_end.Given as goal

abbrev pub invariant-slots : goal.invariant-slots
invariant-slots l = record {
  within : l.from ≤ length l.fn.host.slots;
  none : EndsNothing l.fn.silence l.fn.now l.fn.sessions l.fn.host l.from;
}

abbrev pub decreases-slots : goal.decreases-slots
decreases-slots l = length l.fn.host.slots - l.from
