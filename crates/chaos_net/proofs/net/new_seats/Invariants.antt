use Rattle.std.proofs.Common.{◌≡◌, replicate}
use Rattle.chaos_net.specs.New.{new_seat}
use Rattle.chaos_net.proofs.net.new_seats.Given as goal

abbrev pub invariant-loop : goal.invariant-loop
invariant-loop l = l.seats.items ≡ replicate l.counter new_seat
