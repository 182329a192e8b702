use Rattle.std.proofs.Common.{length}
use Rattle.chaos_node.proofs.Loaded.{LoadedSoFar}
use Rattle.chaos_node.proofs.Queue.{told}
use Rattle.chaos_node.proofs.sending.send_loads.Given as goal

abbrev pub invariant-packets : goal.invariant-packets
invariant-packets g l =
    let queue = g.L.Link.queue in
    let asked = g.L.Link.asked in
    LoadedSoFar (told (queue l.fn.link) (asked l.fn.link)) (told (queue l.link) (asked l.link)) l.fn.out l.out l.load

abbrev pub decreases-packets : goal.decreases-packets
decreases-packets g l = length l.out.packets
