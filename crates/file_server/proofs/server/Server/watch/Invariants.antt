use Rattle.std.proofs.Common.{◌≡◌}
use Rattle.file_server.specs.Watch.{watched, watched_slots}
use Rattle.file_server.proofs.server.Server.watch.Given as goal

-- the slots so far were looked at
abbrev pub invariant-loop-place : goal.invariant-loop-place
invariant-loop-place g l =
    watched l.watch.seen (g.G.Log.logged l.log)
    ≡ watched_slots l.fn.self.timers l.fn.self.node.host l.fn.self.sessions l.place (watched l.fn.watch.seen (g.G.Log.logged l.fn.log))
