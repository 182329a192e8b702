use Rattle.std.proofs.Common.{◌∙◌, ap, add-one}
use Rattle.file_server.specs.Watch.{watched_at}
use Rattle.file_server.proofs.server.Server.watch.Goals as goal

pub loop-place-preserved : goal.loop-place-preserved
loop-place-preserved g c =
    rw (add-one c.loop-place.place)
    (c.look.ensures
    ∙ ap (watched_at c.args.self.now.timers c.args.self.now.node.host c.args.self.now.sessions c.loop-place.place)
    c.loop-place.invariant)
