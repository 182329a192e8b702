use Rattle.std.proofs.Common.{◌≡◌, ◌≤◌}
use Rattle.chaos_file.specs.Store.{change}
use Rattle.chaos_link.specs.Link.{Asks}
use Rattle.chaos_node.specs.Moments.{Reads}
use Rattle.file_server.specs.LoggedRun.{new_logged}
use Rattle.file_server.specs.Service.{new_timed, service_of}
use Rattle.file_server.proofs.LoggedRun.{HasLogged}
use Rattle.file_server.proofs.Served.{HasServed}
use Rattle.file_server.proofs.serve_run.run_serve_by.Given as goal

-- no turn so far met a failure, and each was made at the moment that was read for it; the link was asked what they asked
abbrev pub invariant-loop-turn : goal.invariant-loop-turn
invariant-loop-turn g l = record {
  well : g.L.Link.count l.link ≤ g.L.Link.count l.fn.link;
  carriage : l.server.node.carriage ≡ l.fn.options.carriage;
  time : g.M.Moments.time l.moments ≡ g.M.Moments.time l.fn.moments;
  served : HasServed (change g.S.Store.contents g.S.Store.may_give g.S.Store.count) l.fn.options.carriage
      (g.M.Moments.starts (g.M.Moments.time l.fn.moments))
      (Reads (g.M.Moments.read l.fn.moments) (g.M.Moments.read l.moments))
      (Asks (g.L.Link.asked l.fn.link) (g.L.Link.asked l.link)) l.turn
      (new_timed l.fn.options.config l.fn.options.interval l.fn.options.me l.fn.options.passed l.fn.store (g.L.Link.queue l.fn.link))
      (record { station = service_of l.server l.store (g.L.Link.queue l.link); timers = l.server.timers });
  logged : HasLogged (change g.S.Store.contents g.S.Store.may_give g.S.Store.count) l.fn.options.carriage
      (g.M.Moments.starts (g.M.Moments.time l.fn.moments))
      (Reads (g.M.Moments.read l.fn.moments) (g.M.Moments.read l.moments))
      (Asks (g.L.Link.asked l.fn.link) (g.L.Link.asked l.link)) l.turn
      (new_logged l.fn.options.config l.fn.options.interval l.fn.options.me l.fn.options.passed (l.fn.store, g.G.Log.logged l.fn.log) (g.L.Link.queue l.fn.link))
      (record {
        station = service_of l.server (l.store, g.G.Log.logged l.log) (g.L.Link.queue l.link);
        timers = l.server.timers;
        seen = l.watch.seen;
      });
}
