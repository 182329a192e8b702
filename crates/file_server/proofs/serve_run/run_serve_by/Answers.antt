use Rattle.std.proofs.Common.{◌≡◌, ◌∙◌, ◌+◌, Ok, Err, refl, ap, arith, rules}
use Rattle.chaos_link.specs.Link.{Asks}
use Rattle.chaos_node.specs.Moments.{Reads}
use Rattle.chaos_node.specs.declared.fault.NodeFault.TheVariants.{Link}
use Rattle.std.specs.Prelude.{List, Option, length, min}
use Rattle.chaos_file.specs.Store.{change}
use Rattle.file_server.specs.Logged.{IsReadOf}
use Rattle.file_server.specs.LoggedRun.{new_logged}
use Rattle.file_server.specs.Service.{new_timed, service_of}
use Rattle.file_server.specs.Watch.{Event, watched, watched_slots}
use Rattle.file_server.specs.declared.limits.TheConstants.{SERVER_CONNS}
use Rattle.file_server.proofs.LoggedRun.{logged_by, logs_turn}
use Rattle.file_server.proofs.Served.{made_next, made_none, made_still, made_to_fault, served_by, served_next}
use Rattle.file_server.proofs.serve_run.run_serve_by.Goals as goal

pub loop-turn-init : goal.loop-turn-init
loop-turn-init g c = record {
  well = search rules;
  carriage = search rules;
  time = refl;
  served = made_none _ (g.M.Moments.read c.args.moments.now) (g.L.Link.asked c.args.link.now) _ _ (search rules);
  logged = made_none _ (g.M.Moments.read c.args.moments.now) (g.L.Link.asked c.args.link.now) _ _ (search rules);
}

pub returns-in_err-server-clause-turns : goal.returns-in_err-server-clause-turns
returns-in_err-server-clause-turns g c =
    served_by _ _ _ (Reads (g.M.Moments.read c.args.moments.now) (g.M.Moments.read c.args.moments.now))
    (Asks (g.L.Link.asked c.args.link.now) (g.L.Link.asked c.args.link.now)) c.args.options.config c.args.options.interval
    c.args.options.turns c.args.options.me c.args.options.passed 0 c.args.store.now (g.L.Link.queue c.args.link.now)
    (new_timed c.args.options.config c.args.options.interval c.args.options.me c.args.options.passed c.args.store.now (g.L.Link.queue c.args.link.now))
    c.from_residual.result (made_none _ (g.M.Moments.read c.args.moments.now) (g.L.Link.asked c.args.link.now) _ _ refl)
    (made_to_fault c.from_residual.result c.args.options.turns 0 c.from_residual.ensures.0 (omega arith))

pub returns-in_err-now-clause-turns : goal.returns-in_err-now-clause-turns
returns-in_err-now-clause-turns g c =
    served_by _ _ _ (Reads (g.M.Moments.read c.args.moments.now) (g.M.Moments.read c.next.new.self))
    (Asks (g.L.Link.asked c.args.link.now) (g.L.Link.asked c.loop-turn.link)) c.args.options.config c.args.options.interval
    c.args.options.turns c.args.options.me c.args.options.passed c.loop-turn.turn c.args.store.now (g.L.Link.queue c.args.link.now)
    (record { station = service_of c.loop-turn.server c.loop-turn.store (g.L.Link.queue c.loop-turn.link); timers = c.loop-turn.server.timers })
    c.from_residual-in_err-now.result
    (made_still _ (g.M.Moments.read c.args.moments.now) (g.M.Moments.read c.loop-turn.moments)
    (g.M.Moments.read c.next.new.self) _ c.loop-turn.turn _ _ c.loop-turn.invariant.served c.in_err-now.ensures.reads)
    (made_to_fault c.from_residual-in_err-now.result c.args.options.turns c.loop-turn.turn
    c.from_residual-in_err-now.ensures.0 (omega arith))

pub returns-then-eq-clause-turns : goal.returns-then-eq-clause-turns
returns-then-eq-clause-turns g c =
    served_by _ _ _ {A = Unit {0}} (Reads (g.M.Moments.read c.args.moments.now) (g.M.Moments.read c.next.new.self))
    (Asks (g.L.Link.asked c.args.link.now) (g.L.Link.asked c.turn-end.new.link)) c.args.options.config c.args.options.interval
    c.args.options.turns c.args.options.me c.args.options.passed (c.loop-turn.turn + 1) c.args.store.now (g.L.Link.queue c.args.link.now)
    (record { station = service_of c.turn-end.new.self c.turn-end.new.store (g.L.Link.queue c.turn-end.new.link); timers = c.turn-end.new.self.timers }) (Err Link)
    (served_next _ _ _ (g.M.Moments.read c.args.moments.now) (g.M.Moments.read c.loop-turn.moments)
    (g.M.Moments.read c.next.new.self) (g.L.Link.asked c.args.link.now) (g.L.Link.asked c.loop-turn.link)
    (g.L.Link.asked c.turn-end.new.link) c.loop-turn.turn c.start.result c.in_ok-now.now
    c.loop-turn.server.node.carriage _ _ _ c.turn-end.result c.loop-turn.invariant.served c.in_ok-now.ensures.reads
    c.loop-turn.invariant.carriage
    (c.start.ensures ∙ ap (λ t. g.M.Moments.starts t c.in_ok-now.now)
    (c.next.ensures.same_time ∙ c.loop-turn.invariant.time))
    c.turn-end.ensures.timers c.turn-end.ensures.serves)
    (omega arith)

pub loop-turn-preserved : goal.loop-turn-preserved
loop-turn-preserved g c = record {
  well = search rules;
  carriage = c.turn-end.ensures.carriage ∙ c.loop-turn.invariant.carriage;
  time = c.next.ensures.same_time ∙ c.loop-turn.invariant.time;
  served =
      served_next _ _ _ (g.M.Moments.read c.args.moments.now) (g.M.Moments.read c.loop-turn.moments)
      (g.M.Moments.read c.next.new.self) (g.L.Link.asked c.args.link.now) (g.L.Link.asked c.loop-turn.link)
      (g.L.Link.asked c.turn-end.new.link) c.loop-turn.turn c.start.result c.in_ok-now.now
      c.loop-turn.server.node.carriage _ _ _ c.turn-end.result c.loop-turn.invariant.served c.in_ok-now.ensures.reads
      c.loop-turn.invariant.carriage
      (c.start.ensures ∙ ap (λ t. g.M.Moments.starts t c.in_ok-now.now)
      (c.next.ensures.same_time ∙ c.loop-turn.invariant.time))
      c.turn-end.ensures.timers c.turn-end.ensures.serves;
  logged =
      made_next _ (g.M.Moments.read c.args.moments.now) (g.M.Moments.read c.loop-turn.moments)
      (g.M.Moments.read c.next.new.self) (g.L.Link.asked c.args.link.now) (g.L.Link.asked c.loop-turn.link)
      (g.L.Link.asked c.turn-end.new.link) c.loop-turn.turn c.in_ok-now.now _ _
      (record {
        station =
            service_of c.turn-end.new.self (c.turn-end.new.store, g.G.Log.logged c.watch.new.log)
            (g.L.Link.queue c.turn-end.new.link);
        timers = c.turn-end.new.self.timers;
        seen = c.watch.new.watch.seen;
      })
      c.loop-turn.invariant.logged c.in_ok-now.ensures.reads
      (logs_turn (change g.S.Store.contents g.S.Store.may_give g.S.Store.count) c.args.options.carriage
      (g.M.Moments.starts (g.M.Moments.time c.args.moments.now)) {asked = Asks (g.L.Link.asked c.loop-turn.link) (g.L.Link.asked c.turn-end.new.link)}
      (IsReadOf g.G.LinkLog.reads (λ l. Asks (g.L.Link.asked c.loop-turn.link) (g.L.Link.asked l))) c.in_ok-now.now c.start.result c.loop-turn.server.node.carriage (g.G.Log.logged c.turn-end.new.log)
      (g.G.LinkLog.reads c.turn-end.new.link) _ _ c.turn-end.result c.loop-turn.invariant.carriage
      (c.start.ensures ∙ ap (λ t. g.M.Moments.starts t c.in_ok-now.now)
      (c.next.ensures.same_time ∙ c.loop-turn.invariant.time))
      c.turn-end.ensures.timers c.turn-end.ensures.logs
      (c.watch.ensures
      ∙ ap
      (λ (t : Option (List Event)). watched_slots c.turn-end.new.self.timers c.turn-end.new.self.node.host c.turn-end.new.self.sessions
      (min SERVER_CONNS (length c.turn-end.new.self.node.host.slots)) (watched c.loop-turn.watch.seen t))
      c.turned.ensures));
}

pub returns-clause-turns : goal.returns-clause-turns
returns-clause-turns g c =
    let all : c.loop-turn.turn ≡ c.args.options.turns = omega arith in
    served_by _ _ _ (Reads (g.M.Moments.read c.args.moments.now) (g.M.Moments.read c.loop-turn.moments))
    (Asks (g.L.Link.asked c.args.link.now) (g.L.Link.asked c.loop-turn.link)) c.args.options.config c.args.options.interval
    c.args.options.turns c.args.options.me c.args.options.passed c.loop-turn.turn c.args.store.now (g.L.Link.queue c.args.link.now)
    (record { station = service_of c.loop-turn.server c.loop-turn.store (g.L.Link.queue c.loop-turn.link); timers = c.loop-turn.server.timers }) (Ok (tt {0}))
    c.loop-turn.invariant.served all

-- ---- what was logged

pub returns-in_err-server-clause-logs : goal.returns-in_err-server-clause-logs
returns-in_err-server-clause-logs g c =
    let changes = change g.S.Store.contents g.S.Store.may_give g.S.Store.count in
    logged_by changes c.args.options.carriage (g.M.Moments.starts (g.M.Moments.time c.args.moments.now))
    (Reads (g.M.Moments.read c.args.moments.now) (g.M.Moments.read c.args.moments.now))
    (Asks (g.L.Link.asked c.args.link.now) (g.L.Link.asked c.args.link.now)) c.args.options.config c.args.options.interval
    c.args.options.turns c.args.options.me c.args.options.passed 0 (c.args.store.now, g.G.Log.logged c.args.log.now) (g.L.Link.queue c.args.link.now)
    (new_logged c.args.options.config c.args.options.interval c.args.options.me c.args.options.passed (c.args.store.now, g.G.Log.logged c.args.log.now) (g.L.Link.queue c.args.link.now))
    c.from_residual.result (made_none _ (g.M.Moments.read c.args.moments.now) (g.L.Link.asked c.args.link.now) _ _ refl)
    (made_to_fault c.from_residual.result c.args.options.turns 0 c.from_residual.ensures.0 (omega arith))

pub returns-in_err-now-clause-logs : goal.returns-in_err-now-clause-logs
returns-in_err-now-clause-logs g c =
    let changes = change g.S.Store.contents g.S.Store.may_give g.S.Store.count in
    logged_by changes c.args.options.carriage (g.M.Moments.starts (g.M.Moments.time c.args.moments.now))
    (Reads (g.M.Moments.read c.args.moments.now) (g.M.Moments.read c.next.new.self))
    (Asks (g.L.Link.asked c.args.link.now) (g.L.Link.asked c.loop-turn.link)) c.args.options.config c.args.options.interval
    c.args.options.turns c.args.options.me c.args.options.passed c.loop-turn.turn (c.args.store.now, g.G.Log.logged c.args.log.now)
    (g.L.Link.queue c.args.link.now)
    (record {
      station =
          service_of c.loop-turn.server (c.loop-turn.store, g.G.Log.logged c.loop-turn.log) (g.L.Link.queue c.loop-turn.link);
      timers = c.loop-turn.server.timers;
      seen = c.loop-turn.watch.seen;
    })
    c.from_residual-in_err-now.result
    (made_still _ (g.M.Moments.read c.args.moments.now) (g.M.Moments.read c.loop-turn.moments)
    (g.M.Moments.read c.next.new.self) _ c.loop-turn.turn _ _ c.loop-turn.invariant.logged c.in_err-now.ensures.reads)
    (made_to_fault c.from_residual-in_err-now.result c.args.options.turns c.loop-turn.turn
    c.from_residual-in_err-now.ensures.0 (omega arith))

pub returns-then-eq-clause-logs : goal.returns-then-eq-clause-logs
returns-then-eq-clause-logs g c =
    let changes = change g.S.Store.contents g.S.Store.may_give g.S.Store.count in
    logged_by changes c.args.options.carriage (g.M.Moments.starts (g.M.Moments.time c.args.moments.now))
    {A = Unit {0}} (Reads (g.M.Moments.read c.args.moments.now) (g.M.Moments.read c.next.new.self))
    (Asks (g.L.Link.asked c.args.link.now) (g.L.Link.asked c.turn-end.new.link)) c.args.options.config c.args.options.interval
    c.args.options.turns c.args.options.me c.args.options.passed (c.loop-turn.turn + 1) (c.args.store.now, g.G.Log.logged c.args.log.now)
    (g.L.Link.queue c.args.link.now) _ (Err Link)
    (made_next _ (g.M.Moments.read c.args.moments.now) (g.M.Moments.read c.loop-turn.moments)
    (g.M.Moments.read c.next.new.self) (g.L.Link.asked c.args.link.now) (g.L.Link.asked c.loop-turn.link)
    (g.L.Link.asked c.turn-end.new.link) c.loop-turn.turn c.in_ok-now.now _ _
    (record {
      station =
          service_of c.turn-end.new.self (c.turn-end.new.store, g.G.Log.logged c.watch.new.log)
          (g.L.Link.queue c.turn-end.new.link);
      timers = c.turn-end.new.self.timers;
      seen = c.watch.new.watch.seen;
    })
    c.loop-turn.invariant.logged c.in_ok-now.ensures.reads
    (logs_turn (change g.S.Store.contents g.S.Store.may_give g.S.Store.count) c.args.options.carriage
    (g.M.Moments.starts (g.M.Moments.time c.args.moments.now)) {asked = Asks (g.L.Link.asked c.loop-turn.link) (g.L.Link.asked c.turn-end.new.link)}
    (IsReadOf g.G.LinkLog.reads (λ l. Asks (g.L.Link.asked c.loop-turn.link) (g.L.Link.asked l))) c.in_ok-now.now c.start.result c.loop-turn.server.node.carriage (g.G.Log.logged c.turn-end.new.log)
    (g.G.LinkLog.reads c.turn-end.new.link) _ _ c.turn-end.result c.loop-turn.invariant.carriage
    (c.start.ensures ∙ ap (λ t. g.M.Moments.starts t c.in_ok-now.now)
    (c.next.ensures.same_time ∙ c.loop-turn.invariant.time))
    c.turn-end.ensures.timers c.turn-end.ensures.logs
    (c.watch.ensures
    ∙ ap
    (λ (t : Option (List Event)). watched_slots c.turn-end.new.self.timers c.turn-end.new.self.node.host c.turn-end.new.self.sessions
    (min SERVER_CONNS (length c.turn-end.new.self.node.host.slots)) (watched c.loop-turn.watch.seen t))
    c.turned.ensures)))
    (omega arith)

pub returns-clause-logs : goal.returns-clause-logs
returns-clause-logs g c =
    let all : c.loop-turn.turn ≡ c.args.options.turns = omega arith in
    logged_by (change g.S.Store.contents g.S.Store.may_give g.S.Store.count) c.args.options.carriage
    (g.M.Moments.starts (g.M.Moments.time c.args.moments.now))
    (Reads (g.M.Moments.read c.args.moments.now) (g.M.Moments.read c.loop-turn.moments))
    (Asks (g.L.Link.asked c.args.link.now) (g.L.Link.asked c.loop-turn.link)) c.args.options.config c.args.options.interval
    c.args.options.turns c.args.options.me c.args.options.passed c.loop-turn.turn (c.args.store.now, g.G.Log.logged c.args.log.now)
    (g.L.Link.queue c.args.link.now)
    (record {
      station =
          service_of c.loop-turn.server (c.loop-turn.store, g.G.Log.logged c.loop-turn.log) (g.L.Link.queue c.loop-turn.link);
      timers = c.loop-turn.server.timers;
      seen = c.loop-turn.watch.seen;
    })
    (Ok (tt {0})) c.loop-turn.invariant.logged all
