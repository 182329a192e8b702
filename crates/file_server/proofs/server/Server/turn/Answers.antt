use Rattle.std.proofs.Common.{◌≡◌, Bool, List, Option, refl, rules, subst}
use Rattle.chaos_packet.specs.Outbox.{OutboxView}
use Rattle.chaos_file.specs.Store.{change}
use Rattle.chaos_host.specs.View.{HostView}
use Rattle.chaos_link.specs.Link.{Ask, Asks}
use Rattle.chaos_link.specs.declared.report.LinkReport.{LinkReport}
use Rattle.chaos_node.specs.Station.{station}
use Rattle.chaos_node.proofs.InTurn.{left_as}
use Rattle.chaos_node.proofs.Whole.{goes_over}
use Rattle.file_server.specs.InTurn.{server_in}
use Rattle.file_server.specs.Serve.{mode_of}
use Rattle.file_server.specs.Server.{server}
use Rattle.file_server.specs.Service.{service_of, service_options}
use Rattle.file_server.specs.Logged.{IsReadOf, LogsTurn, logged_arrival, logged_uses}
use Rattle.file_server.specs.Turn.{IsTurnBy}
use Rattle.file_server.specs.Watch.{Event}
use Rattle.file_server.specs.Waiting.{waits}
use Rattle.file_server.specs.declared.serve_mode.ServeMode.{ServeMode}
use Rattle.file_server.proofs.Logged.{logs_plain}
use Rattle.file_server.proofs.server.Server.turn.Goals as goal
use Rattle.file_server.proofs.server.Server.turn.Goals.{in-Some-Ok+in-Some, in-Some-Ok+in-Some+else-address-ne0, in-Some-Ok+in-None-1, in-Some+in-Err-1, in-None-1}

pub returns-clause-logs : goal.returns-clause-logs
returns-clause-logs g c =
    let queue = g.L.Link.queue in
    let asked = g.L.Link.asked in
    let begun = c.begin-begun in
    let sent = c.take_turn-sent in
    let node = c.args.self.now.node in
    let options = service_options c.look_at_conns.new.timers in
    let entries = g.G.Log.logged in
    let read : List Ask → LinkReport → Type 0 =
    IsReadOf g.G.LinkLog.reads (λ l. Asks (asked c.args.link.now) (asked l)) in
    let changes = change g.S.Store.contents g.S.Store.may_give g.S.Store.count in
    let logged : entries c.match-begun.log
    ≡ logged_arrival begun.result.came (g.G.LinkLog.reads begun.new.link) (entries c.args.log.now) =
    elim c.match-begun.branch [
      | in-Some-Ok+in-Some w ↦ search rules
      | in-Some-Ok+in-Some+else-address-ne0 w ↦ search rules
      | in-Some-Ok+in-None-1 w ↦ search rules
      | in-Some+in-Err-1 w ↦ search rules
      | in-None-1 w ↦ search rules
    ] in
    let before = service_of c.args.self.now (c.args.store.now, entries c.args.log.now) (queue c.args.link.now) in
    left_as
    (λ (h : HostView) l (o : OutboxView). LogsTurn changes (mode_of node.carriage) options read (Asks (asked c.args.link.now) (asked l))
    (waits c.look_at_conns.new.timers c.args.now c.args.may_wait node.host) node.carriage c.args.start c.args.now before
    (station (server h sent.new.sessions (sent.new.store, entries sent.new.log)) (queue l) o) c.end_of.result)
    sent.new.turn _ _ _ (search rules) (search rules) (search rules)
    (subst
    (λ (w : Bool). LogsTurn changes (mode_of node.carriage) options read (Asks (asked c.args.link.now) (asked sent.new.turn.link.now)) w
    node.carriage c.args.start c.args.now before (server_in sent.new.turn sent.new.sessions (sent.new.store, entries sent.new.log))
    c.end_of.result)
    c.waits-may_wait.ensures
    (record {
      came = begun.result.came;
      report = g.G.LinkLog.reads begun.new.link;
      read = (begun.new.link, begun.ensures.begins.asks, refl);
      lots = sent.ensures.0.lots;
      turn =
          subst
          (λ (t : Option (List Event)). IsTurnBy (logged_uses changes) (mode_of node.carriage) options begun.result.came c.args.start
          c.args.now (server node.host c.args.self.now.sessions (c.args.store.now, t))
          (server_in sent.new.turn sent.new.sessions (sent.new.store, entries sent.new.log)).node sent.ensures.0.lots)
          logged
          (subst
          (λ (mode : ServeMode). IsTurnBy (logged_uses changes) mode options begun.result.came c.args.start
          c.args.now (server node.host c.args.self.now.sessions (c.args.store.now, entries c.match-begun.log))
          (server_in sent.new.turn sent.new.sessions (sent.new.store, entries sent.new.log)).node sent.ensures.0.lots)
          c.of.ensures sent.ensures.0.done);
      link =
          goes_over node.carriage before (server_in sent.new.turn sent.new.sessions (sent.new.store, entries sent.new.log))
          (queue begun.new.link) sent.ensures.0.lots begun.result.came begun.result.worked sent.result c.end_of.result
          begun.ensures.begins sent.ensures.0.sends sent.ensures.0.told c.end_of.ensures.work;
    }))

pub returns-clause-serves : goal.returns-clause-serves
returns-clause-serves g c =
    logs_plain (change g.S.Store.contents g.S.Store.may_give g.S.Store.count) _ _ _ _ _ _ _ _ _ _ _ (returns-clause-logs g c)
