use Rattle.std.proofs.Common.{None, rules}
use Rattle.chaos_packet.specs.Outbox.{OutboxView}
use Rattle.chaos_file.specs.Store.{change}
use Rattle.chaos_host.specs.View.{HostView}
use Rattle.chaos_link.specs.Link.{Asks}
use Rattle.chaos_node.specs.Station.{station}
use Rattle.chaos_node.proofs.InTurn.{left_as}
use Rattle.chaos_node.proofs.Whole.{goes_over}
use Rattle.file_server.specs.InTurn.{server_in}
use Rattle.file_server.specs.Server.{server}
use Rattle.file_server.specs.Slots.{no_options}
use Rattle.file_server.specs.Turn.{RunsTurn}
use Rattle.file_server.specs.declared.serve_mode.ServeMode.TheVariants.{Once}
use Rattle.file_server.proofs.Logged.{runs_plain}
use Rattle.file_server.proofs.turn.run_turn.Goals as goal

pub returns-clause-turn : goal.returns-clause-turn
returns-clause-turn g c =
    let queue = g.L.Link.queue in
    let asked = g.L.Link.asked in
    let begun = c.begin-begun in
    let sent = c.take_turn-sent in
    let before = station (server c.args.host.now c.args.sessions.now c.args.store.now) (queue c.args.link.now) c.args.out.now in
    let logged = station (server c.args.host.now c.args.sessions.now (c.args.store.now, None)) (queue c.args.link.now) c.args.out.now in
    left_as
    (λ (h : HostView) l (o : OutboxView). RunsTurn (change g.S.Store.contents g.S.Store.may_give g.S.Store.count) Once no_options
    (Asks (asked c.args.link.now) (asked l)) c.args.may_wait c.args.carriage c.args.start c.args.now before
    (station (server h sent.new.sessions sent.new.store) (queue l) o) c.end_of.result)
    sent.new.turn _ _ _ (search rules) (search rules) (search rules)
    (runs_plain (change g.S.Store.contents g.S.Store.may_give g.S.Store.count) Once no_options
    (Asks (asked c.args.link.now) (asked sent.new.turn.link.now)) c.args.may_wait c.args.carriage c.args.start c.args.now
    logged (server_in sent.new.turn sent.new.sessions (sent.new.store, None)) c.end_of.result
    (record {
      came = begun.result.came;
      lots = sent.ensures.0.lots;
      turn = sent.ensures.0.done;
      link =
          goes_over c.args.carriage logged (server_in sent.new.turn sent.new.sessions (sent.new.store, None))
          (queue begun.new.link) sent.ensures.0.lots begun.result.came begun.result.worked sent.result c.end_of.result
          begun.ensures.begins sent.ensures.0.sends sent.ensures.0.told c.end_of.ensures.work;
    }))
