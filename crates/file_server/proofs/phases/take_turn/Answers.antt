use Rattle.std.proofs.Common.{List, ap}
use Rattle.chaos_file.specs.Store.{change}
use Rattle.file_server.specs.InTurn.{options_of}
use Rattle.file_server.specs.Server.{server}
use Rattle.file_server.specs.Sessions.{Serving}
use Rattle.file_server.specs.Logged.{logged_uses}
use Rattle.file_server.proofs.InTurn.{turn_taken}
use Rattle.file_server.proofs.phases.take_turn.Goals as goal

pub returns : goal.returns
returns g c =
    let entries = g.G.Log.logged in
    let arrived = c.arrive_at_server-arrived in
    let served = c.serve_slots-served in
    let ended = c.end_slots-ended in
    turn_taken (logged_uses (change g.S.Store.contents g.S.Store.may_give g.S.Store.count)) c.args.input.now.mode (options_of c.args.input.now) c.args.came
    c.args.input.now.start c.args.turn.now arrived.new.turn served.new.turn ended.new.turn c.args.sessions.now
    served.new.sessions c.give_back.new.self (c.args.store.now, entries c.args.log.now)
    (served.new.store, entries served.new.log) arrived.result served.result
    ended.result c.any_of.result arrived.ensures served.ensures ended.ensures
    (ap (λ (ss : List Serving). server ended.new.turn.host.now ss (served.new.store, entries served.new.log))
    c.give_back.ensures)
    c.any_of.ensures
