use Rattle.file_lab.specs.Serving.{Service}
use Rattle.file_lab.proofs.ServedTurns.{serves_turn}
use Rattle.std.proofs.Common.{rules, ◌≡◌, subst, sym}
use Rattle.chaos_lab.specs.Turn.{TakesTurn}
use Rattle.file_lab.specs.Serving.{turned_by}
use Rattle.file_lab.proofs.server.ServerUser.turn.Goals as goal

-- serving once is a turn
pub returns : goal.returns
returns c =
    let s : Service = record { session = c.args.self.now.session; files = c.args.self.now.store } in
    let t : Service = record { session = c.serve_conn-self.new.session; files = c.serve_conn-self.new.store } in
    let turned : c.turned_by.result ≡ turned_by c.serve_conn-self.result = search rules in
    let r =
    serves_turn s t c.args.conn.now c.serve_conn-self.new.conn c.args.now c.args.out.now c.serve_conn-self.new.out
    c.serve_conn-self.result c.law_reply_taken.ensures c.serve_conn-self.ensures in
    (r.0, r.1, subst (TakesTurn c.args.conn.now c.args.now r.0 c.serve_conn-self.new.conn c.args.out.now c.serve_conn-self.new.out) (sym turned) r.2)
