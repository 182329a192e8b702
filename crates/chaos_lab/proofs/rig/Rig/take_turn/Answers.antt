use Rattle.std.proofs.Common.{rules, ◌≡◌, ℕ, [], subst}
use Rattle.chaos_packet.specs.Outbox.{OutboxView}
use Rattle.chaos_lab.specs.declared.user.Turned.{Turned}
use Rattle.chaos_lab.specs.declared.user.Turned.TheVariants as turned
use Rattle.chaos_lab.specs.Inside.{end_view}
use Rattle.chaos_lab.specs.Laboratory.{EndView, LabView}
use Rattle.chaos_lab.specs.Turning.{EndTurns}
use Rattle.chaos_lab.proofs.Turns.{turned_lab}
use Rattle.chaos_lab.proofs.rig.Rig.take_turn.Goals as goal

-- the turn ended with a reply
pub returns-then-eq-clause-ok : goal.returns-then-eq-clause-ok
returns-then-eq-clause-ok g c =
    let l : LabView = c.args.self.now in
    let t = c.take_turn-turned.ensures.turn in
    let e : EndView = end_view c.take_turn-turned.new.self in
    let before : OutboxView = c.self.inside.out in
    let after : OutboxView = c.take_turn-turned.new.out in
    let done : c.take_turn-turned.result ≡ turned.Replied = search rules in
    let same : end_view c.grow.new.ends.b ≡ l.b = search rules in
    let clock : c.self.inside.clock ≡ l.clock = search rules in
    let empty : before.packets ≡ [] = search rules in
    let may =
    subst (λ (z : EndView × ℕ). g.U.User.may_turn c.args.user.now c.take_turn-turned.new.user z.0.conn z.1 t.0)
    (λ j. (same j, clock j)) t.1 in
    let ends : EndTurns l.b l.clock t.0 e before after turned.Replied =
    subst (λ (z : EndView × ℕ × Turned). EndTurns z.0 z.1 t.0 e before after z.2) (λ j. (same j, clock j, done j))
    t.2 in
    (t.0, may, ends.conn.taken, turned_lab l _ t.0 turned.Replied e before after ends empty (search rules))
