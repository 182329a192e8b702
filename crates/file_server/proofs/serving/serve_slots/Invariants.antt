use Rattle.std.proofs.Common.{◌-◌, ◌≤◌, ℕ, length}
use Rattle.chaos_file.specs.Store.{change}
use Rattle.file_server.specs.InTurn.{ServerTurnDoes}
use Rattle.file_server.specs.Logged.{logged_uses}
use Rattle.file_server.specs.Serve.{ServesSlotsBy}
use Rattle.file_server.specs.Sessions.{HasNoFiles, serving_at}
use Rattle.file_server.proofs.serving.serve_slots.Given as goal

abbrev pub invariant-slots : goal.invariant-slots
invariant-slots g l = record {
  within : l.from ≤ length l.fn.turn.host.now.slots;
  ends : l.sessions-inside.files_below ≤ length l.sessions-inside.kept.items;
  bare : (k : ℕ) → l.sessions-inside.files_below ≤ k → HasNoFiles (serving_at l.sessions-inside.kept.items k);
  done :
      ServerTurnDoes l.fn.turn l.turn
      (ServesSlotsBy (logged_uses (change g.S.Store.contents g.S.Store.may_give g.S.Store.count)) l.input.mode l.fn.turn.now l.from)
      l.fn.sessions l.sessions-inside.kept.items (l.fn.store, g.G.Log.logged l.fn.log) (l.store, g.G.Log.logged l.log) l.sent;
}

abbrev pub decreases-slots : goal.decreases-slots
decreases-slots g l = length l.fn.turn.host.now.slots - l.from
