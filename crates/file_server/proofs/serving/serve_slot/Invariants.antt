use Rattle.std.proofs.Common.{◌≡◌, ◌<◌, ◌-◌, true, false, ℕ, List, length, slice_set}
use Rattle.chaos_file.specs.Store.{change}
use Rattle.file_server.specs.Logged.{logged_uses}
use Rattle.file_server.specs.Server.{server}
use Rattle.file_server.specs.Sessions.{Serving, serving_at}
use Rattle.file_server.specs.declared.limits.TheConstants.{BURST}
use Rattle.file_server.proofs.Burst.{GoesOn, HasEnded, ServedSo}
use Rattle.file_server.proofs.serving.serve_slot.Given as goal

abbrev pub invariant-burst : goal.invariant-burst
invariant-burst g l = record {
  cap : l.out.cap ≡ l.fn.turn.out.now.cap;
  goes : l.more ≡ true → GoesOn l.input.mode l.times l.out.packets;
  ended : l.more ≡ false → HasEnded l.input.mode l.host l.id l.times l.out.packets;
  done :
      (place : ℕ) (sessions : List Serving) → place < length sessions → l.fn.slot_session ≡ serving_at sessions place
      → ServedSo (logged_uses (change g.S.Store.contents g.S.Store.may_give g.S.Store.count)) l.fn.turn.now place l.id l.times
      (server l.fn.turn.host.now sessions (l.fn.store, g.G.Log.logged l.fn.log))
      (server l.host (slice_set sessions place l.slot_session) (l.store, g.G.Log.logged l.log)) l.fn.turn.out.now l.out;
}

abbrev pub decreases-burst : goal.decreases-burst
decreases-burst g l = BURST - l.times
