use Rattle.std.proofs.Common.{◌≡◌, ◌<◌, ◌≤◌, ℕ, length}
use Rattle.file_server.specs.Sessions.{HasNoFiles, serving_at}
use Rattle.file_server.specs.Slots.{given_back}
use Rattle.file_server.proofs.sessions.Sessions.give_back.Given as goal

-- the files of the slots so far were given back, and those from `below` on have none
abbrev pub invariant-loop-place : goal.invariant-loop-place
invariant-loop-place l = record {
  given : l.self-inside.kept.items ≡ given_back l.fn.host l.place l.fn.self;
  many : length l.self-inside.kept.items ≡ length l.fn.self;
  behind : l.below ≤ l.place;
  bare : (k : ℕ) → l.below ≤ k → k < l.place → HasNoFiles (serving_at l.self-inside.kept.items k);
}
