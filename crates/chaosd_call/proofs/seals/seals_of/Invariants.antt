use Rattle.std.proofs.Common.{◌≡◌, map, take}
use Rattle.chaos_seal.specs.Peers.{new_peer}
use Rattle.chaosd_call.specs.Key.{IsSession}
use Rattle.chaosd_call.proofs.seals.seals_of.Given as goal

-- each key so far was added, and nothing else changed
abbrev pub invariant-loop-key : goal.invariant-loop-key
invariant-loop-key g l = record {
  me : l.seals.me ≡ l.me;
  session : IsSession (g.R.ReadableClock.dates l.rt) l.keys l.seals.session;
  closed : l.seals.closed ≡ l.is_closed;
  peers : l.seals.peers ≡ map (λ k. new_peer k.address k.key) (take l.key-index l.keys);
}
