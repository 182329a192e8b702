use Rattle.std.proofs.Common.{◌≡◌, ◌++◌, map, take}
use Rattle.chaosd.specs.ServeKeys.{hosts_of}
use Rattle.chaosd.proofs.serve_keys.keys_for.Given as goal

-- each peer so far has the key
abbrev pub invariant-loop-peer : goal.invariant-loop-peer
invariant-loop-peer g l = hosts_of l.keys.items ≡ map (λ peer. peer.address) (take l.peer-index l.peers)

-- each followed host so far has the key
abbrev pub invariant-loop-address : goal.invariant-loop-address
invariant-loop-address g l = hosts_of l.keys.items ≡ map (λ peer. peer.address) l.peers ++ take l.address-index l.followed
