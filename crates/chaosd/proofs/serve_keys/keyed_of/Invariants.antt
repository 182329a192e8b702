use Rattle.std.proofs.Common.{◌≡◌, take}
use Rattle.chaosd.specs.ServeKeys.{hosts_of}
use Rattle.chaosd.proofs.serve_keys.keyed_of.Given as goal

-- each host so far
abbrev pub invariant-loop-key : goal.invariant-loop-key
invariant-loop-key g l = l.hosts.items ≡ hosts_of (take l.key-index l.keys)
