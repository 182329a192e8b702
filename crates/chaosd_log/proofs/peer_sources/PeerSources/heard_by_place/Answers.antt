use Rattle.std.proofs.Common.{◌<◌, None, arith}
use Rattle.std.specs.Prelude.{slice_get}
use Rattle.std.proofs.lemmas.Bool.Decides.{nat_tests}
use Rattle.std.proofs.lemmas.List.FromFn.{fill_by_all}
use Rattle.chaosd_log.specs.PeerSources.{source_of_peer}
use Rattle.chaosd_log.proofs.peer_sources.PeerSources.heard_by_place.Goals as goal

pub returns : goal.returns
returns c =
    fill_by_all (λ place. source_of_peer (slice_get c.args.peers.now place) c.args.self.now) c.loop-place.heard 32 None
    c.loop-place.invariant.size
    (λ k inside. c.loop-place.invariant.filled k
    (let end = c.loop-place-test.false in let most = c.loop-place.auto in
    let here : k < c.loop-place.place = grind (arith, nat_tests) in here))
