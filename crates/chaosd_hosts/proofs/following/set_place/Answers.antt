-- A peer is set exactly where the peers have a place.
use Rattle.std.proofs.Common.{◌∙◌, ap, sym, if◌then◌else◌}
use Rattle.chaos_link.specs.Peers.{with_entry}
use Rattle.chaosd_hosts.specs.Following.{with_place}
use Rattle.chaosd_hosts.proofs.Places.{place_missing, place_there}
use Rattle.chaosd_hosts.proofs.following.set_place.Goals as goal

pub returns-in-Ok : goal.returns-in-Ok
unfolding with_place
returns-in-Ok c =
    let peers = c.args.peers.now in
    let there = place_there peers c.args.peer.address (λ none. let e = c.in-Ok.ensures.too_many.1 none in cc) in
    c.in-Ok.ensures.ok
    ∙ ap (λ b. if b then record peers { hosts = with_entry c.args.peer peers.hosts } else peers) (sym there)

pub returns-in-Err : goal.returns-in-Err
unfolding with_place
returns-in-Err c =
    let peers = c.args.peers.now in
    let missing = place_missing peers c.args.peer.address (c.in-Err.ensures.too_many.0 c.in-Err.ensures.fault) in
    c.in-Err.ensures.err
    ∙ ap (λ b. if b then record peers { hosts = with_entry c.args.peer peers.hosts } else peers) (sym missing)
