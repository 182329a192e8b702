-- A host that the table takes comes last.
use Rattle.std.proofs.Common.{◌≢◌, ◌<◌, ◌∙◌, length, option_and_then, Some, ap, arith, sym}
use Rattle.chaos_link.specs.declared.limits.TheConstants.{MAX_PEERS}
use Rattle.chaosd_line.specs.Values.{with_host}
use Rattle.chaosd_line.proofs.Reading.{host_added}
use Rattle.chaosd_line.proofs.peers.add_host.Goals as goal

pub returns-in-Ok-clause-ok : goal.returns-in-Ok-clause-ok
returns-in-Ok-clause-ok c =
    let not_full : length c.args.peers.now.hosts ≢ MAX_PEERS = λ e. let full = c.in-Ok.ensures.too_many.1 e in cc in
    let room : length c.args.peers.now.hosts < MAX_PEERS = omega (arith, not_full, c.requires) in
    ap (option_and_then (with_host c.args.peers.now)) (sym c.in-Some.ensures.value)
    ∙ host_added c.args.peers.now c.in-Some.peer room (λ known. let taken = c.in-Ok.ensures.already.1 (room, known) in cc)
    ∙ ap Some (sym c.in-Ok.ensures.ok)
