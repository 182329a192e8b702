use Rattle.std.proofs.Common.{◌∙◌, ap, rules}
use Rattle.chaosd_log.specs.PeerSources.{source_at}
use Rattle.chaosd_log.proofs.Renewed.{heard_before}
use Rattle.chaosd_log.proofs.peer_sources.PeerSources.renew.Goals as goal

pub returns-clause-renewed : goal.returns-clause-renewed
returns-clause-renewed c = search rules

pub returns-clause-sources : goal.returns-clause-sources
returns-clause-sources c address known =
    ap (source_at address) (returns-clause-renewed c)
    ∙ heard_before c.args.peers c.args.self.now
    (rw c.hosts.ensures.hosts at c.hosts.ensures.few) address known
