-- The first own entry with the name, or else the first other host.
use Rattle.std.proofs.Common.{◌∙◌, ap, option_map}
use Rattle.chaosd_hosts.specs.Table.{has_name, host_named, host_view}
use Rattle.chaosd_hosts.proofs.Rows.{find_both}
use Rattle.chaosd_hosts.proofs.table.HostsTable.find.Goals as goal

pub returns : goal.returns
unfolding host_named
returns c =
    ap (option_map host_view) c.or.ensures
    ∙ find_both host_view (has_name c.args.name.now) c.selves.result.now c.hosts.result.now c.find_named.result c.find_named-2.result
    c.args.self.now.selves c.args.self.now.hosts c.find_named.ensures c.find_named-2.ensures c.selves.ensures c.hosts.ensures
