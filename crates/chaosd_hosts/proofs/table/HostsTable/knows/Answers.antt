-- A test of the own entries, or else of the others.
use Rattle.chaosd_hosts.specs.Table.{has_address, host_view, knows}
use Rattle.chaosd_hosts.proofs.Rows.{any_here, any_there}
use Rattle.chaosd_hosts.proofs.table.HostsTable.knows.Goals as goal

pub returns-then-has_address : goal.returns-then-has_address
unfolding knows
returns-then-has_address c =
    any_here host_view (has_address c.args.address) c.selves.result.now c.args.self.now.selves c.has_address.result _
    c.has_address.ensures c.selves.ensures c.if-has_address.true

pub returns-else-has_address : goal.returns-else-has_address
unfolding knows
returns-else-has_address c =
    any_there host_view (has_address c.args.address) c.selves.result.now c.hosts.result.now c.args.self.now.selves c.args.self.now.hosts
    c.has_address.result c.has_address-else-has_address.result
    c.has_address.ensures c.selves.ensures c.if-has_address.false c.has_address-else-has_address.ensures c.hosts.ensures
