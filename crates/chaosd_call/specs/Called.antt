-- Which server a call leads to.
use Rattle.std.specs.Prelude.{◌≡◌, ℕ, List, Some, Ok}
use Rattle.std.specs.Option.{option_or}
use Rattle.chaos_link.specs.declared.peers.Peer.{Peer}
use Rattle.chaosd_hosts.specs.Table.{HostView, TableView, host_named, table_of}
use Rattle.chaosd_line.specs.declared.ends.Ends.{Ends}
use Rattle.chaosd_line.specs.declared.ends.Target.{Target}
use Rattle.chaosd_line.specs.declared.ends.Target.TheVariants.{Addresses, Name}

-- This is the host with that name: at its own UDP address, or at the bridge's where the table has none for the host.
abbrev pub IsServerIn : TableView → List ℕ → Peer → Type 0
IsServerIn table name server = (host : HostView) × (host_named name table ≡ Some host) × (server.address ≡ host.address)
    × (option_or host.udp table.bridge ≡ Some server.socket)

-- Some text writes a table in which this is the host with that name.
abbrev pub IsNamed : List ℕ → Peer → Type 0
IsNamed name server = (text : List ℕ) × (table : TableView) × (table_of text ≡ Ok table) × IsServerIn table name server

-- The call leads where the line says: from and to the line's addresses, or to the host with the line's name.
abbrev pub LeadsTo : Target → Ends → Type 0
LeadsTo (Addresses ends) opened = opened ≡ ends
LeadsTo (Name name) opened = IsNamed name.now opened.server
