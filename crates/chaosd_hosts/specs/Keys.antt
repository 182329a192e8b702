-- The keys of a table, and of the table that is read behind it.
use Rattle.std.specs.Prelude.{◌&&◌, ℕ, Bool, true, false, not, is_some, nat_lt, length, List, Option, None, Some}
use Rattle.std.specs.List.{find, list_all}
use Rattle.std.specs.Option.{option_and_then}
use Rattle.std.specs.Str.{bytes_eq}
use Rattle.chaosd_hosts.specs.Table.{HostView, TableView, has_address}
use Rattle.chaosd_hosts.specs.Text.{Text}

-- the key file of the host with this address, if there is such a host and it has one
abbrev pub key_at : ℕ → List HostView → Option Text
key_at address hosts = option_and_then (λ host. host.key) (find (has_address address) hosts)

abbrev pub is_same_file : Option Text → Option Text → Bool
is_same_file None None = true
is_same_file (Some file) (Some other) = bytes_eq file other
is_same_file _ _ = false

-- each of these hosts has the same key file among the others, or no key in both
abbrev pub keeps_keys : List HostView → List HostView → Bool
keeps_keys hosts others = list_all (λ host. is_same_file host.key (key_at host.address others)) hosts

-- each of these hosts has a key
abbrev pub are_keyed : List HostView → Bool
are_keyed hosts = list_all (λ host. is_some host.key) hosts

-- All that is to be heard is sealed: there are other hosts, each has a key, and no bridge leads to more.
unfoldable pub is_sealed : TableView → Bool
is_sealed table = nat_lt 0 (length table.hosts) && (not (is_some table.bridge) && are_keyed table.hosts)

abbrev pub is_alike : Bool → Bool → Bool
is_alike true other = other
is_alike false other = not other

-- No host has a key in one of the tables that the host doesn't have in the other, and both are sealed or neither.
unfoldable pub has_keys_of : TableView → TableView → Bool
has_keys_of table other = is_alike (is_sealed table) (is_sealed other)
    && (keeps_keys table.hosts other.hosts && keeps_keys other.hosts table.hosts)
