-- The table that a text writes, or the first bad line.
use Rattle.std.specs.Prelude.{◌==◌, ◌&&◌, ◌||◌, ◌++◌, ◌∷◌, ◌+◌, ℕ, Bool, not, codes, List, [], length, nat_lt, Option, None, Some, is_some, option_map, unwrap_or, if◌then◌else◌, true, false, Result, Ok, Err}
use Rattle.std.specs.List.{filter_map, find, list_any}
use Rattle.std.specs.Option.{ok_or, option_or}
use Rattle.std.specs.Str.{bytes_eq}
use Rattle.std.specs.Str.Lines.{lines}
use Rattle.std.specs.declared.net.socket_addr.SocketAddrV4.{SocketAddrV4}
use Rattle.chaos_link.specs.Peers.{PeersView}
use Rattle.chaos_link.specs.declared.limits.TheConstants.{MAX_PEERS}
use Rattle.chaos_link.specs.declared.peers.Peer.{Peer}
use Rattle.chaosd_hosts.specs.Addresses.{address_of, socket_of}
use Rattle.chaosd_hosts.specs.Fields.{before_comment, fields_of, key_file, keys_among, names_among}
use Rattle.chaosd_hosts.specs.Names.{is_host_name, is_own_name, is_same_name}
use Rattle.chaosd_hosts.specs.Text.{Text}
use Rattle.chaosd_hosts.specs.declared.fault.Reason.{Reason}
use Rattle.chaosd_hosts.specs.declared.fault.Reason.TheVariants.{BadAddress, NoUdp, BadUdp, NoName, BadName, SecondKey, NoKeyFile, StrayKey, AddressTwice, NameTwice, TooManyHosts, TooManySelves, SecondBridge, BridgeWithoutUdp}
use Rattle.chaosd_hosts.specs.declared.fault.Refusal.{Refusal}
use Rattle.chaosd_hosts.specs.declared.fault.TableFault.{TableFault}
use Rattle.chaosd_hosts.specs.declared.host.Host.{Host}
use Rattle.chaosd_hosts.specs.declared.host.TheConstants.{MAX_SELVES}

-- ---- what contracts see

-- a host; without a UDP address the host is answered where its last good datagram came from; with the name of a file its packets are
-- sealed with the key in that file
pub record HostView : Type 0 where
  pub address : ℕ
  pub udp : Option SocketAddrV4
  pub names : List Text
  pub key : Option Text

pub record TableView : Type 0 where
  pub selves : List HostView
  pub hosts : List HostView
  pub bridge : Option SocketAddrV4

-- the word that is at fault, and why
pub record RefusalView : Type 0 where
  pub reason : Reason
  pub word : Text

pub record FaultView : Type 0 where
  pub line : ℕ
  pub refusal : RefusalView

abbrev pub host_view : Host → HostView
host_view host = record {
  address = host.address;
  udp = host.udp;
  names = names_among (fields_of host.fields.now);
  key = option_map (λ file. file.now) host.key;
}

abbrev pub refusal_view : Refusal → RefusalView
refusal_view refusal = record { reason = refusal.reason; word = refusal.word.now }

abbrev pub fault_view : TableFault → FaultView
fault_view fault = record { line = fault.line; refusal = refusal_view fault.refusal }

-- ---- the host or the bridge that the fields of a line write

abbrev pub refused : {T : Type 0} → Reason → Text → Result T RefusalView
refused reason word = Err (record { reason = reason; word = word })

-- what the form reads of a word, which is refused where the form reads nothing
abbrev pub read_by : {T : Type 0} → (Text → Option T) → Reason → Text → Result T RefusalView
read_by form reason word = ok_or (form word) (record { reason = reason; word = word })

abbrev pub then_by : {T U : Type 0} → Result T RefusalView → (T → Result U RefusalView) → Result U RefusalView
then_by (Ok x) f = f x
then_by (Err e) f = Err e

abbrev pub is_star : Text → Bool
is_star word = bytes_eq word (codes "*")

-- a UDP address, or a star for none
unfoldable pub udp_of : Text → Option (Option SocketAddrV4)
udp_of word = if is_star word then Some None else option_map Some (socket_of word)

-- the first that is no host's name
abbrev pub bad_name : List Text → Option Text
bad_name names = find (λ name. not (is_host_name name)) names

abbrev pub named : {T : Type 0} → T → Option Text → Result T RefusalView
named x (Some name) = refused BadName name
named x None = Ok x

-- the names of a line, of which the line needs one
abbrev pub good_names : Text → List Text → Result (List Text) RefusalView
good_names word [] = refused NoName word
good_names word (name ∷ names) = named (name ∷ names) (bad_name (name ∷ names))

-- a field that names a file
abbrev pub file_in : Text → Result (Option Text) RefusalView
file_in field = let file = unwrap_or (key_file field) [] in
    if length file == 0 then refused NoKeyFile field else Ok (Some file)

-- the key file of a line, if its fields name one: another host has at most one, and this host and the bridge have none
abbrev pub key_by : Bool → List Text → Result (Option Text) RefusalView
key_by is_other [] = Ok None
key_by false (field ∷ fields) = refused StrayKey field
key_by true (field ∷ []) = file_in field
key_by true (field ∷ (second ∷ fields)) = refused SecondKey second

abbrev pub host_with : ℕ → Option SocketAddrV4 → List Text → List Text → Result HostView RefusalView
host_with address udp keys names = then_by (key_by (not (list_any is_own_name names)) keys)
    (λ key. Ok (record { address = address; udp = udp; names = names; key = key }))

abbrev pub host_at : Text → List Text → ℕ → Result HostView RefusalView
host_at word [] address = refused NoUdp word
host_at word (udp ∷ fields) address = then_by (read_by udp_of BadUdp udp)
    (λ socket. then_by (good_names word (names_among fields)) (host_with address socket (keys_among fields)))

-- a host's line: a Chaosnet address, a UDP address or a star, and names, among which a key file may stand
unfoldable pub host_in : Text → List Text → Result HostView RefusalView
host_in word fields = then_by (read_by address_of BadAddress word) (host_at word fields)

-- the bridge's line: a star, a UDP address, and names or none
abbrev pub bridge_with : List Text → SocketAddrV4 → Result SocketAddrV4 RefusalView
bridge_with fields socket = then_by (named socket (bad_name (names_among fields)))
    (λ named. then_by (key_by false (keys_among fields)) (λ key. Ok named))

unfoldable pub bridge_in : Text → List Text → Result SocketAddrV4 RefusalView
bridge_in word [] = refused BridgeWithoutUdp word
bridge_in word (udp ∷ fields) =
    if is_star udp then refused BridgeWithoutUdp word
    else then_by (read_by socket_of BadUdp udp) (bridge_with fields)

-- ---- one line more

abbrev pub has_address : ℕ → HostView → Bool
has_address address host = host.address == address

abbrev pub has_name : Text → HostView → Bool
has_name name host = list_any (is_same_name name) host.names

-- the first host with this name, own entries before others
unfoldable pub host_named : Text → TableView → Option HostView
host_named name table = option_or (find (has_name name) table.selves) (find (has_name name) table.hosts)

-- a host has the address
unfoldable pub knows : TableView → ℕ → Bool
knows table address = list_any (has_address address) table.selves || list_any (has_address address) table.hosts

-- a name is taken, if a host has the name or the name stands again behind on the line; `self` is free
abbrev pub is_taken : TableView → Text → List Text → Bool
is_taken table name behind = not (is_own_name name) && (is_some (host_named name table) || list_any (is_same_name name) behind)

unfoldable pub first_taken : TableView → List Text → Option Text
first_taken table [] = None
first_taken table (name ∷ names) = if is_taken table name names then Some name else first_taken table names

-- this host's own entries come last of their kind, and so do all others
unfoldable pub with_self : TableView → Text → HostView → Result TableView RefusalView
with_self table word host = if nat_lt (length table.selves) MAX_SELVES
    then Ok (record table { selves = table.selves ++ host ∷ [] }) else refused TooManySelves word

unfoldable pub with_other : TableView → Text → HostView → Result TableView RefusalView
with_other table word host = if nat_lt (length table.hosts) MAX_PEERS
    then Ok (record table { hosts = table.hosts ++ host ∷ [] }) else refused TooManyHosts word

unfoldable pub with_named : TableView → Text → HostView → Option Text → Result TableView RefusalView
with_named table word host (Some name) = refused NameTwice name
with_named table word host None = if list_any is_own_name host.names then with_self table word host else with_other table word host

unfoldable pub with_host : TableView → Text → HostView → Result TableView RefusalView
with_host table word host = if knows table host.address then refused AddressTwice word
    else with_named table word host (first_taken table host.names)

unfoldable pub with_bridge : TableView → Text → SocketAddrV4 → Result TableView RefusalView
with_bridge table word socket = if is_some table.bridge then refused SecondBridge word else Ok (record table { bridge = Some socket })

-- the fields of a line; a line without fields adds nothing
abbrev pub with_fields : TableView → List Text → Result TableView RefusalView
with_fields table [] = Ok table
with_fields table (word ∷ fields) = if is_star word
    then then_by (bridge_in word fields) (with_bridge table word)
    else then_by (host_in word fields) (with_host table word)

unfoldable pub with_line : TableView → Text → Result TableView RefusalView
with_line table line = with_fields table (fields_of (before_comment line))

-- ---- the whole

-- the lines behind a good line, or the number of a bad one
abbrev pub past_line : ℕ → Result TableView RefusalView → (TableView → Result TableView FaultView) → Result TableView FaultView
past_line number (Ok table) rest = rest table
past_line number (Err refusal) rest = Err (record { line = number; refusal = refusal })

abbrev pub table_from : ℕ → List Text → TableView → Result TableView FaultView
table_from number [] table = Ok table
table_from number (line ∷ lines) table = past_line number (with_line table line) (table_from (number + 1) lines)

abbrev pub no_hosts : TableView
no_hosts = record { selves = []; hosts = []; bridge = None }

-- the lines are numbered from 1
unfoldable pub table_of : Text → Result TableView FaultView
table_of text = table_from 1 (lines text) no_hosts

-- ---- what a table says

abbrev pub peer_of_host : HostView → Option Peer
peer_of_host host = option_map (λ socket. record { address = host.address; socket = socket }) host.udp

-- all other hosts that have a UDP address, and the bridge
unfoldable pub peers_of : TableView → PeersView
peers_of table = record { hosts = filter_map peer_of_host table.hosts; bridge = table.bridge }

abbrev pub followed_address : HostView → Option ℕ
followed_address host = if is_some host.udp then None else Some host.address

-- the addresses of those that have none
unfoldable pub followed_of : TableView → List ℕ
followed_of table = filter_map followed_address table.hosts
