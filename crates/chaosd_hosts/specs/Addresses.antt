-- Addresses as texts write them: each form is a function from a text to the address that the text stands for.
use Rattle.std.specs.Prelude.{◌==◌, ℕ, codes, length, nat_le, nat_lt, Option, None, Some, option_map, if◌then◌else◌}
use Rattle.std.specs.List.{after_first, before_first, position_or_len}
use Rattle.std.specs.Net.Reader.{read_socket_v4, whole_value}
use Rattle.std.specs.Net.Socket.{v4_port}
use Rattle.std.specs.Option.{option_and_then, option_zip}
use Rattle.std.specs.Str.{bytes_eq}
use Rattle.std.specs.declared.net.socket_addr.SocketAddrV4.{SocketAddrV4}
use Rattle.chaos_link.specs.declared.peers.Peer.{Peer}
use Rattle.chaosd_hosts.specs.Numbers.{is_padded, number_of}
use Rattle.chaosd_hosts.specs.Text.{Text}

-- one to six octal digits that write a number from 1 to 65535, which is 177777 octal
unfoldable pub address_of : Text → Option ℕ
address_of text = if nat_le (length text) 6 then number_of 8 1 65535 text else None

-- the address that std reads, where it reads the whole text
abbrev pub socket_read : Text → Option SocketAddrV4
socket_read text =
    option_map (λ parts. record { ip = record { octets = parts.0 }; port = parts.1 }) (whole_value (read_socket_v4 text))

-- what stands behind the first colon
abbrev pub port_of : Text → Text
port_of text = after_first (λ b. b == 58) text

-- a port from 1 on
abbrev pub with_port : SocketAddrV4 → Option SocketAddrV4
with_port socket = if nat_lt 0 (v4_port socket) then Some socket else None

-- a.b.c.d:port, in decimal without leading zeros, the port from 1 on
unfoldable pub socket_of : Text → Option SocketAddrV4
socket_of text = if is_padded (port_of text) then None else option_and_then with_port (socket_read text)

-- what stands before the first `=` (61), and what stands behind it
unfoldable pub sides_of : Text → Option (Text × Text)
sides_of text = if nat_lt (position_or_len (λ b. b == 61) text) (length text)
    then Some (before_first (λ b. b == 61) text, after_first (λ b. b == 61) text)
    else None

-- an address, `=`, and a UDP address
abbrev pub peer_with : Text × Text → Option Peer
peer_with sides = option_map (λ p. record { address = p.0; socket = p.1 }) (option_zip (address_of sides.0) (socket_of sides.1))

unfoldable pub peer_of : Text → Option Peer
peer_of text = option_and_then peer_with (sides_of text)

-- a star, `=`, and a UDP address: that of the bridge to all hosts that have no entry
abbrev pub bridge_with : Text × Text → Option SocketAddrV4
bridge_with sides = if bytes_eq sides.0 (codes "*") then socket_of sides.1 else None

unfoldable pub bridge_of : Text → Option SocketAddrV4
bridge_of text = option_and_then bridge_with (sides_of text)
