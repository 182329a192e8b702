-- What contracts see of a sealed socket, and what it sends.
use Rattle.std.specs.Prelude.{◌≡◌, ◌≤◌, ◌⊎◌, ℕ, ◌+◌, ◌*◌, List, [], ◌∷◌, length, slice_index, Option, Some, None, if◌then◌else◌, nat_eq, nat_lt}
use Rattle.std.specs.Option.{option_eq}
use Rattle.std.specs.declared.net.socket_addr.SocketAddr.{SocketAddr}
use Rattle.std.specs.declared.net.socket_addr.SocketAddrV4.{SocketAddrV4}
use Rattle.chaos_link.specs.Heard.{source_of}
use Rattle.chaos_link.specs.Udp.{Outgoing}
use Rattle.chaos_seal.specs.Peers.{SealsView, has_key}
use Rattle.chaos_seal.specs.Sending.{CanSeal, SealsFor, newest}
use Rattle.chaos_seal.specs.declared.limits.TheConstants.{MAX_PAYLOAD}
use Rattle.chaos_seal.specs.declared.opened.Opened.{Opened}
use Rattle.chaos_seal.specs.declared.opened.Opened.TheVariants as opening

-- ---- The socket

-- the keys, with what was sealed and heard; and the datagram that was sealed last, in clear, with the UDP address that it went to
pub record Sealing : Type 0 where
  pub seals : SealsView
  pub kept : Option Outgoing

-- the socket beneath, what it seals with, and who hears what it refuses
pub record SealedView (S O : Type 0) : Type 0 where
  pub socket : S
  pub sealing : Sealing
  pub observer : O

-- ---- The host that a datagram is for

-- the destination of the first packet of a datagram of version 1 or 2, the high byte first
abbrev pub destination_of : List ℕ → Option ℕ
destination_of bytes = if nat_lt (length bytes) 10 then None else Some (256 * slice_index bytes 8 + slice_index bytes 9)

abbrev pub with_key : SealsView → Option ℕ → Option ℕ
with_key seals None = None
with_key seals (Some host) = if has_key host seals then Some host else None

-- the host that a datagram is sealed for: its destination, where that has a key
abbrev pub sealed_host : SealsView → List ℕ → Option ℕ
sealed_host seals bytes = with_key seals (destination_of bytes)

-- where a datagram went that is for this host
abbrev pub recent_to : ℕ → Option Outgoing → Option SocketAddrV4
recent_to host None = None
recent_to host (Some datagram) = if option_eq nat_eq (destination_of datagram.bytes) (Some host) then Some datagram.to else None

-- ---- What goes out

-- the keys and the kept datagram afterwards, and the datagrams that the socket beneath is asked to send, in order
pub record Turn : Type 0 where
  pub sealing : Sealing
  pub sent : List Outgoing

-- Nothing goes out, and nothing changes.
abbrev pub quiet : Sealing → Turn
quiet s = record { sealing = s; sent = [] }

-- no counter is left for the host, or the bytes are too many
abbrev pub IsLost : SealsView → ℕ → List ℕ → Type 0
IsLost seals host bytes = CanSeal host seals → length bytes ≤ MAX_PAYLOAD → ⊥

-- A datagram goes out sealed for this host, to the same UDP address, and is kept in clear; or it is lost.
abbrev pub SendsSealed : ℕ → Outgoing → Sealing → Turn → Type 0
SendsSealed host datagram s turn =
    ((form : List ℕ) × (seals : SealsView) × SealsFor s.seals host newest datagram.bytes form seals
    × (turn ≡ record {
      sealing = record { seals = seals; kept = Some datagram };
      sent = record { to = datagram.to; bytes = form } ∷ [];
    }))
    ⊎ (IsLost s.seals host datagram.bytes × (turn ≡ quiet s))

abbrev pub SendsFor : Option ℕ → Outgoing → Sealing → Turn → Type 0
SendsFor None datagram s turn = turn ≡ record { sealing = s; sent = datagram ∷ [] }
SendsFor (Some host) datagram s turn = SendsSealed host datagram s turn

-- A datagram for a host with a key goes out sealed for that host, and any other as it is.
abbrev pub Sends : Outgoing → Sealing → Turn → Type 0
Sends datagram s turn = SendsFor (sealed_host s.seals datagram.bytes) datagram s turn

-- ---- What is replied

-- A hello for this host and this session of it goes to where the datagram came from; or there is none, as no counter is left.
abbrev pub Greets : Option SocketAddrV4 → ℕ → ℕ → Sealing → Turn → Type 0
Greets None host session s turn = turn ≡ quiet s
Greets (Some from) host session s turn =
    ((form : List ℕ) × (seals : SealsView) × SealsFor s.seals host (λ p. session) [] form seals
    × (turn ≡ record {
      sealing = record { seals = seals; kept = s.kept };
      sent = record { to = from; bytes = form } ∷ [];
    }))
    ⊎ ((CanSeal host s.seals → ⊥) × (turn ≡ quiet s))

-- The kept datagram goes out once more, sealed anew, where it is for this host.
abbrev pub SendsAgain : Option Outgoing → ℕ → Sealing → Turn → Type 0
SendsAgain None host s turn = turn ≡ quiet s
SendsAgain (Some datagram) host s turn =
    ((destination_of datagram.bytes ≡ Some host) × SendsSealed host datagram s turn)
    ⊎ ((destination_of datagram.bytes ≡ Some host → ⊥) × (turn ≡ quiet s))

-- what goes out after a datagram from there was opened as this
abbrev pub Replies : Opened → SocketAddr → Sealing → Turn → Type 0
Replies (opening.Hello host session) from s turn = Greets (source_of from) host session s turn
Replies (opening.Learned host) from s turn = SendsAgain s.kept host s turn
Replies opening.Plain from s turn = turn ≡ quiet s
Replies (opening.Payload count) from s turn = turn ≡ quiet s
Replies (opening.Refused fault) from s turn = turn ≡ quiet s
