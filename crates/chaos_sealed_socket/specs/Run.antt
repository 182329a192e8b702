-- A run of a sealed socket, and what is handed up in it.
use Rattle.std.specs.Prelude.{◌≡◌, ℕ, List, [], ◌∷◌, Contains, map}
use Rattle.std.specs.declared.net.socket_addr.SocketAddr.{SocketAddr}
use Rattle.chaos_link.specs.Udp.{Outgoing}
use Rattle.chaos_seal.specs.Law.{Every, Follows, HasRightTag, IsUnheard, Pairwise, Up}
use Rattle.chaos_seal.specs.Opening.{Opens}
use Rattle.chaos_seal.specs.Peers.{SealsView}
use Rattle.chaos_seal.specs.Seal.{payload_of}
use Rattle.chaos_seal.specs.Sources.{IsClear}
use Rattle.chaos_seal.specs.declared.opened.Opened.{Opened}
use Rattle.chaos_seal.specs.declared.opened.Opened.TheVariants as opening
use Rattle.chaos_sealed_socket.specs.Socket.{Replies, Sealing, Sends, Turn}

-- a call that changes something: a send of this datagram; or a receive to which these bytes came from there, and were opened so
pub data Call : Type 0 where
  Sending : (datagram : Outgoing) → Call
  Opening : (from : SocketAddr) (came : List ℕ) (opened : Opened) → Call

-- From this on a socket makes these calls, one behind the other.
abbrev pub Makes : Sealing → List Call → Type 0
Makes s [] = Unit {0}
Makes s (Sending datagram ∷ calls) = (turn : Turn) × Sends datagram s turn × Makes turn.sealing calls
Makes s (Opening from came opened ∷ calls) =
    (seals : SealsView) × (turn : Turn) × Opens s.seals came opened seals
    × Replies opened from (record { seals = seals; kept = s.kept }) turn × Makes turn.sealing calls

-- what came, in order
abbrev pub came_in : List Call → List (List ℕ)
came_in [] = []
came_in (Sending datagram ∷ calls) = came_in calls
came_in (Opening from came opened ∷ calls) = came ∷ came_in calls

-- what was handed up of a seal, and what was handed up as it came
abbrev pub handed_up : List Call → List (List ℕ)
handed_up [] = []
handed_up (Sending datagram ∷ calls) = handed_up calls
handed_up (Opening from came (opening.Payload count) ∷ calls) = payload_of came ∷ handed_up calls
handed_up (Opening from came opening.Plain ∷ calls) = handed_up calls
handed_up (Opening from came (opening.Hello host session) ∷ calls) = handed_up calls
handed_up (Opening from came (opening.Learned host) ∷ calls) = handed_up calls
handed_up (Opening from came (opening.Refused fault) ∷ calls) = handed_up calls

abbrev pub passed_up : List Call → List (List ℕ)
passed_up [] = []
passed_up (Sending datagram ∷ calls) = passed_up calls
passed_up (Opening from came opening.Plain ∷ calls) = came ∷ passed_up calls
passed_up (Opening from came (opening.Payload count) ∷ calls) = passed_up calls
passed_up (Opening from came (opening.Hello host session) ∷ calls) = passed_up calls
passed_up (Opening from came (opening.Learned host) ∷ calls) = passed_up calls
passed_up (Opening from came (opening.Refused fault) ∷ calls) = passed_up calls

-- From a socket on that has heard nothing: what is handed up of a seal was sealed by its host for this run, each datagram at most once;
-- the sessions of a host never go back, and within a session each lies fewer than 256 behind each one handed up before. What is handed
-- up as it came carries packets of hosts alone that are heard in clear. The one premise is that nobody else makes a right tag.
abbrev pub HandsUpOnce : Type 0
HandsUpOnce = (sealed : List Up) (s : Sealing) (calls : List Call) → IsUnheard s.seals → Makes s calls
    → Every (λ d. (u : Up) → HasRightTag s.seals u d → Contains sealed u) (came_in calls)
    → ((ups : List Up) × (map (λ u. u.payload) ups ≡ handed_up calls) × Every (λ u. Contains sealed u) ups × Pairwise Follows ups)
    × Every (IsClear s.seals) (passed_up calls)
