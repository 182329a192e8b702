-- A host hands up a datagram and refuses its copy. So the premises of the law of what is handed up can be met.
--
--   the host 257, session 5                  the host 258, session 9, which has heard nothing
--   seals a payload   -- counter 1 -->       hands the payload up
--                     -- the same again -->  refuses it: the counter is old
use Rattle.std.specs.Prelude.{◌≢◌, ℕ, Bool, List, [], ◌∷◌, Contains, codes}
use Rattle.chaos_packet.specs.Opcode.{op_rfc}
use Rattle.chaos_packet.specs.Packet.{PacketView, blank}
use Rattle.chaos_link.specs.Datagram.{datagram_of}
use Rattle.chaos_link.specs.Packets.{CarriesAll}
use Rattle.chaos_seal.specs.Law.{Every, HandsUp, HasRightTag, IsUnheard, Up}
use Rattle.chaos_seal.specs.Peers.{SealsView, new_peer}
use Rattle.chaos_seal.specs.Seal.{sealed_form}
use Rattle.chaos_seal.specs.Sources.{IsAllFrom}
use Rattle.chaos_seal.specs.declared.form.Head.{Head}

-- a host that has a key for the host 257 alone, and may be closed
abbrev pub one_host : Bool → List ℕ → SealsView
one_host closed key = record { me = 258; session = 9; closed = closed; peers = new_peer 257 key ∷ [] }

abbrev pub first_head : Head
first_head = record { to = 258; from = 257; session = 5; peer = 9; counter = 1 }

-- the datagram that seals a payload, and the payload as it is handed up
abbrev pub first_datagram : List ℕ → List ℕ → List ℕ
first_datagram key payload = sealed_form key first_head payload

abbrev pub first_up : List ℕ → Up
first_up payload = record { from = 257; session = 5; counter = 1; payload = payload }

-- The datagram comes twice. The premises of the law hold: the host has heard nothing, and the tag is right for this payload alone. The
-- payload is handed up once.
pub record RisesOnce (closed : Bool) (key payload : List ℕ) : Type 0 where
  pub unheard : IsUnheard (one_host closed key)
  pub sealed : Every (λ d. (u : Up) → HasRightTag (one_host closed key) u d → Contains (first_up payload ∷ []) u) (first_datagram key payload ∷ first_datagram key payload ∷ [])
  pub hands_up : HandsUp (one_host closed key) (first_datagram key payload ∷ first_datagram key payload ∷ []) (first_up payload ∷ [])

-- a request of one host to another
abbrev pub request : ℕ → ℕ → PacketView
request from to = record blank { op = op_rfc; dst = to; src = from; src_index = 257; body = codes "HELLO" }

-- the datagram of a request to the host
abbrev pub first_payload : List ℕ
first_payload = datagram_of (request 257 258)

-- Whatever the key is, and whether the host is closed or not, each payload that isn't empty, and carries packets of the host 257 alone, rises once. The datagram of a request
-- is such a payload.
pub record SomethingRises : Type 0 where
  pub rises : (closed : Bool) (key payload : List ℕ) → payload ≢ [] → IsAllFrom 257 payload → RisesOnce closed key payload
  pub carried : CarriesAll (request 257 258 ∷ []) first_payload
  pub some : (closed : Bool) (key : List ℕ) → RisesOnce closed key first_payload
