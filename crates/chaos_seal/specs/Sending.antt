-- What is sealed for a host.
use Rattle.std.specs.Prelude.{◌≡◌, ℕ, ◌+◌, ◌<◌, ◌^◌, List, Some}
use Rattle.chaos_seal.specs.Seal.{Seals}
use Rattle.chaos_seal.specs.Peers.{SealsView, peer_of, with_peer}
use Rattle.chaos_seal.specs.declared.form.Head.{Head}
use Rattle.chaos_seal.specs.declared.peer.SealPeer.{SealPeer}

-- the host has a key, and a counter is left
abbrev pub CanSeal : ℕ → SealsView → Type 0
CanSeal to v = (p : SealPeer) × (peer_of to v.peers ≡ Some p) × (p.sent + 1 < 2 ^ 64)

-- the head of the next datagram for a host, which names this session of it
abbrev pub next_head : SealsView → SealPeer → ℕ → ℕ → Head
next_head v p to named =
    record { to = to; from = v.me; session = v.session; peer = named; counter = p.sent + 1 }

-- a host for which one datagram more was sealed
abbrev pub sent_once : SealPeer → SealPeer
sent_once p = record p { sent = p.sent + 1 }

-- The bytes seal the payload for the host, under the next counter, and name this session of the host. Nothing else changes.
pub record SealsFor (v : SealsView) (to : ℕ) (named : SealPeer → ℕ) (payload bs : List ℕ) (w : SealsView) : Type 0 where
  pub peer : SealPeer
  pub known : peer_of to v.peers ≡ Some peer
  pub sealed : Seals peer.key (next_head v peer to (named peer)) payload bs
  pub next : w ≡ record v { peers = with_peer (sent_once peer) v.peers }

-- the session that datagrams for the host name: the newest one heard
abbrev pub newest : SealPeer → ℕ
newest p = p.session
