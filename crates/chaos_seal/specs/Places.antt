-- The same by the places of the table of hosts.
use Rattle.std.specs.Prelude.{◌≡◌, ◌≢◌, ◌⊎◌, ℕ, ◌+◌, ◌<◌, ◌≤◌, ◌^◌, ◌==◌, List, [], length, Some, position, slice_get, slice_set}
use Rattle.chaos_seal.specs.Seal.{Seals, payload_of}
use Rattle.chaos_seal.specs.Peers.{SealsView}
use Rattle.chaos_seal.specs.Sending.{next_head, sent_once}
use Rattle.chaos_seal.specs.Opening.{Comes, Late, heard, in_session}
use Rattle.chaos_seal.specs.Window.{IsFresh}
use Rattle.chaos_seal.specs.Sources.{IsAllFrom}
use Rattle.chaos_seal.specs.declared.fault.SealFault.{SealFault}
use Rattle.chaos_seal.specs.declared.fault.SealFault.TheVariants as faults
use Rattle.chaos_seal.specs.declared.form.Head.{Head}
use Rattle.chaos_seal.specs.declared.limits.TheConstants.{MAX_PAYLOAD}
use Rattle.chaos_seal.specs.declared.opened.Opened.{Opened}
use Rattle.chaos_seal.specs.declared.opened.Opened.TheVariants as opened
use Rattle.chaos_seal.specs.declared.peer.SealPeer.{SealPeer}

-- a counter is left for the host at a place, and the payload is short enough
abbrev pub CanSealAt : ℕ → SealsView → List ℕ → Type 0
CanSealAt place v payload =
    (p : SealPeer) × (slice_get v.peers place ≡ Some p) × (p.sent + 1 < 2 ^ 64) × (length payload ≤ MAX_PAYLOAD)

-- The bytes seal the payload for the host at a place, under the next counter, and name this session of the host.
pub record SealsAt (v : SealsView) (place named : ℕ) (payload bs : List ℕ) (w : SealsView) : Type 0 where
  pub peer : SealPeer
  pub there : slice_get v.peers place ≡ Some peer
  pub sealed : Seals peer.key (next_head v peer peer.address named) payload bs
  pub next : w ≡ record v { peers = slice_set v.peers place (sent_once peer) }

-- The host at a place sealed the datagram for this one, under this head.
pub record ComesAt (v : SealsView) (d : List ℕ) (place : ℕ) (h : Head) : Type 0 where
  pub peer : SealPeer
  pub there : slice_get v.peers place ≡ Some peer
  pub first : position (λ q. q.address == h.from) v.peers ≡ Some place
  pub comes : Comes v d peer h (payload_of d)

-- A counter in a session of the host at a place is heard, and was fresh.
pub record HearsAt (v : SealsView) (place session counter : ℕ) (w : SealsView) : Type 0 where
  pub peer : SealPeer
  pub there : slice_get v.peers place ≡ Some peer
  pub newest : peer.session ≤ session
  pub fresh : IsFresh (in_session peer session).window counter
  pub next : w ≡ record v { peers = slice_set v.peers place (heard peer session counter) }

-- A counter in a session of the host at a place isn't heard, for this reason.
abbrev pub LateAt : SealsView → ℕ → ℕ → ℕ → SealFault → Type 0
LateAt v place session counter fault = (p : SealPeer) × (slice_get v.peers place ≡ Some p) × Late p session counter fault

-- what becomes of a datagram whose counter was just heard
abbrev pub Gives : Head → List ℕ → Opened → Type 0
Gives h payload answer =
    ((payload ≡ []) × (answer ≡ opened.Learned h.from))
    ⊎ (((payload ≢ []) × IsAllFrom h.from payload × (answer ≡ opened.Payload (length payload)))
    ⊎ ((payload ≢ []) × (IsAllFrom h.from payload → ⊥) × (answer ≡ opened.Refused faults.ForeignPacket)))

-- what becomes of a datagram that names another session of the receiver
abbrev pub Greets : Head → List ℕ → Opened → Type 0
Greets h payload answer =
    ((payload ≡ []) × (answer ≡ opened.Refused faults.Stale))
    ⊎ ((payload ≢ []) × (answer ≡ opened.Hello h.from h.session))
