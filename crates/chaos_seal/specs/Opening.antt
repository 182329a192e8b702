-- What becomes of a datagram that came.
use Rattle.std.specs.Prelude.{◌≡◌, ◌≢◌, ◌⊎◌, ℕ, ◌<◌, ◌≤◌, nat_lt, if◌then◌else◌, List, [], ◌∷◌, length, take, drop, slice_index, Some, None}
use Rattle.std.specs.Int.{w16, from_be_bytes}
use Rattle.chaos_seal.specs.Seal.{Seals, front, tag_in, tag_of}
use Rattle.chaos_seal.specs.Window.{IsFresh, hear, nothing_heard}
use Rattle.chaos_seal.specs.Peers.{SealsView, peer_of, with_peer}
use Rattle.chaos_seal.specs.Sources.{IsAllFrom, IsClear}
use Rattle.chaos_seal.specs.declared.fault.SealFault.{SealFault}
use Rattle.chaos_seal.specs.declared.fault.SealFault.TheVariants as faults
use Rattle.chaos_seal.specs.declared.form.Head.{Head}
use Rattle.chaos_seal.specs.declared.opened.Opened.{Opened}
use Rattle.chaos_seal.specs.declared.opened.Opened.TheVariants as opened
use Rattle.chaos_seal.specs.declared.peer.SealPeer.{SealPeer}

-- The datagram begins with the mark and the version 3.
abbrev pub IsSealed : List ℕ → Type 0
IsSealed d = take 3 d ≡ 0x43 ∷ 0x48 ∷ 3 ∷ []

-- ---- A datagram of version 3 that no host with a key sealed for this one

-- the addresses of the receiver and of the sender, as they stand in the bytes
abbrev pub to_in : List ℕ → ℕ
to_in d = from_be_bytes w16 (take 2 (drop 4 d))

abbrev pub from_in : List ℕ → ℕ
from_in d = from_be_bytes w16 (take 2 (drop 6 d))

-- long enough, of this version, and for this host
abbrev pub IsLong : List ℕ → Type 0
IsLong d = 48 ≤ length d

abbrev pub IsVersion : List ℕ → Type 0
IsVersion d = IsLong d × (slice_index d 3 ≡ 0)

abbrev pub IsForMe : SealsView → List ℕ → Type 0
IsForMe v d = IsVersion d × (to_in d ≡ v.me)

-- The datagram's first fault, whatever was heard before.
abbrev pub Refuses : SealsView → List ℕ → SealFault → Type 0
Refuses v d faults.Short = length d < 48
Refuses v d faults.BadVersion = IsLong d × (slice_index d 3 ≢ 0)
Refuses v d faults.OtherHost = IsVersion d × (to_in d ≢ v.me)
Refuses v d faults.NoKey = IsForMe v d × (peer_of (from_in d) v.peers ≡ None)
Refuses v d faults.BadTag =
    IsForMe v d × ((p : SealPeer) × (peer_of (from_in d) v.peers ≡ Some p) × (tag_in d ≢ tag_of p.key (front d)))
Refuses v d other = ⊥

-- ---- A datagram that a host with a key sealed for this one

-- This host sealed the datagram for this one, under this head.
pub record Comes (v : SealsView) (d : List ℕ) (p : SealPeer) (h : Head) (payload : List ℕ) : Type 0 where
  pub known : peer_of h.from v.peers ≡ Some p
  pub me : h.to ≡ v.me
  pub sealed : Seals p.key h payload d

-- A newer session begins with no counter heard.
abbrev pub in_session : SealPeer → ℕ → SealPeer
in_session p session =
    if nat_lt p.session session then record p { session = session; window = nothing_heard } else p

-- the host once a counter of a session was heard
abbrev pub heard : SealPeer → ℕ → ℕ → SealPeer
heard p session counter = record (in_session p session) { window = hear counter (in_session p session).window }

abbrev pub after : SealsView → SealPeer → Head → SealsView
after v p h = record v { peers = with_peer (heard p h.session h.counter) v.peers }

-- The datagram names this run of the receiver, its session isn't older than the newest one heard, and its counter is fresh there.
abbrev pub IsTimely : SealsView → SealPeer → Head → Type 0
IsTimely v p h =
    (h.peer ≡ v.session) × (p.session ≤ h.session) × IsFresh (in_session p h.session).window h.counter

-- Why a counter isn't heard in a session of a host.
abbrev pub Late : SealPeer → ℕ → ℕ → SealFault → Type 0
Late p session counter faults.OldSession = session < p.session
Late p session counter faults.OldCounter = (p.session ≤ session) × (IsFresh (in_session p session).window counter → ⊥)
Late p session counter other = ⊥

-- Why such a datagram isn't handed up. Nothing changes, unless the datagram is timely.
abbrev pub Declines : SealsView → SealPeer → Head → List ℕ → SealFault → SealsView → Type 0
Declines v p h payload faults.Stale w = (h.peer ≢ v.session) × (payload ≡ []) × (w ≡ v)
Declines v p h payload faults.OldSession w =
    (h.peer ≡ v.session) × Late p h.session h.counter faults.OldSession × (w ≡ v)
Declines v p h payload faults.OldCounter w =
    (h.peer ≡ v.session) × Late p h.session h.counter faults.OldCounter × (w ≡ v)
Declines v p h payload faults.ForeignPacket w =
    IsTimely v p h × (payload ≢ []) × (IsAllFrom h.from payload → ⊥) × (w ≡ after v p h)
Declines v p h payload other w = ⊥

-- What becomes of such a datagram. The counter of a timely one is heard.
abbrev pub Answers : SealsView → SealPeer → Head → List ℕ → Opened → SealsView → Type 0
Answers v p h payload (opened.Payload count) w =
    IsTimely v p h × (payload ≢ []) × IsAllFrom h.from payload × (count ≡ length payload) × (w ≡ after v p h)
Answers v p h payload (opened.Learned from) w =
    IsTimely v p h × (payload ≡ []) × (from ≡ h.from) × (w ≡ after v p h)
Answers v p h payload (opened.Hello to session) w =
    (h.peer ≢ v.session) × (payload ≢ []) × (to ≡ h.from) × (session ≡ h.session) × (w ≡ v)
Answers v p h payload (opened.Refused fault) w = Declines v p h payload fault w
Answers v p h payload opened.Plain w = ⊥

-- ---- Any datagram

-- What becomes of a datagram that isn't of version 3.
abbrev pub AnswersPlain : SealsView → List ℕ → Opened → Type 0
AnswersPlain v d answer =
    ((answer ≡ opened.Plain) × IsClear v d) ⊎ ((answer ≡ opened.Refused faults.Unsealed) × (IsClear v d → ⊥))

-- What becomes of a datagram: of one that isn't of version 3, of one with a fault, and of one that a host with a key sealed.
abbrev pub Opens : SealsView → List ℕ → Opened → SealsView → Type 0
Opens v d answer w =
    ((IsSealed d → ⊥) × AnswersPlain v d answer × (w ≡ v))
    ⊎ ((IsSealed d × (fault : SealFault) × Refuses v d fault × (answer ≡ opened.Refused fault) × (w ≡ v))
    ⊎ ((p : SealPeer) × (h : Head) × (payload : List ℕ) × Comes v d p h payload × Answers v p h payload answer w))
