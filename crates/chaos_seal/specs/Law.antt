-- What is handed up of the datagrams that come one after the other.
use Rattle.std.specs.Prelude.{◌≡◌, ◌≢◌, ℕ, ◌+◌, ◌<◌, ◌≤◌, List, [], ◌∷◌, All, Contains, Option, Some, option_map}
use Rattle.chaos_seal.specs.Seal.{Seals}
use Rattle.chaos_seal.specs.Window.{nothing_heard}
use Rattle.chaos_seal.specs.Peers.{Keeps, SealsView, peer_of}
use Rattle.chaos_seal.specs.Opening.{Answers, Comes, Opens}
use Rattle.chaos_seal.specs.declared.form.Head.{Head}
use Rattle.chaos_seal.specs.declared.opened.Opened.{Opened}
use Rattle.chaos_seal.specs.declared.opened.Opened.TheVariants as opened
use Rattle.chaos_seal.specs.declared.peer.SealPeer.{SealPeer}

-- a payload that was handed up, with the host, the session and the counter that it was sealed under
pub record Up : Type 0 where
  pub from : ℕ
  pub session : ℕ
  pub counter : ℕ
  pub payload : List ℕ

-- the key of the host with this address, where it has one
abbrev pub key_of : ℕ → SealsView → Option (List ℕ)
key_of address v = option_map (λ p. p.key) (peer_of address v.peers)

-- the head that a host seals with for this run of the receiver
abbrev pub head_for : SealsView → Up → Head
head_for v u = record { to = v.me; from = u.from; session = u.session; peer = v.session; counter = u.counter }

-- The datagram has a right tag: it is sealed with the host's key, for this run of the receiver.
abbrev pub HasRightTag : SealsView → Up → List ℕ → Type 0
HasRightTag v u d = (key : List ℕ) × (key_of u.from v ≡ Some key) × Seals key (head_for v u) u.payload d

-- A payload goes up in front of the rest, and any other answer hands nothing up under seal.
abbrev pub Rises : SealsView → List ℕ → Opened → List Up → List Up → Type 0
Rises v d (opened.Payload count) ups rest = (u : Up) × HasRightTag v u d × (ups ≡ u ∷ rest)
Rises v d other ups rest = ups ≡ rest

-- Of these datagrams, in this order, these are handed up. Between two of them the host may seal as many as it likes.
abbrev pub HandsUp : SealsView → List (List ℕ) → List Up → Type 0
HandsUp v [] ups = ups ≡ []
HandsUp v (d ∷ ds) ups =
    (answer : Opened) × (w : SealsView) × (next : SealsView) × (rest : List Up) × Opens v d answer w × Keeps w next
    × HandsUp next ds rest × Rises v d answer ups rest

-- Nothing was heard of any host yet, as when each of them was just added.
abbrev pub IsUnheard : SealsView → Type 0
IsUnheard v = All (λ p. (p.session ≡ 0) × (p.window ≡ nothing_heard)) v.peers

abbrev pub Every : {X : Type 0} → (X → Type 0) → List X → Type 0
Every P [] = Unit {0}
Every P (x ∷ xs) = P x × Every P xs

abbrev pub Pairwise : {X : Type 0} → (X → X → Type 0) → List X → Type 0
Pairwise R [] = Unit {0}
Pairwise R (x ∷ xs) = Every (R x) xs × Pairwise R xs

-- Of the same host the later is of no older session, and in the same session it has another counter, fewer than 256 below.
abbrev pub Follows : Up → Up → Type 0
Follows u v = u.from ≡ v.from
    → (u.session ≤ v.session) × (u.session ≡ v.session → (u.counter ≢ v.counter) × (u.counter < v.counter + 256))

-- What is handed up was sealed by its host for this run of the receiver, each datagram at most once; the sessions of a host never go
-- back, and within a session each lies fewer than 256 behind each one handed up before. The one premise is that nobody else makes a
-- right tag: whatever of these datagrams has a right tag, its host sealed.
abbrev pub IsSafe : Type 0
IsSafe = (sealed : List Up) (v : SealsView) (ds : List (List ℕ)) (ups : List Up) → IsUnheard v
    → Every (λ d. (u : Up) → HasRightTag v u d → Contains sealed u) ds
    → HandsUp v ds ups
    → Every (λ u. Contains sealed u) ups × Pairwise Follows ups

-- Whatever a host with a key sealed for this one is opened, with exactly these numbers and this payload.
abbrev pub IsOpened : Type 0
IsOpened = (v w : SealsView) (d : List ℕ) (p : SealPeer) (h : Head) (payload : List ℕ) (answer : Opened)
    → Comes v d p h payload → Opens v d answer w → Answers v p h payload answer w
