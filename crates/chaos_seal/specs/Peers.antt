-- The hosts that have a key, and what is known of them.
use Rattle.std.specs.Prelude.{◌≡◌, ℕ, ◌==◌, Bool, true, false, not, List, [], ◌∷◌, Option, Some, None, find, is_some, option_and_then, option_map, if◌then◌else◌, ◌&&◌}
use Rattle.chaos_seal.specs.Window.{nothing_heard}
use Rattle.chaos_seal.specs.declared.peer.SealPeer.{SealPeer}

-- The own address and session, whether nobody is heard in clear, and the hosts that have a key, in the order in which they were added. Of each host: its address, its
-- key, the greatest counter sealed for it, its newest session heard (0 where none was), and which counters of this session were heard.
pub record SealsView : Type 0 where
  pub me : ℕ
  pub session : ℕ
  pub closed : Bool
  pub peers : List SealPeer

-- the host with this address, where it has a key
abbrev pub peer_of : ℕ → List SealPeer → Option SealPeer
peer_of address peers = find (λ p. p.address == address) peers

-- the peers with this one in the place of the first with its address
abbrev pub with_peer : SealPeer → List SealPeer → List SealPeer
with_peer p [] = []
with_peer p (q ∷ qs) = if q.address == p.address then p ∷ qs else q ∷ with_peer p qs

-- a host of which nothing was heard, and for which nothing was sealed
abbrev pub new_peer : ℕ → List ℕ → SealPeer
new_peer address key = record { address = address; key = key; sent = 0; session = 0; window = nothing_heard }

abbrev pub has_key : ℕ → SealsView → Bool
has_key address v = is_some (peer_of address v.peers)

-- A host is heard in clear, if it has no key and this host isn't closed.
abbrev pub is_heard_in_clear : ℕ → SealsView → Bool
is_heard_in_clear address v = not v.closed && not (has_key address v)

-- There is nothing to seal or to refuse: this host isn't closed, and no host has a key.
abbrev pub empty_by : Bool → List SealPeer → Bool
empty_by false [] = true
empty_by false (p ∷ ps) = false
empty_by true ps = false

abbrev pub is_empty : SealsView → Bool
is_empty v = empty_by v.closed v.peers

-- nothing of this host was opened yet
abbrev pub is_unheard : SealPeer → Bool
is_unheard p = (p.session == 0) && (p.window.greatest == 0)

-- how many datagrams were sealed for a host of which nothing was opened yet
abbrev pub unheard_count : SealPeer → Option ℕ
unheard_count p = if is_unheard p then Some p.sent else None

abbrev pub unheard_of : ℕ → SealsView → Option ℕ
unheard_of address v = option_and_then unheard_count (peer_of address v.peers)

-- ---- What sealing leaves as it is

-- what was heard of a host, with its key
abbrev pub heard_of : SealPeer → SealPeer
heard_of p = record p { sent = 0 }

-- The own address and session stay, also who is heard in clear, and of each host its key and what was heard of it.
pub record Keeps (v w : SealsView) : Type 0 where
  pub me : w.me ≡ v.me
  pub session : w.session ≡ v.session
  pub closed : w.closed ≡ v.closed
  pub heard : (address : ℕ) → option_map heard_of (peer_of address w.peers) ≡ option_map heard_of (peer_of address v.peers)

-- ---- What opening leaves as it is

-- what is sealed with for a host: its address, its key, and the greatest counter
abbrev pub sealing_of : SealPeer → SealPeer
sealing_of p = record p { session = 0; window = nothing_heard }

-- The own address and session stay, also who is heard in clear, and of each host its key and the greatest counter sealed for it.
pub record KeepsSealing (v w : SealsView) : Type 0 where
  pub me : w.me ≡ v.me
  pub session : w.session ≡ v.session
  pub closed : w.closed ≡ v.closed
  pub sealing : (address : ℕ) → option_map sealing_of (peer_of address w.peers) ≡ option_map sealing_of (peer_of address v.peers)
