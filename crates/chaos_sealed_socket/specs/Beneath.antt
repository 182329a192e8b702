-- What the socket beneath a sealed socket is asked, for what the sealed socket is asked.
use Rattle.std.specs.Prelude.{◌≡◌, ◌≤◌, ◌⊎◌, ◌++◌, ◌∷◌, [], ℕ, List, length, map, Option, Some, None}
use Rattle.std.specs.declared.io.Error.{Error}
use Rattle.std.specs.declared.net.socket_addr.SocketAddr.{SocketAddr}
use Rattle.chaos_link.specs.Udp.{Outgoing, SocketAsk, SendTo, ReceiveOne, WaitAtMost, Wait}
use Rattle.chaos_seal.specs.Opening.{Opens}
use Rattle.chaos_seal.specs.Peers.{SealsView}
use Rattle.chaos_seal.specs.declared.opened.Opened.{Opened}
use Rattle.chaos_sealed_socket.specs.Socket.{Sealing, SealedView, Turn, Replies, Sends, quiet}

-- Nothing came, or nothing is opened as there is no key. Otherwise something came from somewhere and was opened, and what goes
-- out is the reply to that.
abbrev pub Hears : Sealing → Turn → Type 0
Hears s turn =
    (turn ≡ quiet s)
    ⊎ ((from : SocketAddr) × (came : List ℕ) × (opened : Opened) × (seals : SealsView) × Opens s.seals came opened seals
    × Replies opened from (record { seals = seals; kept = s.kept }) turn)

-- A sealed socket that is like this and is asked this may become like that, and asks the socket beneath this in turn. For a send
-- it sends once at most; for a receive it receives once, and then sends once at most; the waits are passed on.
abbrev pub AsksFor : Sealing → SocketAsk → Sealing → List SocketAsk → Type 0
AsksFor s (SendTo datagram) next asks =
    (sent : List Outgoing) × Sends datagram s (record { sealing = next; sent = sent }) × (asks ≡ map SendTo sent)
AsksFor s ReceiveOne next asks =
    (sent : List Outgoing) × Hears s (record { sealing = next; sent = sent }) × (asks ≡ ReceiveOne ∷ map SendTo sent)
AsksFor s (WaitAtMost nanos) next asks = (next ≡ s) × (asks ≡ WaitAtMost nanos ∷ [])
AsksFor s (Wait waits) next asks = (next ≡ s) × (asks ≡ Wait waits ∷ [])

-- the same of all that it is asked, in order
abbrev pub AsksForAll : Sealing → List SocketAsk → Sealing → List SocketAsk → Type 0
AsksForAll s [] last beneath = (last ≡ s) × (beneath ≡ [])
AsksForAll s (ask ∷ asks) last beneath =
    (next : Sealing) × (first : List SocketAsk) × (others : List SocketAsk) × AsksFor s ask next first
    × AsksForAll next asks last others × (beneath ≡ first ++ others)

module _ {S O : Type 0} (asked : S → S → List SocketAsk → Type 0) where
  -- The socket beneath was asked just what the sealed socket asks for what it was asked itself.
  pub record AsksBeneath (now start : SealedView S O) (asks : List SocketAsk) : Type 0 where
    pub beneath_asks : List SocketAsk
    pub beneath_asked : asked now.socket start.socket beneath_asks
    pub goes : AsksForAll start.sealing asks now.sealing beneath_asks

  -- This held of the socket beneath, which was asked since to send one datagram at most.
  abbrev pub HeldBefore : (S → Type 0) → SealedView S O → Type 0
  HeldBefore P now =
      (before : S) × (sent : List Outgoing) × (length sent ≤ 1) × asked now.socket before (map SendTo sent) × P before

-- An error is what the socket beneath answered. No error says nothing of the socket beneath, which isn't asked for a datagram that is
-- lost.
abbrev pub AnsweredBeneath : {S O : Type 0} → (S → Option Error → Type 0) → SealedView S O → Option Error → Type 0
AnsweredBeneath answered now None = Unit {0}
AnsweredBeneath answered now (Some error) = answered now.socket (Some error)
