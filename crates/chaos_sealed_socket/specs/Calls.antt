-- What each call of a sealed socket does.
use Rattle.std.specs.Prelude.{◌≡◌, ◌∷◌, [], ℕ, Bool, true, false, List, length, map, take, Option, None, Some, Result, Ok, Err}
use Rattle.std.specs.declared.io.Error.{Error}
use Rattle.std.specs.declared.net.socket_addr.SocketAddr.{SocketAddr}
use Rattle.chaos_link.specs.Link.{Asks}
use Rattle.chaos_link.specs.Udp.{Outgoing, SocketAsk, SendTo, ReceiveOne}
use Rattle.chaos_seal.specs.Opening.{Opens}
use Rattle.chaos_seal.specs.Peers.{SealsView, is_empty}
use Rattle.chaos_seal.specs.Seal.{payload_of}
use Rattle.chaos_seal.specs.declared.opened.Opened.{Opened}
use Rattle.chaos_seal.specs.declared.opened.Opened.TheVariants as opening
use Rattle.chaos_sealed_socket.specs.Notice.{HearsNotice, HearsOnce, notice_of, notice_of_sent}
use Rattle.chaos_sealed_socket.specs.Socket.{Replies, SealedView, Sealing, Sends, SendsSealed, Turn, sealed_host}

-- The socket beneath is asked to send what goes out by this, and nothing else; the keys and the kept datagram become what they
-- become by it.
pub record TakesTurn {S O : Type 0} (asked : S → S → List SocketAsk → Type 0) (goes : Sealing → Turn → Type 0)
    (old new : SealedView S O) : Type 0 where
  pub sent : List Outgoing
  pub turn : goes old.sealing (record { sealing = new.sealing; sent = sent })
  pub asks : Asks (asked old.socket) (asked new.socket) (map SendTo sent)

-- ---- A send

-- The observer hears where nothing was opened yet of the host that the datagram was sealed for.
pub record SendsOver {S O : Type 0} (asked : S → S → List SocketAsk → Type 0) (hears : HearsNotice O) (datagram : Outgoing)
    (old new : SealedView S O) : Type 0 where
  pub takes : TakesTurn asked (Sends datagram) old new
  pub heard :
      HearsOnce hears old.observer
      (notice_of_sent (sealed_host old.sealing.seals datagram.bytes) new.sealing.seals takes.sent) new.observer

-- the same of a datagram for this host
pub record SendsSealedOver {S O : Type 0} (asked : S → S → List SocketAsk → Type 0) (hears : HearsNotice O) (host : ℕ)
    (datagram : Outgoing) (old new : SealedView S O) : Type 0 where
  pub takes : TakesTurn asked (SendsSealed host datagram) old new
  pub heard : HearsOnce hears old.observer (notice_of_sent (Some host) new.sealing.seals takes.sent) new.observer

-- ---- A receive

-- how many bytes are handed up of so many
abbrev pub count_of : Opened → ℕ → ℕ
count_of opening.Plain count = count
count_of (opening.Payload long) count = long
count_of (opening.Hello host session) count = 0
count_of (opening.Learned host) count = 0
count_of (opening.Refused fault) count = 0

-- what is handed up where this came and was opened as that
abbrev pub handed_for : List ℕ → Opened → List ℕ
handed_for came opening.Plain = came
handed_for came (opening.Payload count) = payload_of came
handed_for came (opening.Hello host session) = []
handed_for came (opening.Learned host) = []
handed_for came (opening.Refused fault) = []

-- the same socket, once a datagram was opened
abbrev pub once_opened : {S O : Type 0} → SealsView → S → SealedView S O → SealedView S O
once_opened seals beneath old =
    record { socket = beneath; sealing = record { seals = seals; kept = old.sealing.kept }; observer = old.observer }

-- Some bytes came from there and were opened. What is handed up for them stands in the front of the buffer; the reply is sent; and
-- the observer hears of a refusal.
pub record OpensOver {S O : Type 0} (asked : S → S → List SocketAsk → Type 0) (hears : HearsNotice O)
    (old new : SealedView S O) (beneath : S) (buffer : List ℕ) (count : ℕ) (from : SocketAddr) : Type 0 where
  pub came : List ℕ
  pub opened : Opened
  pub seals : SealsView
  pub opens : Opens old.sealing.seals came opened seals
  pub long : count ≡ length (handed_for came opened)
  pub handed : take count buffer ≡ handed_for came opened
  pub takes : TakesTurn asked (Replies opened from) (once_opened seals beneath old) new
  pub heard : HearsOnce hears old.observer (notice_of opened from) new.observer

-- What came from there, when the socket beneath was this. Where there is nothing to refuse, all but the socket beneath stays;
-- otherwise what came is opened.
abbrev pub HandsOn : {S O : Type 0} → (S → S → List SocketAsk → Type 0) → HearsNotice O → Bool → SealedView S O
    → SealedView S O → S → List ℕ → ℕ → SocketAddr → Type 0
HandsOn asked hears true old new beneath buffer count from = new ≡ record old { socket = beneath }
HandsOn asked hears false old new beneath buffer count from = OpensOver asked hears old new beneath buffer count from

-- The socket beneath was asked once to receive. Where that failed, all else stays.
abbrev pub ReceivesOver : {S O : Type 0} → (S → S → List SocketAsk → Type 0) → (S → Option Error → Type 0)
    → (S → SocketAddr → Type 0) → HearsNotice O → SealedView S O → SealedView S O → List ℕ → Result (ℕ × SocketAddr) Error → Type 0
ReceivesOver asked answered came hears old new buffer (Err error) =
    Asks (asked old.socket) (asked new.socket) (ReceiveOne ∷ []) × (new ≡ record old { socket = new.socket })
ReceivesOver {S} asked answered came hears old new buffer (Ok datagram) =
    (beneath : S) × Asks (asked old.socket) (asked beneath) (ReceiveOne ∷ []) × answered beneath None × came beneath datagram.1
    × HandsOn asked hears (is_empty old.sealing.seals) old new beneath buffer datagram.0 datagram.1
