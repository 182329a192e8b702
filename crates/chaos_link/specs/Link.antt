-- What the calls of a link do.
use Rattle.std.specs.Prelude.{◌≡◌, ◌≤◌, ◌++◌, ◌∷◌, [], ℕ, Bool, List, Option, Some, length, map, drop, if◌then◌else◌, nat_lt}
use Rattle.chaos_link.specs.declared.link.Sent.{Sent}
use Rattle.chaos_link.specs.declared.link.Sent.TheVariants as sending
use Rattle.chaos_link.specs.declared.link.Received.{Received}
use Rattle.chaos_link.specs.declared.link.Received.TheVariants as receiving

-- a datagram, and the Chaosnet address of the host that it was sent to
pub record Addressed : Type 0 where
  pub to : ℕ
  pub bytes : List ℕ

-- ---- What is asked

-- what a link is asked: to send a datagram, or to receive one, for which it may wait or not
pub data Ask : Type 0 where
  Send : (datagram : Addressed) → Ask
  Receive : (may_wait : Bool) → Ask

-- the asks that send these datagrams, in order
abbrev pub to_send : List Addressed → List Ask
to_send datagrams = map Send datagrams

-- for each earlier state: what may have been asked since that state
abbrev pub AskedSince : Type 0 → Type 0 → Type 1
AskedSince S A = S → List A → Type 0

-- Between the old state and the new state exactly this was asked, in this order, whatever the answers were: the list of what was
-- asked since any earlier state grows by exactly this.
pub record Asks {S A : Type 0} (old new : AskedSince S A) (more : List A) : Type 0 where
  pub goes : (first : S) (before : List A) → old first before → new first (before ++ more)

-- A link or a socket that claims nothing may have been asked anything.
abbrev pub AnyAsks : {S A : Type 0} → S → S → List A → Type 0
AnyAsks now start asks = Unit {0}

-- ---- A queue

-- the datagrams of a queue with their addresses, the oldest first, and how many there may be
pub record QueueView : Type 0 where
  pub datagrams : List Addressed
  pub cap : ℕ

-- The datagram goes behind the others. One that finds the queue full is lost.
abbrev pub with_datagram : Addressed → QueueView → QueueView
with_datagram datagram queue = record queue {
  datagrams = if nat_lt (length queue.datagrams) queue.cap then queue.datagrams ++ datagram ∷ [] else queue.datagrams;
}

-- A queue takes every datagram as sent, with the address that it was given.
abbrev pub SendsInto : ℕ → List ℕ → Sent → Option QueueView → QueueView → Type 0
SendsInto to bytes result after before =
    (result ≡ sending.Sent) × (after ≡ Some (with_datagram (record { to = to; bytes = bytes }) before))

-- what stays where the oldest datagram is received
abbrev pub without_first : QueueView → QueueView
without_first queue = record queue { datagrams = drop 1 queue.datagrams }

-- The oldest of these datagrams stands in the front of the buffer. Where there is none, nothing does.
abbrev pub HandsOut : List Addressed → List ℕ → List ℕ → Received → Type 0
HandsOut [] old new result = (result ≡ receiving.Nothing) × (new ≡ old)
HandsOut (oldest ∷ others) old new result =
    (result ≡ receiving.Got (length oldest.bytes)) × (new ≡ oldest.bytes ++ drop (length oldest.bytes) old)

-- The oldest datagram is taken, whomever it was sent to. From an empty queue nothing is.
abbrev pub ReceivesFrom : List ℕ → List ℕ → Received → Option QueueView → QueueView → Type 0
ReceivesFrom old new result after before =
    HandsOut before.datagrams old new result × (after ≡ Some (without_first before))

-- ---- Any link

-- What was received has no more bytes than this.
abbrev pub IsWithin : ℕ → Received → Type 0
IsWithin room (receiving.Got count) = count ≤ room
IsWithin room _ = Unit {0}
