-- Words of the law of progress.
use Rattle.std.specs.Prelude.{◌≡◌, ◌≢◌, ℕ, zero, suc, ◌+◌, ◌-◌, ◌<◌, ◌≤◌, true, List, [], ◌∷◌, ◌++◌, length, Some, None, Ok, slice_get, ⊤, ◌⊎◌}
use Rattle.chaos_packet.specs.Opcode.{op_sns, op_sts}
use Rattle.chaos_window.specs.Send.{outstanding_of}
use Rattle.chaos_conn.specs.declared.state.State.TheVariants.{Open}
use Rattle.chaos_conn.specs.State.{awaits_peer}
use Rattle.chaos_conn.specs.View.{ConnView}
use Rattle.chaos_conn.specs.declared.answers.Ticked.TheVariants.{Resent}
use Rattle.chaos_conn.specs.Calls.{front_of, is_drained}
use Rattle.chaos_conn.specs.Stored.{stored_packets}
use Rattle.chaos_lab.specs.declared.side.Side.{Side}
use Rattle.chaos_lab.specs.declared.stamped.Stamped.{Stamped}
use Rattle.chaos_lab.specs.declared.event.Stepped.{Stepped}
use Rattle.chaos_lab.specs.declared.event.Stepped.TheVariants.{Ticked}
use Rattle.chaos_lab.specs.Machine.{other}
use Rattle.chaos_packet.specs.Item.{ItemView}
use Rattle.chaos_lab.specs.Headline.{IsCopyOf, ReadsInTurn}
use Rattle.chaos_lab.specs.Laboratory.{LabView, Happening, lab_end, is_fresh, happen, after_all}
use Rattle.chaos_lab.specs.Settling.{last_moment, settling_moment}
use Rattle.chaos_lab.specs.Laboratory.Happening.{WriteBy, ReadBy, AnnounceBy, TickOf, CloseBy, AcceptFrom, DeliverCopy}

-- The end is open, and sends again before its peer counts as down.
pub record IsInTime (v : ConnView) : Type 0 where
  pub open_end : v.state ≡ Open
  pub again : v.config.retransmit < v.config.down

-- A user reads or announces a window, a clock goes on, or the network delivers a copy, one that was sent as the n-th or
-- later.
abbrev pub IsHelp : ℕ → Happening → Type 0
IsHelp n (ReadBy x) = ⊤
IsHelp n (AnnounceBy x window) = ⊤
IsHelp n (TickOf x now) = ⊤
IsHelp n (DeliverCopy copy) = n ≤ copy
IsHelp n (WriteBy x op bytes) = ⊥
IsHelp n (CloseBy x text) = ⊥
IsHelp n (AcceptFrom start) = ⊥

abbrev pub AreHelp : ℕ → List Happening → Type 0
AreHelp n [] = ⊤
AreHelp n (event ∷ events) = IsHelp n event × AreHelp n events

-- none of these events is refused
abbrev pub AreTaken : LabView → List Happening → Type 0
AreTaken l [] = ⊤
AreTaken l (event ∷ events) =
    ((stepped : Stepped) × ((happen l event).answer ≡ Ok stepped)) × AreTaken (happen l event).lab events

-- In m all that was written in l was read, nothing is stored, each end knows it, and both are open.
pub record IsSettled (l m : LabView) : Type 0 where
  pub written : (x : Side) → (lab_end m x).written ≡ (lab_end l x).written
  pub read : (x : Side) → (lab_end m (other x)).read ≡ (lab_end l x).written
  pub stored : (x : Side) → stored_packets (lab_end m x).conn ≡ 0
  pub drained : (x : Side) → is_drained (lab_end m x).conn ≡ true
  pub open_ends : (x : Side) → (lab_end m x).conn.state ≡ Open

-- Both ends are open and in time, and there are moments left.
pub record CanSettle (l : LabView) : Type 0 where
  pub a : IsInTime l.a.conn
  pub b : IsInTime l.b.conn
  pub moments : settling_moment l ≤ last_moment

-- the most events that it takes to settle
abbrev pub most_events : ℕ
most_events = 394

-- These events are few, none is a write or a close and none is refused, and they deliver only what was sent since.
-- After them it is settled.
pub record Settles (l : LabView) (events : List Happening) : Type 0 where
  pub few : length events ≤ most_events
  pub help : AreHelp (length l.copies) events
  pub taken : AreTaken l events
  pub settled : IsSettled l (after_all l events)

-- Each item that x wrote in l, an EOF too, stands in m at its place in what the other user has read, and x is drained.
abbrev pub ReadThrough : Side → LabView → LabView → Type 0
ReadThrough x l m =
    ((i : ℕ) (item : ItemView) → slice_get (lab_end l x).written i ≡ Some item
    → slice_get (lab_end m (other x)).read i ≡ Some item)
    × (is_drained (lab_end m x).conn ≡ true)

-- ---- Rounds: whatever happens

-- the user at y doesn't close its end in these events, and announces no window of nothing
abbrev pub IsCalm : Side → List Happening → Type 0
IsCalm y [] = ⊤
IsCalm y (CloseBy x text ∷ events) = (x ≢ y) × IsCalm y events
IsCalm y (AnnounceBy x window ∷ events) = (x ≡ y → 1 ≤ window) × IsCalm y events
IsCalm y (WriteBy x op bytes ∷ events) = IsCalm y events
IsCalm y (ReadBy x ∷ events) = IsCalm y events
IsCalm y (TickOf x now ∷ events) = IsCalm y events
IsCalm y (AcceptFrom start ∷ events) = IsCalm y events
IsCalm y (DeliverCopy copy ∷ events) = IsCalm y events

-- one of these events delivers this copy, and is taken
abbrev pub Brings : LabView → List Happening → ℕ → Type 0
Brings l [] copy = ⊥
Brings l (event ∷ events) copy =
    ((event ≡ DeliverCopy copy) × ((stepped : Stepped) × ((happen l event).answer ≡ Ok stepped)))
    ⊎ Brings (happen l event).lab events copy

-- its user has read all that can be read
abbrev pub Waits : LabView → Side → Type 0
Waits l y = front_of (lab_end l y).conn ≡ None

-- An end that awaits its peer keeps something, and at this moment it was last sent long ago enough, and the peer heard
-- since not too long.
pub record IsDue (v : ConnView) (now : ℕ) : Type 0 where
  pub awaits : awaits_peer v.state ≡ true
  pub some : 0 < length v.send.kept
  pub later : v.last ≤ now
  pub again : v.resent + v.config.retransmit ≤ now
  pub heard : now < v.heard + v.config.down

-- A round of the direction of x, from l to m. Both ends are open; the other user waits, and announces a window. The end
-- at x sends again. Each copy that this puts out comes afterwards, in whatever order and with whatever between, and the
-- other end stays open.
pub record Round (x : Side) (l m : LabView) : Type 0 where
  pub open_ends : (y : Side) → (lab_end l y).conn.state ≡ Open
  pub waits : Waits l (other x)
  pub window : 1 ≤ (lab_end l (other x)).conn.recv.window
  pub now : ℕ
  pub sent : ℕ
  pub again : (happen l (TickOf x now)).answer ≡ Ok (Ticked (Resent sent))
  pub events : List Happening
  pub calm : IsCalm (other x) events
  pub brings : (i : ℕ) → i < sent → Brings (happen l (TickOf x now)).lab events (length l.copies + i)
  pub after : m ≡ after_all (happen l (TickOf x now)).lab events
  pub stays : (lab_end m (other x)).conn.state ≡ Open

-- The reader in l of the direction of x had read all that was written, or in m a read answers the item for which it
-- waited, if it wasn't read meanwhile.
abbrev pub GoesOn : Side → LabView → LabView → Type 0
GoesOn x l m =
    let next = length (lab_end l (other x)).read in
    (length (lab_end l x).written ≤ next)
    ⊎ ((item : ItemView) × (slice_get (lab_end l x).written next ≡ Some item) × ReadsInTurn m (other x) next item)

-- so many rounds, one after the other
abbrev pub Rounds : ℕ → Side → LabView → LabView → Type 0
Rounds zero x l m = m ≡ l
Rounds (suc n) x l m = (k : LabView) × Round x l k × Rounds n x k m

-- A fresh copy comes to an open end once more than it needs: it is of an item that its user has read, or it asks for
-- the status.
pub record ComesAgain (l : LabView) (copy : ℕ) (s : Stamped) : Type 0 where
  pub sent : slice_get l.copies copy ≡ Some s
  pub fresh : is_fresh l.a l.b s ≡ true
  pub open_end : (lab_end l (other s.side)).conn.state ≡ Open
  pub again : (s.packet.op ≡ op_sns) ⊎ ((i : ℕ) × IsCopyOf l s i × (i < length (lab_end l (other s.side)).read))

-- the end that the copy comes to puts out an STS, and nothing else
abbrev pub IsAnswered : LabView → ℕ → Stamped → Type 0
IsAnswered l copy s =
    (status : Stamped) × ((happen l (DeliverCopy copy)).lab.copies ≡ l.copies ++ status ∷ [])
    × (status.side ≡ other s.side) × (status.packet.op ≡ op_sts)

-- A report to x, from l to m. An event at l makes the other end put out an STS. This comes to x afterwards, with
-- whatever between, and x stays open.
pub record Report (x : Side) (l m : LabView) : Type 0 where
  pub open_end : (lab_end l x).conn.state ≡ Open
  pub event : Happening
  pub number : ℕ
  pub status : Stamped
  pub new : length l.copies ≤ number
  pub put_out : slice_get (happen l event).lab.copies number ≡ Some status
  pub sender : status.side ≡ other x
  pub sts : status.packet.op ≡ op_sts
  pub events : List Happening
  pub calm : IsCalm x (event ∷ events)
  pub brings : Brings (happen l event).lab events number
  pub after : m ≡ after_all (happen l event).lab events
  pub stays : (lab_end m x).conn.state ≡ Open

-- In m the end at x keeps no more items, and counts no more as outstanding, than it wrote beyond those that had been
-- read in l.
abbrev pub Knows : Side → LabView → LabView → Type 0
Knows x l m =
    let beyond = length (lab_end m x).written - length (lab_end l (other x)).read in
    (length (lab_end m x).conn.send.kept ≤ beyond) × (outstanding_of (lab_end m x).conn.send ≤ beyond)

-- all that x has written by m, an EOF too, had been read by the other user in l
abbrev pub HadRead : Side → LabView → LabView → Type 0
HadRead x l m = length (lab_end m x).written ≤ length (lab_end l (other x)).read

-- the end at x keeps nothing, and is drained
abbrev pub KeepsNone : Side → LabView → Type 0
KeepsNone x m = ((lab_end m x).conn.send.kept ≡ []) × (is_drained (lab_end m x).conn ≡ true)
