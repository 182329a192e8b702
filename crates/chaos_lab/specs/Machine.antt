-- The plain machine: the two ends of one connection (AI Memo 628, on connections), over a network that keeps every
-- packet that was ever sent, and may deliver it late, twice, out of order or never. Its lists have no bound, its counts
-- are true counts, and it knows no packet numbers. Item 0 of A is its RFC, item 0 of B its OPN, and every later item is
-- data or an EOF.
use Rattle.std.specs.Prelude.{◌≡◌, ◌≢◌, ℕ, zero, suc, ◌+◌, ◌-◌, ◌<◌, ◌≤◌, min, max, List, [], ◌∷◌, ◌++◌, length, true, false, ◌&&◌, if◌then◌else◌, nat_lt, nat_le, Option, Some, None, slice_get, ⊤, ◌⊎◌}
use Rattle.std.specs.List.{All}
use Rattle.std.specs.Ordering.{nat_cmp}
use Rattle.std.specs.FinSet.{FinSet, empty, contains, insert}
use Rattle.chaos_packet.specs.Item.{ItemView}
use Rattle.chaos_window.specs.declared.limits.TheConstants.{MAX_WINDOW}
use Rattle.chaos_lab.specs.declared.side.Side.{Side}
use Rattle.chaos_lab.specs.declared.side.Side.TheVariants.{A, B}

-- ---- An end

-- where an end is in the life of its connection
pub data Phase : Type 0 where
  Inactive RfcSent RfcReceived Open Ended Closed : Phase

-- one end: the writer of one direction, and the reader of the other
pub record PlainEnd : Type 0 where
  pub phase : Phase
  -- all that it wrote
  pub written : List ItemView
  -- how many of these the peer told that its user read, and how many that arrived; the window that the peer announced
  pub acknowledged : ℕ
  pub receipted : ℕ
  pub window : ℕ
  -- all that its user read, and the indices of the peer's items that arrived
  pub read : List ItemView
  pub arrived : FinSet nat_cmp
  -- the window that it announces to the peer
  pub announced : ℕ
  -- the greatest windows, for what it writes and for what it reads
  pub send_cap : ℕ
  pub recv_cap : ℕ

-- the side that a side talks to
abbrev pub other : Side → Side
other A = B
other B = A

-- ---- Copies of packets

-- what a packet is: the item of this index of its sender, or a control packet
pub data Kind : Type 0 where
  Nth : (index : ℕ) → Kind
  Sns Sts Cls : Kind

-- what it tells of its sender as a reader: how many items its user read, and with a status how many arrived, and the
-- window that it announces
pub data Told : Type 0 where
  Nothing : Told
  Acknowledges : (acknowledgement : ℕ) → Told
  Status : (acknowledgement receipt window : ℕ) → Told

-- a packet that was sent, stamped with how many items each end had written by then
pub record Copy : Type 0 where
  pub sender : Side
  pub kind : Kind
  pub told : Told
  pub len_a : ℕ
  pub len_b : ℕ

-- both ends, and each copy that was ever sent, oldest first
pub record Machine : Type 0 where
  pub a : PlainEnd
  pub b : PlainEnd
  pub copies : List Copy

-- the end at this side
abbrev pub end_of : Machine → Side → PlainEnd
end_of m A = m.a
end_of m B = m.b

-- the same machine, with another end at this side
abbrev pub with_end : Machine → Side → PlainEnd → Machine
with_end m A e = record m { a = e }
with_end m B e = record m { b = e }

-- ---- Freshness

-- how many items either end may write before a copy is stale
abbrev pub fresh_span : ℕ
fresh_span = 32640

-- each end has written fewer than these since the copy was sent
abbrev pub Fresh : Machine → Copy → Type 0
Fresh m c = (length m.a.written < c.len_a + fresh_span) × (length m.b.written < c.len_b + fresh_span)

-- ---- What is sent, and what it tells

-- f is the least index that hasn't arrived
abbrev pub FirstMissing : PlainEnd → ℕ → Type 0
FirstMissing e f = ((i : ℕ) → i < f → contains e.arrived i ≡ true) × (contains e.arrived f ≡ false)

-- an end may send each item that it has no receipt for, and any control packet
abbrev pub MaySend : Kind → PlainEnd → Type 0
MaySend (Nth i) e = (e.receipted ≤ i) × (i < length e.written)
MaySend _ e = ⊤

-- an RFC and a CLS tell nothing; an OPN tells the status at its Accept, when the RFC alone had arrived and the window
-- was the greatest; and an STS tells the present status
abbrev pub Tells : Kind → Side → PlainEnd → Told → Type 0
Tells (Nth zero) A e told = told ≡ Nothing
Tells (Nth zero) B e told = told ≡ Status (length e.read) 1 e.recv_cap
Tells (Nth (suc i)) x e told = told ≡ Acknowledges (length e.read)
Tells Sns x e told = told ≡ Acknowledges (length e.read)
Tells Sts x e told = (f : ℕ) × FirstMissing e f × (told ≡ Status (length e.read) f e.announced)
Tells Cls x e told = told ≡ Nothing

-- the end at x may send this copy now
pub record IsSent (m : Machine) (x : Side) (c : Copy) : Type 0 where
  pub sender : c.sender ≡ x
  pub may : MaySend c.kind (end_of m x)
  pub tells : Tells c.kind x (end_of m x) c.told
  pub len_a : c.len_a ≡ length m.a.written
  pub len_b : c.len_b ≡ length m.b.written

-- ---- What changes at an end

-- Tell: its counts rise to those that the peer tells
abbrev pub tell : Told → PlainEnd → PlainEnd
tell Nothing e = e
tell (Acknowledges a) e = record e { acknowledged = max e.acknowledged a; receipted = max e.receipted a }
tell (Status a r w) e = record e { acknowledged = max e.acknowledged a; receipted = max e.receipted (max a r) }

-- Announce: its window becomes the one that the peer tells with a status, cut to its own cap
abbrev pub announce : Told → PlainEnd → PlainEnd
announce (Status a r w) e = record e { window = min e.send_cap w }
announce _ e = e

-- it hears what a packet tells
abbrev pub hear : Told → PlainEnd → PlainEnd
hear told e = announce told (tell told e)

-- item i arrives, where it isn't read yet and lies inside the window that the end announces
abbrev pub take_in : ℕ → PlainEnd → PlainEnd
take_in i e =
    if nat_le (length e.read) i
    && nat_lt i (length e.read + e.announced) then record e { arrived = insert e.arrived i } else e

-- its user reads this item, where there is one
abbrev pub read_item : Option ItemView → PlainEnd → PlainEnd
read_item None e = e
read_item (Some item) e = record e { read = e.read ++ item ∷ [] }

-- its user reads the next item of those that the peer wrote
abbrev pub read_next : PlainEnd → PlainEnd → PlainEnd
read_next peer e = read_item (slice_get peer.written (length e.read)) e

-- ---- The table of steps: where each row is allowed, and what it changes

-- a row makes f of the end e, whose peer is given
abbrev pub Row : Type 1
Row = (peer e f : PlainEnd) → Type 0

-- an RFC comes to an end that wasn't asked before
abbrev pub Request : Copy → Row
Request c peer e f =
    (c.kind ≡ Nth 0) × (e.phase ≡ Inactive) × (f ≡ record e { phase = RfcReceived; arrived = insert e.arrived 0 })

-- an end that was asked reads the RFC, and writes its OPN
abbrev pub Accept : ItemView → Row
Accept opn peer e f =
    (e.phase ≡ RfcReceived) × (f ≡ record (read_next peer e) { phase = Open; written = e.written ++ opn ∷ [] })

-- an OPN comes to the end that asked, and is read
abbrev pub Opened : Copy → Row
Opened c peer e f =
    (c.kind ≡ Nth 0) × (e.phase ≡ RfcSent)
    × (f ≡ hear c.told (read_next peer (record e { phase = Open; arrived = insert e.arrived 0 })))

-- an open end writes an item, while those that aren't acknowledged are fewer than its window
abbrev pub Write : ItemView → Row
Write item peer e f =
    (e.phase ≡ Open) × (length e.written - e.acknowledged < e.window)
    × (f ≡ record e { written = e.written ++ item ∷ [] })

-- an item comes to an open end
abbrev pub Arrive : Copy → Row
Arrive c peer e f = (e.phase ≡ Open) × (i : ℕ) × (c.kind ≡ Nth i) × (f ≡ take_in i (hear c.told e))

-- an SNS or an STS comes to an open end
abbrev pub Control : Copy → Row
Control c peer e f = (e.phase ≡ Open) × ((c.kind ≡ Sns) ⊎ (c.kind ≡ Sts)) × (f ≡ hear c.told e)

-- the user of an open or ended end reads the next item, once that has arrived
abbrev pub Read : Row
Read peer e f =
    ((e.phase ≡ Open) ⊎ (e.phase ≡ Ended)) × (contains e.arrived (length e.read) ≡ true) × (f ≡ read_next peer e)

-- an open end announces another window, which is at most the greatest
abbrev pub Resize : ℕ → Row
Resize window peer e f = (e.phase ≡ Open) × (window ≤ e.recv_cap) × (f ≡ record e { announced = window })

-- an end that asked or is open gets a CLS, or its time runs out
abbrev pub End : Row
End peer e f = ((e.phase ≡ RfcSent) ⊎ (e.phase ≡ Open)) × (f ≡ record e { phase = Ended })

-- its user closes any end but one that wasn't asked yet
abbrev pub Close : Row
Close peer e f = (e.phase ≢ Inactive) × (f ≡ record e { phase = Closed })

-- the rows for a copy that comes
abbrev pub Comes : Copy → Row
Comes c peer e f =
    Request c peer e f ⊎ Opened c peer e f ⊎ Arrive c peer e f ⊎ Control c peer e f ⊎ ((c.kind ≡ Cls) × End peer e f)

-- time may end an end, or not
abbrev pub Tick : Row
Tick peer e f = End peer e f ⊎ (f ≡ e)

-- everything that no row allows changes nothing
abbrev pub OrNothing : Row → Row
OrNothing row peer e f = row peer e f ⊎ (((g : PlainEnd) → row peer e g → ⊥) × (f ≡ e))

-- ---- Steps

-- the end at x becomes f, and then sends any copies that it may send, or none
abbrev pub Becomes : Machine → Side → PlainEnd → Machine → Type 0
Becomes m x f n =
    (sent : List Copy) × All (IsSent (with_end m x f) x) sent
    × (n ≡ record (with_end m x f) { copies = m.copies ++ sent })

-- a step of the end at x by this row, or by nothing where the row allows none
abbrev pub Moves : Row → Machine → Side → Machine → Type 0
Moves row m x n = (f : PlainEnd) × OrNothing row (end_of m (other x)) (end_of m x) f × Becomes m x f n

-- a call at one end, or the delivery of a copy, which stays and may be delivered again
pub data Event : Type 0 where
  AcceptAt : (side : Side) → (opn : ItemView) → Event
  WriteAt : (side : Side) → (item : ItemView) → Event
  ReadAt TickAt CloseAt : (side : Side) → Event
  ResizeAt : (side : Side) → (window : ℕ) → Event
  Deliver : (copy : ℕ) → Event

-- what an event may make of the machine; a copy is delivered while it is fresh
abbrev pub Step : Machine → Event → Machine → Type 0
Step m (AcceptAt x opn) n = Moves (Accept opn) m x n
Step m (WriteAt x item) n = Moves (Write item) m x n
Step m (ReadAt x) n = Moves Read m x n
Step m (ResizeAt x window) n = Moves (Resize window) m x n
Step m (TickAt x) n = Moves Tick m x n
Step m (CloseAt x) n = Moves Close m x n
Step m (Deliver k) n = (c : Copy) × (slice_get m.copies k ≡ Some c) × Fresh m c × Moves (Comes c) m (other c.sender) n

-- ---- Runs

-- what happens, in order
abbrev pub Schedule : Type 0
Schedule = List Event

-- a run from m to n over a schedule
abbrev pub Run : Machine → Schedule → Machine → Type 0
Run m [] n = n ≡ m
Run m (event ∷ events) n = (mid : Machine) × Step m event mid × Run mid events n

-- the most that a window may be
abbrev pub greatest_window : ℕ
greatest_window = MAX_WINDOW

-- the caps on both windows of an end
pub record Caps : Type 0 where
  pub send : ℕ
  pub recv : ℕ

-- both are 1 to 64
abbrev pub AreCaps : Caps → Type 0
AreCaps c = (1 ≤ c.send) × (c.send ≤ greatest_window) × (1 ≤ c.recv) × (c.recv ≤ greatest_window)

-- an end with these caps that has read nothing and heard nothing; it announces the greatest window
abbrev pub new_end : Phase → List ItemView → Caps → PlainEnd
new_end phase written c =
    record { phase = phase; written = written; acknowledged = 0; receipted = 0; window = c.send; read = []; arrived = empty; announced = c.recv; send_cap = c.send; recv_cap = c.recv }

-- A has sent its RFC, which is copy 0
abbrev pub start : Caps → Caps → ItemView → Machine
start a b rfc =
    let request : Copy = record { sender = A; kind = Nth 0; told = Nothing; len_a = 1; len_b = 0 } in
    record { a = new_end RfcSent (rfc ∷ []) a; b = new_end Inactive [] b; copies = request ∷ [] }

-- a run of some schedule leads from some start to this machine
pub record Reached (m : Machine) : Type 0 where
  pub caps_a : Caps
  pub caps_b : Caps
  pub right_a : AreCaps caps_a
  pub right_b : AreCaps caps_b
  pub rfc : ItemView
  pub events : Schedule
  pub run : Run (start caps_a caps_b rfc) events m
