-- How a laboratory opens in which A has sent its request.
use Rattle.std.specs.Prelude.{◌≡◌, ℕ, ◌+◌, ◌<◌, ◌≤◌, max, false, List, [], ◌∷◌, ◌++◌, length, ⊤, ◌⊎◌}
use Rattle.chaos_packet.specs.Item.{ItemView}
use Rattle.chaos_packet.specs.Opcode.{op_opn}
use Rattle.chaos_conn.specs.declared.state.State.{State}
use Rattle.chaos_conn.specs.declared.state.State.TheVariants as st
use Rattle.chaos_conn.specs.View.{ConnView}
use Rattle.chaos_lab.specs.declared.side.Side.{Side}
use Rattle.chaos_lab.specs.declared.side.Side.TheVariants.{A, B}
use Rattle.chaos_lab.specs.Laboratory.{LabView, Happening, lab_end, happen, after_all}
use Rattle.chaos_lab.specs.Laboratory.Happening.{TickOf, AcceptFrom, DeliverCopy}
use Rattle.chaos_lab.specs.Settling.{last_moment}
use Rattle.chaos_lab.specs.Progress.{IsHelp, AreTaken}

-- ---- the events

-- when an end sends again what it keeps
abbrev pub again_moment : ConnView → ℕ
again_moment v = max v.last (v.resent + v.config.retransmit)

-- A's clock goes on until A sends its request again. That copy comes to B.
abbrev pub asking : LabView → List Happening
asking l = TickOf A (again_moment l.a.conn) ∷ DeliverCopy (length l.copies) ∷ []

-- B's user accepts, and numbers what it writes from start on. The OPN comes to A, and A's STS to B.
abbrev pub accepting : ℕ → LabView → List Happening
accepting start l = AcceptFrom start ∷ DeliverCopy (length l.copies) ∷ DeliverCopy (length l.copies + 1) ∷ []

-- B's clock goes on until B sends again what it keeps, of which its OPN is the first. The OPN comes to A, and A's STS
-- to B.
abbrev pub repeating : LabView → List Happening
repeating l =
    let again = TickOf B (again_moment l.b.conn) in
    again ∷ DeliverCopy (length l.copies) ∷ DeliverCopy (length (happen l again).lab.copies) ∷ []

-- those for B in this state
abbrev pub opening_in : State → ℕ → LabView → List Happening
opening_in st.RfcReceived start l = accepting start l
opening_in st.Open start l = repeating l
opening_in _ start l = asking l ++ accepting start (after_all l (asking l))

abbrev pub opening : ℕ → LabView → List Happening
opening start l = opening_in l.b.conn.state start l

-- ---- where that is possible

-- An end sends again before it would count its peer as down, and there is such a moment.
pub record SendsInTime (v : ConnView) : Type 0 where
  pub again : again_moment v < v.heard + v.config.down
  pub moments : again_moment v ≤ last_moment

-- B took no request yet, and A sends its own again in time; or B holds it; or B accepted it, and sends its OPN again in
-- time.
abbrev pub CanMeet : LabView → Type 0
CanMeet l =
    ((l.asked ≡ false) × SendsInTime l.a.conn)
    ⊎ (l.b.conn.state ≡ st.RfcReceived)
    ⊎ ((l.b.conn.state ≡ st.Open) × SendsInTime l.b.conn)

-- A has sent its request, and waits for the OPN.
pub record CanOpen (l : LabView) : Type 0 where
  pub asks : l.a.conn.state ≡ st.RfcSent
  pub meets : CanMeet l

-- ---- what comes of it

-- a user reads or announces a window, a clock goes on, B's user accepts, or a copy comes that was sent as the n-th or
-- later
abbrev pub IsOpeningHelp : ℕ → Happening → Type 0
IsOpeningHelp n (AcceptFrom start) = ⊤
IsOpeningHelp n event = IsHelp n event

abbrev pub AreOpeningHelp : ℕ → List Happening → Type 0
AreOpeningHelp n [] = ⊤
AreOpeningHelp n (event ∷ events) = IsOpeningHelp n event × AreOpeningHelp n events

-- the most events that it takes to open
abbrev pub most_opening_events : ℕ
most_opening_events = 5

-- what B wrote stays, or it had written nothing and has now written its OPN
abbrev pub WritesOpn : List ItemView → List ItemView → Type 0
WritesOpn before after =
    (after ≡ before) ⊎ ((before ≡ []) × ((opn : ItemView) × (after ≡ opn ∷ []) × (opn.op ≡ op_opn)))

-- These events are few, none is a write or a close and none is refused, and they deliver only what was sent since.
-- After them both ends are open, what A wrote stays, B has written its OPN at most, and neither keeps its first item
-- any longer.
pub record Opens (l : LabView) (events : List Happening) : Type 0 where
  pub few : length events ≤ most_opening_events
  pub help : AreOpeningHelp (length l.copies) events
  pub taken : AreTaken l events
  pub open_ends : (x : Side) → (lab_end (after_all l events) x).conn.state ≡ st.Open
  pub asker : (after_all l events).a.written ≡ l.a.written
  pub accepter : WritesOpn l.b.written (after_all l events).b.written
  pub kept : (x : Side)
      → length (lab_end (after_all l events) x).conn.send.kept < length (lab_end (after_all l events) x).written

-- ---- and then they settle

-- the greatest moment that there is when they have opened
abbrev pub opening_moment : LabView → ℕ
opening_moment l = max (max (again_moment l.a.conn) (again_moment l.b.conn)) l.clock

-- Both ends send again what was lost before they would count the other as down, and moments are left for that once they
-- have opened.
pub record HasTimeToSettle (l : LabView) : Type 0 where
  pub in_time : (x : Side) → (lab_end l x).conn.config.retransmit < (lab_end l x).conn.config.down
  pub moments : opening_moment l + l.a.conn.config.retransmit + l.b.conn.config.retransmit ≤ last_moment
