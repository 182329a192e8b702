-- A user's turn at B: the calls that it makes of the connection, and the events that they are.
use Rattle.std.specs.Prelude.{◌≡◌, ℕ, List, [], ◌∷◌, ◌++◌, Some, Ok, ⊤}
use Rattle.chaos_packet.specs.Item.{ItemView}
use Rattle.chaos_packet.specs.Packet.{PacketView}
use Rattle.chaos_packet.specs.Outbox.{OutboxView, with_put}
use Rattle.chaos_conn.specs.declared.state.State.TheVariants.{Open}
use Rattle.chaos_conn.specs.View.{ConnView}
use Rattle.chaos_conn.specs.Calls.{front_of}
use Rattle.chaos_conn.specs.Act.{act}
use Rattle.chaos_conn.specs.Act.Call.{FinishRead, Write}
use Rattle.chaos_conn.specs.Act.Reply.{Wrote}
use Rattle.chaos_lab.specs.declared.side.Side.TheVariants.{B}
use Rattle.chaos_lab.specs.declared.user.Turned.{Turned}
use Rattle.chaos_lab.specs.declared.user.Turned.TheVariants as turned
use Rattle.chaos_lab.specs.Laboratory.{Happening}
use Rattle.chaos_lab.specs.Laboratory.Happening.{WriteBy, ReadBy}

-- it does nothing, or reads the item in front, or reads it and writes an item
pub data Turn : Type 0 where
  Rests : Turn
  Reads : Turn
  Replies : (op : ℕ) → (bytes : List ℕ) → Turn

-- its events, in order
abbrev pub turn_events : Turn → List Happening
turn_events Rests = []
turn_events Reads = ReadBy B ∷ []
turn_events (Replies op bytes) = ReadBy B ∷ WriteBy B op bytes ∷ []

abbrev pub turn_done : Turn → Turned
turn_done Rests = turned.Rested
turn_done Reads = turned.Read
turn_done (Replies op bytes) = turned.Replied

-- the connection after it
abbrev pub turn_view : ConnView → ℕ → Turn → ConnView
turn_view v now Rests = v
turn_view v now Reads = (act v FinishRead).view
turn_view v now (Replies op bytes) = (act (act v FinishRead).view (Write op bytes now)).view

-- the packets that it puts out, those of the read first
abbrev pub turn_packets : ConnView → ℕ → Turn → List PacketView
turn_packets v now Rests = []
turn_packets v now Reads = (act v FinishRead).packets
turn_packets v now (Replies op bytes) =
    (act v FinishRead).packets ++ (act (act v FinishRead).view (Write op bytes now)).packets

-- an item is in front of an open end
pub record HasFront (v : ConnView) : Type 0 where
  pub is_open : v.state ≡ Open
  pub item : ItemView
  pub front : front_of v ≡ Some item

-- each of its calls is taken
abbrev pub IsTaken : ConnView → ℕ → Turn → Type 0
IsTaken v now Rests = ⊤
IsTaken v now Reads = HasFront v
IsTaken v now (Replies op bytes) =
    HasFront v × ((n : ℕ) × ((act (act v FinishRead).view (Write op bytes now)).answer ≡ Wrote (Ok n)))

-- A user took this turn at a connection.
pub record TakesTurn (v : ConnView) (now : ℕ) (turn : Turn) (w : ConnView) (before after : OutboxView)
    (result : Turned) : Type 0 where
  pub taken : IsTaken v now turn
  pub view : w ≡ turn_view v now turn
  pub packets : after ≡ with_put before (turn_packets v now turn)
  pub config : w.config ≡ v.config
  pub done : result ≡ turn_done turn
