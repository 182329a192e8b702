-- An item that came is read in its turn.
use Rattle.std.specs.Prelude.{◌≡◌, ℕ, ◌+◌, ◌<◌, ◌≤◌, List, length, true, false, Some, slice_get}
use Rattle.chaos_packet.specs.Number.{num}
use Rattle.chaos_packet.specs.Opcode.{kind_of}
use Rattle.chaos_packet.specs.Packet.{item_of}
use Rattle.chaos_conn.specs.declared.answers.ReadEnd.TheVariants.{Item}
use Rattle.chaos_conn.specs.declared.state.State.TheVariants.{Open}
use Rattle.chaos_conn.specs.State.{is_inactive}
use Rattle.chaos_conn.specs.Sending.{carries_ack}
use Rattle.chaos_conn.specs.Calls.{act_read}
use Rattle.chaos_conn.specs.Names.{is_named}
use Rattle.chaos_host.specs.declared.slot.Slot.{Slot}
use Rattle.chaos_host.specs.Slot.{named_slot}
use Rattle.chaos_lab.specs.declared.side.Side.{Side}
use Rattle.chaos_lab.specs.Machine.{other, greatest_window}
use Rattle.chaos_net.specs.Net.{Name, Story, Sent, Net, NetEvent, IsFresh, Run, Reached, index_of, happens}
use Rattle.chaos_net.specs.Net.NetEvent.{Arrives}

-- A packet of c is its item i: it carries the item and its number, and was sent when at most a window of items had been
-- written from that item on.
pub record IsItemOf (x : Side) (q : Sent) (c : Name) (s : Story) (i : ℕ) : Type 0 where
  pub by : q.by ≡ Some c
  pub item : slice_get s.end.written i ≡ Some (item_of q.packet)
  pub number : q.packet.num ≡ num s.end.first i
  pub near : q.lengths x c ≤ i + greatest_window
  pub ack : carries_ack (kind_of q.packet.op) ≡ true

-- Packet number, item i of c, may come at x to the peer of c, which is d: its index names it now, it is open, the
-- packet is under its names and fresh, and the item lies inside the window that d announces.
pub record ComesInside (n : Net) (x : Side) (number : ℕ) (c d : Name) (s t : Story) (i : ℕ) : Type 0 where
  pub packet : Sent
  pub sent : slice_get (n (other x)).sent number ≡ Some packet
  pub of_item : IsItemOf (other x) packet c s i
  pub from : (n (other x)).story c ≡ Some s
  pub to : s.peer ≡ Some d
  pub there : (n x).story d ≡ Some t
  pub present : (n x).turn d.place ≡ d.turn
  pub slot : Slot
  pub held : named_slot (n x).host.slots (index_of d) ≡ Some slot
  pub named : is_named t.end.conn packet.packet ≡ true
  pub fresh : IsFresh n x packet
  pub open_end : t.end.conn.state ≡ Open
  pub inside : i < length t.end.read + t.end.conn.recv.window

-- Whatever happened since it came, where item i is the next that d is to read, and its user hasn't closed it, a read
-- hands that item out.
abbrev pub ReadsInTurn : Type 0
ReadsInTurn =
    (n m : Net) (x : Side) (number now i : ℕ) (c d : Name) (s t u : Story) (events : List NetEvent) → Reached n
    → (comes : ComesInside n x number c d s t i) → Run (happens n (Arrives x number now)) events m
    → (m x).story d ≡ Some u → is_inactive u.end.conn.state ≡ false → length u.end.read ≡ i
    → (act_read u.end.conn).answer ≡ Item (item_of comes.packet.packet)
