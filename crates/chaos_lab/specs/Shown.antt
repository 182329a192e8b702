-- What a connection shows of an end of the plain machine, and what packet stands for a copy.
use Rattle.std.specs.Prelude.{◌≡◌, ℕ, zero, suc, ◌≤◌, List, [], ◌∷◌, length, drop, Bool, true, false, if◌then◌else◌, nat_lt, Option, Some, None, slice_get, ◌⊎◌}
use Rattle.std.specs.List.{All}
use Rattle.std.specs.FinSet.{contains}
use Rattle.chaos_lab.specs.declared.side.Side.{Side}
use Rattle.chaos_lab.specs.declared.side.Side.TheVariants.{A, B}
use Rattle.chaos_lab.specs.Machine.{PlainEnd as Plain}
use Rattle.chaos_lab.specs.Machine.Phase.{Inactive, RfcSent, RfcReceived, Open, Ended, Closed}
use Rattle.chaos_lab.specs.Machine.Kind.{Nth, Sns, Sts, Cls}
use Rattle.chaos_lab.specs.Machine.Told.{Nothing, Acknowledges, Status}
use Rattle.chaos_packet.specs.declared.opcode.Kind.TheVariants as k
use Rattle.chaos_conn.specs.declared.state.State.{State}
use Rattle.chaos_conn.specs.declared.state.State.TheVariants as st
use Rattle.chaos_conn.specs.declared.state.End.{End}
use Rattle.chaos_packet.specs.Number.{num}
use Rattle.chaos_lab.specs.Numbers.{told_num}
use Rattle.chaos_lab.specs.Machine.{Phase, Kind, Told, MaySend, Tells, other}
use Rattle.chaos_packet.specs.Item.{ItemView}
use Rattle.chaos_packet.specs.Packet.{PacketView, status_of}
use Rattle.chaos_packet.specs.Words.{halves}
use Rattle.chaos_packet.specs.Opcode.{kind_of}
use Rattle.chaos_window.specs.Send.{SendView, clear_send}
use Rattle.chaos_window.specs.Receive.{ReceiveView, started_receive}
use Rattle.chaos_conn.specs.Acted.{Acted}
use Rattle.chaos_conn.specs.View.{ConnView, no_end}
use Rattle.chaos_conn.specs.Config.{ConfigView}
use Rattle.chaos_conn.specs.State.{is_ended}

-- what the plain machine doesn't know of an end: its times, its moments, how many reads it hasn't told, and how it
-- ended
pub record Rest : Type 0 where
  pub retransmit : ℕ
  pub probe : ℕ
  pub down : ℕ
  pub last : ℕ
  pub heard : ℕ
  pub resent : ℕ
  pub probed : ℕ
  pub untold : ℕ
  pub ended : State

-- where a side is
abbrev pub address_of : Side → ℕ
address_of A = 257
address_of B = 258

abbrev pub place_of : Side → End
place_of x = record { address = address_of x; index = 1 }

abbrev pub is_a : Side → Bool
is_a A = true
is_a B = false

-- the first number of A, of the own and the peer's
abbrev pub first_of_a : Side → ℕ → ℕ → ℕ
first_of_a A b b' = b
first_of_a B b b' = b'

-- ---- the windows

abbrev pub send_view : ℕ → Plain → SendView
send_view b e = record {
  cap = e.send_cap;
  sent = told_num b (length e.written);
  receipted = told_num b e.receipted;
  acknowledged = told_num b e.acknowledged;
  window = e.window;
  kept = drop e.receipted e.written;
}

-- the item of the peer at this index, where it arrived
abbrev pub there_at : Plain → Plain → ℕ → Option ItemView
there_at peer e i = if contains e.arrived i then slice_get peer.written i else None

-- those from index i on
abbrev pub slots_from : Plain → Plain → ℕ → ℕ → List (Option ItemView)
slots_from peer e i zero = []
slots_from peer e i (suc count) = there_at peer e i ∷ slots_from peer e (suc i) count

abbrev pub recv_view : ℕ → Plain → Plain → ReceiveView
recv_view b' peer e =
    record { cap = e.recv_cap; window = e.announced; read = told_num b' (length e.read); held = slots_from peer e (length e.read) e.recv_cap }

-- a window that hasn't started is clear
abbrev pub send_shown : ℕ → Plain → SendView
send_shown b e = if nat_lt 0 (length e.written) then send_view b e else clear_send e.send_cap

abbrev pub recv_shown : ℕ → Plain → Plain → ReceiveView
recv_shown b' peer e = if contains e.arrived 0 then recv_view b' peer e else started_receive e.recv_cap 0

-- ---- the connection. b is its own first number, and b' the peer's

abbrev pub config_of : Rest → Plain → ConfigView
config_of rest e =
    record { send_cap = e.send_cap; recv_cap = e.recv_cap; retransmit = rest.retransmit; probe = rest.probe; down = rest.down }

-- A learns the peer's index when it reads item 0
abbrev pub index_of : Side → ℕ → Option ℕ
index_of A read = if nat_lt 0 read then Some 1 else None
index_of B read = Some 1

abbrev pub shown_in : State → Side → Rest → ℕ → ℕ → Plain → Plain → ConnView
shown_in state x rest b b' peer e = record {
  state = state;
  me = place_of x;
  peer = address_of (other x);
  peer_index = index_of x (length e.read);
  asked = is_a x;
  request = num (first_of_a x b b') 0;
  config = config_of rest e;
  last = rest.last;
  heard = rest.heard;
  resent = rest.resent;
  probed = rest.probed;
  untold = rest.untold;
  send = send_shown b e;
  recv = recv_shown b' peer e;
}

-- an end that isn't asked yet, or is closed
abbrev pub idle : Rest → Plain → ConnView
idle rest e = record {
  state = st.Inactive;
  me = no_end;
  peer = 0;
  peer_index = None;
  asked = false;
  request = 0;
  config = config_of rest e;
  last = rest.last;
  heard = rest.heard;
  resent = rest.resent;
  probed = rest.probed;
  untold = 0;
  send = clear_send e.send_cap;
  recv = started_receive e.recv_cap 0;
}

abbrev pub shown_at : Phase → Side → Rest → ℕ → ℕ → Plain → Plain → ConnView
shown_at Inactive x rest b b' peer e = idle rest e
shown_at RfcSent x rest b b' peer e = shown_in st.RfcSent x rest b b' peer e
shown_at RfcReceived x rest b b' peer e = shown_in st.RfcReceived x rest b b' peer e
shown_at Open x rest b b' peer e = shown_in st.Open x rest b b' peer e
shown_at Ended x rest b b' peer e = shown_in rest.ended x rest b b' peer e
shown_at Closed x rest b b' peer e = idle rest e

abbrev pub shown : Side → Rest → ℕ → ℕ → Plain → Plain → ConnView
shown x rest b b' peer e = shown_at e.phase x rest b b' peer e

-- both windows are started
abbrev pub met_view : State → Side → Rest → ℕ → ℕ → Plain → Plain → ConnView
met_view state x rest b b' peer e = record {
  state = state;
  me = place_of x;
  peer = address_of (other x);
  peer_index = Some 1;
  asked = is_a x;
  request = num (first_of_a x b b') 0;
  config = config_of rest e;
  last = rest.last;
  heard = rest.heard;
  resent = rest.resent;
  probed = rest.probed;
  untold = rest.untold;
  send = send_view b e;
  recv = recv_view b' peer e;
}

-- the view stands for the end
abbrev pub Stands : Side → ℕ → ℕ → Plain → Plain → ConnView → Type 0
Stands x b b' peer e v = (rest : Rest) × (is_ended rest.ended ≡ true) × (v ≡ shown x rest b b' peer e)

-- ---- packets

-- from this side to the other. An RFC names no index
abbrev pub to_index : Kind → Side → ℕ
to_index (Nth zero) A = 0
to_index (Nth zero) B = 1
to_index (Nth (suc i)) x = 1
to_index Sns x = 1
to_index Sts x = 1
to_index Cls x = 1

pub record HasHeader (x : Side) (pk : PacketView) (kind : Kind) : Type 0 where
  pub dst : pk.dst ≡ address_of (other x)
  pub dst_index : pk.dst_index ≡ to_index kind x
  pub src : pk.src ≡ address_of x
  pub src_index : pk.src_index ≡ 1

-- what it is. e: the sender, with first number b
abbrev pub IsWhat : ℕ → Plain → PacketView → Kind → Type 0
IsWhat b e pk (Nth i) = (slice_get e.written i ≡ Some (record { op = pk.op; body = pk.body })) × (pk.num ≡ num b i)
IsWhat b e pk Sns = (pk.op ≡ 6) × (pk.num ≡ 0) × (pk.body ≡ [])
IsWhat b e pk Sts = (pk.op ≡ 7) × (pk.num ≡ 0)
IsWhat b e pk Cls = (pk.op ≡ 3) × (pk.num ≡ 0)

-- it tells these counts of the direction with first number b'
abbrev pub CarriesTold : ℕ → PacketView → Told → Type 0
CarriesTold b' pk Nothing = pk.ack ≡ 0
CarriesTold b' pk (Acknowledges read) = pk.ack ≡ told_num b' read
CarriesTold b' pk (Status read arrived window) =
    (pk.ack ≡ told_num b' read) × (status_of pk ≡ Some (told_num b' arrived, window))

pub record StandsFor (x : Side) (b b' : ℕ) (e : Plain) (pk : PacketView) (kind : Kind) (told : Told) : Type 0 where
  pub header : HasHeader x pk kind
  pub what : IsWhat b e pk kind
  pub tells : CarriesTold b' pk told

-- it stands for a copy that its sender may send now
pub record IsPut (x : Side) (b b' : ℕ) (e : Plain) (pk : PacketView) : Type 0 where
  pub kind : Kind
  pub told : Told
  pub may : MaySend kind e
  pub tells : Tells kind x e told
  pub stands : StandsFor x b b' e pk kind told
  -- before A met B, it sends its RFC alone
  pub met : x ≡ A → (kind ≡ Nth 0) ⊎ (1 ≤ length e.read)

-- ---- opcodes

-- what a user writes: data, or an EOF without bytes
abbrev pub IsUsers : ItemView → Type 0
IsUsers item = (kind_of item.op ≡ k.Data) ⊎ ((kind_of item.op ≡ k.Eof) × (item.body ≡ []))

-- item 0 of each side. b': the peer's first number
abbrev pub IsFirst : Side → ℕ → ℕ → ItemView → Type 0
IsFirst A b' cap item = item.op ≡ 1
IsFirst B b' cap item = (item.op ≡ 2) × (item.body ≡ halves (told_num b' 1 ∷ cap ∷ []))

pub record HasItems (x : Side) (b' : ℕ) (e : Plain) : Type 0 where
  pub first : (item : ItemView) → slice_get e.written 0 ≡ Some item → IsFirst x b' e.recv_cap item
  pub users : (i : ℕ) (item : ItemView) → slice_get e.written (suc i) ≡ Some item → IsUsers item

-- ---- a call

-- it leaves what stands for the end e, and puts out only what e may send
module _ {A : Type 0} where
  pub record Leaves (x : Side) (b b' : ℕ) (peer e : Plain) (acted : Acted A) : Type 0 where
    pub rest : Rest
    pub ended : is_ended rest.ended ≡ true
    pub view : acted.view ≡ shown x rest b b' peer e
    pub packets : All (IsPut x b b' e) acted.packets
