-- Two connections and the packets between them, tied to a reached world.
use Rattle.std.specs.Prelude.{◌≡◌, ℕ, zero, suc, ◌≤◌, List, [], ◌∷◌, length, take, slice_get, Bool, true, false, Some, None, Result, Ok, Err, ⊤, ◌⊎◌}
use Rattle.std.specs.List.{All, AllZip}
use Rattle.chaos_lab.specs.declared.side.Side.{Side}
use Rattle.chaos_lab.specs.declared.side.Side.TheVariants.{A, B}
use Rattle.chaos_lab.specs.Machine.Kind.{Nth, Sns, Sts, Cls}
use Rattle.chaos_lab.specs.Machine.Told.{Nothing, Acknowledges, Status}
use Rattle.chaos_lab.specs.declared.stamped.Stamped.{Stamped}
use Rattle.chaos_lab.specs.Machine.{Phase, Kind, Told, Copy, Machine, Event, Schedule, Run, Reached, start, other, end_of}
use Rattle.chaos_lab.specs.Machine.Phase.{Inactive}
use Rattle.chaos_lab.specs.Machine.Event.{AcceptAt, WriteAt, ReadAt, ResizeAt, TickAt, CloseAt, Deliver}
use Rattle.chaos_packet.specs.Item.{ItemView}
use Rattle.chaos_packet.specs.Opcode.{op_opn}
use Rattle.chaos_packet.specs.Packet.{PacketView, item_of}
use Rattle.chaos_conn.specs.Opening.{act_accept, rfc_item}
use Rattle.chaos_conn.specs.Config.{ConfigView}
use Rattle.chaos_lab.specs.Laboratory.{LabView, Happening, happen, after_all, check, lab_contact}
use Rattle.chaos_lab.specs.declared.event.Stepped.{Stepped}
use Rattle.chaos_lab.specs.declared.fault.LabFault.{LabFault}
use Rattle.chaos_lab.specs.Laboratory.Happening.{WriteBy, ReadBy, AnnounceBy, TickOf, CloseBy, AcceptFrom, DeliverCopy}
use Rattle.chaos_conn.specs.View.{ConnView}
use Rattle.chaos_lab.specs.Shown.{Stands, StandsFor, HasItems}

abbrev pub base_of : ℕ → ℕ → Side → ℕ
base_of ba bb A = ba
base_of ba bb B = bb

-- a packet with its stamp stands for a copy
pub record StandsCopy (ba bb : ℕ) (w : Machine) (s : Stamped) (c : Copy) : Type 0 where
  pub side : s.side ≡ c.sender
  pub len_a : s.len_a ≡ c.len_a
  pub len_b : s.len_b ≡ c.len_b
  pub stands : StandsFor c.sender (base_of ba bb c.sender) (base_of ba bb (other c.sender)) (end_of w c.sender) s.packet
      c.kind c.told

-- what each kind of packet tells
abbrev pub Agrees : Side → Kind → Told → Type 0
Agrees A (Nth zero) Nothing = ⊤
Agrees B (Nth zero) (Status r f w) = ⊤
Agrees x (Nth (suc i)) (Acknowledges r) = ⊤
Agrees x Sns (Acknowledges r) = ⊤
Agrees x Sts (Status r f w) = ⊤
Agrees x Cls Nothing = ⊤
Agrees x kind told = ⊥

-- A sent it after it met B, but for the RFC
abbrev pub MetBefore : Machine → Copy → Type 0
MetBefore w c = c.sender ≡ A → (c.kind ≡ Nth 0) ⊎ (1 ≤ length w.b.written)

pub record Tied (ba bb : ℕ) (w : Machine) (conn_a conn_b : ConnView) (stamped : List Stamped) : Type 0 where
  pub reached : Reached w
  pub a : Stands A ba bb w.b w.a conn_a
  pub b : Stands B bb ba w.a w.b conn_b
  pub copies : AllZip (StandsCopy ba bb w) stamped w.copies
  pub kinds : All (λ c. Agrees c.sender c.kind c.told) w.copies
  pub met : All (MetBefore w) w.copies
  pub items_a : HasItems A bb w.a
  pub items_b : HasItems B ba w.b

-- B took a request, or its end is new
pub record AskedFits (asked : Bool) (phase : Phase) : Type 0 where
  pub new : asked ≡ false → phase ≡ Inactive
  pub old : asked ≡ true → phase ≡ Inactive → ⊥

-- A laboratory is tied to a plain machine: both connections and all copies stand for it, and both lists of each end are
-- its lists.
pub record Ties (w : Machine) (l : LabView) : Type 0 where
  pub tied : Tied l.a.first l.b.first w l.a.conn l.b.conn l.copies
  pub written_a : l.a.written ≡ w.a.written
  pub written_b : l.b.written ≡ w.b.written
  pub read_a : l.a.read ≡ w.a.read
  pub read_b : l.b.read ≡ w.b.read
  pub asked : AskedFits l.asked w.b.phase

-- the plain event of an event that was taken. That of an acceptance carries the OPN, which depends on A's first number
abbrev pub sent_item : List PacketView → ItemView
sent_item [] = record { op = op_opn; body = [] }
sent_item (packet ∷ packets) = item_of packet

abbrev pub plain_event : LabView → Happening → Event
plain_event l (WriteBy x op bytes) = WriteAt x (record { op = op; body = bytes })
plain_event l (ReadBy x) = ReadAt x
plain_event l (AnnounceBy x window) = ResizeAt x window
plain_event l (TickOf x now) = TickAt x
plain_event l (CloseBy x text) = CloseAt x
plain_event l (AcceptFrom start) = AcceptAt B (sent_item (act_accept l.b.conn start l.clock).packets)
plain_event l (DeliverCopy k) = Deliver k

-- the plain events of those that are taken
abbrev pub plain_next : Result Stepped LabFault → Event → Schedule → Schedule
plain_next (Ok stepped) event events = event ∷ events
plain_next (Err why) event events = events

abbrev pub plain_run : LabView → List Happening → Schedule
plain_run l [] = []
plain_run l (event ∷ events) =
    plain_next (happen l event).answer (plain_event l event) (plain_run (happen l event).lab events)

-- the plain machine of a new laboratory, whose A asks for a contact
abbrev pub machine_for : List ℕ → ConfigView → ConfigView → Machine
machine_for contact a b =
    start (record { send = a.send_cap; recv = a.recv_cap }) (record { send = b.send_cap; recv = b.recv_cap })
    (rfc_item contact)

abbrev pub lab_machine : ConfigView → ConfigView → Machine
lab_machine a b = machine_for lab_contact a b

-- it is tied to a plain machine
pub record HasMachine (l : LabView) : Type 0 where
  pub plain : Machine
  pub ties : Ties plain l

-- Events stopped when out of memory: so many of them happened, and those that were taken are a run of the plain
-- machine. The next one had passed the checks.
pub record Stops (old : LabView) (events : List Happening) (new : LabView) : Type 0 where
  pub done : ℕ
  pub event : Happening
  pub next : slice_get events done ≡ Some event
  pub passed : check new event ≡ None
  pub after : new ≡ after_all old (take done events)
  pub machine : (m : Machine) → Ties m old → (n : Machine) × Run m (plain_run old (take done events)) n × Ties n new
