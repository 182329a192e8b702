-- The call of the connection that an event is, and what its answer without item or packet stands for.
use Rattle.std.specs.Prelude.{◌≡◌, ℕ, Bool, List, [], None, Result, if◌then◌else◌}
use Rattle.chaos_packet.specs.Item.{ItemView}
use Rattle.chaos_packet.specs.Packet.{PacketView, blank}
use Rattle.chaos_conn.specs.Act.{Call}
use Rattle.chaos_conn.specs.Act.Call.{Accept, Announce, Close, Deliver, Read, TakeRequest, Tick, Write}
use Rattle.chaos_lab.specs.declared.event.StepDone.{StepDone}
use Rattle.chaos_lab.specs.declared.event.Stepped.{Stepped}
use Rattle.chaos_lab.specs.declared.fault.LabFault.{LabFault}
use Rattle.chaos_lab.specs.declared.side.Side.{Side}
use Rattle.chaos_lab.specs.declared.side.Side.TheVariants.{B}
use Rattle.chaos_lab.specs.Laboratory.{LabView, Happening, call_at, check, happen, lab_end}
use Rattle.chaos_lab.specs.Laboratory.Happening.{WriteBy, ReadBy, AnnounceBy, TickOf, CloseBy, AcceptFrom, DeliverCopy}
use Rattle.chaos_lab.specs.Shown.{place_of}
use Rattle.chaos_lab.specs.Told.{told, packet_at, items_at}

-- The call of the connection, which gets this moment if it has no moment of its own. A copy's packet comes as the
-- request or as a packet of the connection.
abbrev pub call_of : Happening → (asks : Bool) → (came : PacketView) → ℕ → Call
call_of (WriteBy side op bytes) asks came now = Write op bytes now
call_of (ReadBy side) asks came now = Read
call_of (AnnounceBy side window) asks came now = Announce window
call_of (TickOf side moment) asks came now = Tick moment
call_of (CloseBy side text) asks came now = Close text
call_of (AcceptFrom start) asks came now = Accept start now
call_of (DeliverCopy copy) asks came now = if asks then TakeRequest came (place_of B) now else Deliver came now

-- the packet that comes, where an event delivers one
abbrev pub packet_in : Happening → PacketView → PacketView
packet_in (DeliverCopy copy) came = came
packet_in _ came = blank

-- all that the user has read, where it reads
abbrev pub items_in : Happening → List ItemView → List ItemView
items_in (ReadBy side) items = items
items_in _ items = []

-- the answer in full, where this packet came, and the end's user has read these items after the event
abbrev pub told_of : Happening → PacketView → List ItemView → Result StepDone LabFault → Result Stepped LabFault
told_of event came items answer = told (packet_in event came) (items_in event items) answer

-- An event that passed its checks is this call of the end at this side, and this packet is the one that comes.
pub record IsCall (l : LabView) (event : Happening) (side : Side) (asks : Bool) (came : PacketView) : Type 0 where
  pub passed : check l event ≡ None
  pub does : happen l event ≡ call_at l side (call_of event asks came l.clock)
  pub packet : packet_in event came ≡ packet_at l event
  pub items : (m : LabView) → items_in event (lab_end m side).read ≡ items_at m event
