-- The parts of the laboratory as what contracts see.
use Rattle.std.specs.Prelude.{◌≡◌, ◌+◌, ◌≤◌, [], vec_len, vec_capacity}
use Rattle.chaos_packet.specs.Outbox.{OutboxView}
use Rattle.chaos_window.specs.declared.limits.TheConstants.{MAX_WINDOW}
use Rattle.chaos_lab.specs.declared.lab_end.LabEnd.{LabEnd}
use Rattle.chaos_lab.specs.declared.both_ends.BothEnds.{BothEnds}
use Rattle.chaos_lab.specs.declared.side.Side.{Side}
use Rattle.chaos_lab.specs.declared.side.Side.TheVariants.{A, B}
use Rattle.chaos_lab.specs.declared.copy_list.CopyList.{CopyList}
use Rattle.chaos_lab.specs.declared.event.Event.{Event}
use Rattle.chaos_lab.specs.declared.event.Event.TheVariants as event
use Rattle.chaos_lab.specs.Laboratory.Happening.{WriteBy, ReadBy, AnnounceBy, TickOf, CloseBy, AcceptFrom, DeliverCopy}
use Rattle.chaos_lab.specs.History.{HasPlace}
use Rattle.chaos_lab.specs.Laboratory.{EndView, Happening}

abbrev pub end_view : LabEnd → EndView
end_view e = record { conn = e.conn; first = e.first; written = e.written.list.items; read = e.read.list.items }

-- both histories have a place for one more item
pub record HasRoom (e : LabEnd) : Type 0 where
  pub written : HasPlace e.written
  pub read : HasPlace e.read

-- the list has places for all that one call may put out, and there is a spare room for the data of each
pub record HasSpace (c : CopyList) : Type 0 where
  pub places : vec_len c.list + MAX_WINDOW ≤ vec_capacity c.list
  pub spares : MAX_WINDOW ≤ vec_len c.spares

-- so have the histories of this end
abbrev pub HasRoomAt : Side → BothEnds → Type 0
HasRoomAt A ends = HasRoom ends.a
HasRoomAt B ends = HasRoom ends.b

-- so have those of the end of a call, and both windows fit the outbox
pub record AreReady (x : Side) (e : BothEnds) (out : OutboxView) : Type 0 where
  pub room : HasRoomAt x e
  pub window_a : e.a.conn.config.send_cap ≤ MAX_WINDOW
  pub window_b : e.b.conn.config.send_cap ≤ MAX_WINDOW
  pub empty : out.packets ≡ []
  pub fits : MAX_WINDOW ≤ out.cap

abbrev pub happening_of : Event → Happening
happening_of (event.Write side op bytes) = WriteBy side op bytes.now
happening_of (event.Read side) = ReadBy side
happening_of (event.Announce side window) = AnnounceBy side window
happening_of (event.Tick side now) = TickOf side now
happening_of (event.Close side text) = CloseBy side text.now
happening_of (event.Accept start) = AcceptFrom start
happening_of (event.Deliver k) = DeliverCopy k
