-- What an answer without its item or packet stands for: they lie in the laboratory.
use Rattle.std.specs.Prelude.{◌-◌, List, [], length, Option, Some, None, slice_get, Result, Ok, Err}
use Rattle.chaos_packet.specs.Item.{ItemView}
use Rattle.chaos_packet.specs.Packet.{PacketView, blank}
use Rattle.chaos_conn.specs.Disposition.{with_packet}
use Rattle.chaos_conn.specs.declared.answers.ReadDone.{ReadDone}
use Rattle.chaos_conn.specs.declared.answers.ReadDone.TheVariants as done
use Rattle.chaos_conn.specs.declared.answers.ReadEnd.{ReadEnd}
use Rattle.chaos_conn.specs.declared.answers.ReadEnd.TheVariants as gave
use Rattle.chaos_lab.specs.declared.event.StepDone.{StepDone}
use Rattle.chaos_lab.specs.declared.event.StepDone.TheVariants as brief
use Rattle.chaos_lab.specs.declared.event.Stepped.{Stepped}
use Rattle.chaos_lab.specs.declared.event.Stepped.TheVariants as stepped
use Rattle.chaos_lab.specs.declared.fault.LabFault.{LabFault}
use Rattle.chaos_lab.specs.declared.stamped.Stamped.{Stamped}
use Rattle.chaos_lab.specs.Laboratory.{LabView, Happening, lab_end}
use Rattle.chaos_lab.specs.Laboratory.Happening.{ReadBy, DeliverCopy}

-- the last of these items
abbrev pub last_of : List ItemView → Option ItemView
last_of items = slice_get items (length items - 1)

-- what a read gave, where this is the last item that was read
abbrev pub given_by : ReadDone → Option ItemView → ReadEnd
given_by done.Done (Some item) = gave.Item item
given_by done.Done None = gave.Nothing
given_by done.Nothing item = gave.Nothing
given_by (done.Ended state) item = gave.Ended state

-- the answer in full, of a delivery of this packet, or of a read after which the user has read these items
abbrev pub in_full : PacketView → List ItemView → StepDone → Stepped
in_full packet items (brief.Wrote number) = stepped.Wrote number
in_full packet items (brief.Read done) = stepped.Read (given_by done (last_of items))
in_full packet items (brief.Announced window) = stepped.Announced window
in_full packet items (brief.Ticked ticked) = stepped.Ticked ticked
in_full packet items brief.Closed = stepped.Closed
in_full packet items (brief.Accepted start) = stepped.Accepted start
in_full packet items brief.Requested = stepped.Requested
in_full packet items (brief.Delivered disposition) = stepped.Delivered (with_packet disposition packet)

-- so where the event was taken
abbrev pub told : PacketView → List ItemView → Result StepDone LabFault → Result Stepped LabFault
told packet items (Ok done) = Ok (in_full packet items done)
told packet items (Err why) = Err why

abbrev pub packet_of_copy : Option Stamped → PacketView
packet_of_copy None = blank
packet_of_copy (Some copy) = copy.packet

-- the packet that an event delivers; nothing is told of a packet for any other event
abbrev pub packet_at : LabView → Happening → PacketView
packet_at l (DeliverCopy copy) = packet_of_copy (slice_get l.copies copy)
packet_at l _ = blank

-- all that the user has read whom an event lets read
abbrev pub items_at : LabView → Happening → List ItemView
items_at l (ReadBy side) = (lab_end l side).read
items_at l _ = []

-- what an answer to an event stands for, which led from one laboratory to another
abbrev pub told_at : (old new : LabView) → Happening → Result StepDone LabFault → Result Stepped LabFault
told_at old new event answer = told (packet_at old event) (items_at new event) answer
