-- What a packet that comes makes of a host.
use Rattle.std.specs.Prelude.{ℕ, List, [], ◌∷◌, Option, Some, None, codes, slice_get}
use Rattle.chaos_packet.specs.Packet.{PacketView}
use Rattle.chaos_conn.specs.Act.{Deliver, TakeRequest}
use Rattle.chaos_conn.specs.Arriving.{act_deliver}
use Rattle.chaos_packet.specs.Opcode.{op_cls, op_los}
use Rattle.chaos_conn.specs.declared.answers.Why.TheVariants as why
use Rattle.chaos_host.specs.declared.answers.HostDelivered.{HostDelivered}
use Rattle.chaos_host.specs.declared.answers.HostDelivered.TheVariants as answer
use Rattle.chaos_host.specs.declared.route.Route.{Route}
use Rattle.chaos_host.specs.declared.route.Route.TheVariants as to
use Rattle.chaos_host.specs.declared.slot.Slot.{Slot}
use Rattle.chaos_host.specs.Slot.{index_of}
use Rattle.chaos_host.specs.Route.{route}
use Rattle.chaos_host.specs.View.{HostView, own_end}
use Rattle.chaos_host.specs.Acted.{HostActed, no_effect, on_slot}

-- ---- replies of the host itself, with number and acknowledgement 0

-- the refusal of a request: a CLS to where it came from, from the host's address and index 0
abbrev pub refusal : HostView → PacketView → List ℕ → PacketView
refusal v p text = record {
  op = op_cls;
  fwd = 0;
  dst = p.src;
  dst_index = p.src_index;
  src = v.address;
  src_index = 0;
  num = 0;
  ack = 0;
  body = text;
}

-- of a request for a contact that nobody listens to
abbrev pub no_server : HostView → PacketView → PacketView
no_server v p = refusal v p (codes "No server for this contact name.")

-- of a request for which no slot is free
abbrev pub table_full : HostView → PacketView → PacketView
table_full v p = refusal v p (codes "Connection table full.")

-- what tells of a lost connection: a LOS between the ends of the packet, exchanged
abbrev pub los_packet : PacketView → PacketView
los_packet p = record {
  op = op_los;
  fwd = 0;
  dst = p.src;
  dst_index = p.src_index;
  src = p.dst;
  src_index = p.dst_index;
  num = 0;
  ack = 0;
  body = codes "No such connection.";
}

-- a packet that is answered by one packet, and changes nothing
abbrev pub reply_with : HostView → PacketView → HostDelivered → HostActed HostDelivered
reply_with v reply told = record { view = v; packets = reply ∷ []; answer = told }

-- ---- delivery to a slot

-- the connection in this slot gets the packet
abbrev pub deliver_slot : HostView → PacketView → ℕ → ℕ → Option Slot → HostActed HostDelivered
deliver_slot v p now place None = no_effect v (answer.Dropped why.NoConn)
deliver_slot v p now place (Some slot) =
    on_slot v place slot (Deliver p now) (answer.At (index_of place slot) (act_deliver slot.conn p now).answer)

-- the connection in this slot takes the request
abbrev pub take_request_slot : HostView → PacketView → ℕ → ℕ → Option Slot → HostActed HostDelivered
take_request_slot v p now place None = no_effect v answer.TableFull
take_request_slot v p now place (Some slot) =
    on_slot v place slot (TakeRequest p (own_end v place slot) now) (answer.Requested (index_of place slot))

-- ---- delivery

-- a packet goes where its route leads
abbrev pub deliver_by : HostView → PacketView → ℕ → Route → HostActed HostDelivered
deliver_by v p now to.NotOurs = no_effect v (answer.Dropped why.NotOurs)
deliver_by v p now to.NoSource = no_effect v (answer.Dropped why.NoSource)
deliver_by v p now (to.Slot place) = deliver_slot v p now place (slice_get v.slots place)
deliver_by v p now to.NoServer = reply_with v (no_server v p) answer.NoServer
deliver_by v p now to.TableFull = reply_with v (table_full v p) answer.TableFull
deliver_by v p now (to.Request place) = take_request_slot v p now place (slice_get v.slots place)
deliver_by v p now to.SendLos = reply_with v (los_packet p) answer.NoConnection
deliver_by v p now to.DropSilently = no_effect v (answer.Dropped why.NoConn)

abbrev pub host_deliver : HostView → PacketView → ℕ → HostActed HostDelivered
host_deliver v p now = deliver_by v p now (route v p)
