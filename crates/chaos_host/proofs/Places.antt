-- Calls on the connection in one slot, as calls of the host.
use Rattle.std.proofs.Common.{◌≡◌, ℕ, ◌<◌, ◌≤◌, List, length, slice_get, slice_set, slice_index_or, get_or, Option, Some, None, Result, Ok, Err, MatchResult, IsErrAnd, true, false, arith, refl, ap, sym, Bool, ◌&&◌, ◌==◌, if◌then◌else◌, ◌∙◌, append-nil, All}
use Rattle.std.proofs.lemmas.List.{length-set, set-get_or}
use Rattle.std.proofs.lemmas.Option.{slice_get_read, slice_get_within, get_or_from_slice_get}
use Rattle.chaos_packet.specs.Packet.{PacketView}
use Rattle.chaos_packet.specs.Outbox.{OutboxView}
use Rattle.chaos_conn.specs.State.{is_ended}
use Rattle.chaos_conn.specs.Config.{ConfigView}
use Rattle.chaos_conn.specs.View.{ConnView}
use Rattle.chaos_conn.specs.declared.fault.ConnFault.{ConnFault}
use Rattle.chaos_host.specs.declared.fault.CallFault.{CallFault}
use Rattle.chaos_host.specs.declared.fault.CallFault.TheVariants.{Refused, StillActive}
use Rattle.chaos_conn.specs.Act.{Call, Reply, Deliver, TakeRequest, Request, Tick, Came, Ticks, Does, DoesQuietly, most_packets, act}
use Rattle.chaos_conn.specs.Arriving.{act_deliver}
use Rattle.chaos_conn.specs.Time.{act_tick}
use Rattle.chaos_conn.specs.declared.answers.Delivered.{Delivered}
use Rattle.chaos_conn.specs.declared.answers.Ticked.{Ticked}
use Rattle.chaos_host.specs.declared.slot.Slot.{Slot}
use Rattle.chaos_host.specs.declared.answers.HostDelivered.TheVariants as answer
use Rattle.chaos_host.specs.Slot.{index_of, place_of, with_index, named_slot, is_used, is_used_at, is_used_in, IsTable, HasConfig, after_ending}
use Rattle.chaos_host.specs.View.{HostView, IsHost}
use Rattle.chaos_host.specs.Acted.{HostDoes, no_effect, on_slot, on_slot_then_free}
use Rattle.chaos_host.specs.Deliver.{deliver_slot, take_request_slot}
use Rattle.chaos_host.specs.Connect.{connect_slot}
use Rattle.chaos_host.specs.Calls.{HostReply, host_call, host_end, host_release, reply_of}
use Rattle.chaos_host.specs.Tick.{host_tick}
use Rattle.chaos_host.proofs.Table.{table_called, table_ended}

-- a slot of a table has its configuration
pub config_at : (config : ConfigView) (slots : List Slot) (i : ℕ) (slot : Slot) → All (HasConfig config) slots
    → slice_get slots i ≡ Some slot → slot.conn.config ≡ config
config_at config slots i slot all there =
    let here = all i slot (slice_get_within slots i slot there) in
    rw (get_or_from_slice_get slots i slot slot there) at here

-- a slot with its connection after a call
abbrev pub with_conn : Slot → ConnView → Slot
with_conn slot conn = record slot { conn = conn }

-- a host with a slot changed
abbrev pub host_with : HostView → ℕ → Slot → HostView
host_with v place slot = record v { slots = slice_set v.slots place slot }

-- what was read at a place stands there
pub stands : (slots : List Slot) (place : ℕ) (slot : Slot) → place < length slots
    → slot ≡ slice_index_or slots place slot → slice_get slots place ≡ Some slot
stands slots place slot within read = slice_get_read slots (length slots) place slot refl within read

-- there is a slot where one is in use
pub used_within : (slots : List Slot) (place : ℕ) → is_used_at slots place ≡ true → place < length slots
used_within slots place used = inside (slice_get slots place) refl used
  where
    inside : (o : Option Slot) → slice_get slots place ≡ o → is_used_in o ≡ true → place < length slots
    inside None there used = absurd (cc)
    inside (Some slot) there used = slice_get_within slots place slot there

-- what stands at a place can be read there
within_at : (slots : List Slot) (place : ℕ) (slot : Slot) → slice_get slots place ≡ Some slot → place < length slots
within_at slots place slot there = slice_get_within slots place slot there

read_at : (slots : List Slot) (place : ℕ) (slot : Slot) → slice_get slots place ≡ Some slot
    → slot ≡ slice_index_or slots place slot
read_at slots place slot there = sym (get_or_from_slice_get slots place slot slot there)

-- a host is one after each call on the connection in a slot
pub host_called : (v : HostView) (place : ℕ) (slot : Slot) (call : Call) (conn : ConnView) (before after : OutboxView)
    (reply : Reply)
    → IsHost v → place < length v.slots → slot ≡ slice_index_or v.slots place slot
    → Does slot.conn call conn before after reply
    → IsHost (host_with v place (with_conn slot conn))
host_called v place slot call conn before after reply host within read does =
    record { address = host.address; table = table_called v.config v.slots place slot (with_conn slot conn) call within read does.view does.config host.table }

pub host_called_quietly : (v : HostView) (place : ℕ) (slot : Slot) (call : Call) (conn : ConnView) (reply : Reply)
    → IsHost v → place < length v.slots → slot ≡ slice_index_or v.slots place slot
    → DoesQuietly slot.conn call conn reply
    → IsHost (host_with v place (with_conn slot conn))
host_called_quietly v place slot call conn reply host within read does =
    record { address = host.address; table = table_called v.config v.slots place slot (with_conn slot conn) call within read does.view does.config host.table }

pub host_ended : (v : HostView) (place : ℕ) (slot new : Slot) (call : Call) (conn : ConnView)
    (before after : OutboxView) (reply : Reply)
    → IsHost v → place < length v.slots → slot ≡ slice_index_or v.slots place slot
    → Does slot.conn call conn before after reply → new ≡ after_ending (with_conn slot conn)
    → IsHost (host_with v place new)
host_ended v place slot new call conn before after reply host within read does ended =
    record { address = host.address; table = table_ended v.config v.slots place slot (with_conn slot conn) new call within read does.view does.config ended host.table }

-- a call on the connection in one slot
pub on_slot_done : {A : Type 0} (v : HostView) (place : ℕ) (slot : Slot) (most : ℕ) (call : Call) (conn : ConnView)
    (before after : OutboxView) (reply : Reply) (told answer : A)
    → Does slot.conn call conn before after reply → most_packets slot.conn call ≤ most → answer ≡ told
    → HostDoes v most (on_slot v place slot call told) (host_with v place (with_conn slot conn)) before after answer
on_slot_done v place slot most call conn before after reply told answer does room e = record {
  view = ap (λ (c : ConnView). host_with v place (with_conn slot c)) does.view;
  packets = does.packets;
  answers = e;
  few = let few = does.few in omega arith;
  config = refl;
  size = length-set v.slots place _;
}

-- a packet was delivered to the connection in a slot
pub delivered_done : (v : HostView) (p : PacketView) (now place : ℕ) (slot : Slot) (conn : ConnView)
    (before after : OutboxView) (id : ℕ) (result : Delivered)
    → place < length v.slots → slot ≡ slice_index_or v.slots place slot
    → ((s : Slot) → slice_get v.slots place ≡ Some s → id ≡ index_of place s)
    → Does slot.conn (Deliver p now) conn before after (Came result)
    → HostDoes v 1 (deliver_slot v p now place (slice_get v.slots place)) (host_with v place (with_conn slot conn))
    before after (answer.At id result)
delivered_done v p now place slot conn before after id result within read named does =
    let there = stands v.slots place slot within read in
    let index = named slot there in
    let same = does.answer in
    rw there
    (on_slot_done v place slot 1 (Deliver p now) conn before after (Came result)
    (answer.At (index_of place slot) (act_deliver slot.conn p now).answer) (answer.At id result) does
    (omega arith) (cc))

-- a request was taken by the connection in a slot
pub requested_done : (v : HostView) (p : PacketView) (now place : ℕ) (slot : Slot) (conn : ConnView) (out : OutboxView)
    (id : ℕ) (reply : Reply)
    → place < length v.slots → slot ≡ slice_index_or v.slots place slot
    → ((s : Slot) → slice_get v.slots place ≡ Some s → id ≡ index_of place s)
    → DoesQuietly slot.conn (TakeRequest p (record { address = v.address; index = id }) now) conn reply
    → HostDoes v 1 (take_request_slot v p now place (slice_get v.slots place)) (host_with v place (with_conn slot conn))
    out out (answer.Requested id)
requested_done v p now place slot conn out id reply within read named acted =
    let there = stands v.slots place slot within read in
    let index = named slot there in
    let does = rw index at acted in
    rw there record {
      view = ap (λ (c : ConnView). host_with v place (with_conn slot c)) does.view;
      packets = rw (does.packets, append-nil) refl;
      answers = ap answer.Requested index;
      few = rw does.packets (omega arith);
      config = refl;
      size = length-set v.slots place _;
    }

-- a request was made by the connection in a slot
pub connected_done : (v : HostView) (place peer : ℕ) (contact : List ℕ) (start now : ℕ) (slot : Slot) (conn : ConnView)
    (before after : OutboxView) (id : ℕ) (reply : Reply)
    → place < length v.slots → slot ≡ slice_index_or v.slots place slot
    → ((s : Slot) → slice_get v.slots place ≡ Some s → id ≡ index_of place s)
    → Does slot.conn (Request (record { address = v.address; index = id }) peer contact start now) conn before after
    reply
    → HostDoes v 1 (connect_slot v place peer contact start now (slice_get v.slots place))
    (host_with v place (with_conn slot conn)) before after (Ok id)
connected_done v place peer contact start now slot conn before after id reply within read named acted =
    let there = stands v.slots place slot within read in
    let index = named slot there in
    let does = rw index at acted in
    rw there
    (on_slot_done v place slot 1 _ conn before after reply (Ok (index_of place slot)) (Ok id) does (omega arith)
    (ap Ok index))

-- the slot that an index names stands at the place in it
in_place : (id : ℕ) (o : Option Slot) (slot : Slot) → with_index id o ≡ Some slot → o ≡ Some slot
in_place id None slot e = absurd (cc)
in_place id (Some s) slot e = when (is_used s && (index_of (place_of id) s == id)) s slot e
  where
    when : (b : Bool) (s slot : Slot) → (if b then Some s else None) ≡ Some slot → Some s ≡ Some slot
    when true s slot e = e
    when false s slot e = absurd (cc)

-- a host of these parts
abbrev pub host_of : ℕ → ConfigView → List (List ℕ) → List Slot → HostView
host_of address config listeners slots =
    record { address = address; config = config; listeners = listeners; slots = slots }

-- a slot of these parts
abbrev pub slot_of : ℕ → ConnView → Slot
slot_of generation conn = record { generation = generation; conn = conn }

-- The connection that an index names did a call: the host is one. These lemmas take a host and a slot by their parts,
-- so that `search` finds them.
pub named_called : (address : ℕ) (config : ConfigView) (listeners : List (List ℕ)) (slots : List Slot)
    (id generation : ℕ) (was conn : ConnView) (call : Call) (before after : OutboxView) (reply : Reply)
    → IsHost (host_of address config listeners slots) → named_slot slots id ≡ Some (slot_of generation was)
    → Does was call conn before after reply
    → IsHost (host_of address config listeners (slice_set slots (place_of id) (slot_of generation conn)))
named_called address config listeners slots id generation was conn call before after reply host which does =
    let slot = slot_of generation was in
    let there = in_place id (slice_get slots (place_of id)) slot which in
    host_called (host_of address config listeners slots) (place_of id) slot call conn before after reply host
    (within_at slots (place_of id) slot there) (read_at slots (place_of id) slot there) does

-- and it did that call
pub called_done : (v : HostView) (address : ℕ) (config : ConfigView) (listeners : List (List ℕ)) (slots : List Slot)
    (id generation : ℕ) (was conn : ConnView) (call : Call) (before after : OutboxView) (reply : Reply)
    (told : HostReply)
    → v ≡ host_of address config listeners slots → named_slot slots id ≡ Some (slot_of generation was)
    → Does was call conn before after reply → told ≡ Ok reply → most_packets was call ≤ 1
    → HostDoes v 1 (host_call v id call)
    (host_of address config listeners (slice_set slots (place_of id) (slot_of generation conn))) before after told
called_done v address config listeners slots id generation was conn call before after reply told host which does same
    one =
    rw host
    (rw which
    (on_slot_done (host_of address config listeners slots) (place_of id) (slot_of generation was) 1 call conn
    before after reply (Ok (act was call).answer) told does one (same ∙ ap Ok does.answer)))

-- a call that changes nothing
pub untouched_done : {A : Type 0} (v : HostView) (most : ℕ) (out : OutboxView) (told answer : A) → answer ≡ told
    → HostDoes v most (no_effect v told) v out out answer
untouched_done v most out told answer e = record {
  view = refl;
  packets = rw append-nil refl;
  answers = e;
  few = omega arith;
  config = refl;
  size = refl;
}

-- a call that may end it was done by the connection in a slot
pub ending_slot_done : {A : Type 0} (v : HostView) (place : ℕ) (slot new : Slot) (call : Call) (conn : ConnView)
    (before after : OutboxView) (reply : Reply) (told answer : A)
    → Does slot.conn call conn before after reply → most_packets slot.conn call ≤ 1
    → new ≡ after_ending (with_conn slot conn) → answer ≡ told
    → HostDoes v 1 (on_slot_then_free v place slot call told) (host_with v place new) before after answer
ending_slot_done v place slot new call conn before after reply told answer does one ended e = record {
  view =
      ap (host_with v place) ended
      ∙ ap (λ (c : ConnView). host_with v place (after_ending (with_conn slot c))) does.view;
  packets = does.packets;
  answers = e;
  few = let few = does.few in omega arith;
  config = refl;
  size = length-set v.slots place _;
}

-- The connection that an index names did a call that may end it: the host is one.
pub named_ended : (address : ℕ) (config : ConfigView) (listeners : List (List ℕ)) (slots : List Slot)
    (id generation : ℕ) (was conn : ConnView) (new : Slot) (call : Call) (before after : OutboxView) (reply : Reply)
    → IsHost (host_of address config listeners slots) → named_slot slots id ≡ Some (slot_of generation was)
    → Does was call conn before after reply → new ≡ after_ending (slot_of generation conn)
    → IsHost (host_of address config listeners (slice_set slots (place_of id) new))
named_ended address config listeners slots id generation was conn new call before after reply host which does ended =
    let slot = slot_of generation was in
    let there = in_place id (slice_get slots (place_of id)) slot which in
    host_ended (host_of address config listeners slots) (place_of id) slot new call conn before after reply host
    (within_at slots (place_of id) slot there) (read_at slots (place_of id) slot there) does ended

-- and it did that call
pub ending_done : (v : HostView) (address : ℕ) (config : ConfigView) (listeners : List (List ℕ)) (slots : List Slot)
    (id generation : ℕ) (was conn : ConnView) (new : Slot) (call : Call) (before after : OutboxView) (reply : Reply)
    (told : HostReply)
    → v ≡ host_of address config listeners slots → named_slot slots id ≡ Some (slot_of generation was)
    → Does was call conn before after reply → new ≡ after_ending (slot_of generation conn) → told ≡ Ok reply
    → most_packets was call ≤ 1
    → HostDoes v 1 (host_end v id call) (host_of address config listeners (slice_set slots (place_of id) new)) before
    after told
ending_done v address config listeners slots id generation was conn new call before after reply told host which does
    ended same one =
    rw host
    (rw which
    (ending_slot_done (host_of address config listeners slots) (place_of id) (slot_of generation was) new call
    conn before after reply (Ok (act was call).answer) told does one ended (same ∙ ap Ok does.answer)))

-- a connection's refusal is told as one
pub refusal_reply : {A : Type 0} (reply : Result A ConnFault → Reply) (done : Result A ConnFault)
    (result : Result A CallFault)
    → MatchResult done (λ x. result ≡ Ok x) (λ why. IsErrAnd result (λ fault. fault ≡ Refused why))
    → reply_of reply result ≡ Ok (reply done)
refusal_reply reply (Ok x) result e = ap (reply_of reply) e
refusal_reply reply (Err why) (Ok y) e = absurd e
refusal_reply reply (Err why) (Err fault) e = rw e refl

-- ---- release

-- what was found and left as it is changes nothing
same_slots : (slots : List Slot) (id : ℕ) (slot : Slot) → named_slot slots id ≡ Some slot
    → slice_set slots (place_of id) slot ≡ slots
same_slots slots id slot which =
    let there = in_place id (slice_get slots (place_of id)) slot which in
    let read = read_at slots (place_of id) slot there in
    let set : slice_set slots (place_of id) (get_or slots (place_of id) slot) ≡ slots =
    set-get_or slots (place_of id) slot in
    rw (get_or_from_slice_get slots (place_of id) slot slot there) at set

-- an active connection is not released: the host is one
pub named_kept : (address : ℕ) (config : ConfigView) (listeners : List (List ℕ)) (slots : List Slot) (id : ℕ)
    (slot : Slot)
    → IsHost (host_of address config listeners slots) → named_slot slots id ≡ Some slot
    → IsHost (host_of address config listeners (slice_set slots (place_of id) slot))
named_kept address config listeners slots id slot host which = rw (same_slots slots id slot which) host

-- and nothing changed
pub unreleased_done : (v : HostView) (address : ℕ) (config : ConfigView) (listeners : List (List ℕ)) (slots : List Slot)
    (id generation : ℕ) (conn : ConnView) (out : OutboxView)
    → v ≡ host_of address config listeners slots → named_slot slots id ≡ Some (slot_of generation conn)
    → is_ended conn.state ≡ false
    → HostDoes v 1 (host_release v id)
    (host_of address config listeners (slice_set slots (place_of id) (slot_of generation conn))) out out
    (Err StillActive)
unreleased_done v address config listeners slots id generation conn out host which active =
    rw (same_slots slots id (slot_of generation conn) which)
    (rw host
    (rw which
    (rw active
    (untouched_done (host_of address config listeners slots) 1 out (Err StillActive) (Err StillActive)
    refl))))

-- ---- ticks

-- what is due was done in a slot in use
pub ticked_done : (v : HostView) (place now : ℕ) (slot : Slot) (conn : ConnView) (before after : OutboxView)
    (result : Ticked)
    → IsTable v.config v.slots → place < length v.slots → slot ≡ slice_index_or v.slots place slot
    → is_used_at v.slots place ≡ true
    → Does slot.conn (Tick now) conn before after (Ticks result)
    → HostDoes v v.config.send_cap (host_tick v place now) (host_with v place (with_conn slot conn)) before after result
ticked_done v place now slot conn before after result table within read used does =
    let there = stands v.slots place slot within read in
    let in_use : is_used slot ≡ true = rw there at used in
    let one : slot.conn.config ≡ v.config = config_at v.config v.slots place slot table.alike there in
    let same = does.answer in
    rw there
    (rw in_use
    (on_slot_done v place slot v.config.send_cap (Tick now) conn before after (Ticks result)
    (act_tick slot.conn now).answer result does (rw one (omega arith)) (cc)))
