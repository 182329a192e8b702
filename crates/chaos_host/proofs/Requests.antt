-- A free slot takes each request that it is given.
use Rattle.std.proofs.Common.{◌≡◌, ℕ, ◌<◌, ◌≤◌, ◌==◌, List, nat_lt, length, slice_get, slice_set, slice_index_or, Some, true, false, arith, refl, ap, sym, ◌∙◌}
use Rattle.std.proofs.lemmas.List.{get_or-set_same, length-set}
use Rattle.std.proofs.lemmas.Option.{slice_get_read}
use Rattle.std.proofs.lemmas.Bool.{eq-eqb}
use Rattle.std.proofs.lemmas.Bool.Decides.{nat_tests}
use Rattle.chaos_packet.specs.Packet.{PacketView}
use Rattle.chaos_packet.specs.Opcode.{kind_of, is_rfc}
use Rattle.chaos_packet.specs.Outbox.{OutboxView}
use Rattle.chaos_packet.specs.declared.limits.TheConstants.{MAX_DATA}
use Rattle.chaos_conn.specs.State.{is_inactive}
use Rattle.chaos_conn.specs.View.{ConnView}
use Rattle.chaos_conn.specs.Act.{Reply, TakeRequest, Request, Does, DoesQuietly, act}
use Rattle.chaos_conn.specs.declared.state.End.{End}
use Rattle.chaos_conn.specs.declared.state.State.TheVariants.{RfcSent, RfcReceived}
use Rattle.chaos_host.specs.declared.slot.Slot.{Slot}
use Rattle.chaos_host.specs.Slot.{is_free, is_used, is_used_at, index_of, place_of, named_slot, named_state}
use Rattle.chaos_host.specs.View.{HostView, IsHost}
use Rattle.chaos_host.specs.Route.{IsRequest}
use Rattle.chaos_host.proofs.Places.{with_conn, stands}

-- what stands at a place that was set
pub get_set : {X : Type 0} (xs : List X) (i : ℕ) (x : X) → i < length xs → slice_get (slice_set xs i x) i ≡ Some x
get_set xs i x h =
    slice_get_read (slice_set xs i x) (length xs) i x (sym (length-set xs i x)) h (sym (get_or-set_same xs i x x h))

-- the index of a slot in use names it
pub named_set : (slots : List Slot) (place id : ℕ) (slot : Slot) → place < length slots → length slots ≤ 255
    → id ≡ index_of place slot → is_used slot ≡ true
    → named_slot (slice_set slots place slot) id ≡ Some slot
named_set slots place id slot within few named used =
    let at_place : place_of id ≡ place = rw named (omega arith) in
    let there : slice_get (slice_set slots place slot) (place_of id) ≡ Some slot =
    rw at_place (get_set slots place slot within) in
    let index : (index_of (place_of id) slot == id) ≡ true =
    rw at_place (eq-eqb (index_of place slot) id (sym named)) in
    rw there (rw (used, index) refl)

-- an inactive connection takes a request between addresses that aren't 0
pub takes : (conn : ConnView) (p : PacketView) (me : End) (now : ℕ) → is_inactive conn.state ≡ true
    → (me.address == 0) ≡ false → (p.src == 0) ≡ false → is_rfc (kind_of p.op) ≡ true
    → (act conn (TakeRequest p me now)).view.state ≡ RfcReceived
takes conn p me now inactive here there rfc = rw (inactive, here, there, rfc) refl

-- an inactive connection makes a request between addresses that aren't 0
pub asks : (conn : ConnView) (me : End) (peer : ℕ) (contact : List ℕ) (start now : ℕ) → is_inactive conn.state ≡ true
    → (me.address == 0) ≡ false → (peer == 0) ≡ false → length contact ≤ MAX_DATA
    → (act conn (Request me peer contact start now)).view.state ≡ RfcSent
asks conn me peer contact start now inactive here there fits =
    let short : nat_lt MAX_DATA (length contact) ≡ false = grind (arith, nat_tests) in
    rw (short, inactive, here, there) refl

-- a free slot has an inactive connection
free_at : (slots : List Slot) (place : ℕ) (slot : Slot) → is_used_at slots place ≡ false
    → slice_get slots place ≡ Some slot → is_free slot ≡ true
free_at slots place slot vacant there = let e = rw there at vacant in grind (arith, e)

-- the address of a host isn't 0
pub not_zero : (n : ℕ) → 1 ≤ n → (n == 0) ≡ false
not_zero n h = grind (arith, nat_tests)

-- a request that was taken is held
pub requested_state : (v : HostView) (p : PacketView) (now place : ℕ) (slot : Slot) (conn : ConnView) (id : ℕ)
    (reply : Reply)
    → IsHost v → IsRequest v p place → slot ≡ slice_index_or v.slots place slot
    → DoesQuietly slot.conn (TakeRequest p (record { address = v.address; index = id }) now) conn reply
    → conn.state ≡ RfcReceived
requested_state v p now place slot conn id reply host request read does =
    ap (λ (c : ConnView). c.state) does.view
    ∙ takes slot.conn p (record { address = v.address; index = id }) now
    (free_at v.slots place slot request.vacant (stands v.slots place slot request.within read))
    (not_zero v.address host.address) request.source request.rfc

-- and by the connection with its index
pub requested_holds : (v : HostView) (p : PacketView) (now place : ℕ) (slot : Slot) (conn : ConnView) (id : ℕ)
    (reply : Reply)
    → IsHost v → IsRequest v p place → slot ≡ slice_index_or v.slots place slot
    → ((s : Slot) → slice_get v.slots place ≡ Some s → id ≡ index_of place s)
    → DoesQuietly slot.conn (TakeRequest p (record { address = v.address; index = id }) now) conn reply
    → named_state (slice_set v.slots place (with_conn slot conn)) id ≡ Some RfcReceived
requested_holds v p now place slot conn id reply host request read named does =
    let there = stands v.slots place slot request.within read in
    let index = named slot there in
    let state = requested_state v p now place slot conn id reply host request read does in
    let found = named_set v.slots place id (with_conn slot conn) request.within host.table.few index (rw state refl) in
    rw found (rw state refl)

-- a connection that was asked for waits for its OPN
pub connected_state : (v : HostView) (place peer : ℕ) (contact : List ℕ) (start now : ℕ) (slot : Slot) (conn : ConnView)
    (before after : OutboxView) (id : ℕ) (reply : Reply)
    → IsHost v → place < length v.slots → is_used_at v.slots place ≡ false → length contact ≤ MAX_DATA
    → (peer == 0) ≡ false → slot ≡ slice_index_or v.slots place slot
    → Does slot.conn (Request (record { address = v.address; index = id }) peer contact start now) conn before after
    reply
    → conn.state ≡ RfcSent
connected_state v place peer contact start now slot conn before after id reply host within vacant fits far read does =
    ap (λ (c : ConnView). c.state) does.view
    ∙ asks slot.conn (record { address = v.address; index = id }) peer contact start now
    (free_at v.slots place slot vacant (stands v.slots place slot within read))
    (not_zero v.address host.address) far fits

-- and has the index that was answered
pub connected_asks : (v : HostView) (place peer : ℕ) (contact : List ℕ) (start now : ℕ) (slot : Slot) (conn : ConnView)
    (before after : OutboxView) (id : ℕ) (reply : Reply)
    → IsHost v → place < length v.slots → is_used_at v.slots place ≡ false → length contact ≤ MAX_DATA
    → (peer == 0) ≡ false → slot ≡ slice_index_or v.slots place slot
    → ((s : Slot) → slice_get v.slots place ≡ Some s → id ≡ index_of place s)
    → Does slot.conn (Request (record { address = v.address; index = id }) peer contact start now) conn before after
    reply
    → named_state (slice_set v.slots place (with_conn slot conn)) id ≡ Some RfcSent
connected_asks v place peer contact start now slot conn before after id reply host within vacant fits far read named
    does =
    let there = stands v.slots place slot within read in
    let index = named slot there in
    let state =
    connected_state v place peer contact start now slot conn before after id reply host within vacant fits far read
    does in
    let found = named_set v.slots place id (with_conn slot conn) within host.table.few index (rw state refl) in
    rw found (rw state refl)
