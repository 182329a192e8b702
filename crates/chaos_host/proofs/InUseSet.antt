-- The set of slots in use, as calls change the slots.
use Rattle.std.proofs.Common.{◌≡◌, ◌≢◌, ℕ, ◌<◌, ◌≤◌, ◌==◌, zero, suc, List, [], ◌∷◌, length, slice_get, slice_set, slice_index_or, replicate, Some, Bool, true, false, not, refl, ap, sym, ◌∙◌, inl, inr}
use Rattle.std.proofs.lemmas.Bool.{cases_eq}
use Rattle.std.proofs.lemmas.Option.{slice_get_within}
use Rattle.chaos_packet.specs.Packet.{PacketView}
use Rattle.chaos_packet.specs.Outbox.{OutboxView}
use Rattle.chaos_packet.specs.declared.limits.TheConstants.{MAX_DATA}
use Rattle.chaos_conn.specs.declared.state.State.{State}
use Rattle.chaos_conn.specs.declared.state.State.TheVariants as st
use Rattle.chaos_conn.specs.State.{is_inactive}
use Rattle.chaos_conn.specs.View.{ConnView}
use Rattle.chaos_conn.specs.Config.{ConfigView}
use Rattle.chaos_conn.specs.Act.{Call, Reply, Deliver, Request, TakeRequest, Does, DoesQuietly, act}
use Rattle.chaos_host.specs.Inside.{HasUsed}
use Rattle.chaos_host.specs.Law.{may_end}
use Rattle.chaos_host.specs.Slot.{is_used, is_used_in, is_used_at, named_slot, place_of}
use Rattle.chaos_host.specs.SlotSet.{has}
use Rattle.chaos_host.specs.Route.{IsRequest}
use Rattle.chaos_host.specs.View.{HostView, IsHost, new_slot}
use Rattle.chaos_host.specs.declared.slot.Slot.{Slot}
use Rattle.chaos_host.proofs.Indices.{named_is}
use Rattle.chaos_host.proofs.InUse.{stays_in_use}
use Rattle.chaos_host.proofs.Places.{slot_of, stands, with_conn}
use Rattle.chaos_host.proofs.Requests.{connected_state, get_set, requested_state}

-- what stands at another place than the one that was set
get_other : {X : Type 0} (xs : List X) (i k : ℕ) (x : X) → k ≢ i → slice_get (slice_set xs i x) k ≡ slice_get xs k
get_other [] i k x apart = refl
get_other (y ∷ ys) zero zero x apart = absurd (apart refl)
get_other (y ∷ ys) zero (suc k) x apart = refl
get_other (y ∷ ys) (suc i) zero x apart = refl
get_other (y ∷ ys) (suc i) (suc k) x apart = get_other ys i k x (λ e. apart (ap suc e))

-- One slot changed, and the set has its place exactly where it is in use.
pub used_set : (set after : List ℕ) (slots : List Slot) (place : ℕ) (new : Slot) → HasUsed set slots
    → place < length slots → has after place ≡ is_used new
    → ((other : ℕ) → other ≢ place → has after other ≡ has set other)
    → HasUsed after (slice_set slots place new)
used_set set after slots place new all within here others k =
    elim (cases_eq k place) as (λ _. has after k ≡ is_used_at (slice_set slots place new) k) [
      | inl same ↦ rw same (here ∙ sym (ap is_used_in (get_set slots place new within)))
      | inr other ↦ others k other ∙ (all k ∙ sym (ap is_used_in (get_other slots place k new other)))
    ]

-- One slot changed, and is in use as before.
pub used_kept : (set : List ℕ) (slots : List Slot) (place : ℕ) (slot new : Slot) → HasUsed set slots
    → slice_get slots place ≡ Some slot → is_used new ≡ is_used slot → HasUsed set (slice_set slots place new)
used_kept set slots place slot new all there same =
    used_set set set slots place new all (slice_get_within slots place slot there)
    (all place ∙ (ap is_used_in there ∙ sym same)) (λ other apart. refl)

-- ---- calls on the connection in one slot

not_true : (b : Bool) → not b ≡ true → b ≡ false
not_true true e = absurd (cc)
not_true false e = refl

-- a connection in use did a call that doesn't end it
pub goes_on : (slot : Slot) (call : Call) (conn : ConnView) → may_end call ≡ false → is_used slot ≡ true
    → conn ≡ (act slot.conn call).view → is_used (with_conn slot conn) ≡ is_used slot
goes_on slot call conn keeps used did =
    let active = not_true (is_inactive slot.conn.state) used in
    let on : is_inactive conn.state ≡ false =
    ap (λ (c : ConnView). is_inactive c.state) did ∙ stays_in_use slot.conn call keeps active in
    ap not on ∙ sym used

pub used_called : (set : List ℕ) (slots : List Slot) (id generation : ℕ) (was conn : ConnView) (call : Call)
    (before after : OutboxView) (reply : Reply)
    → HasUsed set slots → named_slot slots id ≡ Some (slot_of generation was)
    → Does was call conn before after reply → may_end call ≡ false
    → HasUsed set (slice_set slots (place_of id) (slot_of generation conn))
used_called set slots id generation was conn call before after reply all which does keeps =
    let slot = slot_of generation was in
    let is = named_is id (slice_get slots (place_of id)) slot which in
    used_kept set slots (place_of id) slot (slot_of generation conn) all is.0
    (goes_on slot call conn keeps is.1 does.view)

-- a connection in use was ticked
pub used_at_called : (set : List ℕ) (slots : List Slot) (place : ℕ) (slot : Slot) (call : Call) (conn : ConnView)
    (before after : OutboxView) (reply : Reply)
    → HasUsed set slots → place < length slots → slot ≡ slice_index_or slots place slot
    → is_used_at slots place ≡ true → Does slot.conn call conn before after reply → may_end call ≡ false
    → HasUsed set (slice_set slots place (with_conn slot conn))
used_at_called set slots place slot call conn before after reply all within read used does keeps =
    let there = stands slots place slot within read in
    used_kept set slots place slot (with_conn slot conn) all there
    (goes_on slot call conn keeps (sym (ap is_used_in there) ∙ used) does.view)

-- an inactive connection drops each packet
by_state : (v : ConnView) (p : PacketView) (now : ℕ) (s : State) → v.state ≡ s → is_inactive s ≡ true
    → (act v (Deliver p now)).view ≡ v
by_state v p now st.Inactive e inactive = rw e refl
by_state v p now st.RfcSent e inactive = absurd (cc)
by_state v p now st.RfcReceived e inactive = absurd (cc)
by_state v p now st.Open e inactive = absurd (cc)
by_state v p now st.Answered e inactive = absurd (cc)
by_state v p now st.ClsReceived e inactive = absurd (cc)
by_state v p now st.LosReceived e inactive = absurd (cc)
by_state v p now st.HostDown e inactive = absurd (cc)
by_state v p now st.Forwarded e inactive = absurd (cc)

-- a connection, in use or not, was given a packet
delivered : (slot : Slot) (b : Bool) (p : PacketView) (now : ℕ) (conn : ConnView) → is_inactive slot.conn.state ≡ b
    → conn ≡ (act slot.conn (Deliver p now)).view → is_used (with_conn slot conn) ≡ is_used slot
delivered slot true p now conn inactive did =
    let same = by_state slot.conn p now slot.conn.state refl inactive in
    ap (λ (c : ConnView). not (is_inactive c.state)) (did ∙ same)
delivered slot false p now conn active did = goes_on slot (Deliver p now) conn refl (ap not active) did

pub used_delivered : (set : List ℕ) (slots : List Slot) (place : ℕ) (slot : Slot) (p : PacketView) (now : ℕ)
    (conn : ConnView) (before after : OutboxView) (reply : Reply)
    → HasUsed set slots → place < length slots → slot ≡ slice_index_or slots place slot
    → Does slot.conn (Deliver p now) conn before after reply
    → HasUsed set (slice_set slots place (with_conn slot conn))
used_delivered set slots place slot p now conn before after reply all within read does =
    used_kept set slots place slot (with_conn slot conn) all (stands slots place slot within read)
    (delivered slot (is_inactive slot.conn.state) p now conn refl does.view)

-- ---- calls after which the set is written anew

-- the slot that an index names is within the table
pub named_used : (set after : List ℕ) (slots : List Slot) (id place : ℕ) (slot new : Slot) → HasUsed set slots
    → named_slot slots id ≡ Some slot → place ≡ place_of id → has after place ≡ is_used new
    → ((other : ℕ) → other ≢ place → has after other ≡ has set other)
    → HasUsed after (slice_set slots (place_of id) new)
named_used set after slots id place slot new all which at here others =
    let is = named_is id (slice_get slots (place_of id)) slot which in
    used_set set after slots (place_of id) new all (slice_get_within slots (place_of id) slot is.0)
    (ap (has after) (sym at) ∙ here)
    (λ other apart. others other (λ e. apart (e ∙ at)))

-- an active connection is left as it is
pub named_unused : (set : List ℕ) (slots : List Slot) (id : ℕ) (slot : Slot) → HasUsed set slots
    → named_slot slots id ≡ Some slot → HasUsed set (slice_set slots (place_of id) slot)
named_unused set slots id slot all which =
    let is = named_is id (slice_get slots (place_of id)) slot which in
    used_kept set slots (place_of id) slot slot all is.0 refl

-- no slot of a new table is in use
new_free : (n place : ℕ) (config : ConfigView) → is_used_at (replicate n (new_slot config)) place ≡ false
new_free zero place config = refl
new_free (suc n) zero config = refl
new_free (suc n) (suc place) config = new_free n place config

pub used_new : (set : List ℕ) (n : ℕ) (config : ConfigView) (slots : List Slot)
    → ((place : ℕ) → has set place ≡ false) → slots ≡ replicate n (new_slot config) → HasUsed set slots
used_new set n config slots none new place =
    none place ∙ sym (ap (λ (s : List Slot). is_used_at s place) new ∙ new_free n place config)

-- ---- a slot that was free takes a request or makes one

used_requested : (slot : Slot) (conn : ConnView) → conn.state ≡ st.RfcReceived → is_used (with_conn slot conn) ≡ true
used_requested slot conn state = ap (λ (s : State). not (is_inactive s)) state

used_asking : (slot : Slot) (conn : ConnView) → conn.state ≡ st.RfcSent → is_used (with_conn slot conn) ≡ true
used_asking slot conn state = ap (λ (s : State). not (is_inactive s)) state

pub used_by_request : (v : HostView) (set after : List ℕ) (p : PacketView) (now place : ℕ) (slot : Slot)
    (conn : ConnView) (id : ℕ) (reply : Reply)
    → IsHost v → IsRequest v p place → slot ≡ slice_index_or v.slots place slot
    → DoesQuietly slot.conn (TakeRequest p (record { address = v.address; index = id }) now) conn reply
    → HasUsed set v.slots → has after place ≡ true
    → ((other : ℕ) → other ≢ place → has after other ≡ has set other)
    → HasUsed after (slice_set v.slots place (with_conn slot conn))
used_by_request v set after p now place slot conn id reply host request read does all here others =
    let state = requested_state v p now place slot conn id reply host request read does in
    used_set set after v.slots place (with_conn slot conn) all request.within
    (here ∙ sym (used_requested slot conn state)) others

pub used_by_asking : (v : HostView) (set after : List ℕ) (place peer : ℕ) (contact : List ℕ) (start now : ℕ)
    (slot : Slot) (conn : ConnView) (before later : OutboxView) (id : ℕ) (reply : Reply)
    → IsHost v → place < length v.slots → is_used_at v.slots place ≡ false → length contact ≤ MAX_DATA
    → (peer == 0) ≡ false → slot ≡ slice_index_or v.slots place slot
    → Does slot.conn (Request (record { address = v.address; index = id }) peer contact start now) conn before later
    reply
    → HasUsed set v.slots → has after place ≡ true
    → ((other : ℕ) → other ≢ place → has after other ≡ has set other)
    → HasUsed after (slice_set v.slots place (with_conn slot conn))
used_by_asking v set after place peer contact start now slot conn before later id reply host within vacant fits far read
    does all here others =
    let state =
    connected_state v place peer contact start now slot conn before later id reply host within vacant fits far read
    does in
    used_set set after v.slots place (with_conn slot conn) all within (here ∙ sym (used_asking slot conn state)) others
