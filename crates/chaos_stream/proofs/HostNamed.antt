-- A host with another connection in the slot that an own index names.
use Rattle.std.proofs.Common.{◌≡◌, ℕ, ◌==◌, Bool, true, false, not, List, length, slice_get, slice_set, Option, Some, None, Ok, refl, ap, sym, ◌∙◌}
use Rattle.std.proofs.lemmas.List.{length-set, set-set, set-get_or}
use Rattle.std.proofs.lemmas.Option.{slice_get_within, get_or_from_slice_get}
use Rattle.std.proofs.lemmas.Bool.{eq-eqb}
use Rattle.chaos_packet.specs.Outbox.{OutboxView}
use Rattle.chaos_conn.specs.State.{is_inactive}
use Rattle.chaos_conn.specs.View.{ConnView}
use Rattle.chaos_conn.specs.Act.{Call, act}
use Rattle.chaos_host.specs.declared.slot.Slot.{Slot}
use Rattle.chaos_host.specs.Slot.{index_of, place_of, named_slot}
use Rattle.chaos_host.specs.View.{HostView, look_slot}
use Rattle.chaos_host.specs.Acted.{HostActed, with_slot}
use Rattle.chaos_host.specs.Calls.{HostReply, host_call}
use Rattle.chaos_host.proofs.Indices.{named_is}
use Rattle.chaos_host.proofs.Requests.{get_set}
use Rattle.chaos_stream.specs.HostNamed.{DoesInSlot, DoesFound, is_there}

-- the host with this connection there
abbrev pub with_conn : HostView → ℕ → Slot → ConnView → HostView
with_conn h id slot conn = with_slot h (place_of id) (record slot { conn = conn })

-- the one that is there
pub with_same : (h : HostView) (id : ℕ) (slot : Slot) → named_slot h.slots id ≡ Some slot
    → with_conn h id slot slot.conn ≡ h
with_same h id slot e =
    let there = (named_is id (slice_get h.slots (place_of id)) slot e).0 in
    let read = get_or_from_slice_get h.slots (place_of id) slot slot there in
    ap (λ (slots : List Slot). record h { slots = slots })
    (ap (λ (s : Slot). slice_set h.slots (place_of id) s) (sym read) ∙ set-get_or h.slots (place_of id) slot)

not_false : (b : Bool) → not b ≡ true → b ≡ false
not_false false e = refl
not_false true e = absurd (cc)

-- it is in use
pub named_used : (h : HostView) (id : ℕ) (slot : Slot) → named_slot h.slots id ≡ Some slot
    → is_inactive slot.conn.state ≡ false
named_used h id slot e =
    not_false (is_inactive slot.conn.state) (named_is id (slice_get h.slots (place_of id)) slot e).1

-- one that is in use is named by the index
pub named_with : (h : HostView) (id : ℕ) (slot : Slot) (conn : ConnView) → named_slot h.slots id ≡ Some slot
    → is_inactive conn.state ≡ false
    → named_slot (with_conn h id slot conn).slots id ≡ Some (record slot { conn = conn })
named_with h id slot conn e active =
    let new : Slot = record slot { conn = conn } in
    let was = named_is id (slice_get h.slots (place_of id)) slot e in
    let there = get_set h.slots (place_of id) new (slice_get_within h.slots (place_of id) slot was.0) in
    let same : (index_of (place_of id) new == id) ≡ true = eq-eqb (index_of (place_of id) slot) id was.2 in
    rw there (rw active (rw same refl))

-- a call on it leaves these slots
abbrev told : HostView → List Slot → ConnView → Call → HostActed HostReply
told h slots conn call =
    record { view = record h { slots = slots }; packets = (act conn call).packets; answer = Ok (act conn call).answer }

-- a call on it is made in its slot
pub call_with : (h : HostView) (id : ℕ) (slot : Slot) (conn : ConnView) (call : Call)
    → named_slot h.slots id ≡ Some slot → is_inactive conn.state ≡ false
    → host_call (with_conn h id slot conn) id call
    ≡ record { view = with_conn h id slot (act conn call).view; packets = (act conn call).packets; answer = Ok (act conn call).answer }
call_with h id slot conn call e active =
    let named = named_with h id slot conn e active in
    let same =
    set-set h.slots (place_of id) (record slot { conn = conn }) (record slot { conn = (act conn call).view }) in
    rw named (ap (λ (slots : List Slot). told h slots conn call) same)

-- a look finds it, or tells that there is none
module _ {A : Type 0} (look : ConnView → A) where
  pub looked_there : (found : Option Slot) (a : A) → Ok a ≡ look_slot look found → is_there found ≡ true
  looked_there None a e = absurd (cc)
  looked_there (Some slot) a e = refl

module _ {A : Type 0} (does : ConnView → ConnView → A → Type 0) (old : HostView) (id : ℕ) (new : HostView)
    (before after : OutboxView) (answer : A) where
  pub did_found : (found : Option Slot) → is_there found ≡ true
      → ((slot : Slot) → found ≡ Some slot → DoesInSlot does old id slot new answer)
      → DoesFound does old id found new before after (Ok answer)
  did_found None e did = absurd (cc)
  did_found (Some slot) e did = did slot refl

  -- the connection became this
  pub became : (slot : Slot) (conn : ConnView) → named_slot old.slots id ≡ Some slot → new ≡ with_conn old id slot conn
      → is_inactive conn.state ≡ false → does slot.conn conn answer → DoesInSlot does old id slot new answer
  became slot conn e is active did = record {
    conn = conn;
    did = did;
    view = is;
    named = ap (λ (h : HostView). named_slot h.slots id) is ∙ named_with old id slot conn e active;
    config = ap (λ (h : HostView). h.config) is;
    size = ap (λ (h : HostView). length h.slots) is ∙ length-set old.slots (place_of id) (record slot { conn = conn });
  }
