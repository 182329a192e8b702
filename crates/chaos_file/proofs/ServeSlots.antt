-- Serving by a host's calls changes one slot.
use Rattle.std.proofs.Common.{◌≡◌, ℕ, ◌<◌, ◌==◌, List, length, slice_get, slice_set, Bool, true, false, ◌&&◌, if◌then◌else◌, Option, Some, None, refl, sym, ap, ◌∙◌, [], subst, option_map}
use Rattle.std.proofs.lemmas.List.{get_or-set_same, length-set, set-set, set-get_or}
use Rattle.std.proofs.lemmas.Option.{slice_get_read, slice_get_within, get_or_from_slice_get}
use Rattle.chaos_packet.specs.Item.{ItemView}
use Rattle.chaos_packet.specs.Packet.{PacketView}
use Rattle.chaos_conn.specs.View.{ConnView}
use Rattle.chaos_conn.specs.Acted.{Acted, quietly}
use Rattle.chaos_conn.specs.Calls.{front_of, can_write}
use Rattle.chaos_file.specs.Session.{SessionView}
use Rattle.chaos_conn.specs.Act.{FinishRead, act}
use Rattle.chaos_conn.specs.State.{is_inactive, is_open}
use Rattle.chaos_conn.specs.declared.state.State.{State}
use Rattle.chaos_conn.specs.declared.state.State.TheVariants as st
use Rattle.chaos_host.specs.declared.slot.Slot.{Slot}
use Rattle.chaos_host.specs.Slot.{is_used, index_of, place_of, named_slot, with_index}
use Rattle.chaos_host.specs.View.{HostView}
use Rattle.chaos_host.specs.Acted.{HostActed, no_effect, slot_after_call}
use Rattle.chaos_file.specs.ServeCalls.{after_reply_at, after_eof_at, DoesWorkByCalls, work_at}
use Rattle.chaos_file.specs.declared.change.Change.{Change}
use Rattle.chaos_file.specs.ServeAnswer.{IsAnswered, IsReported, IsUnreported, IsUnused}
use Rattle.chaos_file.specs.ServeHost.{in_slot, DoesWorkInSlot, DoesWorkInSlotBy}
use Rattle.chaos_file.specs.Serve.{reply_write, after_reply, after_eof, DoesWorkBy}
use Rattle.chaos_file.specs.ServeWork.{Work, NotOpen, Nothing, Full, LastItem, Command, work_of, work_by}
use Rattle.chaos_file.specs.Store.{StoreChange}
use Rattle.chaos_file.specs.declared.served.Served.TheVariants as told
use Rattle.chaos_file.specs.declared.served.Served.{Served}
use Rattle.chaos_file.proofs.ReplyTaken.{read_leaves, only_open}

-- what stands at a place that was set
get_set : {X : Type 0} (xs : List X) (i : ℕ) (x : X) → i < length xs → slice_get (slice_set xs i x) i ≡ Some x
get_set xs i x h =
    slice_get_read (slice_set xs i x) (length xs) i x (sym (length-set xs i x)) h (sym (get_or-set_same xs i x x h))

-- the slot that an index names stands at its place, is in use, and has this index
pub record IsNamed (slots : List Slot) (id : ℕ) (slot : Slot) : Type 0 where
  pub there : slice_get slots (place_of id) ≡ Some slot
  pub index : (index_of (place_of id) slot == id) ≡ true

named_tests : (used same : Bool) (s slot : Slot) → (if used && same then Some s else None) ≡ Some slot
    → (s ≡ slot) × (same ≡ true)
named_tests true true s slot e = (cc, refl)
named_tests true false s slot e = absurd (cc)
named_tests false same s slot e = absurd (cc)

named_by : (slots : List Slot) (id : ℕ) (slot : Slot) (found : Option Slot) → slice_get slots (place_of id) ≡ found
    → with_index id found ≡ Some slot → IsNamed slots id slot
named_by slots id slot None there e = absurd (cc)
named_by slots id slot (Some s) there e =
    let tests = named_tests (is_used s) (index_of (place_of id) s == id) s slot e in
    let same = tests.0 in
    record { there = there ∙ ap Some same; index = rw (← same) tests.1 }

pub is_named : (slots : List Slot) (id : ℕ) (slot : Slot) → named_slot slots id ≡ Some slot → IsNamed slots id slot
is_named slots id slot e = named_by slots id slot (slice_get slots (place_of id)) refl e

-- with another connection in use in it, the slot is still named by the index
pub named_after : (slots : List Slot) (id : ℕ) (slot new : Slot) → named_slot slots id ≡ Some slot
    → new.generation ≡ slot.generation → is_inactive new.conn.state ≡ false
    → named_slot (slice_set slots (place_of id) new) id ≡ Some new
named_after slots id slot new e generation active =
    let named = is_named slots id slot e in
    let there = get_set slots (place_of id) new (slice_get_within slots (place_of id) slot named.there) in
    let index : (index_of (place_of id) new == id) ≡ true = rw generation named.index in
    rw there (rw active (rw index refl))

-- a command is taken at an open end alone
opened_by : (state : State) (front : Option ItemView) (room : Bool) (body : List ℕ)
    → Command body ≡ work_by state front room → is_open state ≡ true
opened_by st.Open front room body e = refl
opened_by st.Inactive front room body e = absurd (cc)
opened_by st.RfcSent front room body e = absurd (cc)
opened_by st.RfcReceived front room body e = absurd (cc)
opened_by st.Answered front room body e = absurd (cc)
opened_by st.ClsReceived front room body e = absurd (cc)
opened_by st.LosReceived front room body e = absurd (cc)
opened_by st.HostDown front room body e = absurd (cc)
opened_by st.Forwarded front room body e = absurd (cc)

opened_for : (v : ConnView) (body : List ℕ) → Command body ≡ work_of v → is_open v.state ≡ true
opened_for v body e = opened_by v.state (front_of v) (can_write v) body e

pub finished_in : (h : HostView) (id : ℕ) (slot : Slot) → named_slot h.slots id ≡ Some slot
    → after_eof_at h id ≡ in_slot h (place_of id) slot (after_eof slot.conn)
finished_in h id slot e = rw e refl

abbrev left_with : HostView → List PacketView → Served → List Slot → HostActed Served
left_with h packets answer slots = record { view = record h { slots = slots }; packets = packets; answer = answer }

-- the read and the write, one after the other, are those of the connection, in its own slot
pub replied_in : (h : HostView) (id : ℕ) (slot : Slot) (reply : List ℕ) (now : ℕ) → named_slot h.slots id ≡ Some slot
    → is_open slot.conn.state ≡ true
    → after_reply_at h id reply now ≡ in_slot h (place_of id) slot (after_reply slot.conn reply now)
replied_in h id slot reply now e opened =
    let at = only_open slot.conn.state opened in
    let left = read_leaves slot.conn at in
    let active : is_inactive (act slot.conn FinishRead).view.state ≡ false = ap is_inactive (left.state ∙ at) in
    let after = named_after h.slots id slot (slot_after_call slot FinishRead) e refl active in
    let same =
    set-set h.slots (place_of id) (slot_after_call slot FinishRead)
    (record slot { conn = (reply_write slot.conn reply now).view }) in
    rw (e, after) (ap (left_with h (after_reply slot.conn reply now).packets told.Replied) same)

-- a slot is set to what stands there
same_slot : (slots : List Slot) (i : ℕ) (slot : Slot) → slice_get slots i ≡ Some slot → slice_set slots i slot ≡ slots
same_slot slots i slot there =
    ap (λ (x : Slot). slice_set slots i x) (sym (get_or_from_slice_get slots i slot slot there))
    ∙ set-get_or slots i slot

-- nothing was done in a slot
pub quiet_in : (h : HostView) (id : ℕ) (slot : Slot) (answer : Served) → named_slot h.slots id ≡ Some slot
    → no_effect h answer ≡ in_slot h (place_of id) slot (quietly slot.conn answer)
quiet_in h id slot answer e =
    let there = (is_named h.slots id slot e).there in
    ap (left_with h [] answer) (sym (same_slot h.slots (place_of id) slot there))

-- the same told by the host's calls and by the slot, for each kind of work
module _ (answered : List ℕ → List ℕ → Type 0) (unused : Type 0) (does : HostActed Served → Type 0) (h : HostView)
    (id now : ℕ) (slot : Slot) (e : named_slot h.slots id ≡ Some slot) where
  by_work : (work : Work) → work ≡ work_of slot.conn → DoesWorkByCalls answered unused does h id now (Some work)
      → DoesWorkBy answered unused (λ acted. does (in_slot h (place_of id) slot acted)) slot.conn now work
  by_work (NotOpen state) e' done = (done.0, subst does (quiet_in h id slot _ e) done.1)
  by_work Nothing e' done = (done.0, subst does (quiet_in h id slot _ e) done.1)
  by_work Full e' done = (done.0, subst does (quiet_in h id slot _ e) done.1)
  by_work LastItem e' done = (done.0, subst does (finished_in h id slot e) done.1)
  by_work (Command body) e' done =
      (done.0, done.1, subst does (replied_in h id slot done.0 now e (opened_for slot.conn body e')) done.2)

pub serves_in : (answered : List ℕ → List ℕ → Type 0) (unused : Type 0) (does : HostActed Served → Type 0)
    (h : HostView) (id now : ℕ) (found : Option Slot)
    → found ≡ named_slot h.slots id
    → DoesWorkByCalls answered unused does h id now (option_map (λ slot. work_of slot.conn) found)
    → DoesWorkInSlotBy answered unused does h (place_of id) now found
serves_in answered unused does h id now None e done = done
serves_in answered unused does h id now (Some slot) e done =
    by_work answered unused does h id now slot (sym e) (work_of slot.conn) refl done

pub serves_one : (answered : List ℕ → List ℕ → Type 0) (unused : Type 0) (does : HostActed Served → Type 0)
    (h : HostView) (id now : ℕ)
    → DoesWorkByCalls answered unused does h id now (work_at h id)
    → DoesWorkInSlotBy answered unused does h (place_of id) now (named_slot h.slots id)
serves_one answered unused does h id now done =
    serves_in answered unused does h id now (named_slot h.slots id) refl done

-- what holds of a command that was answered, and of none that was given, holds still where something weaker is asked
module _ (answered answered' : List ℕ → List ℕ → Type 0) (unused unused' : Type 0)
    (weaker : (command reply : List ℕ) → answered command reply → answered' command reply) (rests : unused → unused')
  where
    work_so : (does : Acted Served → Type 0) (v : ConnView) (now : ℕ) (work : Work)
        → DoesWorkBy answered unused does v now work → DoesWorkBy answered' unused' does v now work
    work_so does v now (NotOpen state) done = (rests done.0, done.1)
    work_so does v now Nothing done = (rests done.0, done.1)
    work_so does v now Full done = (rests done.0, done.1)
    work_so does v now LastItem done = (rests done.0, done.1)
    work_so does v now (Command body) done = (done.0, weaker body done.0 done.1, done.2)

    pub slot_so : (does : HostActed Served → Type 0) (h : HostView) (place now : ℕ) (found : Option Slot)
        → DoesWorkInSlotBy answered unused does h place now found → DoesWorkInSlotBy answered' unused' does h place now found
    slot_so does h place now None done = (rests done.0, done.1)
    slot_so does h place now (Some slot) done =
        work_so (λ acted. does (in_slot h place slot acted)) slot.conn now (work_of slot.conn) done

-- a connection that was served and reported was served
pub reported_so : (store : StoreChange) (s t : SessionView) (made : Option Change) (does : HostActed Served → Type 0)
    (h : HostView) (place now : ℕ) (found : Option Slot)
    → DoesWorkInSlotBy (IsReported store s t made) (IsUnreported store s t made) does h place now found
    → DoesWorkInSlot store s t does h place now found
reported_so store s t made does h place now found done =
    slot_so (IsReported store s t made) (IsAnswered store s t) (IsUnreported store s t made) (IsUnused store s t)
    (λ command reply both. both.0) (λ both. both.0) does h place now found done
