-- Each step of a host is the call of one connection, or no connection does anything.
use Rattle.std.proofs.Common.{◌≡◌, ℕ, ◌≤◌, ◌==◌, Bool, true, false, not, if◌then◌else◌, List, [], length, nat_lt, slice_get, slice_set, Option, Some, None, position, refl, sym, ap, ◌∙◌, subst, arith}
use Rattle.std.specs.List.{AllByRecursion}
use Rattle.std.proofs.lemmas.Bool.{false≢true, cond-false, cond-true}
use Rattle.std.proofs.lemmas.List.{set-get_or}
use Rattle.std.proofs.lemmas.List.Quantifiers.{position-Some}
use Rattle.std.proofs.lemmas.Bool.Decides.{nat_tests}
use Rattle.std.proofs.lemmas.Option.{slice_get_within, get_or_from_slice_get}
use Rattle.chaos_packet.specs.Packet.{PacketView, contact_of}
use Rattle.chaos_packet.specs.declared.limits.TheConstants.{MAX_DATA}
use Rattle.chaos_packet.specs.Opcode.{kind_of, is_rfc}
use Rattle.chaos_conn.specs.declared.state.State.{State}
use Rattle.chaos_conn.specs.declared.state.State.TheVariants as st
use Rattle.chaos_conn.specs.State.{is_inactive, is_live, is_ended}
use Rattle.chaos_conn.specs.Acted.{quietly}
use Rattle.chaos_conn.specs.Arriving.{act_deliver}
use Rattle.chaos_conn.specs.Act.{Call, act}
use Rattle.chaos_conn.specs.declared.answers.Delivered.TheVariants as answer
use Rattle.chaos_conn.specs.declared.answers.Why.TheVariants as why
use Rattle.chaos_conn.specs.Act.Call.{Request, TakeRequest, Accept, Answer, Reject, Deliver, Write, Unc, Read, FinishRead, Announce, Close, Tick}
use Rattle.chaos_conn.specs.Names.{IsBare, begins, ends, ConfigStays}
use Rattle.chaos_host.specs.declared.slot.Slot.{Slot}
use Rattle.chaos_host.specs.declared.route.Route.{Route}
use Rattle.chaos_host.specs.declared.route.Route.TheVariants as to
use Rattle.chaos_host.specs.declared.fault.ListenFault.{ListenFault}
use Rattle.chaos_host.specs.Law.{may_end}
use Rattle.chaos_host.specs.Slot.{is_used, is_free, named_slot, place_of, free_place, after_ending, took_from, comes_from, IsTable}
use Rattle.chaos_host.specs.View.{HostView, IsHost, own_end}
use Rattle.chaos_host.specs.Acted.{with_slot, slot_after_call}
use Rattle.chaos_host.specs.Route.{route, route_taken, route_request, route_named, route_no_conn, needs_conn}
use Rattle.chaos_host.specs.Deliver.{deliver_by, deliver_slot, take_request_slot}
use Rattle.chaos_host.specs.Connect.{connect_at, connect_slot}
use Rattle.chaos_host.specs.Calls.{call_slot, end_slot, release_slot}
use Rattle.chaos_host.specs.Listening.{listen_fault, after_listen, has_listener}
use Rattle.chaos_host.specs.Tick.{tick_slot}
use Rattle.chaos_host.specs.Deeds.{HostMade, Deed, IsDeed, IsDone, IsNothing, FitsSlot, is_users, made_of, host_made, deed_of, deed_by, by_used, by_free, by_named, by_ended, by_asking, by_lowest, HasDeeds, StaysHost}
use Rattle.chaos_host.specs.Deeds.HostEvent.{Comes, Calls, Ends, Releases, Connects, Listens, Ticks}
use Rattle.chaos_host.specs.Deeds.Deed.{Nothing, Does}
use Rattle.chaos_host.proofs.InUse.{stays_in_use}
use Rattle.chaos_host.proofs.Indices.{named_is}
use Rattle.chaos_host.proofs.Requests.{takes, asks, not_zero}
use Rattle.chaos_host.proofs.Table.{table_ended}

-- ---- slots

pub free_of_used : (slot : Slot) → is_used slot ≡ true → is_free slot ≡ false
free_of_used slot h = by (is_free slot) h
  where
    by : (b : Bool) → not b ≡ true → b ≡ false
    by false h = refl
    by true h = absurd (false≢true h)

pub free_of_unused : (slot : Slot) → is_used slot ≡ false → is_free slot ≡ true
free_of_unused slot h = by (is_free slot) h
  where
    by : (b : Bool) → not b ≡ false → b ≡ true
    by true h = refl
    by false h = absurd (false≢true (sym h))

-- a slot in use is not freed
stays : (slot : Slot) → is_free slot ≡ false → slot ≡ after_ending slot
stays slot h = sym (cond-false (is_free slot) _ slot h)

-- by the test
pub either_where : {A : Type 0} (P : A → Type 0) (b : Bool) (x y : A) → (b ≡ true → P x) → (b ≡ false → P y)
    → P (if b then x else y)
either_where P true x y p q = p refl
either_where P false x y p q = q refl

-- both by the same test
pub both_where : {A B : Type 0} (P : A → B → Type 0) (b : Bool) (x y : A) (u v : B) → (b ≡ true → P x u)
    → (b ≡ false → P y v) → P (if b then x else y) (if b then u else v)
both_where P true x y u v p q = p refl
both_where P false x y u v p q = q refl

nothing : (v : HostView) → IsNothing v (record { view = v; packets = [] })
nothing v = record { address = refl; config = refl; slots = refl; packets = tt }

-- a call that begins nothing fits a slot in use
fits_used : (v : HostView) (place : ℕ) (slot : Slot) (call : Call) → begins call ≡ false → is_free slot ≡ false
    → FitsSlot v place slot call
fits_used v place slot (Request me peer contact start now) b h = absurd (false≢true (sym b))
fits_used v place slot (TakeRequest rfc me now) b h = absurd (false≢true (sym b))
fits_used v place slot (Accept start now) b h = h
fits_used v place slot (Answer bytes) b h = h
fits_used v place slot (Reject text) b h = h
fits_used v place slot (Deliver p now) b h = h
fits_used v place slot (Write op bytes now) b h = h
fits_used v place slot (Unc bytes) b h = h
fits_used v place slot Read b h = h
fits_used v place slot FinishRead b h = h
fits_used v place slot (Announce window) b h = h
fits_used v place slot (Close text) b h = h
fits_used v place slot (Tick now) b h = h

-- what the calls of a user are
pub users_go_on : (call : Call) → is_users call ≡ true → (begins call ≡ false) × (may_end call ≡ false)
users_go_on (Request me peer contact start now) h = absurd (false≢true h)
users_go_on (TakeRequest rfc me now) h = absurd (false≢true h)
users_go_on (Accept start now) h = (refl, refl)
users_go_on (Answer bytes) h = absurd (false≢true h)
users_go_on (Reject text) h = absurd (false≢true h)
users_go_on (Deliver p now) h = absurd (false≢true h)
users_go_on (Write op bytes now) h = (refl, refl)
users_go_on (Unc bytes) h = (refl, refl)
users_go_on Read h = (refl, refl)
users_go_on FinishRead h = (refl, refl)
users_go_on (Announce window) h = (refl, refl)
users_go_on (Close text) h = absurd (false≢true h)
users_go_on (Tick now) h = absurd (false≢true h)

ends_begin_none : (call : Call) → ends call ≡ true → begins call ≡ false
ends_begin_none (Request me peer contact start now) h = absurd (false≢true h)
ends_begin_none (TakeRequest rfc me now) h = absurd (false≢true h)
ends_begin_none (Accept start now) h = absurd (false≢true h)
ends_begin_none (Answer bytes) h = refl
ends_begin_none (Reject text) h = refl
ends_begin_none (Deliver p now) h = absurd (false≢true h)
ends_begin_none (Write op bytes now) h = absurd (false≢true h)
ends_begin_none (Unc bytes) h = absurd (false≢true h)
ends_begin_none Read h = absurd (false≢true h)
ends_begin_none FinishRead h = absurd (false≢true h)
ends_begin_none (Announce window) h = absurd (false≢true h)
ends_begin_none (Close text) h = refl
ends_begin_none (Tick now) h = absurd (false≢true h)

-- a call on a connection in use that goes on
goes_on : (v : HostView) (place : ℕ) (slot : Slot) (call : Call) → slice_get v.slots place ≡ Some slot
    → is_free slot ≡ false → begins call ≡ false → may_end call ≡ false
    → IsDone v place call
    (record { view = with_slot v place (slot_after_call slot call); packets = (act slot.conn call).packets })
goes_on v place slot call there used b e = record {
  slot = slot;
  there = there;
  fits = fits_used v place slot call b used;
  view = ap (with_slot v place) (stays (slot_after_call slot call) (stays_in_use slot.conn call e used));
  packets = refl;
}

ends_here : (v : HostView) (place : ℕ) (slot : Slot) (call : Call) → slice_get v.slots place ≡ Some slot
    → is_free slot ≡ false → begins call ≡ false
    → IsDone v place call
    (record
    { view = with_slot v place (after_ending (slot_after_call slot call)); packets = (act slot.conn call).packets })
ends_here v place slot call there used b =
    record { slot = slot; there = there; fits = fits_used v place slot call b used; view = refl; packets = refl }

-- ---- the user's calls

called : (v : HostView) (id : ℕ) (call : Call) (o : Option Slot) → named_slot v.slots id ≡ o → is_users call ≡ true
    → IsDeed v (by_named id call o) (made_of (call_slot v id call o))
called v id call None is u = nothing v
called v id call (Some slot) is u =
    let n = named_is id (slice_get v.slots (place_of id)) slot is in
    let g = users_go_on call u in
    goes_on v (place_of id) slot call n.0 (free_of_used slot n.1) g.0 g.1

ended : (v : HostView) (id : ℕ) (call : Call) (o : Option Slot) → named_slot v.slots id ≡ o → ends call ≡ true
    → IsDeed v (by_named id call o) (made_of (end_slot v id call o))
ended v id call None is u = nothing v
ended v id call (Some slot) is u =
    let n = named_is id (slice_get v.slots (place_of id)) slot is in
    ends_here v (place_of id) slot call n.0 (free_of_used slot n.1) (ends_begin_none call u)

released : (v : HostView) (id : ℕ) (o : Option Slot) → named_slot v.slots id ≡ o
    → IsDeed v (by_ended id o) (made_of (release_slot v id o))
released v id None is = nothing v
released v id (Some slot) is =
    let n = named_is id (slice_get v.slots (place_of id)) slot is in
    both_where (λ d a. IsDeed v d (made_of a)) (is_ended slot.conn.state) _ _ _ _
    (λ _. ends_here v (place_of id) slot (Close []) n.0 (free_of_used slot n.1) refl)
    (λ _. nothing v)

ticked : (v : HostView) (place now : ℕ) (o : Option Slot) → slice_get v.slots place ≡ o
    → IsDeed v (by_used place (Tick now) o) (made_of (tick_slot v place now o))
ticked v place now None is = nothing v
ticked v place now (Some slot) is =
    both_where (λ d a. IsDeed v d (made_of a)) (is_used slot) _ _ _ _
    (λ used. goes_on v place slot (Tick now) is (free_of_used slot used) refl refl)
    (λ _. nothing v)

-- the place of the lowest free slot has a free slot
pub free_there : (slots : List Slot) (place : ℕ) (slot : Slot) → free_place slots ≡ Some place
    → slice_get slots place ≡ Some slot → is_free slot ≡ true
free_there slots place slot h there =
    let at = position-Some is_free slots place slot h in
    sym (ap is_free (get_or_from_slice_get slots place slot slot there)) ∙ at.1

-- what a free slot takes is in use
begun : (v : HostView) (place : ℕ) (slot : Slot) (call : Call) → is_free (slot_after_call slot call) ≡ false
    → with_slot v place (slot_after_call slot call) ≡ with_slot v place (after_ending (slot_after_call slot call))
begun v place slot call used = ap (with_slot v place) (stays (slot_after_call slot call) used)

pub fits_data : (n : ℕ) → nat_lt MAX_DATA n ≡ false → n ≤ MAX_DATA
fits_data n h = grind (arith, nat_tests)

asked : (v : HostView) (place peer : ℕ) (contact : List ℕ) (start now : ℕ) (o : Option Slot) → IsHost v
    → free_place v.slots ≡ Some place → slice_get v.slots place ≡ o → nat_lt MAX_DATA (length contact) ≡ false
    → (peer == 0) ≡ false
    → IsDeed v (by_asking v place peer contact start now o) (made_of (connect_slot v place peer contact start now o))
asked v place peer contact start now None host lowest is short far = nothing v
asked v place peer contact start now (Some slot) host lowest is short far =
    let free = free_there v.slots place slot lowest is in
    let call : Call = Request (own_end v place slot) peer contact start now in
    record {
      slot = slot;
      there = is;
      fits = (free, refl, short, far);
      view =
          begun v place slot call
          (ap is_inactive
          (asks slot.conn (own_end v place slot) peer contact start now free (not_zero v.address host.address)
          far (fits_data (length contact) short)));
      packets = refl;
    }

connected : (v : HostView) (peer : ℕ) (contact : List ℕ) (start now : ℕ) (o : Option ℕ) → IsHost v
    → free_place v.slots ≡ o
    → IsDeed v (by_lowest v peer contact start now o) (made_of (connect_at v peer contact start now o))
connected v peer contact start now None host is = nothing v
connected v peer contact start now (Some place) host is =
    both_where (λ d a. IsDeed v d (made_of a)) (nat_lt MAX_DATA (length contact)) _ _ _ _
    (λ _. nothing v)
    (λ short. both_where (λ d a. IsDeed v d (made_of a)) (peer == 0) _ _ _ _
    (λ _. nothing v)
    (λ far. asked v place peer contact start now (slice_get v.slots place) host is refl short far))

listened : (v : HostView) (contact : List ℕ) (o : Option ListenFault)
    → IsNothing v (record { view = after_listen o v contact; packets = [] })
listened v contact None = record { address = refl; config = refl; slots = refl; packets = tt }
listened v contact (Some fault) = record { address = refl; config = refl; slots = refl; packets = tt }

-- ---- a packet that comes

-- a new request is an RFC, and the place of the lowest free slot is told
abbrev pub Routed : HostView → PacketView → Route → Type 0
Routed v p (to.Request place) =
    (free_place v.slots ≡ Some place) × ((p.src == 0) ≡ false) × (is_rfc (kind_of p.op) ≡ true)
Routed v p _ = Unit {0}

routed_request : (v : HostView) (p : PacketView) (o : Option ℕ) → free_place v.slots ≡ o → (p.src == 0) ≡ false
    → is_rfc (kind_of p.op) ≡ true → Routed v p (route_request o)
routed_request v p None is far rfc = tt
routed_request v p (Some place) is far rfc = (is, far, rfc)

routed_taken : (v : HostView) (p : PacketView) (o : Option ℕ) → (p.src == 0) ≡ false → is_rfc (kind_of p.op) ≡ true
    → Routed v p (route_taken v p o)
routed_taken v p (Some place) far rfc = tt
routed_taken v p None far rfc =
    either_where (Routed v p) (has_listener v.listeners (contact_of p)) _ _
    (λ _. routed_request v p (free_place v.slots) refl far rfc) (λ _. tt)

routed_none : (v : HostView) (p : PacketView) → Routed v p (route_no_conn p)
routed_none v p = either_where (Routed v p) (needs_conn (kind_of p.op)) _ _ (λ _. tt) (λ _. tt)

routed_named : (v : HostView) (p : PacketView) (o : Option Slot) → Routed v p (route_named p o)
routed_named v p None = routed_none v p
routed_named v p (Some slot) = either_where (Routed v p) (comes_from p slot) _ _ (λ _. tt) (λ _. routed_none v p)

pub routed : (v : HostView) (p : PacketView) → Routed v p (route v p)
routed v p =
    either_where (Routed v p) (not (p.dst == v.address)) _ _ (λ _. tt)
    (λ _. either_where (Routed v p) (p.src == 0) _ _ (λ _. tt)
    (λ far. either_where (Routed v p) (is_rfc (kind_of p.op)) _ _
    (λ rfc. routed_taken v p (position (took_from p) v.slots) far rfc)
    (λ _. routed_named v p (named_slot v.slots p.dst_index))))

pub not_live : (s : State) → is_inactive s ≡ true → is_live s ≡ false
not_live st.Inactive h = refl
not_live st.RfcSent h = absurd (false≢true h)
not_live st.RfcReceived h = absurd (false≢true h)
not_live st.Open h = absurd (false≢true h)
not_live st.Answered h = refl
not_live st.ClsReceived h = refl
not_live st.LosReceived h = refl
not_live st.HostDown h = refl
not_live st.Forwarded h = refl

-- an inactive connection makes nothing of a packet
unmoved : (v : HostView) (p : PacketView) (now place : ℕ) (slot : Slot) → slice_get v.slots place ≡ Some slot
    → is_free slot ≡ true
    → IsNothing v
    (record
    { view = with_slot v place (slot_after_call slot (Deliver p now)); packets = (act slot.conn (Deliver p now)).packets })
unmoved v p now place slot there free =
    let dead = not_live slot.conn.state free in
    let still : act_deliver slot.conn p now ≡ quietly slot.conn (answer.Dropped why.NotOpen) =
    cond-true _ _ _ (ap not dead) in
    let same : slot_after_call slot (Deliver p now) ≡ slot = λ j. record slot { conn = (still j).view } in
    record {
      address = refl;
      config = refl;
      slots =
          ap (slice_set v.slots place) (same ∙ sym (get_or_from_slice_get v.slots place slot slot there))
          ∙ set-get_or v.slots place slot;
      packets = subst (AllByRecursion IsBare) (sym (ap (λ a. a.packets) still)) tt;
    }

came_used : (v : HostView) (p : PacketView) (now place : ℕ) (o : Option Slot) → slice_get v.slots place ≡ o
    → IsDeed v (by_used place (Deliver p now) o) (made_of (deliver_slot v p now place o))
came_used v p now place None is = nothing v
came_used v p now place (Some slot) is =
    either_where (λ d. IsDeed v d (made_of (deliver_slot v p now place (Some slot)))) (is_used slot) _ _
    (λ used. goes_on v place slot (Deliver p now) is (free_of_used slot used) refl refl)
    (λ unused. unmoved v p now place slot is (free_of_unused slot unused))

came_free : (v : HostView) (p : PacketView) (now place : ℕ) (o : Option Slot) → IsHost v → slice_get v.slots place ≡ o
    → Routed v p (to.Request place) → IsDeed v (by_free v p now place o) (made_of (take_request_slot v p now place o))
came_free v p now place None host is r = nothing v
came_free v p now place (Some slot) host is r =
    let free = free_there v.slots place slot r.0 is in
    let call : Call = TakeRequest p (own_end v place slot) now in
    record {
      slot = slot;
      there = is;
      fits = (free, refl, r.1, r.2);
      view =
          begun v place slot call
          (ap is_inactive
          (takes slot.conn p (own_end v place slot) now free (not_zero v.address host.address) r.1 r.2));
      packets = refl;
    }

came : (v : HostView) (p : PacketView) (now : ℕ) (r : Route) → IsHost v → Routed v p r
    → IsDeed v (deed_by v p now r) (made_of (deliver_by v p now r))
came v p now to.NotOurs host r = nothing v
came v p now to.NoSource host r = nothing v
came v p now (to.Slot place) host r = came_used v p now place (slice_get v.slots place) refl
came v p now to.NoServer host r = record { address = refl; config = refl; slots = refl; packets = ((refl, refl), tt) }
came v p now to.TableFull host r = record { address = refl; config = refl; slots = refl; packets = ((refl, refl), tt) }
came v p now (to.Request place) host r = came_free v p now place (slice_get v.slots place) host refl r
came v p now to.SendLos host r = record { address = refl; config = refl; slots = refl; packets = ((refl, refl), tt) }
came v p now to.DropSilently host r = nothing v

pub has_deeds : HasDeeds
has_deeds v (Comes p now) host e = came v p now (route v p) host (routed v p)
has_deeds v (Calls id call) host e = called v id call (named_slot v.slots id) refl e
has_deeds v (Ends id call) host e = ended v id call (named_slot v.slots id) refl e
has_deeds v (Releases id) host e = released v id (named_slot v.slots id) refl
has_deeds v (Connects peer contact start now) host e = connected v peer contact start now (free_place v.slots) host refl
has_deeds v (Listens contact) host e = listened v contact (listen_fault v.listeners contact)
has_deeds v (Ticks place now) host e = ticked v place now (slice_get v.slots place) refl

-- ---- it leaves a host

stays_by : ConfigStays → (v : HostView) (deed : Deed) (made : HostMade) → IsHost v → IsDeed v deed made
    → IsHost made.view
stays_by config v Nothing made host d = record {
  address = subst (λ a. 1 ≤ a) (sym d.address) host.address;
  table = subst (λ (z : _ × _). IsTable z.0 z.1) (λ j. (sym d.config j, sym d.slots j)) host.table;
}
stays_by config v (Does place call) made host d =
    let within = slice_get_within v.slots place d.slot d.there in
    let read = sym (get_or_from_slice_get v.slots place d.slot d.slot d.there) in
    let acted = slot_after_call d.slot call in
    subst IsHost (sym d.view)
    (record {
      address = host.address;
      table =
          table_ended v.config v.slots place d.slot acted (after_ending acted) call within read refl
          (config d.slot.conn call) refl host.table;
    })

pub stays_host : ConfigStays → StaysHost
stays_host config v event host e =
    stays_by config v (deed_of v event) (host_made v event) host (has_deeds v event host e)
