-- A connection has written no more items than its host sent packets.
use Rattle.std.proofs.Common.{◌≡◌, ℕ, ◌+◌, ◌≤◌, ◌==◌, Bool, true, false, if◌then◌else◌, List, [], ◌∷◌, ◌++◌, length, map, Option, Some, None, Ok, Err, refl, sym, ap, ◌∙◌, subst, ⊎_elim, arith}
use Rattle.std.specs.Prelude.{Result, nat_lt, slice_get}
use Rattle.std.proofs.lemmas.Bool.{cases_Bool, false≢true}
use Rattle.std.proofs.lemmas.List.{length-append, length-map}
use Rattle.chaos_packet.specs.Item.{ItemView}
use Rattle.chaos_packet.specs.Opcode.{kind_of}
use Rattle.chaos_packet.specs.Packet.{item_of}
use Rattle.chaos_conn.specs.Act.{Call, Wrote, act}
use Rattle.chaos_conn.specs.Act.Call.{Request, TakeRequest, Accept, Answer, Reject, Deliver, Write, Unc, Read, FinishRead, Announce, Close, Tick}
use Rattle.chaos_conn.specs.Acted.{Acted, quietly}
use Rattle.chaos_conn.specs.Calls.{has_window, most_bytes, write_at_most, write_item}
use Rattle.chaos_conn.specs.Names.{is_refused}
use Rattle.chaos_conn.specs.Sending.{with_item}
use Rattle.chaos_conn.specs.State.{is_open}
use Rattle.chaos_conn.specs.View.{ConnView, moment}
use Rattle.chaos_conn.specs.declared.fault.ConnFault.{ConnFault}
use Rattle.chaos_conn.specs.declared.fault.ConnFault.TheVariants as fault
use Rattle.chaos_window.specs.Send.{next_of}
use Rattle.chaos_host.proofs.Deeds.{has_deeds}
use Rattle.chaos_host.proofs.Requests.{not_zero}
use Rattle.chaos_host.specs.Deeds.{Deed, FitsSlot, HostEvent, HostMade, IsDeed, IsEvent, deed_of, host_made}
use Rattle.chaos_host.specs.Deeds.HostEvent.{Comes, Calls, Ends, Releases, Connects, Listens, Ticks}
use Rattle.chaos_host.specs.Deeds.Deed.{Nothing, Does}
use Rattle.chaos_host.specs.Slot.{is_free}
use Rattle.chaos_host.specs.View.{HostView, IsHost}
use Rattle.chaos_host.specs.declared.slot.Slot.{Slot}
use Rattle.chaos_lab.specs.declared.side.Side.{Side}
use Rattle.chaos_lab.specs.declared.side.Side.TheVariants.{A, B}
use Rattle.chaos_lab.specs.Machine.{other}
use Rattle.chaos_net.specs.Net.{Name, Story, Sent, Station, Net, NetEvent, IsNew, IsOwn, CanHappen, Run, Reached, after_deed, after_event, after_slot, arrives, goes_on, happens, is_name, length_of, lengths_of, moved, present, sender, sent_by, story_after, story_of, with_station}
use Rattle.chaos_net.specs.Net.NetEvent.{At, Arrives}
use Rattle.chaos_net.specs.Played.{ArePlayed, IsStation}
use Rattle.chaos_net.proofs.Network.{start_is_played, steps_are_played}
use Rattle.chaos_net.proofs.Pairs.{asks_rfc}

-- ---- a write that is taken puts out a packet

abbrev Puts : Acted (Result ℕ ConnFault) → Type 0
Puts a = is_refused (Wrote a.answer) ≡ false → 1 ≤ length a.packets

either_puts : (b : Bool) (x y : Acted (Result ℕ ConnFault)) → Puts x → Puts y → Puts (if b then x else y)
either_puts true x y p q = p
either_puts false x y p q = q

refused_puts : (v : ConnView) (why : ConnFault) → Puts (quietly v (Err why))
refused_puts v why taken = absurd (false≢true (sym taken))

item_puts : (v : ConnView) (item : ItemView) (number : ℕ) → Puts (with_item v item (Ok number))
item_puts v item number taken = omega arith

most_puts : (v : ConnView) (o : Option ℕ) (item : ItemView) (t : ℕ) → Puts (write_at_most v o item t)
most_puts v None item t = refused_puts v fault.BadOp
most_puts v (Some most) item t =
    either_puts (nat_lt most (length item.body)) (quietly v (Err fault.TooLong)) (write_item v item t)
    (refused_puts v fault.TooLong)
    (either_puts (has_window v.send) (with_item (record v { last = t; untold = 0 }) item (Ok (next_of v.send)))
    (quietly v (Err fault.Full)) (item_puts (record v { last = t; untold = 0 }) item (next_of v.send)) (refused_puts v fault.Full))

write_puts : (v : ConnView) (op : ℕ) (bytes : List ℕ) (now : ℕ)
    → is_refused (act v (Write op bytes now)).answer ≡ false → 1 ≤ length (act v (Write op bytes now)).packets
write_puts v op bytes now =
    either_puts (is_open v.state) (write_at_most v (most_bytes (kind_of op)) (record { op = op; body = bytes }) (moment v now))
    (quietly v (Err fault.NotOpen)) (most_puts v (most_bytes (kind_of op)) (record { op = op; body = bytes }) (moment v now))
    (refused_puts v fault.NotOpen)

-- ---- a story grows by no more items than packets go out

same_or : (b : Bool) (items : List ItemView) (k : ℕ) → length (if b then items else items) ≤ length items + k
same_or true items k = omega arith
same_or false items k = omega arith

on_few : (s : Story) (call : Call) (from : Option Name)
    → length_of (Some (goes_on s call from)) ≤ length s.end.written + length (act s.end.conn call).packets
on_few s (Write op bytes now) from = by (is_refused (act s.end.conn (Write op bytes now)).answer) refl
  where
    by : (b : Bool) → is_refused (act s.end.conn (Write op bytes now)).answer ≡ b
        → length (if b then s.end.written else s.end.written ++ (record { op = op; body = bytes }) ∷ [])
        ≤ length s.end.written + length (act s.end.conn (Write op bytes now)).packets
    by true is = omega arith
    by false is =
        let some = write_puts s.end.conn op bytes now is in
        let one = length-append s.end.written ((record { op = op; body = bytes }) ∷ []) in
        omega (arith, some, one)
on_few s (Accept start now) from = by (is_refused (act s.end.conn (Accept start now)).answer)
  where
    by : (b : Bool)
        → length (if b then s.end.written else s.end.written ++ map item_of (act s.end.conn (Accept start now)).packets)
        ≤ length s.end.written + length (act s.end.conn (Accept start now)).packets
    by true = omega arith
    by false =
        let one = length-append s.end.written (map item_of (act s.end.conn (Accept start now)).packets) in
        let two = length-map (act s.end.conn (Accept start now)).packets item_of in
        omega (arith, one, two)
on_few s (Request me peer contact start now) from = same_or (is_refused (act s.end.conn (Request me peer contact start now)).answer) s.end.written _
on_few s (TakeRequest rfc me now) from = same_or (is_refused (act s.end.conn (TakeRequest rfc me now)).answer) s.end.written _
on_few s (Answer bytes) from = same_or (is_refused (act s.end.conn (Answer bytes)).answer) s.end.written _
on_few s (Reject text) from = same_or (is_refused (act s.end.conn (Reject text)).answer) s.end.written _
on_few s (Deliver p now) from = same_or (is_refused (act s.end.conn (Deliver p now)).answer) s.end.written _
on_few s (Unc bytes) from = same_or (is_refused (act s.end.conn (Unc bytes)).answer) s.end.written _
on_few s Read from = same_or (is_refused (act s.end.conn Read).answer) s.end.written _
on_few s FinishRead from = same_or (is_refused (act s.end.conn Read).answer) s.end.written _
on_few s (Announce window) from = same_or (is_refused (act s.end.conn (Announce window)).answer) s.end.written _
on_few s (Close text) from = same_or (is_refused (act s.end.conn (Close text)).answer) s.end.written _
on_few s (Tick now) from = same_or (is_refused (act s.end.conn (Tick now)).answer) s.end.written _

new_few : (v : HostView) → IsHost v → (place : ℕ) (slot : Slot) (call : Call) (from : Option Name)
    → FitsSlot v place slot call → length_of (story_of slot.conn call from) ≤ length (act slot.conn call).packets
new_few v h place slot (Request me peer contact start now) from fits =
    let here : (me.address == 0) ≡ false = ap (λ m. m.address == 0) fits.1 ∙ not_zero v.address h.address in
    let one = ap (λ a. length a.packets) (asks_rfc slot.conn me peer contact start now fits.0 here fits.3 fits.2) in
    omega (arith, one)
new_few v h place slot (TakeRequest rfc me now) from fits = omega arith
new_few v h place slot (Accept start now) from fits = omega arith
new_few v h place slot (Answer bytes) from fits = omega arith
new_few v h place slot (Reject text) from fits = omega arith
new_few v h place slot (Deliver p now) from fits = omega arith
new_few v h place slot (Write op bytes now) from fits = omega arith
new_few v h place slot (Unc bytes) from fits = omega arith
new_few v h place slot Read from fits = omega arith
new_few v h place slot FinishRead from fits = omega arith
new_few v h place slot (Announce window) from fits = omega arith
new_few v h place slot (Close text) from fits = omega arith
new_few v h place slot (Tick now) from fits = omega arith

-- ---- a deed, and an event

-- No connection of a station has written more than this.
abbrev WroteAtMost : ℕ → Station → Type 0
WroteAtMost k st = (name : Name) → length_of (st.story name) ≤ k

story_few : (own far : Station) → IsStation own far → (place : ℕ) (call : Call) (from : Option Name) (slot : Slot) (k : ℕ)
    → slice_get own.host.slots place ≡ Some slot → FitsSlot own.host place slot call → WroteAtMost k own
    → length_of (story_after (own.story (present own place)) slot.conn call from) ≤ k + length (act slot.conn call).packets
story_few own far h place call from slot k there fits few = ⊎_elim as_new as_used (cases_Bool (is_free slot))
  where
    as_new : is_free slot ≡ true
        → length_of (story_after (own.story (present own place)) slot.conn call from) ≤ k + length (act slot.conn call).packets
    as_new free =
        let none = (h.slots place slot there).free free in
        let new = new_few own.host h.host place slot call from fits in
        subst (λ o. length_of (story_after o slot.conn call from) ≤ k + length (act slot.conn call).packets) (sym none)
        (omega (arith, new))

    as_used : is_free slot ≡ false
        → length_of (story_after (own.story (present own place)) slot.conn call from) ≤ k + length (act slot.conn call).packets
    as_used used =
        let u = (h.slots place slot there).used used in
        let s : Story = u.0 in
        let most : length s.end.written ≤ k =
        subst (λ (o : Option Story). length_of o ≤ k) u.1 (few (present own place)) in
        let more : length_of (Some (goes_on s call from)) ≤ length s.end.written + length (act slot.conn call).packets =
        subst (λ v. length_of (Some (goes_on s call from)) ≤ length s.end.written + length (act v call).packets) u.2
        (on_few s call from) in
        subst (λ o. length_of (story_after o slot.conn call from) ≤ k + length (act slot.conn call).packets) (sym u.1)
        (omega (arith, most, more))

deed_few : (own far : Station) → IsStation own far → (d : Deed) (made : HostMade) → IsDeed own.host d made
    → (from : Option Name) (k : ℕ) → WroteAtMost k own → WroteAtMost (k + length made.packets) (after_deed own d from)
deed_few own far h Nothing made done from k few name = let most = few name in omega (arith, most)
deed_few own far h (Does place call) made done from k few name =
    let sent = ap length done.packets in
    let most = few name in
    let more = story_few own far h place call from done.slot k done.there done.fits few in
    subst (λ o. length_of ((after_slot own place call from o).story name) ≤ k + length made.packets) (sym done.there)
    (by (is_name name (present own place)) (omega (arith, sent, more)) (omega (arith, most)))
  where
    by : (b : Bool)
        → length_of (story_after (own.story (present own place)) done.slot.conn call from) ≤ k + length made.packets
        → length_of (own.story name) ≤ k + length made.packets
        → length_of (if b then story_after (own.story (present own place)) done.slot.conn call from else own.story name)
        ≤ k + length made.packets
    by true p q = p
    by false p q = q

-- No connection has written more items than its host sent packets.
abbrev pub AreFew : Net → Type 0
AreFew n = (x : Side) (name : Name) → length_of ((n x).story name) ≤ length (n x).sent

event_few : (n : Net) (x : Side) (event : HostEvent) (from : Option Name) → ArePlayed n → IsEvent event → AreFew n
    → AreFew (after_event n x event from)
event_few n A event from h is few = both
  where
    both : AreFew (after_event n A event from)
    both A name =
        let station = (h A).station in
        let most = deed_few (n A) (n B) station (deed_of (n A).host event) (host_made (n A).host event)
        (has_deeds (n A).host event station.host is) from (length (n A).sent) (few A) name in
        let grown = length-append (n A).sent
        (map (sent_by (sender (n A) (deed_of (n A).host event)) (lengths_of (with_station n A (moved (n A) event from)))) (host_made (n A).host event).packets) in
        let same = length-map (host_made (n A).host event).packets
        (sent_by (sender (n A) (deed_of (n A).host event)) (lengths_of (with_station n A (moved (n A) event from)))) in
        omega (arith, most, grown, same)
    both B name = few B name
event_few n B event from h is few = both
  where
    both : AreFew (after_event n B event from)
    both A name = few A name
    both B name =
        let station = (h B).station in
        let most = deed_few (n B) (n A) station (deed_of (n B).host event) (host_made (n B).host event)
        (has_deeds (n B).host event station.host is) from (length (n B).sent) (few B) name in
        let grown = length-append (n B).sent
        (map (sent_by (sender (n B) (deed_of (n B).host event)) (lengths_of (with_station n B (moved (n B) event from)))) (host_made (n B).host event).packets) in
        let same = length-map (host_made (n B).host event).packets
        (sent_by (sender (n B) (deed_of (n B).host event)) (lengths_of (with_station n B (moved (n B) event from)))) in
        omega (arith, most, grown, same)

own_is_event : (event : HostEvent) → IsOwn event → IsEvent event
own_is_event (Comes packet now) own = tt
own_is_event (Connects peer contact start now) own = tt
own_is_event (Calls id call) own = own
own_is_event (Ends id call) own = own
own_is_event (Releases id) own = own
own_is_event (Listens contact) own = own
own_is_event (Ticks place now) own = own

step_few : (n : Net) (event : NetEvent) → ArePlayed n → CanHappen n event → AreFew n → AreFew (happens n event)
step_few n (At x event) h can few = event_few n x event None h (own_is_event event can) few
step_few n (Arrives x number now) h can few = by (slice_get (n (other x)).sent number)
  where
    by : (o : Option Sent) → AreFew (arrives n x now o)
    by None = few
    by (Some q) = event_few n x (Comes q.packet now) q.by h tt few

runs_few : (events : List NetEvent) (n m : Net) → ArePlayed n → Run n events m → AreFew n → AreFew m
runs_few [] n m h run few = subst AreFew (sym run) few
runs_few (event ∷ events) n m h run few =
    runs_few events (happens n event) m (steps_are_played n event h run.0) run.1 (step_few n event h run.0 few)

new_few_at : (st : Station) → IsNew st → (name : Name) → length_of (st.story name) ≤ length st.sent
new_few_at st new name = subst (λ (z : Station). length_of (z.story name) ≤ length z.sent) (sym new.is) (omega arith)

pub reached_few : (n : Net) → Reached n → AreFew n
reached_few n r = runs_few r.events r.start n (start_is_played r.start r.a r.b) r.run at
  where
    at : AreFew r.start
    at A name = new_few_at (r.start A) r.a name
    at B name = new_few_at (r.start B) r.b name
