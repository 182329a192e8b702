-- One station of a running net did an event, and what follows for the whole.
use Rattle.std.proofs.Common.{◌≡◌, ℕ, ◌+◌, ◌≤◌, List, [], ◌++◌, length, map, ◌&&◌, Bool, true, false, if◌then◌else◌, Option, Some, None, Result, Ok, Err, append-nil, refl, sym, ap, ◌∙◌, subst, arith}
use Rattle.std.specs.Prelude.{slice_get, is_some, is_none}
use Rattle.std.specs.Global.{Vec}
use Rattle.chaos_window.specs.declared.limits.TheConstants.{MAX_WINDOW}
use Rattle.chaos_packet.specs.Packet.{PacketView}
use Rattle.chaos_packet.specs.Outbox.{OutboxView}
use Rattle.chaos_conn.specs.declared.answers.ReadEnd.{ReadEnd}
use Rattle.chaos_conn.specs.declared.answers.ReadDone.{ReadDone}
use Rattle.chaos_conn.specs.Act.Call.{Write, Read, FinishRead}
use Rattle.chaos_conn.specs.Act.Reply.{Wrote, Gave, Finished}
use Rattle.chaos_conn.specs.Calls.{front_of}
use Rattle.chaos_host.specs.declared.answers.HostDelivered.{HostDelivered}
use Rattle.chaos_host.specs.declared.fault.CallFault.{CallFault}
use Rattle.chaos_host.specs.declared.fault.ListenFault.{ListenFault}
use Rattle.chaos_host.specs.Acted.{HostActed, HostDoes}
use Rattle.chaos_host.specs.Calls.{host_call, reply_of, plain_reply_of}
use Rattle.chaos_host.specs.View.{HostView, host_look, id_at}
use Rattle.chaos_host.specs.Deliver.{host_deliver}
use Rattle.chaos_host.specs.Listening.{listen_fault, listen_answer, after_listen}
use Rattle.chaos_host.specs.Slot.{named_slot, place_of}
use Rattle.chaos_host.specs.Deeds.{HostEvent, host_made, made_of}
use Rattle.chaos_host.specs.Deeds.HostEvent.{Comes}
use Rattle.chaos_lab.specs.declared.side.Side.{Side}
use Rattle.chaos_lab.specs.declared.side.Side.TheVariants.{A, B}
use Rattle.chaos_lab.specs.Machine.{other}
use Rattle.chaos_net.specs.declared.desk.Desk.{Desk}
use Rattle.chaos_net.specs.declared.fault.NetFault.{NetFault}
use Rattle.chaos_net.specs.declared.fault.NetFault.TheVariants.{Stale}
use Rattle.chaos_net.specs.declared.kept_sent.KeptSent.{KeptSent}
use Rattle.chaos_net.specs.declared.mark.Mark.{Mark}
use Rattle.chaos_net.specs.declared.mark.Mark.TheVariants.{Frees, Stays}
use Rattle.chaos_net.specs.declared.net.Net.TheInside.{Inside}
use Rattle.chaos_net.specs.declared.seat.Seat.{Seat}
use Rattle.chaos_net.specs.declared.station.KeptStation.{KeptStation}
use Rattle.chaos_net.specs.declared.stations.Stations.{Stations}
use Rattle.chaos_net.specs.Inside.{IsEmpty, IsReady, Settles, station_view, kept_at, with_kept}
use Rattle.chaos_net.specs.Kept.{NetView, StationView, AreBelow, at, alter, before, after, seat_in, kept_by, station_after, may_come, arrival_fault, Delivers, end_mark, deliver_place, deliver_mark, place_in, mark_in}
use Rattle.chaos_net.specs.Net.{NetEvent, IsOwn, happens}
use Rattle.chaos_net.specs.Net.NetEvent.{At, Arrives}
use Rattle.chaos_net.specs.Running.{Happens, HasNet, ReadIsTold, FrontIsRead, WriteIsTold}
use Rattle.chaos_net.specs.Sound.{net_view, IsSound}
use Rattle.chaos_net.proofs.Events.{did, did_arrive}
use Rattle.chaos_net.proofs.Present.{reads_are_told, front_is_told, writes_are_told}
use Rattle.chaos_net.proofs.Standing.{IsMade}

-- ---- a station by its side

-- the net with another station at a side, and another desk
abbrev pub next : Inside → Side → KeptStation → Desk → Inside
next s x st desk = record { stations = with_kept s.stations x st; desk = desk }

at_is : (s : Inside) (x : Side) → station_view (kept_at s.stations x) ≡ at (net_view s) x
at_is s A = refl
at_is s B = refl

pub view_at : {v : NetView} {st : KeptStation} (s : Inside) (x : Side) → net_view s ≡ v → st ≡ kept_at s.stations x
    → station_view st ≡ at v x
view_at s x view is = ap station_view is ∙ at_is s x ∙ ap (λ (w : NetView). at w x) view

pub host_at : {v : NetView} {st : KeptStation} (s : Inside) (x : Side) → net_view s ≡ v → st ≡ kept_at s.stations x
    → st.host ≡ (at v x).host
host_at s x view is = ap (λ (z : StationView). z.host) (view_at s x view is)

-- no slot had more connections than there were events
pub turns : {st : KeptStation} {events : ℕ} (s : Inside) (x : Side) → IsSound s → st ≡ kept_at s.stations x
    → events ≡ s.desk.events + 1 → AreBelow events st.seats.items
turns {st = st} s x h is counted place seat there =
    let v = h.net.stands.stations x in
    let seats : st.seats.items ≡ (at (net_view s) x).seats = ap (λ (z : StationView). z.seats) (view_at s x refl is) in
    let turn = (v.seats place seat (ap (λ (z : List Seat). slice_get z place) (sym seats) ∙ there)).turn in
    let most = v.turns place in
    omega (arith, turn, most, counted)

-- ---- what holds afterwards

still_empty : (old new : Desk) → IsEmpty old → new.out ≡ old.out → IsEmpty new
still_empty old new h same =
    record { empty = ap (λ out. out.packets) same ∙ h.empty; room = subst (λ out. MAX_WINDOW ≤ out.cap) (sym same) h.room }

both_fit : (s : Stations) (x : Side) (st : KeptStation) → ((y : Side) → (kept_at s y).host.config.send_cap ≤ MAX_WINDOW)
    → st.host.config.send_cap ≤ MAX_WINDOW → (y : Side)
    → (kept_at (with_kept s x st) y).host.config.send_cap ≤ MAX_WINDOW
both_fit s A st all one A = one
both_fit s A st all one B = all B
both_fit s B st all one A = all A
both_fit s B st all one B = one

keeps : (s : Inside) (x : Side) (st : KeptStation) (desk : Desk) → IsSound s
    → st.host.config ≡ (kept_at s.stations x).host.config → desk.out ≡ s.desk.out
    → HasNet (net_view (next s x st desk)) → IsSound (next s x st desk)
keeps s x st desk h config out net = record {
  desk = still_empty s.desk desk h.desk out;
  windows =
      both_fit s.stations x st h.windows (subst (λ c. c.send_cap ≤ MAX_WINDOW) (sym config) (h.windows x));
  net = net;
}

-- ---- nothing happened

pub record Nothing (v : NetView) (new : Inside) : Type 0 where
  pub sound : IsSound new
  pub same : net_view new ≡ v

same_view : (s : Inside) (x : Side) (st : KeptStation) (desk : Desk)
    → station_view st ≡ station_view (kept_at s.stations x) → desk.events ≡ s.desk.events
    → net_view (next s x st desk) ≡ net_view s
same_view s A st desk same events = λ j. record { a = same j; b = station_view s.stations.b; events = events j }
same_view s B st desk same events = λ j. record { a = station_view s.stations.a; b = same j; events = events j }

-- there was no room for what the event may send
pub nothing : {v : NetView} {old : KeptStation} {sent : Vec KeptSent} {desk : Desk} {why : NetFault} (s : Inside)
    (x : Side)
    → IsSound s → net_view s ≡ v → old ≡ kept_at s.stations x → IsReady s.desk desk old.sent sent (Err why)
    → Nothing v (next s x (record old { sent = sent }) desk)
nothing {old = old} {sent = sent} {desk = desk} s x h view is r =
    let st : KeptStation = record old { sent = sent } in
    let items : station_view st ≡ station_view old =
    λ j. record { host = old.host; seats = old.seats.items; sent = r.sent j } in
    let same : net_view (next s x st desk) ≡ net_view s = same_view s x st desk (items ∙ ap station_view is) r.same in
    record {
      sound =
          keeps s x st desk h (ap (λ (k : KeptStation). k.host.config) is) r.out (subst HasNet (sym same) h.net);
      same = same ∙ view;
    }

-- ---- one station did this event

-- An event of a station, at a desk: it did that, and left the desk as it was, with one event more. by: the turn of the
-- connection that sent the packet that comes.
record IsDone (old new : KeptStation) (desk done : Desk) (event : HostEvent) (by : Option ℕ) : Type 0 where
  station : station_view new
      ≡ station_after (station_view old) event (place_in old.host event) (mark_in old.host event by) (desk.events + 1)
  config : new.host.config ≡ old.host.config
  size : length new.host.slots ≡ length old.host.slots
  out : done.out ≡ desk.out
  events : done.events ≡ desk.events + 1

module _ {A : Type 0} {acted : HostActed A} {told : A} {most : ℕ} {old host : HostView} {bare was out : OutboxView}
  where
    -- what the host put out is all that waits in the outbox
    outbox : bare.packets ≡ [] → was ≡ bare → HostDoes old most acted host was out told
        → out.packets ≡ acted.packets
    outbox none same d =
        ap (λ (o : OutboxView). o.packets) d.packets
        ∙ ap (λ (ps : List PacketView). ps ++ acted.packets) (ap (λ (o : OutboxView). o.packets) same ∙ none)

module _ {A : Type 0} {acted : HostActed A} {told : A} {most : ℕ} {host : HostView} {out : OutboxView}
    {sent : Vec KeptSent} {ready left desk : Desk} {old new : KeptStation} {place : Option ℕ} {mark : Mark} where
  -- there was room, the host did it, and the station settled that
  settled : (event : HostEvent) (by : Option ℕ) → IsEmpty desk → IsReady desk ready old.sent sent (Ok tt)
      → HostDoes old.host most acted host ready.out out told
      → Settles (record old { host = host; sent = sent }) new (record ready { out = out }) left place mark
      → made_of acted ≡ host_made old.host event → place ≡ place_in old.host event → mark ≡ mark_in old.host event by
      → IsDone old new desk left event by
  settled event by empty r d t acts place_is mark_is =
      let packets : out.packets ≡ (host_made old.host event).packets = outbox empty.empty r.out d ∙ ap (λ m. m.packets) acts in
      let cap : out.cap ≡ desk.out.cap =
      ap (λ (o : OutboxView). o.cap) d.packets ∙ ap (λ (o : OutboxView). o.cap) r.out in
      let back : record out { packets = [] } ≡ desk.out =
      λ j. record { packets = sym empty.empty j; cap = cap j } in
      let host_new : new.host ≡ (host_made old.host event).view = t.host ∙ d.view ∙ ap (λ m. m.view) acts in
      let seats : new.seats.items
      ≡ alter (after (mark_in old.host event by)) (alter (before (mark_in old.host event by)) old.seats.items (place_in old.host event))
      (place_in old.host event) =
      t.seats
      ∙ ap (λ (z : Option ℕ × Mark). alter (after z.1) (alter (before z.1) old.seats.items z.0) z.0)
      (λ j. (place_is j, mark_is j)) in
      let sent_new : new.sent.items
      ≡ old.sent.items
      ++ map
      (kept_by (seat_in (alter (before (mark_in old.host event by)) old.seats.items (place_in old.host event)) (place_in old.host event))
      (desk.events + 1)) (host_made old.host event).packets =
      t.sent
      ∙ ap (λ (z : List KeptSent × Option ℕ × Mark × ℕ × List PacketView). z.0
      ++ map (kept_by (seat_in (alter (before z.2) old.seats.items z.1) z.1) z.3) z.4)
      (λ j. (r.sent j, place_is j, mark_is j, r.counted j, packets j)) in
      record {
        station = λ j. record { host = host_new j; seats = seats j; sent = sent_new j };
        config = ap (λ (w : HostView). w.config) t.host ∙ d.config;
        size = ap (λ (w : HostView). length w.slots) t.host ∙ d.size;
        out = t.out ∙ back;
        events = t.events ∙ r.counted;
      }

made : (s : Inside) (x : Side) (st : KeptStation) (desk : Desk) (event : HostEvent) (by : Option ℕ)
    → IsDone (kept_at s.stations x) st s.desk desk event by
    → IsMade (net_view s) (net_view (next s x st desk)) x event (place_in (at (net_view s) x).host event)
    (mark_in (at (net_view s) x).host event by)
made s A st desk event by d = record { made = d.station; size = d.size; rest = refl; events = d.events }
made s B st desk event by d = record { made = d.station; size = d.size; rest = refl; events = d.events }

-- a running net after an event
pub record Outcome (v : NetView) (event : NetEvent) (new : Inside) : Type 0 where
  pub sound : IsSound new
  pub happens : Happens v event (net_view new)

outcome : {v : NetView} {old new : KeptStation} {left : Desk} (s : Inside) (x : Side) (host_event : HostEvent)
    (event : NetEvent) (by : Option ℕ)
    → IsSound s → net_view s ≡ v → old ≡ kept_at s.stations x → IsDone old new s.desk left host_event by
    → (IsMade v (net_view (next s x new left)) x host_event (place_in (at v x).host host_event)
    (mark_in (at v x).host host_event by) → Happens v event (net_view (next s x new left)))
    → Outcome v event (next s x new left)
outcome {v = v} {new = new} {left = left} s x host_event event by h view is done does =
    let d : IsDone (kept_at s.stations x) new s.desk left host_event by =
    subst (λ st. IsDone st new s.desk left host_event by) is done in
    let goes : Happens v event (net_view (next s x new left)) =
    does
    (subst
    (λ w. IsMade w (net_view (next s x new left)) x host_event (place_in (at w x).host host_event)
    (mark_in (at w x).host host_event by)) view (made s x new left host_event by d)) in
    let was : HasNet v = subst HasNet view h.net in
    record {
      sound =
          keeps s x new left h d.config d.out
          (record { net = happens was.net event; stands = goes was.net was.stands });
      happens = goes;
    }

module _ {A : Type 0} {acted : HostActed A} {told : A} {most : ℕ} {host : HostView} {out : OutboxView}
    {sent : Vec KeptSent} {ready left : Desk} {old new : KeptStation} {place : Option ℕ} {mark : Mark} {v : NetView} where
  -- what a user or the clock makes
  pub one_did : (s : Inside) (x : Side) (event : HostEvent) → IsSound s → net_view s ≡ v → old ≡ kept_at s.stations x
      → IsReady s.desk ready old.sent sent (Ok tt)
      → HostDoes old.host most acted host ready.out out told
      → Settles (record old { host = host; sent = sent }) new (record ready { out = out }) left place mark
      → made_of acted ≡ host_made old.host event → place ≡ place_in old.host event
      → mark ≡ mark_in old.host event None → IsOwn event → Outcome v (At x event) (next s x new left)
  one_did s x event h view is r d t acts place_is mark_is own =
      outcome s x event (At x event) None h view is (settled event None h.desk r d t acts place_is mark_is)
      (λ i. did v (net_view (next s x new left)) x event own i)

-- what a host that listens to a contact makes and answers
abbrev pub listen_acted : List ℕ → HostView → HostActed (Result (Unit {0}) ListenFault)
listen_acted contact w = record {
  view = after_listen (listen_fault w.listeners contact) w contact;
  packets = [];
  answer = listen_answer (listen_fault w.listeners contact);
}

pub listens : (contact : List ℕ) (old new : HostView) (out : OutboxView) (told : Result (Unit {0}) ListenFault)
    → told ≡ listen_answer (listen_fault old.listeners contact)
    → new ≡ after_listen (listen_fault old.listeners contact) old contact
    → HostDoes old 0 (listen_acted contact old) new out out told
listens contact old new out told answers view = record {
  view = view;
  packets = λ j. record { packets = sym (append-nil out.packets) j; cap = out.cap };
  answers = answers;
  few = omega arith;
  config = ap (λ (w : HostView). w.config) view ∙ config (listen_fault old.listeners contact);
  size = ap (λ (w : HostView). length w.slots) view ∙ size (listen_fault old.listeners contact);
}
  where
    config : (o : Option ListenFault) → (after_listen o old contact).config ≡ old.config
    config None = refl
    config (Some fault) = refl

    size : (o : Option ListenFault) → length (after_listen o old contact).slots ≡ length old.slots
    size None = refl
    size (Some fault) = refl

-- the mark of a call that may have ended a connection
pub ended : {new view : HostView} {named : Bool} (old : HostView) (id : ℕ)
    → named ≡ is_some (named_slot old.slots id) → new ≡ view
    → (if named && is_none (id_at new (place_of id)) then Frees else Stays) ≡ end_mark old view id
ended old id named_is view_is = λ j. if named_is j && is_none (id_at (view_is j) (place_of id)) then Frees else Stays

-- ---- a packet that comes

-- the packet with a number, as the station sees it that sent it
pub sent_there : {v : NetView} {far : KeptStation} {y : Side} {o : Option KeptSent} (s : Inside) (x : Side) (number : ℕ)
    → net_view s ≡ v → y ≡ other x → far ≡ kept_at s.stations y → slice_get far.sent.items number ≡ o
    → slice_get (at v (other x)).sent number ≡ o
sent_there s x number view y_is is there =
    ap (λ (z : StationView). slice_get z.sent number) (sym (view_at s (other x) view (is ∙ ap (kept_at s.stations) y_is)))
    ∙ there

-- the test of whether it may come
pub tested : {v : NetView} {near : KeptStation} {kept : KeptSent} {o : Option KeptSent} {may b : Bool} (s : Inside)
    (x : Side)
    → net_view s ≡ v → near ≡ kept_at s.stations x → may ≡ may_come s.desk.events near.seats.items kept → may ≡ b
    → o ≡ Some kept → arrival_fault v.events (at v x).seats o ≡ (if b then None else Some Stale)
tested {v = v} {kept = kept} {b = b} s x view is may_is b_is there =
    let same : b ≡ may_come v.events (at v x).seats kept =
    sym b_is ∙ may_is
    ∙ ap (λ (z : ℕ × List Seat). may_come z.0 z.1 kept) (λ j. ((view j).events, (view_at s x view is j).seats)) in
    ap (arrival_fault v.events (at v x).seats) there ∙ (λ j. if sym same j then None else Some Stale)

-- the host did with it what a host does
pub delivered : {old far : HostView} {o : Option KeptSent} {kept : KeptSent} {p : PacketView} {told : HostDelivered}
    (now : ℕ)
    → old ≡ far → p ≡ kept.packet → o ≡ Some kept → told ≡ (host_deliver old p now).answer → Delivers far o now told
delivered {far = far} {told = told} now old_is p_is there is =
    subst (λ o. Delivers far o now told) (sym there) (is ∙ (λ j. (host_deliver (old_is j) (p_is j) now).answer))

came_through : (b : Bool) → (if b then None else Some Stale) ≡ None → b ≡ true
came_through true h = refl
came_through false h = absurd (cc)

module _ {told : HostDelivered} {most : ℕ} {p : PacketView} {host : HostView} {out : OutboxView} {sent : Vec KeptSent}
    {ready left : Desk} {old new : KeptStation} {place : Option ℕ} {mark : Mark} {v : NetView} where
  pub one_came : (s : Inside) (x : Side) (number now : ℕ) (kept : KeptSent) → IsSound s → net_view s ≡ v
      → old ≡ kept_at s.stations x → IsReady s.desk ready old.sent sent (Ok tt)
      → HostDoes old.host most (host_deliver old.host p now) host ready.out out told
      → Settles (record old { host = host; sent = sent }) new (record ready { out = out }) left place mark
      → p ≡ kept.packet → place ≡ deliver_place told → mark ≡ deliver_mark told kept.by
      → slice_get (at v (other x)).sent number ≡ Some kept
      → arrival_fault v.events (at v x).seats (slice_get (at v (other x)).sent number) ≡ None
      → Outcome v (Arrives x number now) (next s x new left)
  one_came s x number now kept h view is r d t same place_is mark_is there may =
      let came : HostDoes old.host most (host_deliver old.host kept.packet now) host ready.out out told =
      subst (λ q. HostDoes old.host most (host_deliver old.host q now) host ready.out out told) same d in
      outcome s x (Comes kept.packet now) (Arrives x number now) kept.by h view is
      (settled (Comes kept.packet now) kept.by h.desk r came t refl (place_is ∙ ap deliver_place came.answers)
      (mark_is ∙ ap (λ a. deliver_mark a kept.by) came.answers))
      (did_arrive v (net_view (next s x new left)) x number now kept there
      (came_through (may_come v.events (at v x).seats kept)
      (sym (ap (arrival_fault v.events (at v x).seats) there) ∙ may)))

-- ---- what callers are told

pub write_told : (v : NetView) (x : Side) (id op : ℕ) (bytes : List ℕ) (now : ℕ) (told : Result ℕ CallFault)
    → reply_of Wrote told ≡ (host_call (at v x).host id (Write op bytes now)).answer
    → WriteIsTold v x id op bytes now told
write_told v x id op bytes now told is n number h took =
    writes_are_told n x id op bytes now number h.reached
    (ap (λ w. (host_call w id (Write op bytes now)).answer) (sym (h.stations x).host) ∙ sym is
    ∙ ap (reply_of Wrote) took)

pub read_told : (v : NetView) (x : Side) (id : ℕ) (told : Result ReadEnd CallFault)
    → plain_reply_of Gave told ≡ (host_call (at v x).host id Read).answer → ReadIsTold v x id told
read_told v x id told is n item h gave =
    reads_are_told n x id item h.reached
    (ap (λ w. (host_call w id Read).answer) (sym (h.stations x).host) ∙ sym is ∙ ap (plain_reply_of Gave) gave)

pub front_told : (v : NetView) (x : Side) (id : ℕ) (told : Result ReadDone CallFault)
    → plain_reply_of Finished told ≡ (host_call (at v x).host id FinishRead).answer → FrontIsRead v x id told
front_told v x id told is n item h look done =
    front_is_told n x id item h.reached
    (ap (λ w. host_look w id front_of) (sym (h.stations x).host) ∙ look)
    (ap (λ w. (host_call w id FinishRead).answer) (sym (h.stations x).host) ∙ sym is
    ∙ ap (plain_reply_of Finished) done)
