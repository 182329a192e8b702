-- Where a world begins: a new engine, which gave up some connections, and a new server, which listens.
use Rattle.std.proofs.Common.{◌≡◌, ℕ, zero, suc, ◌<◌, ◌≤◌, ◌==◌, ◌||◌, Bool, true, false, if◌then◌else◌, List, [], ◌∷◌, ◌++◌, length, get_or, codes, replicate, Option, Some, None, Ok, Err, refl, sym, ap, ◌∙◌, subst, append-nil, lit<, lit≤, ⊎_elim}
use Rattle.std.specs.Prelude.{nat_lt, slice_get}
use Rattle.std.proofs.lemmas.Bool.{cases_lt}
use Rattle.std.proofs.lemmas.List.{get_or-replicate, get_or_past, length-replicate}
use Rattle.std.proofs.lemmas.List.Elements.{All-cons, All-nil}
use Rattle.std.proofs.lemmas.Option.{slice_get-get_or}
use Rattle.chaos_packet.specs.Packet.{PacketView}
use Rattle.chaos_packet.specs.Words.{Spells, spelling_of}
use Rattle.chaos_packet.proofs.Packing.{spelling_spells}
use Rattle.chaos_conn.specs.Acted.{Acted}
use Rattle.chaos_conn.specs.Act.Call.{Close}
use Rattle.chaos_conn.specs.Calls.{act_close, cls_of}
use Rattle.chaos_conn.specs.Opening.{act_request, after_asking, closed_conn, refusal, request_between, rfc_item}
use Rattle.chaos_conn.specs.Sending.{item_packet, untelling_packet, with_item}
use Rattle.chaos_conn.specs.State.{is_inactive, tells_close}
use Rattle.chaos_conn.specs.View.{ConnView, moment}
use Rattle.chaos_window.specs.Send.{next_of}
use Rattle.chaos_conn.specs.declared.fault.ConnFault.TheVariants as fault
use Rattle.chaos_packet.specs.Opcode.{op_cls}
use Rattle.chaos_packet.specs.declared.limits.TheConstants.{MAX_DATA}
use Rattle.chaos_conn.specs.declared.state.End.{End}
use Rattle.chaos_file.specs.Store.{Files, change}
use Rattle.chaos_host.specs.Acted.{HostActed, no_effect}
use Rattle.chaos_host.specs.declared.fault.ConnectFault.TheVariants as connecting
use Rattle.chaos_host.specs.Calls.{end_slot, host_end}
use Rattle.chaos_host.specs.Connect.{ConnectAnswer, connect_at, connect_slot, host_connect}
use Rattle.chaos_host.specs.Deeds.{HostEvent, host_made}
use Rattle.chaos_host.specs.Deeds.HostEvent.{Connects, Ends, Listens}
use Rattle.chaos_host.specs.Slot.{free_place, named_slot}
use Rattle.chaos_host.specs.View.{HostView, new_host, new_slot}
use Rattle.chaos_host.specs.declared.slot.Slot.{Slot}
use Rattle.chaos_lab.specs.declared.side.Side.{Side}
use Rattle.chaos_lab.specs.declared.side.Side.TheVariants.{A, B}
use Rattle.chaos_link.specs.declared.carriage.Carriage.TheVariants.{One}
use Rattle.chaos_link.specs.Link.{Addressed}
use Rattle.chaos_link.specs.Loads.{EachSpelled}
use Rattle.chaos_net.specs.Net.{IsOwn, present}
use Rattle.chaos_node.specs.Link.{read_all, sent_by}
use Rattle.chaos_node.specs.Passing.{after_passing, asked_for, given_up, pass_slots}
use Rattle.chaos_net.specs.MadeTurns.{packets_sent}
use Rattle.chaos_net.specs.System.{IsNewSeat, Seat, System, TakesCall}
use Rattle.chaos_net.specs.System.Step.{Calls}
use Rattle.chaos_node.proofs.Readback.{both_read, read_back}
use Rattle.chaos_net.proofs.Behind.{at_both}
use Rattle.file_client.specs.Caller.{CallerView, new_caller}
use Rattle.file_server.specs.Server.{Server, server}
use Rattle.file_server.specs.Service.{host_after, listening_host}
use Rattle.file_server.specs.Sessions.{new_serving, serving_at}
use Rattle.file_server.specs.declared.limits.TheConstants.{SERVER_CONNS}
use Rattle.file_net.specs.FileNet.{FileNet}
use Rattle.file_end_to_end.specs.Program.{Program, program_host, program_turns}
use Rattle.file_end_to_end.specs.System.{FileStandsFor}
use Rattle.file_end_to_end.specs.World.{World, system_by, IsNewWorld, WorldsBegin}
use Rattle.chaos_link.specs.Loads.{packets_of}
use Rattle.chaos_net.specs.Net.NetEvent.{At}
use Rattle.chaos_net.proofs.Made.{packets_both}
use Rattle.chaos_net.proofs.Network.{reached_is_played}
use Rattle.file_net.proofs.Kept.{reached_is_sound}
use Rattle.file_net.specs.FileNet.{Nets, file_happens, is_by_server}
use Rattle.file_end_to_end.specs.Server.{IsOld}
use Rattle.file_end_to_end.proofs.Client.{IsOfNet, net_service}
use Rattle.file_end_to_end.proofs.Led.{IsLed, both_led, none_led, own_led}
use Rattle.file_end_to_end.proofs.Passed.{AreFree, new_are_free, passed_are_free}
use Rattle.file_end_to_end.proofs.Systems.{Any, client_calls, more_reached, moved_on, new_file_systems_stand, step_follows}

-- ---- what is given up is spelled

contact_bytes : (i : ℕ) → get_or (codes "NONE") i 0 < 256
contact_bytes zero = lit< tt
contact_bytes (suc zero) = lit< tt
contact_bytes (suc (suc zero)) = lit< tt
contact_bytes (suc (suc (suc zero))) = lit< tt
contact_bytes (suc (suc (suc (suc i)))) = lit< tt

no_bytes : (i : ℕ) → get_or [] i 0 < 256
no_bytes i = lit< tt

-- a request, whichever of two calls it is
either_spelled : {X : Type 0} (b : Bool) (x y : Acted X) → EachSpelled x.packets → EachSpelled y.packets
    → EachSpelled (if b then x else y).packets
either_spelled true x y p q = p
either_spelled false x y p q = q

request_spelled : (v : ConnView) (me : End) (peer : ℕ) → EachSpelled (act_request v me peer (codes "NONE") 0 0).packets
request_spelled v me peer =
    let t = moment v 0 in
    let asking : ConnView = after_asking v me peer 0 t in
    either_spelled (nat_lt MAX_DATA (length (codes "NONE"))) (refusal v fault.TooLong)
    (if is_inactive v.state then request_between v me peer (codes "NONE") 0 t else refusal v fault.Busy) tt
    (either_spelled (is_inactive v.state) (request_between v me peer (codes "NONE") 0 t) (refusal v fault.Busy)
    (either_spelled (me.address == 0 || peer == 0) (refusal v fault.BadAddress)
    (with_item asking (rfc_item (codes "NONE")) (Ok tt)) tt
    (spelling_spells (item_packet asking (next_of asking.send) (rfc_item (codes "NONE"))) contact_bytes (lit≤ tt), tt))
    tt)

told_spelled : (b : Bool) (p : PacketView) → Spells p (spelling_of p) → EachSpelled (if b then p ∷ [] else [])
told_spelled true p h = (h, tt)
told_spelled false p h = tt

close_spelled : (v : ConnView) → EachSpelled (act_close v []).packets
close_spelled v =
    either_spelled (nat_lt MAX_DATA (length {A = ℕ} [])) (refusal v fault.TooLong)
    (record { view = closed_conn v; packets = cls_of v []; answer = Ok tt }) tt
    (told_spelled (tells_close v.state) (untelling_packet v op_cls [])
    (spelling_spells (untelling_packet v op_cls []) no_bytes (lit≤ tt)))

host_either : {X : Type 0} (b : Bool) (x y : HostActed X) → EachSpelled x.packets → EachSpelled y.packets
    → EachSpelled (if b then x else y).packets
host_either true x y p q = p
host_either false x y p q = q

connect_spelled : (v : HostView) (to : ℕ) → EachSpelled (host_connect v to (codes "NONE") 0 0).packets
connect_spelled v to = by_place (free_place v.slots)
  where
    by_slot : (place : ℕ) (o : Option Slot) → EachSpelled (connect_slot v place to (codes "NONE") 0 0 o).packets
    by_slot place None = tt
    by_slot place (Some slot) = request_spelled slot.conn _ to

    by_place : (o : Option ℕ) → EachSpelled (connect_at v to (codes "NONE") 0 0 o).packets
    by_place None = tt
    by_place (Some place) =
        host_either (nat_lt MAX_DATA (length (codes "NONE"))) (no_effect v (Err connecting.TooLong))
        (if to == 0 then no_effect v (Err connecting.BadAddress) else connect_slot v place to (codes "NONE") 0 0 (slice_get v.slots place))
        tt
        (host_either (to == 0) (no_effect v (Err connecting.BadAddress))
        (connect_slot v place to (codes "NONE") 0 0 (slice_get v.slots place)) tt (by_slot place (slice_get v.slots place)))

end_spelled : (v : HostView) (id : ℕ) → EachSpelled (host_end v id (Close [])).packets
end_spelled v id = by_slot (named_slot v.slots id)
  where
    by_slot : (o : Option Slot) → EachSpelled (end_slot v id (Close []) o).packets
    by_slot None = tt
    by_slot (Some slot) = close_spelled slot.conn

both_spelled : (ps qs : List PacketView) → EachSpelled ps → EachSpelled qs → EachSpelled (ps ++ qs)
both_spelled [] qs one two = two
both_spelled (p ∷ ps) qs one two = (one.0, both_spelled ps qs one.1 two)

-- ---- what the server gives up

-- events of B lead to this host at B, and what B sent meanwhile is spelled
record IsPassed (f g : FileNet) (h : HostView) : Type 0 where
  lots : List (List PacketView)
  spelled : EachSpelled (packets_of lots)
  led : IsLed IsOfNet B f g (record { host = h; lots = lots })

abbrev Passes : FileNet → HostView → Type 0
Passes f h = (g : FileNet) × IsPassed f g h

stays_passed : (f : FileNet) → Passes f (f.net B).host
stays_passed f = (f, record { lots = []; spelled = tt; led = none_led IsOfNet B f })

then_passed : (f : FileNet) (h : HostView) (next : HostView → HostView) → Passes f h
    → ((g : FileNet) → Passes g (next (g.net B).host)) → Passes f (next h)
then_passed f h next (g, one) more =
    let k : FileNet = (more g).0 in
    let two : IsPassed g k (next h) = subst (λ (v : HostView). IsPassed g k (next v)) one.led.host (more g).1 in (
      k,
      record {
        lots = one.lots ++ two.lots;
        spelled =
            subst EachSpelled (sym (packets_both one.lots two.lots))
            (both_spelled (packets_of one.lots) (packets_of two.lots) one.spelled two.spelled);
        led =
            both_led IsOfNet B f g k (record { host = h; lots = one.lots }) (record { host = next h; lots = two.lots }) one.led
            two.led;
      },
    )

event_passed : (f : FileNet) (event : HostEvent) → IsOwn event → is_by_server (At B event) ≡ false
    → EachSpelled (host_made (f.net B).host event).packets → Passes f (host_made (f.net B).host event).view
event_passed f event own free spelled = (
  file_happens f (Nets (At B event)),
  record {
    lots = (host_made (f.net B).host event).packets ∷ [];
    spelled = subst EachSpelled (sym (append-nil (host_made (f.net B).host event).packets)) spelled;
    led = own_led IsOfNet B f event own free tt;
  },
)

gives_up : (answer : ConnectAnswer) (f : FileNet) → Passes f (given_up answer (f.net B).host)
gives_up (Ok id) f = event_passed f (Ends id (Close [])) refl refl (end_spelled (f.net B).host id)
gives_up (Err fault) f = stays_passed f

slots_passed : (to k : ℕ) (f : FileNet) → Passes f (pass_slots to k (f.net B).host)
slots_passed to zero f = stays_passed f
slots_passed to (suc k) f =
    let asked : HostActed ConnectAnswer = host_connect (f.net B).host to (codes "NONE") 0 0 in
    then_passed f asked.view (λ (v : HostView). given_up asked.answer (pass_slots to k v))
    (event_passed f (Connects to (codes "NONE") 0 0) (lit< tt) refl (connect_spelled (f.net B).host to))
    (λ (g : FileNet).
    then_passed g (pass_slots to k (g.net B).host) (given_up asked.answer) (slots_passed to k g)
    (gives_up asked.answer))

indices_passed : (to count : ℕ) (f : FileNet) → Passes f (after_passing to count (f.net B).host)
indices_passed to zero f = stays_passed f
indices_passed to (suc count) f =
    let slots : ℕ = length (f.net B).host.slots in
    then_passed f (after_passing to count (f.net B).host) (pass_slots to slots) (indices_passed to count f)
    (slots_passed to slots)

-- ---- the engine

-- an engine of a host, with these packets waiting
abbrev engine_with : HostView → List PacketView → CallerView
engine_with h packets =
    record { host = h; to = 0; contact = []; carriage = One; id = None; since = 0; wait = 0; out = record { packets = packets; cap = 0 } }

module _ {S : Type 0} (contents : S → Option Files) (may_give : S → List ℕ → ℕ → List ℕ → Type 0) (count : S → ℕ)
    (m : Files) (seat : Seat (Server S)) where
  -- A file net stands for this host and the server, where these datagrams were posted.
  abbrev Stands : HostView → List PacketView → List Addressed → FileNet → Type 0
  Stands h waiting posts f = FileStandsFor contents m (system_by (engine_with h waiting) posts seat) f

  -- A file net stands for this host, which has nothing that waits, and whose datagrams are lost.
  abbrev Rests : HostView → Type 0
  Rests h = (lost : List Addressed) × (f : FileNet) × Stands h [] lost f

  -- what waited counts as posted
  posted : (h : HostView) (packets : List PacketView) (posts : List Addressed) (f : FileNet) → EachSpelled packets
      → Stands h packets posts f → Rests h
  posted h packets posts f spelled st =
      let more : List Addressed = sent_by One (packets ∷ []) in
      let read : read_all (posts ++ more) ≡ read_all posts ++ packets =
      both_read posts more
      ∙ ap (λ (ps : List PacketView). read_all posts ++ ps)
      (read_back One (packets ∷ []) (All-cons EachSpelled packets [] spelled (All-nil EachSpelled)) ∙ append-nil packets) in (
        posts ++ more,
        f,
        record {
          reached = st.reached;
          net = record {
            reached = st.net.reached;
            hosts =
                at_both (λ y. (f.net y).host ≡ program_host (system_by (engine_with h []) (posts ++ more) seat y).program) A
                (st.net.hosts A) (st.net.hosts B);
            sent =
                at_both (λ y. packets_sent (f.net y) ≡ read_all (system_by (engine_with h []) (posts ++ more) seat y).posts ++ (system_by (engine_with h []) (posts ++ more) seat y).waiting) A
                (st.net.sent A ∙ sym read ∙ sym (append-nil (read_all (posts ++ more)))) (st.net.sent B);
          };
          client = tt;
          server = st.server;
        },
      )

  -- an event of the host's own, whose packets are lost
  own_lost : (h : HostView) (event : HostEvent) → IsOwn event → EachSpelled (host_made h event).packets → Rests h
      → Rests (host_made h event).view
  own_lost h event own spelled (lost, f, st) =
      let g : HostView = (host_made h event).view in
      let packets : List PacketView = (host_made h event).packets in
      let called : TakesCall program_host (program_turns (change contents may_give count)) event
      (system_by (engine_with h []) lost seat A) (system_by (engine_with g packets) lost seat A) =
      record { own = own; host = refl; waiting = refl; posts = refl } in
      let r = client_calls contents may_give count m (system_by (engine_with h []) lost seat)
      (system_by (engine_with g packets) lost seat) f event st called refl tt in
      posted g packets lost r.net spelled r.stands

  slots_passed_by : (to k : ℕ) (h : HostView) → Rests h → Rests (pass_slots to k h)
  slots_passed_by to zero h rests = rests
  slots_passed_by to (suc k) h rests =
      let asked : HostActed ConnectAnswer = asked_for to h in
      gives asked.answer (pass_slots to k asked.view)
      (slots_passed_by to k asked.view
      (own_lost h (Connects to (codes "NONE") 0 0) (lit< tt) (connect_spelled h to) rests))
    where
      gives : (answer : ConnectAnswer) (g : HostView) → Rests g → Rests (given_up answer g)
      gives (Ok id) g next = own_lost g (Ends id (Close [])) refl (end_spelled g id) next
      gives (Err fault) g next = next

  passed : (k to : ℕ) (h : HostView) → Rests h → Rests (after_passing to k h)
  passed zero to h rests = rests
  passed (suc k) to h rests =
      slots_passed_by to (length h.slots) (after_passing to k h) (passed k to h rests)

  -- another engine of the same host, which has nothing that waits
  same_host : (c : CallerView) (posts : List Addressed) (f : FileNet) → c.out.packets ≡ [] → Stands c.host [] posts f
      → FileStandsFor contents m (system_by c posts seat) f
  same_host c posts f none st = record {
    reached = st.reached;
    net = record {
      reached = st.net.reached;
      hosts =
          at_both (λ y. (f.net y).host ≡ program_host (system_by c posts seat y).program) A (st.net.hosts A) (st.net.hosts B);
      sent =
          at_both (λ y. packets_sent (f.net y) ≡ read_all (system_by c posts seat y).posts ++ (system_by c posts seat y).waiting) A
          (st.net.sent A ∙ ap (λ (ps : List PacketView). read_all posts ++ ps) (sym none)) (st.net.sent B);
    };
    client = tt;
    server = st.server;
  }

-- ---- the server

-- a new slot's session
new_at : (n place : ℕ) → (serving_at (replicate n new_serving) place).id ≡ None
new_at n place =
    ⊎_elim
    (λ (within : place < n). ap (λ z. z.id) (get_or-replicate n place new_serving new_serving within))
    (λ (past : n ≤ place). ap (λ z. z.id)
    (get_or_past (replicate n new_serving) place new_serving
    (subst (λ k. k ≤ place) (sym (length-replicate n new_serving)) past)))
    (cases_lt place n)

module _ {S : Type 0} (contents : S → Option Files) (may_give : S → List ℕ → ℕ → List ℕ → Type 0) (count : S → ℕ)
    (m : Files) where
  abbrev seat_with : HostView → S → Seat (Server S)
  seat_with h store = record { program = server h (replicate SERVER_CONNS new_serving) store; waiting = []; posts = [] }

  -- a new server that listens, beside a new host
  both_new : (w : World S) (new : IsNewWorld contents m w)
      → Rests contents may_give count m (seat_with (listening_host new.server_config new.server_address) new.store)
      (new_host new.me 1 new.config)
  both_new w new =
      let mine : HostView = new_host new.me 1 new.config in
      let other : HostView = new_host new.server_address SERVER_CONNS new.server_config in
      let deaf : System (Program S) = system_by (engine_with mine []) [] (seat_with other new.store) in
      let listening : System (Program S) =
      system_by (engine_with mine []) [] (seat_with (listening_host new.server_config new.server_address) new.store) in
      let seats : (x : Side) → IsNewSeat program_host (deaf x) = at_both (λ x. IsNewSeat program_host (deaf x)) A
      (record { address = new.me; conns = 1; config = new.config; right = new.address_is; sound = new.config_is; host = refl; waiting = refl; posts = refl })
      (record { address = new.server_address; conns = SERVER_CONNS; config = new.server_config; right = new.served_address_is; sound = new.served_config_is; host = refl; waiting = refl; posts = refl }) in
      let start = new_file_systems_stand contents may_give count m deaf seats tt
      (record {
        files = new.files;
        count_is = length-replicate SERVER_CONNS new_serving ∙ sym (length-replicate SERVER_CONNS (new_slot new.server_config));
        none = λ place. new_at SERVER_CONNS place;
      }) in
      let r = step_follows contents may_give count m deaf listening start.0 (Calls B (Listens (codes "FILE"))) start.1
      (record { own = tt; host = refl; waiting = refl; posts = refl }, refl) (refl, refl) tt in
      ([], r.net, r.stands)

  -- The server's host passed over indices, and what it sent is lost.
  server_passed : (c : CallerView) (posts : List Addressed) (h : HostView) (store : S) (to n : ℕ) (f : FileNet)
      → length h.slots ≡ SERVER_CONNS → AreFree h.slots
      → FileStandsFor contents m (system_by c posts (seat_with h store)) f
      → (gone : List Addressed) × (g : FileNet)
      × FileStandsFor contents m (system_by c posts (record (seat_with (after_passing to n h) store) { posts = gone })) g
  server_passed c posts h store to n f few free st =
      let host : (f.net B).host ≡ h = st.net.hosts B in
      let behind : HostView = after_passing to n h in
      let made : Passes f behind =
      subst (λ (v : HostView). Passes f (after_passing to n v)) host (indices_passed to n f) in
      let g : FileNet = made.0 in
      let led : IsLed IsOfNet B f g (record { host = behind; lots = made.1.lots }) = made.1.led in
      let packets : List PacketView = packets_of made.1.lots in
      let gone : List Addressed = sent_by One (packets ∷ []) in
      let seat : Seat (Server S) = record (seat_with behind store) { posts = gone } in
      let read : read_all gone ++ [] ≡ packets =
      append-nil (read_all gone)
      ∙ read_back One (packets ∷ []) (All-cons EachSpelled packets [] made.1.spelled (All-nil EachSpelled))
      ∙ append-nil packets in
      let fits : length h.slots ≤ 255 = subst (λ n. n ≤ 255) (sym few) (lit≤ tt) in
      let back = passed_are_free to n h fits free in
      let reached = reached_is_sound m g (more_reached contents may_give count m f g led.events st.reached led.run) in
      let r = moved_on contents may_give count m (Any contents may_give count m) (system_by c posts (seat_with h store))
      (system_by c posts seat) f g B led.events behind made.1.lots tt st led.run led.host led.sent led.far refl
      (ap (λ (ps : List PacketView). ps ++ packets) (st.net.sent B) ∙ sym read) refl tt
      (record {
        host = led.host;
        files = st.server.files ∙ ap (λ v. Some v.files) (sym (net_service led.events f g led.run led.kinds));
        count = st.server.count ∙ sym back.0;
        slots = λ place within.
            let slot : Slot = get_or behind.slots place (new_slot behind.config) in
            let there : slice_get behind.slots place ≡ Some slot =
            slice_get-get_or behind.slots place (new_slot behind.config) within in
            let at = ((reached_is_played g.net reached.reached) B).station.slots place slot
            (ap (λ (v : HostView). slice_get v.slots place) led.host ∙ there) in
            let none : (g.net B).story (present (g.net B) place) ≡ None = at.free (back.1 place slot there) in
            record {
              used = λ s is. let isnt : None ≡ Some s = sym none ∙ is in absurd (cc);
              free = λ _. subst (IsOld (g.net B).turn place) (sym (new_at SERVER_CONNS place)) tt;
            };
      }) in
      (gone, r.net, r.stands)

pub worlds_begin : {S : Type 0} (contents : S → Option Files) (may_give : S → List ℕ → ℕ → List ℕ → Type 0) (count : S → ℕ)
    (m : Files) → WorldsBegin contents m
worlds_begin {S} contents may_give count m w new =
    let listening : HostView = listening_host new.server_config new.server_address in
    let seat : Seat (Server S) = seat_with contents may_give count m listening new.store in
    let (lost, f, st) = passed contents may_give count m seat new.indices new.to (new_host new.me 1 new.config)
    (both_new contents may_give count m w new) in
    let engine : CallerView = new_caller new.me new.to new.config new.carriage new.indices in
    let there : FileStandsFor contents m (system_by engine lost seat) f =
    same_host contents may_give count m seat engine lost f refl st in
    let (gone, g, last) = server_passed contents may_give count m engine lost listening new.store new.server_address new.passed f
    (length-replicate SERVER_CONNS (new_slot new.server_config)) (new_are_free new.server_config SERVER_CONNS) there in
    let left : Seat (Server S) =
    record (seat_with contents may_give count m (host_after new.passed new.server_config new.server_address) new.store) { posts = gone } in
    let same : record w.server { posts = gone } ≡ left =
    λ j. record { program = new.server j; waiting = new.waiting j; posts = gone } in (
      lost,
      gone,
      g,
      subst (λ (z : CallerView). FileStandsFor contents m (system_by z lost (record w.server { posts = gone })) g) (sym new.engine)
          (subst (λ (z : Seat (Server S)). FileStandsFor contents m (system_by engine lost z) g) (sym same) last),
    )
