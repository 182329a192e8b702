-- Runs of file events at one side, of a kind.
use Rattle.std.proofs.Common.{◌≡◌, ℕ, zero, suc, ◌+◌, ◌<◌, ◌≤◌, ◌==◌, Bool, true, false, List, [], ◌∷◌, ◌++◌, length, map, Option, Some, None, Ok, Err, refl, sym, ap, ◌∙◌, subst, append_assoc, arith, if◌then◌else◌}
use Rattle.std.proofs.lemmas.Bool.{eqb-true, ne_eqb}
use Rattle.std.specs.Prelude.{slice_get, ⊤}
use Rattle.std.specs.List.{AllByRecursion}
use Rattle.std.proofs.lemmas.List.{append-nil}
use Rattle.chaos_packet.specs.Packet.{PacketView}
use Rattle.chaos_conn.specs.Act.{Call, Accept, Close, Tick}
use Rattle.chaos_conn.specs.State.{is_ended}
use Rattle.chaos_host.specs.Acted.{slot_after_call}
use Rattle.chaos_host.specs.declared.slot.Slot.{Slot}
use Rattle.chaos_host.specs.Calls.{host_end}
use Rattle.chaos_host.specs.Deeds.{HostEvent, Deed, by_ended, by_named, by_used, deed_of}
use Rattle.chaos_host.specs.Deeds.Deed.{Nothing, Does}
use Rattle.chaos_host.specs.Deeds.HostEvent.{Comes, Calls, Ends, Releases, Ticks}
use Rattle.chaos_host.specs.Deliver.{host_deliver}
use Rattle.chaos_host.specs.Slot.{index_of as index_in, is_free, is_used, named_slot, place_of}
use Rattle.chaos_host.specs.View.{HostView, id_at, id_in}
use Rattle.chaos_link.specs.Loads.{packets_of}
use Rattle.chaos_lab.specs.declared.side.Side.{Side}
use Rattle.chaos_lab.specs.declared.side.Side.TheVariants.{A, B}
use Rattle.chaos_lab.specs.Machine.{other}
use Rattle.chaos_net.specs.Net.{Sent, Station, Net, IsOwn, after_deed, after_events, after_slot}
use Rattle.chaos_net.proofs.Lists.{some_eq}
use Rattle.chaos_net.specs.Net as net
use Rattle.chaos_net.specs.Net.NetEvent.{At, Arrives}
use Rattle.chaos_node.specs.Arrive.{Arrival, deliver_effect}
use Rattle.chaos_node.specs.Phase.{Effect, and_then, effect_of, no_effect_on, over_packets, over_slots}
use Rattle.chaos_node.specs.Slots.{tick_at}
use Rattle.chaos_node.specs.Timer.{holds_at, tick_by}
use Rattle.chaos_node.specs.declared.timer.RetransmitTimer.{RetransmitTimer}
use Rattle.chaos_net.specs.Come.{Upon, AreFresh, AreSent, ComeFrom, ComeFresh, coming}
use Rattle.chaos_net.specs.MadeTurns.{packets_sent}
use Rattle.chaos_net.proofs.SystemComing.{tick_made}
use Rattle.chaos_net.proofs.Made.{copy_made, effect_at, own_made, packets_both}
use Rattle.file_server.specs.Arrive.{accept_by, arrive_at_server, greet, request_in}
use Rattle.file_server.specs.Sessions.{Serving, serving_at}
use Rattle.file_server.specs.Slots.{Options, close_at, close_by, close_for, end_phases, is_late, is_over_in, release_at, release_by}
use Rattle.file_end_to_end.specs.Turns.{accepts, accepts_upon}
use Rattle.file_net.specs.FileNet.{FileNet, FileEvent, Nets, FileRun, file_happens, is_by_server}

-- ---- runs

pub file_run_through : (es fs : List FileEvent) (f g h : FileNet) → FileRun f es g → FileRun g fs h
    → FileRun f (es ++ fs) h
file_run_through [] fs f g h first next = subst (λ u. FileRun u fs h) first next
file_run_through (e ∷ es) fs f g h first next = (first.0, file_run_through es fs (file_happens f e) g h first.1 next)

all_both : (P : FileEvent → Type 0) (es fs : List FileEvent) → AllByRecursion P es → AllByRecursion P fs
    → AllByRecursion P (es ++ fs)
all_both P [] fs p q = q
all_both P (e ∷ es) fs p q = (p.0, all_both P es fs p.1 q)

-- A run of events of a kind: the host at a side is that of the effect, and has sent the packets of its lots. The other
-- station is as it was.
pub record IsLed (P : FileEvent → Type 0) (x : Side) (f g : FileNet) (effect : Effect) : Type 0 where
  pub events : List FileEvent
  pub run : FileRun f events g
  pub kinds : AllByRecursion P events
  pub host : (g.net x).host ≡ effect.host
  pub sent : packets_sent (g.net x) ≡ packets_sent (f.net x) ++ packets_of effect.lots
  pub far : g.net (other x) ≡ f.net (other x)

abbrev pub Leads : (FileEvent → Type 0) → Side → FileNet → Effect → Type 0
Leads P x f effect = (g : FileNet) × IsLed P x f g effect

module _ (P : FileEvent → Type 0) (x : Side) where
  pub none_led : (f : FileNet) → IsLed P x f f (no_effect_on (f.net x).host)
  none_led f =
      record { events = []; run = refl; kinds = tt; host = refl; sent = sym (append-nil (packets_sent (f.net x))); far = refl }

  pub both_led : (f g h : FileNet) (e k : Effect) → IsLed P x f g e → IsLed P x g h k
      → IsLed P x f h (record { host = k.host; lots = e.lots ++ k.lots })
  both_led f g h e k one two = record {
    events = one.events ++ two.events;
    run = file_run_through one.events two.events f g h one.run two.run;
    kinds = all_both P one.events two.events one.kinds two.kinds;
    host = two.host;
    sent =
        two.sent ∙ ap (λ (ps : List PacketView). ps ++ packets_of k.lots) one.sent
        ∙ append_assoc (packets_sent (f.net x)) (packets_of e.lots) (packets_of k.lots)
        ∙ ap (λ (ps : List PacketView). packets_sent (f.net x) ++ ps) (sym (packets_both e.lots k.lots));
    far = two.far ∙ one.far;
  }

  pub then_led : (f : FileNet) (first : Effect) (next : HostView → Effect) → Leads P x f first
      → ((g : FileNet) → Leads P x g (next (g.net x).host)) → Leads P x f (and_then first next)
  then_led f first next one two =
      let g = one.0 in
      let last = two g in
      let there : IsLed P x g last.0 (next first.host) = subst (λ h. IsLed P x g last.0 (next h)) one.1.host last.1 in
      (last.0, both_led f g last.0 first (next first.host) one.1 there)

  -- an event of the host's own
  pub own_led : (f : FileNet) (event : HostEvent) → IsOwn event → is_by_server (At x event) ≡ false
      → P (Nets (At x event)) → IsLed P x f (file_happens f (Nets (At x event))) (effect_at (f.net x).host event)
  own_led f event own not_server kind =
      let r = own_made f.net x event own in
      record {
        events = Nets (At x event) ∷ [];
        run = ((own, not_server), refl);
        kinds = (kind, tt);
        host = r.host;
        sent = r.sent;
        far = r.far;
      }

  -- a tick
  pub tick_led : (f : FileNet) (now place : ℕ) → is_by_server (At x (Ticks place now)) ≡ false
      → P (Nets (At x (Ticks place now)))
      → IsLed P x f (file_happens f (Nets (At x (Ticks place now)))) (tick_at now place (f.net x).host)
  tick_led f now place not_server kind =
      let r = tick_made x now place f.net in
      record {
        events = Nets (At x (Ticks place now)) ∷ [];
        run = ((tt, not_server), refl);
        kinds = (kind, tt);
        host = r.host;
        sent = r.sent;
        far = r.far;
      }

  -- a tick, or nothing where it is held back
  held_led : (f : FileNet) (now place : ℕ) (held : Bool) → is_by_server (At x (Ticks place now)) ≡ false
      → P (Nets (At x (Ticks place now)))
      → Leads P x f (if held then no_effect_on (f.net x).host else tick_at now place (f.net x).host)
  held_led f now place true not_server kind = (f, none_led f)
  held_led f now place false not_server kind =
      (file_happens f (Nets (At x (Ticks place now))), tick_led f now place not_server kind)

  -- a tick that a timer may hold back
  pub timed_led : (f : FileNet) (timers : List RetransmitTimer) (now place : ℕ)
      → is_by_server (At x (Ticks place now)) ≡ false → P (Nets (At x (Ticks place now)))
      → Leads P x f (tick_by timers now place (f.net x).host)
  timed_led f timers now place not_server kind =
      held_led f now place (holds_at timers now place (f.net x).host) not_server kind

  -- a packet that the other host sent comes
  pub copy_led : (f : FileNet) (k now : ℕ) (p : PacketView) (q : Sent) → slice_get (f.net (other x)).sent k ≡ Some q
      → q.packet ≡ p → net.CanHappen f.net (Arrives x k now) → P (Nets (Arrives x k now))
      → IsLed P x f (file_happens f (Nets (Arrives x k now))) (effect_at (f.net x).host (Comes p now))
  copy_led f k now p q there is can kind =
      let r = copy_made f.net x k now p q there is can in
      record {
        events = Nets (Arrives x k now) ∷ [];
        run = ((can, refl), refl);
        kinds = (kind, tt);
        host = r.host;
        sent = r.sent;
        far = r.far;
      }

  -- a phase over slots
  pub slots_led : (phase : ℕ → HostView → Effect) → ((place : ℕ) (f : FileNet) → Leads P x f (phase place (f.net x).host))
      → (size : ℕ) (f : FileNet) → Leads P x f (over_slots phase size (f.net x).host)
  slots_led phase each zero f = (f, none_led f)
  slots_led phase each (suc size) f =
      then_led f (over_slots phase size (f.net x).host) (phase size) (slots_led phase each size f) (λ g. each size g)

-- ---- what came

-- a packet comes to B, or a request is accepted
abbrev pub IsArriving : FileEvent → Type 0
IsArriving (Nets (Arrives B number now)) = ⊤
IsArriving (Nets (At B (Calls id (Accept start now)))) = ⊤
IsArriving event = ⊥

accepted : (f : FileNet) (start now : ℕ) (o : Option ℕ)
    → IsLed IsArriving B f (record f { net = after_events f.net (map (At B) (accepts start now o)) })
    (accept_by (f.net B).host start now o)
accepted f start now None = none_led IsArriving B f
accepted f start now (Some id) = own_led IsArriving B f (Calls id (Accept start now)) refl refl tt

greeted : (f : FileNet) (start now k : ℕ) (p : PacketView) (q : Sent) → slice_get (f.net A).sent k ≡ Some q
    → q.packet ≡ p → net.CanHappen f.net (Arrives B k now)
    → IsLed IsArriving B f (record f { net = after_events f.net (coming (accepts_upon start now) f.net B now k p) })
    (greet start now p (f.net B).host)
greeted f start now k p q there is can =
    let h = (f.net B).host in
    let o = request_in p (host_deliver h p now).answer in
    let g = file_happens f (Nets (Arrives B k now)) in
    let one = copy_led IsArriving B f k now p q there is can tt in
    let l : FileNet = record g { net = after_events g.net (map (At B) (accepts start now o)) } in
    let two : IsLed IsArriving B g l (accept_by (host_deliver h p now).view start now o) =
    subst (λ v. IsLed IsArriving B g l (accept_by v start now o)) one.host (accepted g start now o) in
    both_led IsArriving B f g l (deliver_effect now p h) (accept_by (host_deliver h p now).view start now o) one two

packets_led : (f : FileNet) (start now : ℕ) (ks : List ℕ) (ps : List PacketView) → AreSent (f.net A).sent ks ps
    → AreFresh (accepts_upon start now) f.net B now ks ps
    → Leads IsArriving B f (over_packets (greet start now) ps (f.net B).host)
packets_led f start now [] [] sent fresh = (f, none_led IsArriving B f)
packets_led f start now [] (p ∷ ps) sent fresh = absurd sent
packets_led f start now (k ∷ ks) [] sent fresh = absurd sent
packets_led f start now (k ∷ ks) (p ∷ ps) sent fresh =
    let upon : Upon = accepts_upon start now in
    let h = (greet start now p (f.net B).host).host in
    let g : FileNet = record f { net = after_events f.net (coming upon f.net B now k p) } in
    let one = greeted f start now k p sent.0.0 sent.0.1 sent.0.2 fresh.0 in
    let still : AreSent (g.net A).sent ks ps = subst (λ st. AreSent st.sent ks ps) (sym one.far) sent.1 in
    let more = packets_led g start now ks ps still fresh.1 in
    let there : IsLed IsArriving B g more.0 (over_packets (greet start now) ps h) =
    subst (λ v. IsLed IsArriving B g more.0 (over_packets (greet start now) ps v)) one.host more.1 in
    (more.0, both_led IsArriving B f g more.0 (greet start now p (f.net B).host) (over_packets (greet start now) ps h) one there)

pub arrived : (f : FileNet) (numbers : List ℕ) (came : Arrival) (start now : ℕ) → ComeFrom f.net B numbers came
    → ComeFresh (accepts_upon start now) f.net B now numbers came
    → Leads IsArriving B f (arrive_at_server came start now (f.net B).host)
arrived f numbers None start now from fresh = (f, none_led IsArriving B f)
arrived f numbers (Some (Err fault)) start now from fresh = (f, none_led IsArriving B f)
arrived f numbers (Some (Ok packets)) start now from fresh = packets_led f start now numbers packets from fresh

-- ---- the end of a turn

-- a connection is closed with an empty text or released, or a slot is ticked
abbrev pub IsEnding : FileEvent → Type 0
IsEnding (Nets (At B (Ends id (Close text)))) = ⊤
IsEnding (Nets (At B (Releases id))) = ⊤
IsEnding (Nets (At B (Ticks place now))) = ⊤
IsEnding event = ⊥

closed_if : (f : FileNet) (id : ℕ) (over : Bool)
    → Leads IsEnding B f (if over then effect_of (host_end (f.net B).host id (Close [])) else no_effect_on (f.net B).host)
closed_if f id true = (file_happens f (Nets (At B (Ends id (Close [])))), own_led IsEnding B f (Ends id (Close [])) refl refl tt)
closed_if f id false = (f, none_led IsEnding B f)

closed_by : (f : FileNet) (eof late : Bool) (o : Option ℕ) → Leads IsEnding B f (close_by eof late (f.net B).host o)
closed_by f eof late None = (f, none_led IsEnding B f)
closed_by f eof late (Some id) = closed_if f id (is_over_in eof late (named_slot (f.net B).host.slots id))

closed : (f : FileNet) (silence : Option ℕ) (now : ℕ) (serving : Serving) (o : Option ℕ)
    → Leads IsEnding B f (close_for silence now serving (f.net B).host o)
closed f silence now serving o = closed_by f serving.eof (is_late silence serving.since now) o

released : (f : FileNet) (o : Option ℕ) → Leads IsEnding B f (release_by (f.net B).host o)
released f None = (f, none_led IsEnding B f)
released f (Some id) = (file_happens f (Nets (At B (Releases id))), own_led IsEnding B f (Releases id) tt refl tt)

pub ended : (f : FileNet) (options : Options) (sessions : List Serving) (now : ℕ)
    → Leads IsEnding B f (end_phases options sessions now (f.net B).host)
ended f options sessions now =
    let h = (f.net B).host in
    let size = length h.slots in
    then_led IsEnding B f (and_then (over_slots (close_at options.silence now sessions) size h) (over_slots release_at size))
    (over_slots (tick_by options.timers now) size)
    (then_led IsEnding B f (over_slots (close_at options.silence now sessions) size h) (over_slots release_at size)
    (slots_led IsEnding B (close_at options.silence now sessions)
    (λ place g. closed g options.silence now (serving_at sessions place) (id_at (g.net B).host place)) size f)
    (λ g. slots_led IsEnding B release_at (λ place k. released k (id_at (k.net B).host place)) size g))
    (λ g. slots_led IsEnding B (tick_by options.timers now)
    (λ place k. timed_led IsEnding B k options.timers now place refl tt) size g)

-- ---- how much the turns of B's slots grow in the end of a turn

-- one at this place
abbrev pub here : ℕ → ℕ → ℕ
here place p = if p == place then 1 else 0

-- one at each of the first so many places
abbrev pub before : ℕ → ℕ → ℕ
before zero p = 0
before (suc n) p = before n p + here n p

-- The turns of B's slots grew by no more than this.
abbrev pub Grows : (ℕ → ℕ) → FileNet → FileNet → Type 0
Grows most f g = (p : ℕ) → (g.net B).turn p ≤ (f.net B).turn p + most p

-- a deed in this slot, or none
abbrev IsDeedAt : ℕ → Deed → Type 0
IsDeedAt place Nothing = ⊤
IsDeedAt place (Does at call) = at ≡ place

grows_none : (f : FileNet) (most : ℕ → ℕ) → Grows most f f
grows_none f most p = omega arith

if_more : (b : Bool) (n : ℕ) → (if b then n + 1 else n) ≤ n + 1
if_more true n = omega arith
if_more false n = omega arith

slot_grows : (st : Station) (place : ℕ) (call : Call) (o : Option Slot) (p : ℕ)
    → (after_slot st place call None o).turn p ≤ st.turn p + here place p
slot_grows st place call None p = omega arith
slot_grows st place call (Some slot) p = by (p == place) refl
  where
    more : ℕ
    more = if is_free (slot_after_call slot call) then st.turn place + 1 else st.turn place

    by : (b : Bool) → (p == place) ≡ b
        → (if b then (if is_free (slot_after_call slot call) then st.turn place + 1 else st.turn place) else st.turn p)
        ≤ st.turn p + (if b then 1 else 0)
    by true is =
        subst
        (λ q. (if is_free (slot_after_call slot call) then st.turn place + 1 else st.turn place) ≤ st.turn q + 1)
        (sym (eqb-true p place is)) (if_more (is_free (slot_after_call slot call)) (st.turn place))
    by false is = omega arith

deed_grows : (st : Station) (place : ℕ) (d : Deed) → IsDeedAt place d → (p : ℕ)
    → (after_deed st d None).turn p ≤ st.turn p + here place p
deed_grows st place Nothing is p = omega arith
deed_grows st place (Does at call) is p =
    subst (λ q. (after_slot st at call None (slice_get st.host.slots at)).turn p ≤ st.turn p + here q p) is
    (slot_grows st at call (slice_get st.host.slots at) p)

-- an event of B's own host, whose deed is in this slot
event_grows : (f : FileNet) (event : HostEvent) (place : ℕ) → IsDeedAt place (deed_of (f.net B).host event)
    → Grows (here place) f (file_happens f (Nets (At B event)))
event_grows f event place is = deed_grows (f.net B) place (deed_of (f.net B).host event) is

-- the index of the connection at a place names this place
index_at : (place : ℕ) (o : Option Slot) (id : ℕ) → place < 255 → id_in place o ≡ Some id → place_of id ≡ place
index_at place None id few is = let no : None ≡ Some id = is in absurd (cc)
index_at place (Some slot) id few is = by (is_used slot) is
  where
    by : (b : Bool) → (if b then Some (index_in place slot) else None) ≡ Some id → place_of id ≡ place
    by true is =
        let same : index_in place slot ≡ id = some_eq is in
        ap place_of (sym same) ∙ omega (arith, few)
    by false is = let no : None ≡ Some id = is in absurd (cc)

named_at : (place id : ℕ) (call : Call) (o : Option Slot) → place_of id ≡ place → IsDeedAt place (by_named id call o)
named_at place id call None is = tt
named_at place id call (Some slot) is = is

if_at : (place : ℕ) (b : Bool) (d : Deed) → IsDeedAt place d → IsDeedAt place (if b then d else Nothing)
if_at place true d is = is
if_at place false d is = tt

ended_at : (place id : ℕ) (o : Option Slot) → place_of id ≡ place → IsDeedAt place (by_ended id o)
ended_at place id None is = tt
ended_at place id (Some slot) is = if_at place (is_ended slot.conn.state) (Does (place_of id) (Close [])) is

used_at : (place : ℕ) (call : Call) (o : Option Slot) → IsDeedAt place (by_used place call o)
used_at place call None = tt
used_at place call (Some slot) = if_at place (is_used slot) (Does place call) refl

if_grows : (f : FileNet) (id place : ℕ) (over : Bool) → place_of id ≡ place → Grows (here place) f (closed_if f id over).0
unfolding closed_if
if_grows f id place true is =
    event_grows f (Ends id (Close [])) place (named_at place id (Close []) (named_slot (f.net B).host.slots id) is)
if_grows f id place false is = grows_none f (here place)

close_grows : (f : FileNet) (eof late : Bool) (place : ℕ) (o : Option ℕ)
    → ((id : ℕ) → o ≡ Some id → place_of id ≡ place) → Grows (here place) f (closed_by f eof late o).0
unfolding closed_by
close_grows f eof late place None at = grows_none f (here place)
close_grows f eof late place (Some id) at =
    if_grows f id place (is_over_in eof late (named_slot (f.net B).host.slots id)) (at id refl)

release_grows : (f : FileNet) (place : ℕ) (o : Option ℕ) → ((id : ℕ) → o ≡ Some id → place_of id ≡ place)
    → Grows (here place) f (released f o).0
unfolding released
release_grows f place None at = grows_none f (here place)
release_grows f place (Some id) at =
    event_grows f (Releases id) place (ended_at place id (named_slot (f.net B).host.slots id) (at id refl))

held_grows : (f : FileNet) (now place : ℕ) (held : Bool)
    → Grows (here place) f (held_led IsEnding B f now place held refl tt).0
unfolding held_led
held_grows f now place true = grows_none f (here place)
held_grows f now place false =
    event_grows f (Ticks place now) place (used_at place (Tick now) (slice_get (f.net B).host.slots place))

then_grows : (a b c m n : ℕ) → b ≤ c + m → a ≤ b + n → a ≤ c + (m + n)
then_grows a b c m n one two = omega (arith, one, two)

slots_grow : (phase : ℕ → HostView → Effect)
    (each : (place : ℕ) (f : FileNet) → Leads IsEnding B f (phase place (f.net B).host))
    → ((place : ℕ) (f : FileNet) → place < 255 → Grows (here place) f (each place f).0) → (size : ℕ) → size ≤ 255
    → (f : FileNet) → Grows (before size) f (slots_led IsEnding B phase each size f).0
unfolding slots_led then_led
slots_grow phase each grows zero few f p = omega arith
slots_grow phase each grows (suc size) few f p =
    let g : FileNet = (slots_led IsEnding B phase each size f).0 in
    then_grows (((each size g).0.net B).turn p) ((g.net B).turn p) ((f.net B).turn p) (before size p) (here size p)
    (slots_grow phase each grows size (omega (arith, few)) f p) (grows size g (omega (arith, few)) p)

before_none : (n p : ℕ) → n ≤ p → before n p ≡ 0
before_none zero p past = refl
before_none (suc n) p past =
    let rest = before_none n p (omega (arith, past)) in
    let apart : (p == n) ≡ false = ne_eqb p n (λ e. absurd (omega (arith, past, e))) in
    (λ j. rest j + (if apart j then 1 else 0))

before_one : (n p : ℕ) → before n p ≤ 1
before_one zero p = omega arith
before_one (suc n) p = by (p == n) refl (before_one n p)
  where
    by : (b : Bool) → (p == n) ≡ b → before n p ≤ 1 → before n p + (if b then 1 else 0) ≤ 1
    by true is rest =
        let e : p ≡ n = eqb-true p n is in
        let none = before_none n p (omega (arith, e)) in
        omega (arith, none)
    by false is rest = omega (arith, rest)

-- by three in the end of a turn
pub ended_grows : (f : FileNet) (options : Options) (sessions : List Serving) (now : ℕ)
    → length (f.net B).host.slots ≤ 255 → Grows (λ p. 3) f (ended f options sessions now).0
unfolding ended then_led closed closed_by timed_led
ended_grows f options sessions now few p =
    let size = length (f.net B).host.slots in
    let closing : (place : ℕ) (g : FileNet) → Leads IsEnding B g (close_at options.silence now sessions place (g.net B).host) =
    λ place g. closed g options.silence now (serving_at sessions place) (id_at (g.net B).host place) in
    let releasing : (place : ℕ) (g : FileNet) → Leads IsEnding B g (release_at place (g.net B).host) =
    λ place k. released k (id_at (k.net B).host place) in
    let ticking : (place : ℕ) (g : FileNet) → Leads IsEnding B g (tick_by options.timers now place (g.net B).host) =
    λ place k. timed_led IsEnding B k options.timers now place refl tt in
    let f1 : FileNet = (slots_led IsEnding B (close_at options.silence now sessions) closing size f).0 in
    let f2 : FileNet = (slots_led IsEnding B release_at releasing size f1).0 in
    let f3 : FileNet = (slots_led IsEnding B (tick_by options.timers now) ticking size f2).0 in
    let one = slots_grow (close_at options.silence now sessions) closing
    (λ place g small.
    close_grows g (serving_at sessions place).eof (is_late options.silence (serving_at sessions place).since now) place
    (id_at (g.net B).host place) (λ id is. index_at place (slice_get (g.net B).host.slots place) id small is))
    size few f p in
    let two = slots_grow release_at releasing
    (λ place g small.
    release_grows g place (id_at (g.net B).host place)
    (λ id is. index_at place (slice_get (g.net B).host.slots place) id small is))
    size few f1 p in
    let three = slots_grow (tick_by options.timers now) ticking
    (λ place g small. held_grows g now place (holds_at options.timers now place (g.net B).host)) size few f2 p in
    three_grow ((f.net B).turn p) ((f1.net B).turn p) ((f2.net B).turn p) ((f3.net B).turn p) (before size p)
    (before_one size p) one two three
  where
    three_grow : (a b c d n : ℕ) → n ≤ 1 → b ≤ a + n → c ≤ b + n → d ≤ c + n → d ≤ a + 3
    three_grow a b c d n most one two three = omega (arith, most, one, two, three)
