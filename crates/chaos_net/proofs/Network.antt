-- The law of two hosts on one network: the start is played, each event keeps that, and so it is after every run.
use Rattle.std.proofs.Common.{◌≡◌, ℕ, zero, suc, ◌<◌, ◌≤◌, ◌==◌, ◌&&◌, nat_le, List, [], ◌∷◌, length, replicate, Bool, true, false, if◌then◌else◌, nat_lt, Option, Some, None, refl, sym, ap, subst, arith}
use Rattle.std.specs.Prelude.{slice_get}
use Rattle.std.specs.List.{AllByRecursion}
use Rattle.std.proofs.lemmas.Bool.{false≢true}
use Rattle.std.proofs.lemmas.Bool.Decides.{nat_tests}
use Rattle.std.proofs.lemmas.List.Elements.{All-from_recursion}
use Rattle.chaos_packet.specs.Packet.{PacketView}
use Rattle.chaos_packet.specs.declared.limits.TheConstants.{MAX_DATA}
use Rattle.chaos_conn.specs.Config.{ConfigView, IsConfig}
use Rattle.chaos_conn.specs.State.{is_ended}
use Rattle.chaos_conn.specs.Act.{Call}
use Rattle.chaos_conn.specs.Act.Call.{Request, TakeRequest, Accept, Answer, Reject, Deliver, Write, Unc, Read, FinishRead, Announce, Close, Tick}
use Rattle.chaos_conn.specs.Names.{ends}
use Rattle.chaos_conn.proofs.ConfigStays.{config_stays}
use Rattle.chaos_host.specs.declared.slot.Slot.{Slot}
use Rattle.chaos_host.specs.declared.route.Route.{Route}
use Rattle.chaos_host.specs.declared.route.Route.TheVariants as to
use Rattle.chaos_host.specs.declared.fault.MakeFault.TheVariants as fault
use Rattle.chaos_host.specs.Slot.{is_used, named_slot, free_place, HasConfig, IsBlank, HoldsRequestAlone}
use Rattle.chaos_host.specs.View.{HostView, IsHost, new_slot, new_host, make_fault}
use Rattle.chaos_host.specs.Route.{route}
use Rattle.chaos_host.specs.Deeds.{HostEvent, Deed, IsEvent, is_users, host_made, deed_of, deed_by, by_used, by_free, by_named, by_ended, by_asking, by_lowest}
use Rattle.chaos_host.specs.Deeds.HostEvent.{Comes, Calls, Ends, Releases, Connects, Listens, Ticks}
use Rattle.chaos_host.specs.Deeds.Deed.{Nothing, Does}
use Rattle.chaos_host.proofs.Deeds.{has_deeds, stays_host}
use Rattle.chaos_lab.specs.declared.side.Side.{Side}
use Rattle.chaos_lab.specs.declared.side.Side.TheVariants.{A, B}
use Rattle.chaos_lab.specs.Machine.{other}
use Rattle.chaos_net.specs.Net.{Name, Sent, Station, Net, NetEvent, lengths_of, moved, after_event, with_station, happens, arrives, CanHappen, Run, Reached, IsNew, new_station, NetworkLaw}
use Rattle.chaos_net.specs.Net.NetEvent.{At, Arrives}
use Rattle.chaos_net.specs.Played.{IsSlot, IsSide, ArePlayed}
use Rattle.chaos_net.proofs.Lists.{some_eq}
use Rattle.chaos_net.proofs.Holding.{net_holds}
use Rattle.chaos_net.proofs.Goes.{IsArrival}
use Rattle.chaos_net.proofs.Steps.{AreSides, AreLengths, CallFrom, DeedFrom, station_by, by_deed}

-- ---- where an event comes from

abbrev EventFrom : Side → Station → Station → Option Name → HostEvent → Type 0
EventFrom x own far from (Comes p now) = IsArrival x own far p from
EventFrom x own far from (Connects peer contact start now) = start < 65536
EventFrom x own far from event = IsEvent event

is_event : (x : Side) (own far : Station) (from : Option Name) (event : HostEvent) → EventFrom x own far from event
    → IsEvent event
is_event x own far from (Comes p now) h = tt
is_event x own far from (Connects peer contact start now) h = tt
is_event x own far from (Calls id call) h = h
is_event x own far from (Ends id call) h = h
is_event x own far from (Releases id) h = tt
is_event x own far from (Listens contact) h = tt
is_event x own far from (Ticks place now) h = tt

users_from : (x : Side) (own far : Station) (from : Option Name) (call : Call) → is_users call ≡ true
    → CallFrom x own far from call
users_from x own far from (Accept start now) h = tt
users_from x own far from (Write op bytes now) h = tt
users_from x own far from (Unc bytes) h = tt
users_from x own far from Read h = tt
users_from x own far from FinishRead h = tt
users_from x own far from (Announce window) h = tt
users_from x own far from (Request me peer contact start now) h = absurd (false≢true h)
users_from x own far from (TakeRequest rfc me now) h = absurd (false≢true h)
users_from x own far from (Answer bytes) h = absurd (false≢true h)
users_from x own far from (Reject text) h = absurd (false≢true h)
users_from x own far from (Deliver p now) h = absurd (false≢true h)
users_from x own far from (Close text) h = absurd (false≢true h)
users_from x own far from (Tick now) h = absurd (false≢true h)

ends_from : (x : Side) (own far : Station) (from : Option Name) (call : Call) → ends call ≡ true
    → CallFrom x own far from call
ends_from x own far from (Answer bytes) h = tt
ends_from x own far from (Reject text) h = tt
ends_from x own far from (Close text) h = tt
ends_from x own far from (Accept start now) h = absurd (false≢true h)
ends_from x own far from (Write op bytes now) h = absurd (false≢true h)
ends_from x own far from (Unc bytes) h = absurd (false≢true h)
ends_from x own far from Read h = absurd (false≢true h)
ends_from x own far from FinishRead h = absurd (false≢true h)
ends_from x own far from (Announce window) h = absurd (false≢true h)
ends_from x own far from (Request me peer contact start now) h = absurd (false≢true h)
ends_from x own far from (TakeRequest rfc me now) h = absurd (false≢true h)
ends_from x own far from (Deliver p now) h = absurd (false≢true h)
ends_from x own far from (Tick now) h = absurd (false≢true h)

module _ (x : Side) (own far : Station) (from : Option Name) where
  either : (b : Bool) (c d : Deed) → DeedFrom x own far from c → DeedFrom x own far from d
      → DeedFrom x own far from (if b then c else d)
  either true c d p q = p
  either false c d p q = q

  used_from : (place : ℕ) (call : Call) (o : Option Slot) → CallFrom x own far from call
      → DeedFrom x own far from (by_used place call o)
  used_from place call None h = tt
  used_from place call (Some slot) h = either (is_used slot) (Does place call) Nothing h tt

  free_from : (v : HostView) (p : PacketView) (now place : ℕ) (o : Option Slot) → IsArrival x own far p from
      → DeedFrom x own far from (by_free v p now place o)
  free_from v p now place None h = tt
  free_from v p now place (Some slot) h = h

  route_from : (v : HostView) (p : PacketView) (now : ℕ) (r : Route) → IsArrival x own far p from
      → DeedFrom x own far from (deed_by v p now r)
  route_from v p now (to.Slot place) h = used_from place (Deliver p now) (slice_get v.slots place) h
  route_from v p now (to.Request place) h = free_from v p now place (slice_get v.slots place) h
  route_from v p now to.NotOurs h = tt
  route_from v p now to.NoSource h = tt
  route_from v p now to.NoServer h = tt
  route_from v p now to.TableFull h = tt
  route_from v p now to.SendLos h = tt
  route_from v p now to.DropSilently h = tt

  named_from : (id : ℕ) (call : Call) (o : Option Slot) → CallFrom x own far from call
      → DeedFrom x own far from (by_named id call o)
  named_from id call None h = tt
  named_from id call (Some slot) h = h

  released_from : (id : ℕ) (o : Option Slot) → DeedFrom x own far from (by_ended id o)
  released_from id None = tt
  released_from id (Some slot) = either (is_ended slot.conn.state) (Does _ (Close [])) Nothing tt tt

  asking_from : (v : HostView) (place peer : ℕ) (contact : List ℕ) (start now : ℕ) (o : Option Slot) → start < 65536
      → DeedFrom x own far from (by_asking v place peer contact start now o)
  asking_from v place peer contact start now None h = tt
  asking_from v place peer contact start now (Some slot) h = h

  lowest_from : (v : HostView) (peer : ℕ) (contact : List ℕ) (start now : ℕ) (o : Option ℕ) → start < 65536
      → DeedFrom x own far from (by_lowest v peer contact start now o)
  lowest_from v peer contact start now None h = tt
  lowest_from v peer contact start now (Some place) h =
      either (nat_lt MAX_DATA (length contact)) _ _ tt
      (either (peer == 0) _ _ tt (asking_from v place peer contact start now (slice_get v.slots place) h))

  deed_from : (event : HostEvent) → EventFrom x own far from event → DeedFrom x own far from (deed_of own.host event)
  deed_from (Comes p now) h = route_from own.host p now (route own.host p) h
  deed_from (Calls id call) h = named_from id call (named_slot own.host.slots id) (users_from x own far from call h)
  deed_from (Ends id call) h = named_from id call (named_slot own.host.slots id) (ends_from x own far from call h)
  deed_from (Releases id) h = released_from id (named_slot own.host.slots id)
  deed_from (Connects peer contact start now) h =
      lowest_from own.host peer contact start now (free_place own.host.slots) h
  deed_from (Listens contact) h = tt
  deed_from (Ticks place now) h = used_from place (Tick now) (slice_get own.host.slots place) tt

  event_sides : (event : HostEvent) (lengths : Side → Name → ℕ) → AreSides x own far → EventFrom x own far from event
      → AreLengths x own far (deed_of own.host event) from lengths
      → AreSides x (station_by own (deed_of own.host event) (host_made own.host event) from lengths) far
  event_sides event lengths h can len =
      let e = is_event x own far from event can in
      by_deed x own far (deed_of own.host event) (host_made own.host event) from lengths h
      (has_deeds own.host event h.side.station.host e)
      (stays_host config_stays own.host event h.side.station.host e) (deed_from event can) len

-- ---- each event keeps what holds of a net

event_played : (x : Side) (n : Net) (event : HostEvent) (from : Option Name) → ArePlayed n
    → EventFrom x (n x) (n (other x)) from event → ArePlayed (after_event n x event from)
event_played A n event from h can =
    let lengths = lengths_of (with_station n A (moved (n A) event from)) in
    let r =
    event_sides A (n A) (n B) from event lengths (record { side = h A; back = h B }) can
    (record { own_is = λ name. refl; far_is = λ name. refl }) in
    both r
  where
    both : AreSides A ((after_event n A event from) A) (n B) → ArePlayed (after_event n A event from)
    both r A = r.side
    both r B = r.back
event_played B n event from h can =
    let lengths = lengths_of (with_station n B (moved (n B) event from)) in
    let r =
    event_sides B (n B) (n A) from event lengths (record { side = h B; back = h A }) can
    (record { own_is = λ name. refl; far_is = λ name. refl }) in
    both r
  where
    both : AreSides B ((after_event n B event from) B) (n A) → ArePlayed (after_event n B event from)
    both r B = r.side
    both r A = r.back

arrives_played : (n : Net) (x : Side) (number now : ℕ) (o : Option Sent) → slice_get (n (other x)).sent number ≡ o
    → CanHappen n (Arrives x number now) → ArePlayed n → ArePlayed (arrives n x now o)
arrives_played n x number now None there can h = h
arrives_played n x number now (Some q) there can h =
    event_played x n (Comes q.packet now) q.by h
    (record { number = number; packet = q; there = there; is = refl; by = refl; fresh = can q there })

pub steps_are_played : (n : Net) (event : NetEvent) → ArePlayed n → CanHappen n event → ArePlayed (happens n event)
steps_are_played n (At x (Comes packet now)) h can = absurd can
steps_are_played n (At x (Connects peer contact start now)) h can =
    event_played x n (Connects peer contact start now) None h can
steps_are_played n (At x (Calls id call)) h can = event_played x n (Calls id call) None h can
steps_are_played n (At x (Ends id call)) h can = event_played x n (Ends id call) None h can
steps_are_played n (At x (Releases id)) h can = event_played x n (Releases id) None h can
steps_are_played n (At x (Listens contact)) h can = event_played x n (Listens contact) None h can
steps_are_played n (At x (Ticks place now)) h can = event_played x n (Ticks place now) None h can
steps_are_played n (Arrives x number now) h can =
    arrives_played n x number now (slice_get (n (other x)).sent number) refl can h

runs_are_played : (events : List NetEvent) (n m : Net) → ArePlayed n → Run n events m → ArePlayed m
runs_are_played [] n m h is = subst ArePlayed (sym is) h
runs_are_played (event ∷ events) n m h r =
    runs_are_played events (happens n event) m (steps_are_played n event h r.0) r.1

-- ---- the start

all_same : {X : Type 0} (P : X → Type 0) (n : ℕ) (x : X) → P x → AllByRecursion P (replicate n x)
all_same P zero x h = tt
all_same P (suc n) x h = (h, all_same P n x h)

pub get_same : {X : Type 0} (n k : ℕ) (x y : X) → slice_get (replicate n x) k ≡ Some y → x ≡ y
get_same zero k x y h = absurd (cc)
get_same (suc n) zero x y h = some_eq h
get_same (suc n) (suc k) x y h = get_same n k x y h

pub length_same : {X : Type 0} (n : ℕ) (x : X) → length (replicate n x) ≡ n
length_same zero x = refl
length_same (suc n) x = ap suc (length_same n x)

record MayMake (address conns : ℕ) : Type 0 where
  address_is : 1 ≤ address
  some : 1 ≤ conns
  few : conns ≤ 255

may_make : (address conns : ℕ) → make_fault address conns ≡ None → MayMake address conns
may_make address conns h = by (address == 0) (nat_le 1 conns) (nat_le conns 255) refl refl refl h
  where
    by : (a b c : Bool) → (address == 0) ≡ a → nat_le 1 conns ≡ b → nat_le conns 255 ≡ c
        → (if a then Some fault.BadAddress else (if b && c then None else Some fault.BadCount)) ≡ None
        → MayMake address conns
    by false true true p q r h =
        record { address_is = grind (arith, nat_tests); some = grind (arith, nat_tests); few = grind (arith, nat_tests) }
    by true b c p q r h = absurd (cc)
    by false false c p q r h = absurd (cc)
    by false true false p q r h = absurd (cc)

new_is_host : (address conns : ℕ) (config : ConfigView) → make_fault address conns ≡ None → IsConfig config
    → IsHost (new_host address conns config)
new_is_host address conns config right sound =
    let may = may_make address conns right in
    let size = length_same conns (new_slot config) in
    let some = may.some in
    let few = may.few in
    record {
      address = may.address_is;
      table = record {
        some = omega (arith, size, some);
        few = omega (arith, size, few);
        alike =
            All-from_recursion (HasConfig config) (replicate conns (new_slot config))
            (all_same (HasConfig config) conns (new_slot config) refl);
        window = sound.some_recv;
        blank =
            All-from_recursion (λ (slot : Slot). IsBlank slot.conn) (replicate conns (new_slot config))
            (all_same (λ (slot : Slot). IsBlank slot.conn) conns (new_slot config) (λ _. refl));
        pending =
            All-from_recursion (λ (slot : Slot). HoldsRequestAlone slot.conn) (replicate conns (new_slot config))
            (all_same (λ (slot : Slot). HoldsRequestAlone slot.conn) conns (new_slot config) (λ is. absurd (cc)));
      };
    }

new_side : (x : Side) (address conns : ℕ) (config : ConfigView) (far : Station) → make_fault address conns ≡ None
    → IsConfig config → IsSide x (new_station address conns config) far
new_side x address conns config far right sound = record {
  station = record {
    host = new_is_host address conns config right sound;
    config = sound;
    slots =
        λ place slot at. subst (IsSlot (new_station address conns config) place)
        (get_same conns place (new_slot config) slot at)
        (record { generation = refl; used = λ used. absurd (false≢true (sym used)); free = λ _. refl });
    stories = λ name s there. absurd (cc);
    sent = λ k q at. absurd (cc);
  };
  pairs = λ asker taker r there asked. absurd (cc);
}

start_side : (x : Side) (own far : Station) → IsNew own → IsSide x own far
start_side x own far n =
    subst (λ st. IsSide x st far) (sym n.is) (new_side x n.address n.conns n.config far n.right n.sound)

pub start_is_played : (n : Net) → IsNew (n A) → IsNew (n B) → ArePlayed n
start_is_played n a b A = start_side A (n A) (n B) a
start_is_played n a b B = start_side B (n B) (n A) b

-- ---- the law

pub reached_is_played : (n : Net) → Reached n → ArePlayed n
reached_is_played n r = runs_are_played r.events r.start n (start_is_played r.start r.a r.b) r.run

pub network : NetworkLaw
network n x name r = net_holds n x name (reached_is_played n r)
