-- Which packet an event hands to a connection: users and clocks hand none, and a packet that comes is handed itself.
use Rattle.std.proofs.Common.{◌≡◌, ℕ, ◌==◌, List, [], length, Bool, true, false, if◌then◌else◌, nat_lt, Option, Some, None}
use Rattle.std.specs.Prelude.{slice_get}
use Rattle.std.proofs.lemmas.Bool.{false≢true}
use Rattle.chaos_packet.specs.Packet.{PacketView}
use Rattle.chaos_packet.specs.declared.limits.TheConstants.{MAX_DATA}
use Rattle.chaos_conn.specs.State.{is_ended}
use Rattle.chaos_conn.specs.Act.{Call}
use Rattle.chaos_conn.specs.Act.Call.{Request, TakeRequest, Accept, Answer, Reject, Deliver, Write, Unc, Read, FinishRead, Announce, Close, Tick}
use Rattle.chaos_conn.specs.Names.{ends}
use Rattle.chaos_host.specs.declared.slot.Slot.{Slot}
use Rattle.chaos_host.specs.declared.route.Route.{Route}
use Rattle.chaos_host.specs.declared.route.Route.TheVariants as to
use Rattle.chaos_host.specs.Slot.{is_used, named_slot, free_place}
use Rattle.chaos_host.specs.View.{HostView}
use Rattle.chaos_host.specs.Route.{route}
use Rattle.chaos_host.specs.Deeds.{HostEvent, Deed, is_users, deed_of, deed_by, by_used, by_free, by_named, by_ended, by_asking, by_lowest}
use Rattle.chaos_host.specs.Deeds.HostEvent.{Comes, Calls, Ends, Releases, Connects, Listens, Ticks}
use Rattle.chaos_host.specs.Deeds.Deed.{Nothing, Does}
use Rattle.chaos_net.specs.Net.{IsOwn}

-- A call that delivers a packet delivers this kind of packet.
abbrev pub Hands : (PacketView → Type 0) → Call → Type 0
Hands P (Deliver p now) = P p
Hands P call = Unit {0}

abbrev pub DeedHands : (PacketView → Type 0) → Deed → Type 0
DeedHands P Nothing = Unit {0}
DeedHands P (Does place call) = Hands P call

module _ (P : PacketView → Type 0) where
  users_hand : (call : Call) → is_users call ≡ true → Hands P call
  users_hand (Accept start now) h = tt
  users_hand (Write op bytes now) h = tt
  users_hand (Unc bytes) h = tt
  users_hand Read h = tt
  users_hand FinishRead h = tt
  users_hand (Announce window) h = tt
  users_hand (Request me peer contact start now) h = tt
  users_hand (TakeRequest rfc me now) h = tt
  users_hand (Answer bytes) h = tt
  users_hand (Reject text) h = tt
  users_hand (Deliver p now) h = absurd (false≢true h)
  users_hand (Close text) h = tt
  users_hand (Tick now) h = tt

  ends_hand : (call : Call) → ends call ≡ true → Hands P call
  ends_hand (Answer bytes) h = tt
  ends_hand (Reject text) h = tt
  ends_hand (Close text) h = tt
  ends_hand (Accept start now) h = tt
  ends_hand (Write op bytes now) h = tt
  ends_hand (Unc bytes) h = tt
  ends_hand Read h = tt
  ends_hand FinishRead h = tt
  ends_hand (Announce window) h = tt
  ends_hand (Request me peer contact start now) h = tt
  ends_hand (TakeRequest rfc me now) h = tt
  ends_hand (Deliver p now) h = absurd (false≢true h)
  ends_hand (Tick now) h = tt

  either : (b : Bool) (c d : Deed) → DeedHands P c → DeedHands P d → DeedHands P (if b then c else d)
  either true c d p q = p
  either false c d p q = q

  used_hand : (place : ℕ) (call : Call) (o : Option Slot) → Hands P call → DeedHands P (by_used place call o)
  used_hand place call None h = tt
  used_hand place call (Some slot) h = either (is_used slot) (Does place call) Nothing h tt

  free_hand : (v : HostView) (p : PacketView) (now place : ℕ) (o : Option Slot) → DeedHands P (by_free v p now place o)
  free_hand v p now place None = tt
  free_hand v p now place (Some slot) = tt

  route_hand : (v : HostView) (p : PacketView) (now : ℕ) (r : Route) → P p → DeedHands P (deed_by v p now r)
  route_hand v p now (to.Slot place) h = used_hand place (Deliver p now) (slice_get v.slots place) h
  route_hand v p now (to.Request place) h = free_hand v p now place (slice_get v.slots place)
  route_hand v p now to.NotOurs h = tt
  route_hand v p now to.NoSource h = tt
  route_hand v p now to.NoServer h = tt
  route_hand v p now to.TableFull h = tt
  route_hand v p now to.SendLos h = tt
  route_hand v p now to.DropSilently h = tt

  named_hand : (id : ℕ) (call : Call) (o : Option Slot) → Hands P call → DeedHands P (by_named id call o)
  named_hand id call None h = tt
  named_hand id call (Some slot) h = h

  released_hand : (id : ℕ) (o : Option Slot) → DeedHands P (by_ended id o)
  released_hand id None = tt
  released_hand id (Some slot) = either (is_ended slot.conn.state) (Does _ (Close [])) Nothing tt tt

  asking_hand : (v : HostView) (place peer : ℕ) (contact : List ℕ) (start now : ℕ) (o : Option Slot)
      → DeedHands P (by_asking v place peer contact start now o)
  asking_hand v place peer contact start now None = tt
  asking_hand v place peer contact start now (Some slot) = tt

  lowest_hand : (v : HostView) (peer : ℕ) (contact : List ℕ) (start now : ℕ) (o : Option ℕ)
      → DeedHands P (by_lowest v peer contact start now o)
  lowest_hand v peer contact start now None = tt
  lowest_hand v peer contact start now (Some place) =
      either (nat_lt MAX_DATA (length contact)) _ _ tt
      (either (peer == 0) _ _ tt (asking_hand v place peer contact start now (slice_get v.slots place)))

  pub own_hands : (v : HostView) (event : HostEvent) → IsOwn event → DeedHands P (deed_of v event)
  own_hands v (Comes p now) h = absurd h
  own_hands v (Calls id call) h = named_hand id call (named_slot v.slots id) (users_hand call h)
  own_hands v (Ends id call) h = named_hand id call (named_slot v.slots id) (ends_hand call h)
  own_hands v (Releases id) h = released_hand id (named_slot v.slots id)
  own_hands v (Connects peer contact start now) h = lowest_hand v peer contact start now (free_place v.slots)
  own_hands v (Listens contact) h = tt
  own_hands v (Ticks place now) h = used_hand place (Tick now) (slice_get v.slots place) tt

  pub packet_hands : (v : HostView) (p : PacketView) (now : ℕ) → P p → DeedHands P (deed_of v (Comes p now))
  packet_hands v p now h = route_hand v p now (route v p) h
