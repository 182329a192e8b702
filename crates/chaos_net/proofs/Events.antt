-- Each event of a running net is that event of the net that it stands for.
use Rattle.std.proofs.Common.{◌≡◌, ℕ, length, true, Option, Some, None, refl, sym, ap, ◌∙◌, subst}
use Rattle.std.specs.Prelude.{slice_get}
use Rattle.chaos_packet.specs.Packet.{PacketView}
use Rattle.chaos_host.specs.Slot.{named_slot, free_place}
use Rattle.chaos_host.specs.View.{HostView}
use Rattle.chaos_host.specs.Deeds.{HostEvent, host_made, deed_of}
use Rattle.chaos_host.specs.Deeds.HostEvent.{Comes, Calls, Ends, Releases, Connects, Listens, Ticks}
use Rattle.chaos_lab.specs.declared.side.Side.{Side}
use Rattle.chaos_lab.specs.Machine.{other}
use Rattle.chaos_net.specs.declared.kept_sent.KeptSent.{KeptSent}
use Rattle.chaos_net.specs.declared.mark.Mark.TheVariants.{Stays}
use Rattle.chaos_net.specs.Net.{Net, Sent, IsFresh, IsOwn, Reached, after_event, arrives}
use Rattle.chaos_net.specs.Net.NetEvent.{At, Arrives}
use Rattle.chaos_net.specs.Played.{IsStation}
use Rattle.chaos_net.specs.Kept.{NetView, at, may_come, place_in, mark_in}
use Rattle.chaos_net.specs.Running.{turn_of, Stands, Happens}
use Rattle.chaos_net.proofs.Lists.{some_eq}
use Rattle.chaos_net.proofs.Network.{reached_is_played}
use Rattle.chaos_net.proofs.Seats.{AreSeats, IsMarked, marked_nobody}
use Rattle.chaos_net.proofs.Marks.{called_marked, ticked_marked, ended_marked, released_marked, connected_marked, comes_marked}
use Rattle.chaos_net.proofs.Standing.{IsMade, stands_after, reached_on}
use Rattle.chaos_net.proofs.Fresh.{kept_there, may_come_fresh}

module _ (v : NetView) (n : Net) (x : Side) (h : Stands v n) where
  station : IsStation (n x) (n (other x))
  station = ((reached_is_played n h.reached) x).station

  size : length (at v x).seats ≡ length (n x).host.slots
  size = (h.stations x).size ∙ ap (λ w. length w.slots) (h.stations x).host

  all : AreSeats (n x) (at v x).seats
  all = (h.stations x).seats

  marked : (event : HostEvent) → IsOwn event
      → IsMarked (n x) (deed_of (n x).host event) None (place_in (n x).host event) (mark_in (n x).host event None)
      (host_made (n x).host event).packets (at v x).seats
  marked (Comes packet now) own = absurd own
  marked (Listens contact) own = marked_nobody (n x) None Stays _ (at v x).seats all
  marked (Calls id call) own =
      called_marked (n x) (n (other x)) station (at v x).seats size all id call (named_slot (n x).host.slots id) refl own
  marked (Ends id call) own =
      ended_marked (n x) (n (other x)) station (at v x).seats size all id call (named_slot (n x).host.slots id) refl
  marked (Releases id) own =
      released_marked (n x) (n (other x)) station (at v x).seats size all id (named_slot (n x).host.slots id) refl
  marked (Connects peer contact start now) own =
      connected_marked (n x) (n (other x)) station (at v x).seats size all peer contact start now
      (free_place (n x).host.slots) refl
  marked (Ticks place now) own =
      ticked_marked (n x) (n (other x)) station (at v x).seats size all place now (slice_get (n x).host.slots place) refl

-- what users and clocks make
pub did : (v v' : NetView) (x : Side) (event : HostEvent) → IsOwn event
    → IsMade v v' x event (place_in (at v x).host event) (mark_in (at v x).host event None)
    → Happens v (At x event) v'
did v v' x event own i n h =
    stands_after v v' n x event None _ _ h
    (subst (λ w. IsMade v v' x event (place_in w event) (mark_in w event None)) (h.stations x).host i)
    (reached_on n (At x event) h.reached own) (marked v n x h event own)

-- a packet that comes
pub did_arrive : (v v' : NetView) (x : Side) (number now : ℕ) (kept : KeptSent)
    → slice_get (at v (other x)).sent number ≡ Some kept → may_come v.events (at v x).seats kept ≡ true
    → IsMade v v' x (Comes kept.packet now) (place_in (at v x).host (Comes kept.packet now))
    (mark_in (at v x).host (Comes kept.packet now) kept.by)
    → Happens v (Arrives x number now) v'
did_arrive v v' x number now kept there may i n h =
    let k =
    kept_there n (other x) v.events (at v (other x)).sent (n (other x)).sent number kept (h.stations (other x)).sent
    there in
    let q : Sent = k.0 in
    let comes : arrives n x now (slice_get (n (other x)).sent number) ≡ after_event n x (Comes q.packet now) q.by =
    ap (arrives n x now) k.1 in
    let reached =
    reached_on n (Arrives x number now) h.reached
    (λ one at_one. subst (IsFresh n x) (some_eq (sym k.1 ∙ at_one)) (may_come_fresh v n x kept q h k.2 may)) in
    let made : IsMade v v' x (Comes q.packet now) (place_in (n x).host (Comes q.packet now))
    (mark_in (n x).host (Comes q.packet now) (turn_of q.by)) =
    subst
    (λ (z : PacketView × HostView × Option ℕ). IsMade v v' x (Comes z.0 now) (place_in z.1 (Comes z.0 now))
    (mark_in z.1 (Comes z.0 now) z.2))
    (λ j. (k.2.packet j, (h.stations x).host j, k.2.by j)) i in
    subst (Stands v') (sym comes)
    (stands_after v v' n x (Comes q.packet now) q.by _ _ h made (subst Reached comes reached)
    (comes_marked (n x) (n (other x)) (station v n x h) (at v x).seats (size v n x h) (all v n x h) q.by q.packet now))
