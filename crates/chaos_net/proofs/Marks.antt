-- The mark that a running net gives a seat is right, for each event of a host.
use Rattle.std.proofs.Common.{◌≡◌, ℕ, ◌+◌, ◌-◌, ◌*◌, ◌%◌, ◌<◌, ◌==◌, ◌&&◌, not, nat_lt, List, [], length, Bool, true, false, if◌then◌else◌, Option, Some, None, refl, sym, ap, ◌∙◌, subst, arith}
use Rattle.std.specs.Prelude.{slice_get, is_some, is_none}
use Rattle.std.proofs.lemmas.Bool.{false≢true, cond-true}
use Rattle.std.proofs.lemmas.Option.{slice_get_within}
use Rattle.chaos_packet.specs.Packet.{PacketView}
use Rattle.chaos_packet.specs.declared.limits.TheConstants.{MAX_DATA}
use Rattle.chaos_conn.specs.State.{is_inactive, is_ended}
use Rattle.chaos_conn.specs.Acted.{quietly}
use Rattle.chaos_conn.specs.Arriving.{act_deliver}
use Rattle.chaos_conn.specs.declared.answers.Delivered.{Delivered}
use Rattle.chaos_conn.specs.declared.answers.Delivered.TheVariants as came
use Rattle.chaos_conn.specs.declared.answers.Why.TheVariants as why
use Rattle.chaos_conn.specs.Act.{Call, Reply, act}
use Rattle.chaos_conn.specs.Act.Call.{Request, TakeRequest, Deliver, Close, Tick}
use Rattle.chaos_conn.specs.Act.Reply.{Came}
use Rattle.chaos_conn.specs.Names.{is_opened}
use Rattle.chaos_host.specs.declared.slot.Slot.{Slot}
use Rattle.chaos_host.specs.declared.route.Route.{Route}
use Rattle.chaos_host.specs.declared.route.Route.TheVariants as to
use Rattle.chaos_host.specs.Slot.{is_free, is_used, index_of, place_of, named_slot, free_place, after_ending}
use Rattle.chaos_host.specs.View.{own_end, id_in, id_at}
use Rattle.chaos_host.specs.Acted.{HostActed, slot_after_call, with_slot}
use Rattle.chaos_host.specs.Route.{route}
use Rattle.chaos_host.specs.Deliver.{deliver_by, deliver_slot, take_request_slot}
use Rattle.chaos_host.specs.Connect.{ConnectAnswer, connect_at, connect_slot}
use Rattle.chaos_host.specs.Calls.{call_slot, end_slot, release_slot}
use Rattle.chaos_host.specs.Tick.{tick_slot}
use Rattle.chaos_host.specs.Deeds.{Deed, is_users, made_of, deed_by, by_used, by_free, by_named, by_ended, by_asking, by_lowest}
use Rattle.chaos_host.specs.Deeds.Deed.{Nothing, Does}
use Rattle.chaos_host.proofs.Deeds.{free_of_used, free_of_unused, either_where, both_where, users_go_on, free_there, fits_data, Routed, routed, not_live}
use Rattle.chaos_host.proofs.Indices.{named_is}
use Rattle.chaos_host.proofs.InUse.{stays_in_use}
use Rattle.chaos_host.proofs.Requests.{takes, asks, not_zero}
use Rattle.chaos_net.specs.declared.mark.Mark.{Mark}
use Rattle.chaos_net.specs.declared.mark.Mark.TheVariants.{Stays, Begins, Joins, Frees}
use Rattle.chaos_net.specs.declared.seat.Seat.{Seat}
use Rattle.chaos_net.specs.Net.{Name, Story, Station, present, goes_on, peer_by, peer_after, story_after}
use Rattle.chaos_net.specs.Played.{IsStation}
use Rattle.chaos_net.specs.Kept.{joined, connect_place, deliver_place, deliver_mark, heard_mark}
use Rattle.chaos_net.specs.Running.{turn_of, IsSeatOf}
use Rattle.chaos_net.proofs.Lists.{some_eq, either_same}
use Rattle.chaos_net.proofs.Next.{set_same}
use Rattle.chaos_net.proofs.Seats.{AreSeats, IsMarked, IsSeated, marked_nobody, marked_quiet, marked_does}

-- ---- peers

stays_peer : (o : Option Name) (reply : Reply) (from : Option Name) → peer_by reply from ≡ None
    → peer_after o reply from ≡ o
stays_peer None reply from quiet = quiet
stays_peer (Some peer) reply from quiet = refl

joins_peer : (o : Option Name) (reply : Reply) (from : Option Name) → peer_by reply from ≡ from
    → turn_of (peer_after o reply from) ≡ joined (turn_of o) (turn_of from)
joins_peer None reply from opens = ap turn_of opens
joins_peer (Some peer) reply from opens = refl

-- without a packet that comes no peer is known
none_comes : (reply : Reply) → peer_by reply None ≡ None
none_comes (Came answer) = either_same (is_opened answer) None
none_comes reply = refl

place_back : (place generation : ℕ) → place < 255 → (256 * generation + (place + 1)) % 256 - 1 ≡ place
place_back place generation few = omega (arith, few)

-- ---- a station

module _ (own far : Station) (h : IsStation own far) (seats : List Seat) (size : length seats ≡ length own.host.slots)
    (all : AreSeats own seats) where
  few : (place : ℕ) (slot : Slot) → slice_get own.host.slots place ≡ Some slot → place < 255
  few place slot there =
      let within = slice_get_within own.host.slots place slot there in let most = h.host.table.few in omega
      (arith, within, most)

  place_told : (place : ℕ) (slot : Slot) → slice_get own.host.slots place ≡ Some slot
      → Some place ≡ Some (place_of (index_of place slot))
  place_told place slot there = ap Some (sym (place_back place slot.generation (few place slot there)))

  -- the story of a connection in use goes on
  goes_mid : (place : ℕ) (call : Call) (from : Option Name) (slot : Slot) (seat : Seat) (f : Story)
      (P : Option ℕ → Option ℕ → Type 0)
      → slice_get own.host.slots place ≡ Some slot → is_free slot ≡ false
      → IsSeatOf own (present own place) seat → story_after (own.story (present own place)) slot.conn call from ≡ Some f
      → ((o : Option Name) → P (turn_of o) (turn_of (peer_after o (act slot.conn call).answer from)))
      → P seat.peer (turn_of f.peer)
  goes_mid place call from slot seat f P there used old is by =
      let u = (h.slots place slot there).used used in
      let f_is : goes_on u.0 call from ≡ f = some_eq (sym (ap (λ o. story_after o slot.conn call from) u.1) ∙ is) in
      subst (λ (z : Option ℕ × Story). P z.0 (turn_of z.1.peer)) (λ j. (sym (old.peer u.0 u.1) j, f_is j))
      (subst (λ v. P (turn_of u.0.peer) (turn_of (peer_after u.0.peer (act v call).answer from))) (sym u.2)
      (by u.0.peer))

  stays_seated : (place : ℕ) (call : Call) (from : Option Name) (slot : Slot)
      → slice_get own.host.slots place ≡ Some slot → is_free slot ≡ false
      → peer_by (act slot.conn call).answer from ≡ None → is_free (slot_after_call slot call) ≡ false
      → IsSeated own place call from slot Stays
  stays_seated place call from slot there used quiet still = record {
    there = there;
    stories = λ name s is. (h.stories name s is).turn;
    mid =
        λ seat f old is. goes_mid place call from slot seat f (λ a b. a ≡ b) there used old is
        (λ o. ap turn_of (sym (stays_peer o (act slot.conn call).answer from quiet)));
    freed = λ gone. absurd (false≢true (sym still ∙ gone));
    used = λ _ seat. refl;
  }

  frees_seated : (place : ℕ) (call : Call) (from : Option Name) (slot : Slot)
      → slice_get own.host.slots place ≡ Some slot → is_free slot ≡ false
      → peer_by (act slot.conn call).answer from ≡ None → is_free (slot_after_call slot call) ≡ true
      → IsSeated own place call from slot Frees
  frees_seated place call from slot there used quiet gone = record {
    there = there;
    stories = λ name s is. (h.stories name s is).turn;
    mid =
        λ seat f old is. goes_mid place call from slot seat f (λ a b. a ≡ b) there used old is
        (λ o. ap turn_of (sym (stays_peer o (act slot.conn call).answer from quiet)));
    freed = λ _ seat. refl;
    used = λ still. absurd (false≢true (sym still ∙ gone));
  }

  joins_seated : (place : ℕ) (call : Call) (from : Option Name) (slot : Slot)
      → slice_get own.host.slots place ≡ Some slot → is_free slot ≡ false
      → peer_by (act slot.conn call).answer from ≡ from → is_free (slot_after_call slot call) ≡ false
      → IsSeated own place call from slot (Joins (turn_of from))
  joins_seated place call from slot there used opens still = record {
    there = there;
    stories = λ name s is. (h.stories name s is).turn;
    mid =
        λ seat f old is. goes_mid place call from slot seat f (λ a b. joined a (turn_of from) ≡ b) there used old is
        (λ o. sym (joins_peer o (act slot.conn call).answer from opens));
    freed = λ gone. absurd (false≢true (sym still ∙ gone));
    used = λ _ seat. refl;
  }

  begins_seated : (place : ℕ) (call : Call) (from : Option Name) (slot : Slot) (by : Option Name)
      → slice_get own.host.slots place ≡ Some slot → is_free slot ≡ true → is_free (slot_after_call slot call) ≡ false
      → ((f : Story) → story_after None slot.conn call from ≡ Some f → by ≡ f.peer)
      → IsSeated own place call from slot (Begins (turn_of by))
  begins_seated place call from slot by there free still peer = record {
    there = there;
    stories = λ name s is. (h.stories name s is).turn;
    mid =
        λ seat f old is. ap turn_of
        (peer f (ap (λ o. story_after o slot.conn call from) (sym ((h.slots place slot there).free free)) ∙ is));
    freed = λ gone. absurd (false≢true (sym still ∙ gone));
    used = λ _ seat. refl;
  }

  -- ---- users' calls

  pub called_marked : (id : ℕ) (call : Call) (o : Option Slot) → named_slot own.host.slots id ≡ o → is_users call ≡ true
      → IsMarked own (by_named id call o) None (Some (place_of id)) Stays
      (made_of (call_slot own.host id call o)).packets seats
  called_marked id call None is u = marked_quiet own None (place_of id) [] seats refl all
  called_marked id call (Some slot) is u =
      let n = named_is id (slice_get own.host.slots (place_of id)) slot is in
      let used = free_of_used slot n.1 in
      marked_does own (place_of id) call None slot Stays _ seats
      (stays_seated (place_of id) call None slot n.0 used (none_comes (act slot.conn call).answer)
      (stays_in_use slot.conn call (users_go_on call u).1 used))
      size all

  pub ticked_marked : (place now : ℕ) (o : Option Slot) → slice_get own.host.slots place ≡ o
      → IsMarked own (by_used place (Tick now) o) None (Some place) Stays
      (made_of (tick_slot own.host place now o)).packets seats
  ticked_marked place now None is = marked_quiet own None place [] seats refl all
  ticked_marked place now (Some slot) is =
      both_where (λ d a. IsMarked own d None (Some place) Stays (made_of a).packets seats) (is_used slot) _ _ _ _
      (λ taken. let used = free_of_used slot taken in
      marked_does own place (Tick now) None slot Stays _ seats
      (stays_seated place (Tick now) None slot is used (none_comes (act slot.conn (Tick now)).answer)
      (stays_in_use slot.conn (Tick now) refl used))
      size all)
      (λ _. marked_quiet own None place [] seats refl all)

  -- ---- calls that end a connection

  end_does : (place : ℕ) (call : Call) (slot : Slot) (mark : Bool → Mark) → mark true ≡ Frees → mark false ≡ Stays
      → slice_get own.host.slots place ≡ Some slot → is_free slot ≡ false
      → IsMarked own (Does place call) None (Some place)
      (mark (is_none (id_at (with_slot own.host place (after_ending (slot_after_call slot call))) place)))
      (act slot.conn call).packets seats
  end_does place call slot mark frees stays there used = by (is_free (slot_after_call slot call)) refl
    where
      left : Slot
      left = slot_after_call slot call

      none_if : (b : Bool) (i : ℕ) → is_none (if not b then Some i else None) ≡ b
      none_if true i = refl
      none_if false i = refl

      free_if : (b : Bool) (x y : Slot) → is_free x ≡ is_free y → is_free (if b then x else y) ≡ is_free y
      free_if true x y same = same
      free_if false x y same = refl

      test : is_none (id_at (with_slot own.host place (after_ending (slot_after_call slot call))) place)
          ≡ is_free (slot_after_call slot call)
      test =
          let next : Slot = after_ending (slot_after_call slot call) in
          ap (λ o. is_none (id_in place o)) (set_same own.host.slots place next slot there)
          ∙ none_if (is_free next) (index_of place next)
          ∙ free_if (is_free (slot_after_call slot call)) _ (slot_after_call slot call) refl

      by : (b : Bool) → is_free (slot_after_call slot call) ≡ b
          → IsMarked own (Does place call) None (Some place)
          (mark (is_none (id_at (with_slot own.host place (after_ending (slot_after_call slot call))) place)))
          (act slot.conn call).packets seats
      by true gone =
          subst (λ m. IsMarked own (Does place call) None (Some place) m (act slot.conn call).packets seats)
          (sym (ap mark (test ∙ gone) ∙ frees))
          (marked_does own place call None slot Frees _ seats
          (frees_seated place call None slot there used (none_comes (act slot.conn call).answer) gone) size all)
      by false still =
          subst (λ m. IsMarked own (Does place call) None (Some place) m (act slot.conn call).packets seats)
          (sym (ap mark (test ∙ still) ∙ stays))
          (marked_does own place call None slot Stays _ seats
          (stays_seated place call None slot there used (none_comes (act slot.conn call).answer) still) size all)

  pub ended_marked : (id : ℕ) (call : Call) (o : Option Slot) → named_slot own.host.slots id ≡ o
      → IsMarked own (by_named id call o) None (Some (place_of id))
      (if is_some o
      && is_none (id_at (made_of (end_slot own.host id call o)).view (place_of id)) then Frees else Stays)
      (made_of (end_slot own.host id call o)).packets seats
  ended_marked id call None is = marked_quiet own None (place_of id) [] seats refl all
  ended_marked id call (Some slot) is =
      let n = named_is id (slice_get own.host.slots (place_of id)) slot is in
      end_does (place_of id) call slot (λ b. if b then Frees else Stays) refl refl n.0 (free_of_used slot n.1)

  pub released_marked : (id : ℕ) (o : Option Slot) → named_slot own.host.slots id ≡ o
      → IsMarked own (by_ended id o) None (Some (place_of id))
      (if is_some o
      && is_none (id_at (made_of (release_slot own.host id o)).view (place_of id)) then Frees else Stays)
      (made_of (release_slot own.host id o)).packets seats
  released_marked id None is = marked_quiet own None (place_of id) [] seats refl all
  released_marked id (Some slot) is =
      let n = named_is id (slice_get own.host.slots (place_of id)) slot is in
      let here : is_none (id_at own.host (place_of id)) ≡ false =
      ap (λ o. is_none (id_in (place_of id) o)) n.0
      ∙ ap (λ b. is_none (if b then Some (index_of (place_of id) slot) else None)) n.1 in
      both_where
      (λ d a. IsMarked own d None (Some (place_of id))
      (if is_none (id_at (made_of a).view (place_of id)) then Frees else Stays) (made_of a).packets seats)
      (is_ended slot.conn.state) _ _ _ _
      (λ _. end_does (place_of id) (Close []) slot (λ b. if b then Frees else Stays) refl refl n.0
      (free_of_used slot n.1))
      (λ _. subst (λ (b : Bool). IsMarked own Nothing None (Some (place_of id)) (if b then Frees else Stays) [] seats)
      (sym here) (marked_quiet own None (place_of id) [] seats refl all))

  -- ---- connections that begin

  asked_marked : (place peer : ℕ) (contact : List ℕ) (start now : ℕ) (o : Option Slot)
      → free_place own.host.slots ≡ Some place → slice_get own.host.slots place ≡ o
      → nat_lt MAX_DATA (length contact) ≡ false → (peer == 0) ≡ false
      → IsMarked own (by_asking own.host place peer contact start now o) None
      (connect_place (connect_slot own.host place peer contact start now o).answer) (Begins None)
      (made_of (connect_slot own.host place peer contact start now o)).packets seats
  asked_marked place peer contact start now None lowest is short far_is =
      marked_nobody own None (Begins None) [] seats all
  asked_marked place peer contact start now (Some slot) lowest is short far_is =
      let free = free_there own.host.slots place slot lowest is in
      let call : Call = Request (own_end own.host place slot) peer contact start now in
      subst (λ o. IsMarked own (Does place call) None o (Begins None) (act slot.conn call).packets seats)
      (place_told place slot is)
      (marked_does own place call None slot (Begins None) _ seats
      (begins_seated place call None slot None is free
      (ap is_inactive
      (asks slot.conn (own_end own.host place slot) peer contact start now free
      (not_zero own.host.address h.host.address) far_is (fits_data (length contact) short)))
      (λ f made. ap (λ (s : Story). s.peer) (some_eq made))) size all)

  pub connected_marked : (peer : ℕ) (contact : List ℕ) (start now : ℕ) (o : Option ℕ) → free_place own.host.slots ≡ o
      → IsMarked own (by_lowest own.host peer contact start now o) None
      (connect_place (connect_at own.host peer contact start now o).answer) (Begins None)
      (made_of (connect_at own.host peer contact start now o)).packets seats
  connected_marked peer contact start now None is = marked_nobody own None (Begins None) [] seats all
  connected_marked peer contact start now (Some place) is =
      let P : Deed → HostActed ConnectAnswer → Type 0 =
      λ d a. IsMarked own d None (connect_place a.answer) (Begins None) (made_of a).packets seats in
      both_where P (nat_lt MAX_DATA (length contact)) _ _ _ _
      (λ _. marked_nobody own None (Begins None) [] seats all)
      (λ short. both_where P (peer == 0) _ _ _ _
      (λ _. marked_nobody own None (Begins None) [] seats all)
      (λ far_is. asked_marked place peer contact start now (slice_get own.host.slots place) is refl short far_is))

  -- ---- packets that come

  heard_marked : (from : Option Name) (p : PacketView) (now place : ℕ) (slot : Slot) (d : Delivered)
      → (act_deliver slot.conn p now).answer ≡ d → slice_get own.host.slots place ≡ Some slot → is_free slot ≡ false
      → IsMarked own (Does place (Deliver p now)) from (Some place) (heard_mark d (turn_of from))
      (act slot.conn (Deliver p now)).packets seats
  heard_marked from p now place slot came.Opened is there used =
      marked_does own place (Deliver p now) from slot (Joins (turn_of from)) _ seats
      (joins_seated place (Deliver p now) from slot there used (ap (λ d. peer_by (Came d) from) is)
      (stays_in_use slot.conn (Deliver p now) refl used))
      size all
  heard_marked from p now place slot d is there used =
      marked_does own place (Deliver p now) from slot Stays _ seats
      (stays_seated place (Deliver p now) from slot there used (ap (λ d. peer_by (Came d) from) is)
      (stays_in_use slot.conn (Deliver p now) refl used))
      size all

  came_marked : (from : Option Name) (p : PacketView) (now place : ℕ) (o : Option Slot)
      → slice_get own.host.slots place ≡ o
      → IsMarked own (by_used place (Deliver p now) o) from (deliver_place (deliver_slot own.host p now place o).answer)
      (deliver_mark (deliver_slot own.host p now place o).answer (turn_of from))
      (made_of (deliver_slot own.host p now place o)).packets seats
  came_marked from p now place None is = marked_nobody own from Stays [] seats all
  came_marked from p now place (Some slot) is =
      let d : Delivered = (act_deliver slot.conn p now).answer in
      subst
      (λ o. IsMarked own (if is_used slot then Does place (Deliver p now) else Nothing) from o
      (heard_mark d (turn_of from)) (act slot.conn (Deliver p now)).packets seats)
      (place_told place slot is)
      (either_where
      (λ deed. IsMarked own deed from (Some place) (heard_mark d (turn_of from))
      (act slot.conn (Deliver p now)).packets seats)
      (is_used slot) _ _
      (λ taken. heard_marked from p now place slot d refl is (free_of_used slot taken))
      (λ unused.
      let still : act_deliver slot.conn p now ≡ quietly slot.conn (came.Dropped why.NotOpen) =
      cond-true _ _ _ (ap not (not_live slot.conn.state (free_of_unused slot unused))) in
      subst (λ m. IsMarked own Nothing from (Some place) m (act slot.conn (Deliver p now)).packets seats)
      (sym (ap (λ a. heard_mark a.answer (turn_of from)) still))
      (marked_quiet own from place (act slot.conn (Deliver p now)).packets seats (ap (λ a. a.packets) still) all)))

  took_marked : (from : Option Name) (p : PacketView) (now place : ℕ) (o : Option Slot)
      → slice_get own.host.slots place ≡ o → Routed own.host p (to.Request place)
      → IsMarked own (by_free own.host p now place o) from
      (deliver_place (take_request_slot own.host p now place o).answer)
      (deliver_mark (take_request_slot own.host p now place o).answer (turn_of from))
      (made_of (take_request_slot own.host p now place o)).packets seats
  took_marked from p now place None is r = marked_nobody own from Stays [] seats all
  took_marked from p now place (Some slot) is r =
      let free = free_there own.host.slots place slot r.0 is in
      let call : Call = TakeRequest p (own_end own.host place slot) now in
      subst (λ o. IsMarked own (Does place call) from o (Begins (turn_of from)) (act slot.conn call).packets seats)
      (place_told place slot is)
      (marked_does own place call from slot (Begins (turn_of from)) _ seats
      (begins_seated place call from slot from is free
      (ap is_inactive
      (takes slot.conn p (own_end own.host place slot) now free (not_zero own.host.address h.host.address) r.1 r.2))
      (λ f made. ap (λ (s : Story). s.peer) (some_eq made))) size all)

  routed_marked : (from : Option Name) (p : PacketView) (now : ℕ) (r : Route) → Routed own.host p r
      → IsMarked own (deed_by own.host p now r) from (deliver_place (deliver_by own.host p now r).answer)
      (deliver_mark (deliver_by own.host p now r).answer (turn_of from))
      (made_of (deliver_by own.host p now r)).packets seats
  routed_marked from p now to.NotOurs r = marked_nobody own from Stays _ seats all
  routed_marked from p now to.NoSource r = marked_nobody own from Stays _ seats all
  routed_marked from p now (to.Slot place) r = came_marked from p now place (slice_get own.host.slots place) refl
  routed_marked from p now to.NoServer r = marked_nobody own from Stays _ seats all
  routed_marked from p now to.TableFull r = marked_nobody own from Stays _ seats all
  routed_marked from p now (to.Request place) r = took_marked from p now place (slice_get own.host.slots place) refl r
  routed_marked from p now to.SendLos r = marked_nobody own from Stays _ seats all
  routed_marked from p now to.DropSilently r = marked_nobody own from Stays _ seats all

  pub comes_marked : (from : Option Name) (p : PacketView) (now : ℕ)
      → IsMarked own (deed_by own.host p now (route own.host p)) from
      (deliver_place (deliver_by own.host p now (route own.host p)).answer)
      (deliver_mark (deliver_by own.host p now (route own.host p)).answer (turn_of from))
      (made_of (deliver_by own.host p now (route own.host p))).packets seats
  comes_marked from p now = routed_marked from p now (route own.host p) (routed own.host p)
