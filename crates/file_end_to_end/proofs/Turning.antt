-- What events make of the turns of B's slots, and of what its server keeps for them.
use Rattle.std.proofs.Common.{◌≡◌, ℕ, suc, ◌+◌, ◌==◌, Bool, true, false, if◌then◌else◌, List, [], length, Option, Some, None, refl, sym, ap, ◌∙◌, subst, ⊎_elim, arith}
use Rattle.std.specs.Prelude.{slice_get, nat_lt, ⊤}
use Rattle.std.proofs.lemmas.Bool.{false≢true, cond-true, cond-false, cases_Bool, eqb-true}
use Rattle.chaos_packet.specs.Packet.{PacketView}
use Rattle.chaos_packet.specs.declared.limits.TheConstants.{MAX_DATA}
use Rattle.chaos_conn.specs.State.{is_inactive, is_ended}
use Rattle.chaos_conn.specs.Act.{Call}
use Rattle.chaos_conn.specs.Act.Call.{Request, TakeRequest, Accept, Answer, Reject, Deliver, Write, Unc, Read, FinishRead, Announce, Close, Tick}
use Rattle.chaos_conn.specs.Names.{begins, ends}
use Rattle.chaos_file.specs.Session.{SessionView}
use Rattle.chaos_host.specs.declared.slot.Slot.{Slot}
use Rattle.chaos_host.specs.declared.route.Route.{Route}
use Rattle.chaos_host.specs.declared.route.Route.TheVariants as to
use Rattle.chaos_host.specs.Slot.{free_place, is_free, is_used, named_slot}
use Rattle.chaos_host.specs.View.{HostView, IsHost}
use Rattle.chaos_host.specs.Acted.{slot_after_call}
use Rattle.chaos_host.specs.Route.{route}
use Rattle.chaos_host.specs.Deeds.{Deed, HostMade, IsDeed, FitsSlot, is_users, host_made, deed_of, deed_by, by_asking, by_lowest, by_used, by_free, by_named, by_ended}
use Rattle.chaos_host.specs.Deeds.HostEvent.{Comes, Calls, Connects, Ends, Releases, Ticks}
use Rattle.chaos_host.specs.Deeds.Deed.{Nothing, Does}
use Rattle.chaos_host.proofs.Deeds.{has_deeds}
use Rattle.chaos_host.proofs.InUse.{stays_in_use}
use Rattle.chaos_host.proofs.Requests.{not_zero}
use Rattle.chaos_net.specs.Net.{Name, Story, Station, index_of, present, goes_on, story_after, after_slot, after_deed}
use Rattle.chaos_net.specs.Played.{IsStation}
use Rattle.chaos_net.proofs.Next.{look_own, look_other}
use Rattle.chaos_net.proofs.Pairs.{takes_rfc, asks_rfc}
use Rattle.chaos_net.proofs.Steps.{not_begins}
use Rattle.file_server.specs.Sessions.{Serving}
use Rattle.file_end_to_end.specs.Server.{name_at, IsOld, IsKept}

-- ---- a connection goes on

shut : {X : Type 0} → false ≡ true → X
shut h = absurd (false≢true h)

-- a call that ends none leaves its slot in use
stays_used : (v : HostView) → IsHost v → (place : ℕ) (slot : Slot) (call : Call) → FitsSlot v place slot call
    → ends call ≡ false → is_free (slot_after_call slot call) ≡ false
stays_used v h place slot (Request me peer contact start now) fits e =
    let here : (me.address == 0) ≡ false = ap (λ m. m.address == 0) fits.1 ∙ not_zero v.address h.address in
    ap (λ a. is_inactive a.view.state) (asks_rfc slot.conn me peer contact start now fits.0 here fits.3 fits.2)
stays_used v h place slot (TakeRequest rfc me now) fits e =
    let here : (me.address == 0) ≡ false = ap (λ m. m.address == 0) fits.1 ∙ not_zero v.address h.address in
    ap (λ a. is_inactive a.view.state) (takes_rfc slot.conn rfc me now fits.0 here fits.2 fits.3)
stays_used v h place slot (Accept start now) fits e = stays_in_use slot.conn (Accept start now) refl fits
stays_used v h place slot (Answer bytes) fits e = shut (sym e)
stays_used v h place slot (Reject text) fits e = shut (sym e)
stays_used v h place slot (Deliver p now) fits e = stays_in_use slot.conn (Deliver p now) refl fits
stays_used v h place slot (Write op bytes now) fits e = stays_in_use slot.conn (Write op bytes now) refl fits
stays_used v h place slot (Unc bytes) fits e = stays_in_use slot.conn (Unc bytes) refl fits
stays_used v h place slot Read fits e = stays_in_use slot.conn Read refl fits
stays_used v h place slot FinishRead fits e = stays_in_use slot.conn FinishRead refl fits
stays_used v h place slot (Announce window) fits e = stays_in_use slot.conn (Announce window) refl fits
stays_used v h place slot (Close text) fits e = shut (sym e)
stays_used v h place slot (Tick now) fits e = stays_in_use slot.conn (Tick now) refl fits

-- and then each turn stays
turn_stays : (st : Station) (place : ℕ) (call : Call) (from : Option Name) (slot : Slot)
    → is_free (slot_after_call slot call) ≡ false → (p : ℕ)
    → (after_slot st place call from (Some slot)).turn p ≡ st.turn p
turn_stays st place call from slot used p = by (p == place) refl
  where
    new : ℕ
    new = if is_free (slot_after_call slot call) then st.turn place + 1 else st.turn place

    by : (b : Bool) → (p == place) ≡ b
        → (if b then (if is_free (slot_after_call slot call) then st.turn place + 1 else st.turn place) else st.turn p)
        ≡ st.turn p
    by true is =
        cond-false (is_free (slot_after_call slot call)) (st.turn place + 1) (st.turn place) used
        ∙ ap st.turn (sym (eqb-true p place is))
    by false is = refl

-- a deed that ends no connection
abbrev pub EndsNone : Deed → Type 0
EndsNone Nothing = ⊤
EndsNone (Does place call) = ends call ≡ false

pub deed_turns : (own far : Station) → IsStation own far → (d : Deed) (made : HostMade) → IsDeed own.host d made
    → EndsNone d → (from : Option Name) (p : ℕ) → (after_deed own d from).turn p ≡ own.turn p
deed_turns own far h Nothing made done e from p = refl
deed_turns own far h (Does place call) made done e from p =
    ap (λ o. (after_slot own place call from o).turn p) done.there
    ∙ turn_stays own place call from done.slot (stays_used own.host h.host place done.slot call done.fits e) p

-- ---- deeds of events

users_end_none : (call : Call) → is_users call ≡ true → ends call ≡ false
users_end_none (Accept start now) h = refl
users_end_none (Write op bytes now) h = refl
users_end_none (Unc bytes) h = refl
users_end_none Read h = refl
users_end_none FinishRead h = refl
users_end_none (Announce window) h = refl
users_end_none (Request me peer contact start now) h = refl
users_end_none (TakeRequest rfc me now) h = refl
users_end_none (Answer bytes) h = shut h
users_end_none (Reject text) h = shut h
users_end_none (Deliver p now) h = refl
users_end_none (Close text) h = shut h
users_end_none (Tick now) h = refl

users_begin_none : (call : Call) → is_users call ≡ true → begins call ≡ false
users_begin_none (Accept start now) h = refl
users_begin_none (Write op bytes now) h = refl
users_begin_none (Unc bytes) h = refl
users_begin_none Read h = refl
users_begin_none FinishRead h = refl
users_begin_none (Announce window) h = refl
users_begin_none (Request me peer contact start now) h = shut h
users_begin_none (TakeRequest rfc me now) h = shut h
users_begin_none (Answer bytes) h = refl
users_begin_none (Reject text) h = refl
users_begin_none (Deliver p now) h = refl
users_begin_none (Close text) h = refl
users_begin_none (Tick now) h = refl

if_deed : (P : Deed → Type 0) (b : Bool) (c d : Deed) → P c → P d → P (if b then c else d)
if_deed P true c d p q = p
if_deed P false c d p q = q

used_deed : (P : Deed → Type 0) (place : ℕ) (call : Call) (o : Option Slot) → P Nothing → P (Does place call)
    → P (by_used place call o)
used_deed P place call None p q = p
used_deed P place call (Some slot) p q = if_deed P (is_used slot) (Does place call) Nothing q p

named_deed : (P : Deed → Type 0) (id : ℕ) (call : Call) (o : Option Slot) → P Nothing
    → P (Does (Rattle.chaos_host.specs.Slot.place_of id) call) → P (by_named id call o)
named_deed P id call None p q = p
named_deed P id call (Some slot) p q = q

free_deed : (v : HostView) (p : PacketView) (now place : ℕ) (o : Option Slot) → EndsNone (by_free v p now place o)
free_deed v p now place None = tt
free_deed v p now place (Some slot) = refl

route_deed : (v : HostView) (p : PacketView) (now : ℕ) (r : Route) → EndsNone (deed_by v p now r)
route_deed v p now (to.Slot place) = used_deed EndsNone place (Deliver p now) (slice_get v.slots place) tt refl
route_deed v p now (to.Request place) = free_deed v p now place (slice_get v.slots place)
route_deed v p now to.NotOurs = tt
route_deed v p now to.NoSource = tt
route_deed v p now to.NoServer = tt
route_deed v p now to.TableFull = tt
route_deed v p now to.SendLos = tt
route_deed v p now to.DropSilently = tt

-- a packet that comes, or a user's call, leaves all turns
pub comes_turns : (own far : Station) → IsStation own far → (packet : PacketView) (now : ℕ) (from : Option Name) (p : ℕ)
    → (after_deed own (deed_of own.host (Comes packet now)) from).turn p ≡ own.turn p
comes_turns own far h packet now from p =
    deed_turns own far h (deed_of own.host (Comes packet now)) (host_made own.host (Comes packet now))
    (has_deeds own.host (Comes packet now) h.host tt) (route_deed own.host packet now (route own.host packet)) from p

pub ticks_turns : (own far : Station) → IsStation own far → (place now : ℕ) (from : Option Name) (p : ℕ)
    → (after_deed own (deed_of own.host (Ticks place now)) from).turn p ≡ own.turn p
ticks_turns own far h place now from p =
    deed_turns own far h (deed_of own.host (Ticks place now)) (host_made own.host (Ticks place now))
    (has_deeds own.host (Ticks place now) h.host tt)
    (used_deed EndsNone place (Tick now) (slice_get own.host.slots place) tt refl) from p

pub calls_turns : (own far : Station) → IsStation own far → (id : ℕ) (call : Call) → is_users call ≡ true
    → (from : Option Name) (p : ℕ) → (after_deed own (deed_of own.host (Calls id call)) from).turn p ≡ own.turn p
calls_turns own far h id call users from p =
    deed_turns own far h (deed_of own.host (Calls id call)) (host_made own.host (Calls id call))
    (has_deeds own.host (Calls id call) h.host users)
    (named_deed EndsNone id call (named_slot own.host.slots id) tt (users_end_none call users)) from p

lowest_deed : (v : HostView) (peer : ℕ) (contact : List ℕ) (start now : ℕ) (o : Option ℕ)
    → EndsNone (by_lowest v peer contact start now o)
lowest_deed v peer contact start now None = tt
lowest_deed v peer contact start now (Some place) =
    if_deed EndsNone (nat_lt MAX_DATA (length contact)) Nothing _ tt
    (if_deed EndsNone (peer == 0) Nothing _ tt (by_slot (slice_get v.slots place)))
  where
    by_slot : (o : Option Slot) → EndsNone (by_asking v place peer contact start now o)
    by_slot None = tt
    by_slot (Some slot) = refl

pub connects_turns : (own far : Station) → IsStation own far → (peer : ℕ) (contact : List ℕ) (start now : ℕ)
    (from : Option Name) (p : ℕ)
    → (after_deed own (deed_of own.host (Connects peer contact start now)) from).turn p ≡ own.turn p
connects_turns own far h peer contact start now from p =
    deed_turns own far h (deed_of own.host (Connects peer contact start now))
    (host_made own.host (Connects peer contact start now))
    (has_deeds own.host (Connects peer contact start now) h.host tt)
    (lowest_deed own.host peer contact start now (free_place own.host.slots)) from p

-- ---- what is kept for the slots, where none begins

abbrev BeginsNone : Deed → Type 0
BeginsNone Nothing = ⊤
BeginsNone (Does place call) = begins call ≡ false

module _ (own far : Station) (h : IsStation own far) (sessions : Name → SessionView) (place : ℕ) (call : Call)
    (from : Option Name) (slot : Slot) (there : slice_get own.host.slots place ≡ Some slot)
    (in_use : is_free slot ≡ false) where
  -- another slot
  other_kept : (p : ℕ) (serving : Serving) → (p == place) ≡ false → IsKept own.turn own.story sessions p serving
      → IsKept (after_slot own place call from (Some slot)).turn (after_slot own place call from (Some slot)).story sessions p serving
  other_kept p serving apart k =
      let st : Station = after_slot own place call from (Some slot) in
      let turn : st.turn p ≡ own.turn p = cond-false (p == place) _ (own.turn p) apart in
      let name : name_at st.turn p ≡ name_at own.turn p = (λ j. record { place = p; turn = turn j }) in
      let elsewhere : name_at own.turn p ≡ present own place → ⊥ =
      λ e. false≢true (sym apart ∙ Rattle.std.proofs.lemmas.Bool.eq-eqb p place (ap (λ z. z.place) e)) in
      let story : st.story (name_at st.turn p) ≡ own.story (name_at own.turn p) =
      ap st.story name
      ∙ look_other own.story (present own place) (story_after (own.story (present own place)) slot.conn call from)
      (name_at own.turn p) elsewhere in
      record {
        used = λ s is.
            let u = k.used s (sym story ∙ is) in
            (u.0 ∙ ap (λ z. Some (index_of z)) (sym name), u.1 ∙ ap sessions (sym name));
        free = λ none. old p serving.id turn (k.free (sym story ∙ none));
      }
    where
      old : (p : ℕ) (id : Option ℕ) → (after_slot own place call from (Some slot)).turn p ≡ own.turn p
          → IsOld own.turn p id → IsOld (after_slot own place call from (Some slot)).turn p id
      old p None turn o = tt
      old p (Some id) turn o = (o.0, turn ∙ o.1, o.2)

  -- the slot itself
  own_kept : (serving : Serving) → IsKept own.turn own.story sessions place serving
      → IsKept (after_slot own place call from (Some slot)).turn (after_slot own place call from (Some slot)).story sessions place serving
  own_kept serving k =
      let u = (h.slots place slot there).used in_use in
      let s : Story = u.0 in
      let kept = k.used s u.1 in
      let st : Station = after_slot own place call from (Some slot) in
      let c : Name = present own place in
      let here : (place == place) ≡ true = Rattle.std.proofs.lemmas.Bool.eq-eqb place place refl in
      let own_story : st.story c ≡ Some (goes_on s call from) =
      look_own own.story c (story_after (own.story c) slot.conn call from)
      ∙ ap (λ o. story_after o slot.conn call from) u.1 in
      ⊎_elim
      (λ (freed : is_free (slot_after_call slot call) ≡ true).
      let turn : st.turn place ≡ suc (own.turn place) =
      cond-true (place == place) _ (own.turn place) here
      ∙ cond-true (is_free (slot_after_call slot call)) (own.turn place + 1) (own.turn place) freed ∙ omega arith in
      let name : name_at st.turn place ≡ record { place = place; turn = suc (own.turn place) } =
      (λ j. record { place = place; turn = turn j }) in
      let later : (record { place = place; turn = suc (own.turn place) }) ≡ c → ⊥ =
      λ e. let same : suc (own.turn place) ≡ own.turn place = ap (λ z. z.turn) e in absurd (omega (arith, same)) in
      let old : st.story (record { place = place; turn = suc (own.turn place) })
      ≡ own.story (record { place = place; turn = suc (own.turn place) }) =
      look_other own.story c (story_after (own.story c) slot.conn call from)
      (record { place = place; turn = suc (own.turn place) }) later in
      record {
        used = λ s' is.
            let there' = sym old ∙ ap st.story (sym name) ∙ is in
            let last = (h.stories (record { place = place; turn = suc (own.turn place) }) s' there').turn in
            absurd (omega (arith, last));
        free = λ none. subst (IsOld st.turn place) (sym kept.0) (own.turn place, turn, refl);
      })
      (λ (stays : is_free (slot_after_call slot call) ≡ false).
      let turn : st.turn place ≡ own.turn place =
      cond-true (place == place) _ (own.turn place) here
      ∙ cond-false (is_free (slot_after_call slot call)) (own.turn place + 1) (own.turn place) stays in
      let name : name_at st.turn place ≡ c = (λ j. record { place = place; turn = turn j }) in
      record {
        used = λ s' is. (kept.0 ∙ ap (λ z. Some (index_of z)) (sym name), kept.1 ∙ ap sessions (sym name));
        free = λ none.
            let isnt : None ≡ Some (goes_on s call from) = sym none ∙ ap st.story name ∙ own_story in absurd (cc);
      })
      (cases_Bool (is_free (slot_after_call slot call)))

  each_kept : (p : ℕ) (serving : Serving) → IsKept own.turn own.story sessions p serving
      → IsKept (after_slot own place call from (Some slot)).turn (after_slot own place call from (Some slot)).story sessions p serving
  each_kept p serving k =
      ⊎_elim
      (λ (same : (p == place) ≡ true).
      let e : p ≡ place = eqb-true p place same in
      subst
      (λ q. IsKept (after_slot own place call from (Some slot)).turn (after_slot own place call from (Some slot)).story sessions q serving)
      (sym e) (own_kept serving (subst (λ q. IsKept own.turn own.story sessions q serving) e k)))
      (λ (apart : (p == place) ≡ false). other_kept p serving apart k)
      (cases_Bool (p == place))

deed_kept : (own far : Station) → IsStation own far → (sessions : Name → SessionView) (d : Deed) (made : HostMade)
    → IsDeed own.host d made → BeginsNone d → (from : Option Name) (p : ℕ) (serving : Serving)
    → IsKept own.turn own.story sessions p serving
    → IsKept (after_deed own d from).turn (after_deed own d from).story sessions p serving
deed_kept own far h sessions Nothing made done b from p serving k = k
deed_kept own far h sessions (Does place call) made done b from p serving k =
    subst (λ o. IsKept (after_slot own place call from o).turn (after_slot own place call from o).story sessions p serving)
    (sym done.there)
    (each_kept own far h sessions place call from done.slot done.there
    (not_begins own.host place done.slot call b done.fits) p serving k)

ends_begin_none : (call : Call) → ends call ≡ true → begins call ≡ false
ends_begin_none (Answer bytes) h = refl
ends_begin_none (Reject text) h = refl
ends_begin_none (Close text) h = refl
ends_begin_none (Request me peer contact start now) h = shut h
ends_begin_none (TakeRequest rfc me now) h = shut h
ends_begin_none (Accept start now) h = refl
ends_begin_none (Deliver p now) h = refl
ends_begin_none (Write op bytes now) h = refl
ends_begin_none (Unc bytes) h = refl
ends_begin_none Read h = refl
ends_begin_none FinishRead h = refl
ends_begin_none (Announce window) h = refl
ends_begin_none (Tick now) h = refl

ended_deed : (id : ℕ) (o : Option Slot) → BeginsNone (by_ended id o)
ended_deed id None = tt
ended_deed id (Some slot) =
    if_deed BeginsNone (is_ended slot.conn.state) (Does (Rattle.chaos_host.specs.Slot.place_of id) (Close [])) Nothing refl tt

module _ (own far : Station) (h : IsStation own far) (sessions : Name → SessionView) (from : Option Name) (p : ℕ)
    (serving : Serving) (k : IsKept own.turn own.story sessions p serving) where
  pub ends_kept : (id : ℕ) (call : Call) → ends call ≡ true
      → IsKept (after_deed own (deed_of own.host (Ends id call)) from).turn
      (after_deed own (deed_of own.host (Ends id call)) from).story sessions p serving
  ends_kept id call e =
      deed_kept own far h sessions (deed_of own.host (Ends id call)) (host_made own.host (Ends id call))
      (has_deeds own.host (Ends id call) h.host e)
      (named_deed BeginsNone id call (named_slot own.host.slots id) tt (ends_begin_none call e)) from p serving k

  pub calls_kept : (id : ℕ) (call : Call) → is_users call ≡ true
      → IsKept (after_deed own (deed_of own.host (Calls id call)) from).turn
      (after_deed own (deed_of own.host (Calls id call)) from).story sessions p serving
  calls_kept id call users =
      deed_kept own far h sessions (deed_of own.host (Calls id call)) (host_made own.host (Calls id call))
      (has_deeds own.host (Calls id call) h.host users)
      (named_deed BeginsNone id call (named_slot own.host.slots id) tt (users_begin_none call users)) from p serving k

  pub releases_kept : (id : ℕ)
      → IsKept (after_deed own (deed_of own.host (Releases id)) from).turn
      (after_deed own (deed_of own.host (Releases id)) from).story sessions p serving
  releases_kept id =
      deed_kept own far h sessions (deed_of own.host (Releases id)) (host_made own.host (Releases id))
      (has_deeds own.host (Releases id) h.host tt) (ended_deed id (named_slot own.host.slots id)) from p serving k

  pub ticks_kept : (place now : ℕ)
      → IsKept (after_deed own (deed_of own.host (Ticks place now)) from).turn
      (after_deed own (deed_of own.host (Ticks place now)) from).story sessions p serving
  ticks_kept place now =
      deed_kept own far h sessions (deed_of own.host (Ticks place now)) (host_made own.host (Ticks place now))
      (has_deeds own.host (Ticks place now) h.host tt)
      (used_deed BeginsNone place (Tick now) (slice_get own.host.slots place) tt refl) from p serving k
