-- Each slot is served, once or in a burst: a run of as many events as it was served times at most.
use Rattle.std.proofs.Common.{◌≡◌, ℕ, zero, suc, ◌<◌, ◌≤◌, ◌==◌, true, false, List, [], ◌∷◌, ◌++◌, length, map, Option, Some, None, refl, sym, ap, ◌∙◌, subst, append_assoc, ⊎_elim, arith}
use Rattle.std.specs.Prelude.{⊤}
use Rattle.std.proofs.lemmas.Bool.{false≢true, cases_Bool, eq-eqb, eqb-true}
use Rattle.std.proofs.lemmas.List.{append-nil, length-set, map-append}
use Rattle.chaos_packet.specs.Packet.{PacketView}
use Rattle.chaos_file.specs.Session.{SessionView}
use Rattle.chaos_file.specs.Store.{Files, StoreChange, change}
use Rattle.chaos_host.specs.Acted.{HostActed}
use Rattle.chaos_host.specs.Slot.{named_slot, place_of}
use Rattle.chaos_host.specs.View.{HostView, id_at}
use Rattle.chaos_link.specs.Loads.{packets_of}
use Rattle.chaos_lab.specs.declared.side.Side.TheVariants.{A, B}
use Rattle.chaos_net.specs.Net.{Name, Story, Sent, Net, index_of, present}
use Rattle.chaos_net.specs.Present.{named}
use Rattle.chaos_net.proofs.Lists.{some_eq}
use Rattle.chaos_net.proofs.Network.{reached_is_played}
use Rattle.chaos_file.specs.ServeHost.{DoesWorkInSlot}
use Rattle.chaos_file.specs.declared.served.Served.{Served}
use Rattle.chaos_node.specs.Phase.{Effect}
use Rattle.chaos_net.specs.MadeTurns.{packets_sent}
use Rattle.file_server.specs.Serve.{IsServedAt, ServesBurst, ServesMode, ServesPlace, ServesSlots, ServesTimes, SessionServes, serving_after}
use Rattle.file_server.specs.Server.{Server}
use Rattle.file_server.specs.Sessions.{Serving, serving_at, serving_of}
use Rattle.file_server.specs.declared.serve_mode.ServeMode.{ServeMode}
use Rattle.file_server.specs.declared.serve_mode.ServeMode.TheVariants.{Burst, Once}
use Rattle.file_net.specs.History.{Way}
use Rattle.file_net.specs.FileNet.{FileNet, FileEvent, Serves, CanHappen, file_happens}
use Rattle.file_net.specs.Serving.{SendsMore}
use Rattle.file_net.specs.Serving as event
use Rattle.file_net.proofs.Events.{slot_serving_is_event}
use Rattle.file_net.proofs.Kept.{IsSound, run_keeps}
use Rattle.file_end_to_end.specs.Server.{name_at, IsOld, IsKept}
use Rattle.file_end_to_end.proofs.Led.{IsLed, none_led, both_led}
use Rattle.file_end_to_end.proofs.Slots.{unserved, id_used, id_free, place_few, place_back, serving_same, serving_id, serving_new, serving_set, serving_others}
use Rattle.file_end_to_end.proofs.Steady.{IsSteady, serves_steady, serves_kept, serves_far}

-- ---- ready to be served

-- the session that serves a slot's connection, present or next, from any moment on, is that of the file net
pub record IsReady (turns : ℕ → ℕ) (stories : Name → Option Story) (sessions : Name → SessionView) (place : ℕ)
    (serving : Serving) : Type 0 where
  pub tie : (now : ℕ) → (serving_of (index_of (name_at turns place)) now serving).session ≡ sessions (name_at turns place)
  pub free : stories (name_at turns place) ≡ None → IsOld turns place serving.id

pub kept_ready : (m : Files) (f : FileNet) → IsSound m f → (place : ℕ) (serving : Serving)
    → IsKept (f.net B).turn (f.net B).story f.service.session place serving
    → IsReady (f.net B).turn (f.net B).story f.service.session place serving
kept_ready m f h place serving k = by ((f.net B).story (name_at (f.net B).turn place)) refl
  where
    by : (o : Option Story) → (f.net B).story (name_at (f.net B).turn place) ≡ o
        → IsReady (f.net B).turn (f.net B).story f.service.session place serving
    by (Some s) is =
        let u = k.used s is in
        record {
          tie = λ now. ap (λ (z : Serving). z.session) (serving_same (index_of (name_at (f.net B).turn place)) now serving u.0) ∙ u.1;
          free = k.free;
        }
    by None is = record {
      tie = λ now. serving_new (f.net B).turn place now serving (k.free is) ∙ sym (unserved m f h (name_at (f.net B).turn place) is);
      free = k.free;
    }

old_stays : (t u : ℕ → ℕ) (place : ℕ) (id : Option ℕ) → u place ≡ t place → IsOld t place id → IsOld u place id
old_stays t u place None turn o = tt
old_stays t u place (Some id) turn o = (o.0, turn ∙ o.1, o.2)

pub steady_ready : (n k : Net) → IsSteady n k → (sessions others : Name → SessionView) (place : ℕ) (serving : Serving)
    → others (name_at (n B).turn place) ≡ sessions (name_at (n B).turn place)
    → IsReady (n B).turn (n B).story sessions place serving → IsReady (k B).turn (k B).story others place serving
steady_ready n k s sessions others place serving same r =
    let turn = s.turns place in
    let name : name_at (k B).turn place ≡ name_at (n B).turn place = (λ j. record { place = place; turn = turn j }) in
    record {
      tie =
          λ now. ap (λ c. (serving_of (index_of c) now serving).session) name ∙ r.tie now ∙ sym same ∙ ap others (sym name);
      free = λ none. old_stays (n B).turn (k B).turn place serving.id turn (r.free (before ((n B).story (name_at (n B).turn place)) refl (ap (k B).story (sym name) ∙ none)));
    }
  where
    before : (o : Option Story) → (n B).story (name_at (n B).turn place) ≡ o
        → (k B).story (name_at (n B).turn place) ≡ None → (n B).story (name_at (n B).turn place) ≡ None
    before None is none = is
    before (Some st) is none =
        let t = s.stories (name_at (n B).turn place) st is in
        let isnt : None ≡ Some t.0 = sym none ∙ t.1 in absurd (cc)

-- ---- while the slots are served

-- the server, of whose slots so many were served
pub record IsAt {S : Type 0} (contents : S → Option Files) (s : Server S) (f : FileNet) (k : ℕ) : Type 0 where
  pub host : (f.net B).host ≡ s.host
  pub files : contents s.store ≡ Some f.service.files
  pub count : length s.sessions ≡ length s.host.slots
  pub ready : (p : ℕ) → p < length s.host.slots
      → IsReady (f.net B).turn (f.net B).story f.service.session p (serving_at s.sessions p)
  pub kept : (p : ℕ) → p < k → p < length s.host.slots
      → IsKept (f.net B).turn (f.net B).story f.service.session p (serving_at s.sessions p)

-- an event of serving
abbrev pub IsServing : FileEvent → Type 0
IsServing (Serves id now way) = ⊤
IsServing event = ⊥

-- the same host, and the same packets in other lots
told_led : (f g : FileNet) (e k : Effect) → k.host ≡ e.host → packets_of k.lots ≡ packets_of e.lots → IsLed IsServing B f g e
    → IsLed IsServing B f g k
told_led f g e k host lots led = record {
  events = led.events;
  run = led.run;
  kinds = led.kinds;
  host = led.host ∙ sym host;
  sent = led.sent ∙ ap (λ (ps : List PacketView). packets_sent (f.net B) ++ ps) (sym lots);
  far = led.far;
}

module _ {S : Type 0} (contents : S → Option Files) (may_give : S → List ℕ → ℕ → List ℕ → Type 0) (count : S → ℕ)
    (m : Files) (now : ℕ) where
  -- one slot was served
  record PlaceLed (f : FileNet) (s t : Server S) (lots : List (List PacketView)) (k : ℕ) : Type 0 where
    net : FileNet
    led : IsLed IsServing B f net (record { host = t.host; lots = lots })
    at : IsAt contents t net (suc k)
    size : length t.host.slots ≡ length s.host.slots

  -- The connection with this index was served, and is the slot's still.
  record StepLed (f : FileNet) (s t : Server S) (lots : List (List PacketView)) (k id : ℕ) : Type 0 where
    place : PlaceLed f s t lots k
    story : Story
    there : (place.net.net B).story (present (place.net.net B) k) ≡ Some story
    index : id ≡ index_of (present (place.net.net B) k)

  nothing_led : (f : FileNet) (s t : Server S) (lots : List (List PacketView)) (k : ℕ) → IsSound m f
      → k < length s.host.slots → IsAt contents s f k → id_at s.host k ≡ None → (t ≡ s) × (lots ≡ [])
      → PlaceLed f s t lots k
  nothing_led f s t lots k h within at free d =
      let station = ((reached_is_played f.net h.reached) B).station in
      let inside : k < length (f.net B).host.slots =
      subst (λ (v : HostView). k < length v.slots) (sym at.host) within in
      subst (λ (u : Server S). PlaceLed f s u lots k) (sym d.0) (record {
        net = f;
        led = told_led f f (record { host = (f.net B).host; lots = [] }) (record { host = s.host; lots = lots }) (sym at.host)
            (ap packets_of d.1) (none_led IsServing B f);
        at = record {
          host = at.host;
          files = at.files;
          count = at.count;
          ready = at.ready;
          kept = λ p below there.
              ⊎_elim
              (λ (same : (p == k) ≡ true).
              let e : p ≡ k = eqb-true p k same in
              let r = at.ready p there in
              record {
                used = λ st is.
                    let used = id_used (f.net B) (f.net A) station k inside st (ap (λ q. (f.net B).story (name_at (f.net B).turn q)) (sym e) ∙ is) in
                    let isnt : None ≡ Some (index_of (present (f.net B) k)) = sym free ∙ ap (λ v. id_at v k) (sym at.host) ∙ used in
                    absurd (cc);
                free = r.free;
              })
              (λ (apart : (p == k) ≡ false).
              at.kept p (let ne : p ≡ k → ⊥ = λ e. false≢true (sym apart ∙ eq-eqb p k e) in fewer p k below ne) there)
              (cases_Bool (p == k));
        };
        size = refl;
      })
    where
      fewer : (p k : ℕ) → p < suc k → (p ≡ k → ⊥) → p < k
      fewer zero zero below ne = absurd (ne refl)
      fewer zero (suc k) below ne = omega arith
      fewer (suc p) zero below ne = absurd (omega (arith, below))
      fewer (suc p) (suc k) below ne =
          let rest = fewer p k (omega (arith, below)) (λ e. ne (ap suc e)) in omega (arith, rest)

  -- the connection of a slot was served
  acted_led : (f : FileNet) (s t : Server S) (lots : List (List PacketView)) (k id : ℕ) (session : SessionView)
      (st : Story) (way : Way) (acted : HostActed Served) → IsSound m f → k < length s.host.slots → IsAt contents s f k
      → (f.net B).story (present (f.net B) k) ≡ Some st → id ≡ index_of (present (f.net B) k)
      → IsServedAt k s t lots (serving_after (serving_of id now (serving_at s.sessions k)) session acted.answer) acted
      → CanHappen f (Serves id now way)
      → event.Leads f (file_happens f (Serves id now way)) id acted (contents t.store) session
      → StepLed f s t lots k id
  acted_led f s t lots k id session st way acted h within at there is done can leads =
      let g : FileNet = file_happens f (Serves id now way) in
      let station = ((reached_is_played f.net h.reached) B).station in
      let inside : k < length (f.net B).host.slots =
      subst (λ (v : HostView). k < length v.slots) (sym at.host) within in
      let c : Name = present (f.net B) k in
      let place : place_of id ≡ k =
      ap place_of is ∙ place_back c (place_few (f.net B) (f.net A) station k inside) in
      let own : named (f.net B) id ≡ c = (λ j. present (f.net B) (place j)) in
      let steady = serves_steady f id now way h.reached in
      let serving : Serving = serving_of id now (serving_at s.sessions k) in
      let left : Serving = serving_after serving session acted.answer in
      let size : length t.host.slots ≡ length s.host.slots =
      ap (λ (v : HostView). length v.slots) (done.host ∙ sym leads.host) ∙ steady.size
      ∙ ap (λ (v : HostView). length v.slots) at.host in
      let turn = steady.turns k in
      let name : name_at (g.net B).turn k ≡ c = (λ j. record { place = k; turn = turn j }) in
      let left_id : left.id ≡ Some (index_of (name_at (g.net B).turn k)) =
      serving_id id now (serving_at s.sessions k) ∙ ap Some is ∙ ap (λ z. Some (index_of z)) (sym name) in
      let left_session : left.session ≡ g.service.session (name_at (g.net B).turn k) =
      sym leads.own ∙ ap g.service.session (own ∙ sym name) in
      let new_at : serving_at t.sessions k ≡ left =
      ap (λ z. serving_at z k) done.sessions
      ∙ serving_set s.sessions k left (subst (λ n. k < n) (sym at.count) within) in
      let not_free : (g.net B).story (name_at (g.net B).turn k) ≡ None → ⊥ =
      λ none.
      let still = steady.stories c st there in
      let isnt : None ≡ Some still.0 = sym none ∙ ap (g.net B).story name ∙ still.1 in absurd (cc) in
      let still = steady.stories c st there in
      let place_led : PlaceLed f s t lots k = record {
        net = g;
        led = record {
          events = Serves id now way ∷ [];
          run = (can, refl);
          kinds = (tt, tt);
          host = leads.host ∙ sym done.host;
          sent =
              ap (map (λ (q : Sent). q.packet)) leads.sent.1 ∙ map-append (λ (q : Sent). q.packet) (f.net B).sent leads.sent.0
              ∙ ap (λ (ps : List PacketView). packets_sent (f.net B) ++ ps)
              (leads.sent.2 ∙ sym (append-nil acted.packets) ∙ ap packets_of (sym done.out));
          far = serves_far f id now way;
        };
        at = record {
          host = leads.host ∙ sym done.host;
          files = leads.files_are;
          count =
              ap length done.sessions ∙ length-set s.sessions k left ∙ at.count ∙ sym size;
          ready = λ p below.
              ⊎_elim
              (λ (same : (p == k) ≡ true).
              let e : p ≡ k = eqb-true p k same in
              subst (λ q. IsReady (g.net B).turn (g.net B).story g.service.session q (serving_at t.sessions q)) (sym e)
              (subst (λ z. IsReady (g.net B).turn (g.net B).story g.service.session k z) (sym new_at) (record {
                tie = λ moment.
                    ap (λ (z : Serving). z.session)
                    (serving_same (index_of (name_at (g.net B).turn k)) moment left left_id)
                    ∙ left_session;
                free = λ none. absurd (not_free none);
              })))
              (λ (apart : (p == k) ≡ false).
              let ne : p ≡ k → ⊥ = λ e. false≢true (sym apart ∙ eq-eqb p k e) in
              let old : serving_at t.sessions p ≡ serving_at s.sessions p =
              ap (λ z. serving_at z p) done.sessions ∙ serving_others s.sessions k p left ne in
              subst (λ z. IsReady (g.net B).turn (g.net B).story g.service.session p z) (sym old)
              (steady_ready f.net g.net steady f.service.session g.service.session p (serving_at s.sessions p)
              (leads.others (name_at (f.net B).turn p) (λ q. ne (sym (sym (ap (λ (z : Name). z.place) own) ∙ ap (λ (z : Name). z.place) q))))
              (at.ready p (subst (λ n. p < n) size below))))
              (cases_Bool (p == k));
          kept = λ p few below.
              ⊎_elim
              (λ (same : (p == k) ≡ true).
              let e : p ≡ k = eqb-true p k same in
              subst (λ q. IsKept (g.net B).turn (g.net B).story g.service.session q (serving_at t.sessions q)) (sym e)
              (subst (λ z. IsKept (g.net B).turn (g.net B).story g.service.session k z) (sym new_at)
              (record { used = λ one told. (left_id, left_session); free = λ none. absurd (not_free none) })))
              (λ (apart : (p == k) ≡ false).
              let ne : p ≡ k → ⊥ = λ e. false≢true (sym apart ∙ eq-eqb p k e) in
              let old : serving_at t.sessions p ≡ serving_at s.sessions p =
              ap (λ z. serving_at z p) done.sessions ∙ serving_others s.sessions k p left ne in
              let was = at.kept p (fewer p k few ne) (subst (λ n. p < n) size below) in
              let still = serves_kept f id now way h.reached p (serving_at s.sessions p) was in
              let turn_p = steady.turns p in
              let name_p : name_at (g.net B).turn p ≡ name_at (f.net B).turn p = (λ j. record { place = p; turn = turn_p j }) in
              let same_session : g.service.session (name_at (g.net B).turn p) ≡ f.service.session (name_at (g.net B).turn p) =
              ap g.service.session name_p
              ∙ leads.others (name_at (f.net B).turn p) (λ q. ne (sym (sym (ap (λ (z : Name). z.place) own) ∙ ap (λ (z : Name). z.place) q)))
              ∙ ap f.service.session (sym name_p) in
              subst (λ z. IsKept (g.net B).turn (g.net B).story g.service.session p z) (sym old) (record {
                used = λ one told. let u = still.used one told in (u.0, u.1 ∙ sym same_session);
                free = still.free;
              }))
              (cases_Bool (p == k));
        };
        size = size;
      } in
      record {
        place = place_led;
        story = still.0;
        there = ap (g.net B).story name ∙ still.1;
        index = is ∙ ap index_of (sym name);
      }
    where
      fewer : (p k : ℕ) → p < suc k → (p ≡ k → ⊥) → p < k
      fewer zero zero below ne = absurd (ne refl)
      fewer zero (suc k) below ne = omega arith
      fewer (suc p) zero below ne = absurd (omega (arith, below))
      fewer (suc p) (suc k) below ne =
          let rest = fewer p k (omega (arith, below)) (λ e. ne (ap suc e)) in omega (arith, rest)

  -- the connection of a slot in use was served once
  once_led : (f : FileNet) (s t : Server S) (lots : List (List PacketView)) (k id : ℕ) (st : Story) → IsSound m f
      → k < length s.host.slots → IsAt contents s f k → (f.net B).story (present (f.net B) k) ≡ Some st
      → id ≡ index_of (present (f.net B) k)
      → SessionServes (change contents may_give count s.store t.store) now id (serving_of id now (serving_at s.sessions k))
      (IsServedAt k s t lots) s.host
      → StepLed f s t lots k id
  once_led f s t lots k id st h within at there index one =
      let station = ((reached_is_played f.net h.reached) B).station in
      let inside : k < length (f.net B).host.slots =
      subst (λ (v : HostView). k < length v.slots) (sym at.host) within in
      let c : Name = present (f.net B) k in
      let place : place_of id ≡ k =
      ap place_of index ∙ place_back c (place_few (f.net B) (f.net A) station k inside) in
      let own : named (f.net B) id ≡ c = (λ j. present (f.net B) (place j)) in
      let serving : Serving = serving_of id now (serving_at s.sessions k) in
      let tie : serving.session ≡ f.service.session (named (f.net B) id) =
      ap (λ i. (serving_of i now (serving_at s.sessions k)).session) index ∙ (at.ready k within).tie now
      ∙ ap f.service.session (sym own) in
      let store : StoreChange = change contents may_give count s.store t.store in
      let does : HostActed Served → Type 0 =
      λ acted. IsServedAt k s t lots (serving_after serving one.0 acted.answer) acted in
      let work : DoesWorkInSlot store (f.service.session (named (f.net B) id)) one.0 does (f.net B).host (place_of id) now
      (named_slot (f.net B).host.slots id) =
      subst
      (λ (z : SessionView × HostView). DoesWorkInSlot store z.0 one.0 does z.1 (place_of id) now (named_slot z.1.slots id))
      (λ j. (tie j, sym at.host j)) one.1 in
      let e =
      slot_serving_is_event f store one.0 id now does
      (record { before = at.files; same = λ same. ap contents same }) work in
      acted_led f s t lots k id one.0 st e.0 e.1 h within at there index e.2 e.3 e.4

  -- the slots before this one were served
  before_at : (s : Server S) (f : FileNet) (k : ℕ) → IsAt contents s f (suc k) → IsAt contents s f k
  before_at s f k at = record {
    host = at.host;
    files = at.files;
    count = at.count;
    ready = at.ready;
    kept = λ p few there. at.kept p (omega (arith, few)) there;
  }

  -- it was served once and so many times more
  times_led : (times : ℕ) (f : FileNet) (s t : Server S) (packets : List PacketView) (k id : ℕ) (st : Story) → IsSound m f
      → k < length s.host.slots → IsAt contents s f k → (f.net B).story (present (f.net B) k) ≡ Some st
      → id ≡ index_of (present (f.net B) k)
      → ServesTimes (change contents may_give count) now k id (suc times) s t packets
      → StepLed f s t (packets ∷ []) k id
  times_led zero f s t packets k id st h within at there index serves =
      let last = serves.2 in
      let all : packets ≡ last = serves.5 ∙ ap (λ (ps : List PacketView). ps ++ last) serves.3.1 in
      subst (λ (ps : List PacketView). StepLed f s t (ps ∷ []) k id) (sym all)
      (once_led f s t (last ∷ []) k id st h within at there index
      (subst (λ (u : Server S). ServesPlace (change contents may_give count) now k (Some id) u t (last ∷ [])) serves.3.0 serves.4))
  times_led (suc times) f s t packets k id st h within at there index serves =
      let mid = serves.0 in
      let first = serves.1 in
      let last = serves.2 in
      let one = times_led times f s mid first k id st h within at there index serves.3 in
      let led = one.place.led in
      let still = run_keeps m led.events f one.place.net led.run h in
      let size = one.place.size in
      let two =
      once_led one.place.net mid t (last ∷ []) k id one.story still (omega (arith, within, size))
      (before_at mid one.place.net k one.place.at) one.there one.index serves.4 in
      record {
        place = record {
          net = two.place.net;
          led = told_led f two.place.net (record { host = t.host; lots = first ∷ last ∷ [] }) (record { host = t.host; lots = packets ∷ [] }) refl
              (ap (λ (ps : List PacketView). ps ++ []) serves.5 ∙ append_assoc first last [])
              (both_led IsServing B f one.place.net two.place.net (record { host = mid.host; lots = first ∷ [] }) (record { host = t.host; lots = last ∷ [] }) led two.place.led);
          at = two.place.at;
          size = two.place.size ∙ size;
        };
        story = two.story;
        there = two.there;
        index = two.index;
      }

  burst_led : (f : FileNet) (s t : Server S) (lots : List (List PacketView)) (k id : ℕ) (st : Story) → IsSound m f
      → k < length s.host.slots → IsAt contents s f k → (f.net B).story (present (f.net B) k) ≡ Some st
      → id ≡ index_of (present (f.net B) k) → ServesBurst (change contents may_give count) now k id s t lots
      → PlaceLed f s t lots k
  burst_led f s t lots k id st h within at there index burst = by burst.times burst.some burst.serves
    where
      by : (times : ℕ) → 1 ≤ times → ServesTimes (change contents may_give count) now k id times s t burst.packets
          → PlaceLed f s t lots k
      by zero none serves = absurd (omega (arith, none))
      by (suc times) some serves =
          subst (λ (ls : List (List PacketView)). PlaceLed f s t ls k) (sym burst.out)
          (times_led times f s t burst.packets k id st h within at there index serves).place

  -- what there is at a slot in use
  some_led : (mode : ServeMode) (f : FileNet) (s t : Server S) (lots : List (List PacketView)) (k id : ℕ) → IsSound m f
      → k < length s.host.slots → IsAt contents s f k → id_at s.host k ≡ Some id
      → ServesMode (change contents may_give count) mode now k (Some id) s t lots
      → PlaceLed f s t lots k
  some_led mode f s t lots k id h within at is served = by ((f.net B).story (present (f.net B) k)) refl
    where
      in_mode : (which : ServeMode) (st : Story) → (f.net B).story (present (f.net B) k) ≡ Some st
          → id ≡ index_of (present (f.net B) k)
          → ServesMode (change contents may_give count) which now k (Some id) s t lots → PlaceLed f s t lots k
      in_mode Once st there index one = (once_led f s t lots k id st h within at there index one).place
      in_mode Burst st there index burst = burst_led f s t lots k id st h within at there index burst

      by : (o : Option Story) → (f.net B).story (present (f.net B) k) ≡ o → PlaceLed f s t lots k
      by None there =
          let station = ((reached_is_played f.net h.reached) B).station in
          let inside : k < length (f.net B).host.slots =
          subst (λ (v : HostView). k < length v.slots) (sym at.host) within in
          let free = id_free (f.net B) (f.net A) station k inside there in
          let isnt : None ≡ Some id = sym free ∙ ap (λ v. id_at v k) at.host ∙ is in absurd (cc)
      by (Some st) there =
          let station = ((reached_is_played f.net h.reached) B).station in
          let inside : k < length (f.net B).host.slots =
          subst (λ (v : HostView). k < length v.slots) (sym at.host) within in
          let used = id_used (f.net B) (f.net A) station k inside st there in
          let index : id ≡ index_of (present (f.net B) k) = some_eq (sym is ∙ ap (λ v. id_at v k) (sym at.host) ∙ used) in
          in_mode mode st there index served

  place_led : (mode : ServeMode) (f : FileNet) (s t : Server S) (lots : List (List PacketView)) (k : ℕ) (o : Option ℕ)
      → IsSound m f → k < length s.host.slots → IsAt contents s f k → id_at s.host k ≡ o
      → ServesMode (change contents may_give count) mode now k o s t lots → PlaceLed f s t lots k
  place_led Once f s t lots k None h within at is one = nothing_led f s t lots k h within at is one
  place_led Burst f s t lots k None h within at is one = nothing_led f s t lots k h within at is one
  place_led mode f s t lots k (Some id) h within at is one = some_led mode f s t lots k id h within at is one

  -- ---- each slot

  pub record SlotsLed (f : FileNet) (s t : Server S) (lots : List (List PacketView)) (k : ℕ) : Type 0 where
    pub net : FileNet
    pub led : IsLed IsServing B f net (record { host = t.host; lots = lots })
    pub at : IsAt contents t net k
    pub size : length t.host.slots ≡ length s.host.slots

  pub slots_served : (mode : ServeMode) (k : ℕ) (f : FileNet) (s t : Server S) (lots : List (List PacketView)) → IsSound m f
      → k ≤ length s.host.slots → IsAt contents s f 0 → ServesSlots (change contents may_give count) mode now k s t lots
      → SlotsLed f s t lots k
  slots_served mode zero f s t lots h few at serves =
      subst (λ (u : Server S). SlotsLed f s u lots zero) (sym serves.0) (record {
        net = f;
        led = told_led f f (record { host = (f.net B).host; lots = [] }) (record { host = s.host; lots = lots }) (sym at.host)
            (ap packets_of serves.1) (none_led IsServing B f);
        at = at;
        size = refl;
      })
  slots_served mode (suc k) f s t lots h few at serves =
      let mid = serves.0 in
      let first = serves.1 in
      let last = serves.2 in
      let one = slots_served mode k f s mid first h (omega (arith, few)) at serves.3 in
      let still = run_keeps m one.led.events f one.net one.led.run h in
      let size = one.size in
      let two =
      place_led mode one.net mid t last k (id_at mid.host k) still (omega (arith, few, size)) one.at refl serves.4 in
      record {
        net = two.net;
        led = told_led f two.net (record { host = t.host; lots = first ++ last }) (record { host = t.host; lots = lots }) refl
            (ap packets_of serves.5)
            (both_led IsServing B f one.net two.net (record { host = mid.host; lots = first }) (record { host = t.host; lots = last }) one.led two.led);
        at = two.at;
        size = two.size ∙ one.size;
      }
