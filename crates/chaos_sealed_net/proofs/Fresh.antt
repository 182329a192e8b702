-- Each packet that comes to the sealed machine is fresh, so each of its runs is a run of the net.
use Rattle.std.proofs.Common.{◌≡◌, ℕ, ◌<◌, ◌≤◌, List, [], ◌∷◌, ◌++◌, length, map, Option, Some, None, refl, sym, ap, ◌∙◌, subst, append-nil, arith}
use Rattle.std.specs.Prelude.{slice_get}
use Rattle.chaos_host.specs.Deeds.{HostEvent, host_made, deed_of}
use Rattle.chaos_host.specs.Deeds.HostEvent.{Comes}
use Rattle.chaos_lab.specs.declared.side.Side.{Side}
use Rattle.chaos_lab.specs.declared.side.Side.TheVariants.{A, B}
use Rattle.chaos_lab.specs.Machine.{other}
use Rattle.chaos_net.specs.Net.{Name, Story, Sent, Station, Net, NetEvent, IsOwn, IsNew, IsFresh, CanHappen, Run, Reached, with_station, moved, sender, sent_by, after_event, arrives, happens, length_of, lengths_of}
use Rattle.chaos_net.specs.Net.NetEvent.{At, Arrives}
use Rattle.chaos_net.proofs.Lists.{get_unmap, none_at}
use Rattle.chaos_net.proofs.Lasting.{stories_last}
use Rattle.chaos_net.proofs.Network.{network}
use Rattle.chaos_net.proofs.Standing.{reached_on}
use Rattle.chaos_sealed_net.specs.SealedNet.{Datagram, SealedNet, SealedEvent, MaySeal, MayHear, MayHappen, SealedRun, SealedRunsAreRuns, SealedNetworkLaw, with_datagram, hears, sealed_after, new_sealed, events_of}
use Rattle.chaos_sealed_net.specs.SealedNet.SealedEvent.{Does, Seals, Hears}
use Rattle.chaos_sealed_net.proofs.Lists.{get_old}
use Rattle.chaos_sealed_net.proofs.Mixed.{StoriesLastIn, IsMixed, mixed_now, mixed_own, mixed_arrives}
use Rattle.chaos_sealed_net.proofs.Earlier.{HadSentAll, IsEarlier, Keeps, IsOwnStep, IsFarStep, last_same, own_keeps, far_keeps, sealed_keeps, sent_all_before, written_since_sent}

-- ---- a packet that comes is fresh

length_is : (n : Net) (y : Side) (name : Name) (s : Story) → (n y).story name ≡ Some s
    → length s.end.written ≡ lengths_of n y name
length_is n y name s there = sym (ap length_of there)

comes_fresh : (s : SealedNet) (x : Side) (place number : ℕ) (q : Sent) → Reached s.net → Keeps s x
    → MayHear s x place number → slice_get (s.net (other x)).sent number ≡ Some q → IsFresh s.net x q
comes_fresh s x place number q r h may at ack c d a b by from now there index =
    let n = may.near q at ack c d a b by from now there index in
    let since = written_since_sent s x r h number place q may.datagram
    (record { sent = at; there = may.there; first = may.first; last = may.last }) in
    let since_c = since (other x) c in
    let since_d = since x d in
    let inside = may.inside in
    let length_c = length_is s.net (other x) c a from in
    let length_d = length_is s.net x d b there in
    record {
      meant = n.meant;
      peer = n.peer;
      sender = omega (arith, since_c, inside, length_c);
      receiver = omega (arith, since_d, inside, length_d);
    }

-- ---- what a side hears by its own events

far_stays : (n : Net) (x : Side) (event : HostEvent) (from : Option Name)
    → after_event n x event from (other x) ≡ n (other x)
far_stays n A event from = refl
far_stays n B event from = refl

hears_more : (newest : Side → ℕ) (x : Side) (o : Option Datagram) → newest x ≤ hears newest x o x
hears_more newest x None = omega arith
hears_more newest A (Some d) = omega arith
hears_more newest B (Some d) = omega arith

hears_it : (newest : Side → ℕ) (x : Side) (d : Datagram) → d.counter ≤ hears newest x (Some d) x
hears_it newest A d = omega arith
hears_it newest B d = omega arith

pub hears_no_more : (newest : Side → ℕ) (x : Side) (d : Datagram) (c : ℕ) → newest x < c → d.counter < c
    → hears newest x (Some d) x < c
hears_no_more newest A d c p q = omega (arith, p, q)
hears_no_more newest B d c p q = omega (arith, p, q)

lasts_by : (n : Net) (event : NetEvent) (y : Side) → StoriesLastIn (n y) (happens n event y)
lasts_by n event y name s there = stories_last n (event ∷ []) y name s there

own_does : (s : SealedNet) (x : Side) (event : HostEvent) → IsOwn event
    → IsOwnStep s (sealed_after s (Does x event)) x
own_does s x event own =
    let newest : s.newest x ≤ s.newest x = omega arith in
    record {
      far = far_stays s.net x event None;
      datagrams = refl;
      newest = newest;
      known = λ c less all. less;
      lasts = lasts_by s.net (At x event);
      mixed = λ early e all.
          mixed_own s.net early x event own
          (e.mixed (sent_all_before s (sealed_after s (Does x event)) x early refl newest all));
    }

own_seals : (s : SealedNet) (x : Side) (d : Datagram) → IsOwnStep s (sealed_after s (Seals x d)) x
own_seals s x d =
    let newest : s.newest x ≤ s.newest x = omega arith in
    let same = far x in
    record {
      far = refl;
      datagrams = same;
      newest = newest;
      known = λ c less all. less;
      lasts = λ y. last_same (s.net y);
      mixed = λ early e all.
          e.mixed (sent_all_before s (sealed_after s (Seals x d)) x early same newest all);
    }
  where
    far : (x : Side) → with_datagram s.datagrams x d (other x) ≡ s.datagrams (other x)
    far A = refl
    far B = refl

own_hears : (s : SealedNet) (x : Side) (place number now : ℕ) → MayHear s x place number
    → CanHappen s.net (Arrives x number now) → IsOwnStep s (sealed_after s (Hears x place number now)) x
own_hears s x place number now may can = record {
  far = far (slice_get (s.net (other x)).sent number);
  datagrams = refl;
  newest = newest;
  known = λ c less all.
      subst (λ o. hears s.newest x o x < c) (sym may.there)
      (hears_no_more s.newest x may.datagram c less (all place may.datagram may.there));
  lasts = lasts_by s.net (Arrives x number now);
  mixed = λ early e all. mixed early e all (slice_get (s.net (other x)).sent number) refl;
}
  where
    r : SealedNet
    r = sealed_after s (Hears x place number now)

    newest : s.newest x ≤ (sealed_after s (Hears x place number now)).newest x
    newest = hears_more s.newest x (slice_get (s.datagrams (other x)) place)

    heard : may.datagram.counter ≤ (sealed_after s (Hears x place number now)).newest x
    heard =
        subst (λ o. may.datagram.counter ≤ hears s.newest x o x) (sym may.there) (hears_it s.newest x may.datagram)

    far : (o : Option Sent) → arrives s.net x now o (other x) ≡ s.net (other x)
    far None = refl
    far (Some q) = far_stays s.net x (Comes q.packet now) q.by

    mixed : (early : Net) → IsEarlier s x early → HadSentAll (sealed_after s (Hears x place number now)) x early
        → (o : Option Sent) → slice_get (s.net (other x)).sent number ≡ o → IsMixed (arrives s.net x now o) early x
    mixed early e all None is =
        e.mixed (sent_all_before s (sealed_after s (Hears x place number now)) x early refl newest all)
    mixed early e all (Some q) is =
        let within = all place may.datagram may.there heard in
        let last = may.last in
        let there =
        get_old (early (other x)).sent e.more number q (omega (arith, within, last))
        (sym (ap (λ (qs : List Sent). slice_get qs number) e.sent) ∙ is) in
        mixed_arrives s.net early x number now q there (e.lasts (other x)) (can q is)
        (e.mixed (sent_all_before s (sealed_after s (Hears x place number now)) x early refl newest all))

-- ---- what the other side sends

record Sends (n m : Net) (x : Side) : Type 0 where
  near : m x ≡ n x
  new : List Sent
  sent : (m (other x)).sent ≡ (n (other x)).sent ++ new
  lengths : (j : ℕ) (q : Sent) → slice_get new j ≡ Some q → (y : Side) (name : Name)
      → q.lengths y name ≡ lengths_of m y name

sends : (n : Net) (x : Side) (event : HostEvent) (from : Option Name)
    → Sends n (after_event n (other x) event from) x
sends n A event from = record {
  near = refl;
  new =
      map
      (sent_by (sender (n B) (deed_of (n B).host event)) (lengths_of (with_station n B (moved (n B) event from))))
      (host_made (n B).host event).packets;
  sent = refl;
  lengths = λ j q at y name.
      let u =
      get_unmap
      (sent_by (sender (n B) (deed_of (n B).host event)) (lengths_of (with_station n B (moved (n B) event from))))
      (host_made (n B).host event).packets j q at in
      ap (λ (z : Sent). z.lengths y name) (sym u.2) ∙ same y name;
}
  where
    same : (y : Side) (name : Name)
        → lengths_of (with_station n B (moved (n B) event from)) y name ≡ lengths_of (after_event n B event from) y name
    same A name = refl
    same B name = refl
sends n B event from = record {
  near = refl;
  new =
      map
      (sent_by (sender (n A) (deed_of (n A).host event)) (lengths_of (with_station n A (moved (n A) event from))))
      (host_made (n A).host event).packets;
  sent = refl;
  lengths = λ j q at y name.
      let u =
      get_unmap
      (sent_by (sender (n A) (deed_of (n A).host event)) (lengths_of (with_station n A (moved (n A) event from))))
      (host_made (n A).host event).packets j q at in
      ap (λ (z : Sent). z.lengths y name) (sym u.2) ∙ same y name;
}
  where
    same : (y : Side) (name : Name)
        → lengths_of (with_station n A (moved (n A) event from)) y name ≡ lengths_of (after_event n A event from) y name
    same A name = refl
    same B name = refl

sends_arriving : (n : Net) (x : Side) (now : ℕ) (o : Option Sent) → Sends n (arrives n (other x) now o) x
sends_arriving n x now None =
    record { near = refl; new = []; sent = sym (append-nil (n (other x)).sent); lengths = λ j q at. absurd (cc) }
sends_arriving n x now (Some q) = sends n x (Comes q.packet now) q.by

hears_none : (newest : Side → ℕ) (x : Side) (o : Option Datagram) → hears newest (other x) o x ≡ newest x
hears_none newest x None = refl
hears_none newest A (Some d) = refl
hears_none newest B (Some d) = refl

far_does : (s : SealedNet) (x : Side) (event : HostEvent) → IsFarStep s (sealed_after s (Does (other x) event)) x
far_does s x event =
    let sent = sends s.net x event None in
    record {
      near = sent.near;
      newest = refl;
      datagrams = refl;
      lasts = lasts_by s.net (At (other x) event);
      new = sent.new;
      sent = sent.sent;
      lengths = sent.lengths;
    }

far_hears : (s : SealedNet) (x : Side) (place number now : ℕ)
    → IsFarStep s (sealed_after s (Hears (other x) place number now)) x
far_hears s x place number now =
    let sent = sends_arriving s.net x now (slice_get (s.net (other (other x))).sent number) in
    record {
      near = sent.near;
      newest = hears_none s.newest x (slice_get (s.datagrams (other (other x))) place);
      datagrams = refl;
      lasts = lasts_by s.net (Arrives (other x) number now);
      new = sent.new;
      sent = sent.sent;
      lengths = sent.lengths;
    }

far_seals : (s : SealedNet) (x : Side) (d : Datagram)
    → with_datagram s.datagrams (other x) d (other x) ≡ s.datagrams (other x) ++ d ∷ []
far_seals s A d = refl
far_seals s B d = refl

-- ---- what holds after every run

pub record Holding (s : SealedNet) : Type 0 where
  pub reached : Reached s.net
  pub sides : (x : Side) → Keeps s x

module _ (s : SealedNet) (h : Holding s) where
  pub can_arrive : (x : Side) (place number now : ℕ) → MayHear s x place number → CanHappen s.net (Arrives x number now)
  can_arrive x place number now may q at = comes_fresh s x place number q h.reached (h.sides x) may at

  keeps_does : (x : Side) (event : HostEvent) → IsOwn event → Reached (sealed_after s (Does x event)).net
      → (y : Side) → Keeps (sealed_after s (Does x event)) y
  keeps_does A event own r A =
      own_keeps s (sealed_after s (Does A event)) A h.reached (h.sides A) (own_does s A event own)
  keeps_does A event own r B = far_keeps s (sealed_after s (Does A event)) B r (h.sides B) (far_does s B event)
  keeps_does B event own r A = far_keeps s (sealed_after s (Does B event)) A r (h.sides A) (far_does s A event)
  keeps_does B event own r B =
      own_keeps s (sealed_after s (Does B event)) B h.reached (h.sides B) (own_does s B event own)

  keeps_seals : (x : Side) (d : Datagram) → MaySeal s x d → (y : Side) → Keeps (sealed_after s (Seals x d)) y
  keeps_seals A d may A = own_keeps s (sealed_after s (Seals A d)) A h.reached (h.sides A) (own_seals s A d)
  keeps_seals A d may B =
      sealed_keeps s B (with_datagram s.datagrams A d) d h.reached (h.sides B) (far_seals s B d) may
  keeps_seals B d may A =
      sealed_keeps s A (with_datagram s.datagrams B d) d h.reached (h.sides A) (far_seals s A d) may
  keeps_seals B d may B = own_keeps s (sealed_after s (Seals B d)) B h.reached (h.sides B) (own_seals s B d)

  keeps_hears : (x : Side) (place number now : ℕ) → MayHear s x place number
      → Reached (sealed_after s (Hears x place number now)).net → (y : Side)
      → Keeps (sealed_after s (Hears x place number now)) y
  keeps_hears A place number now may r A =
      own_keeps s (sealed_after s (Hears A place number now)) A h.reached (h.sides A)
      (own_hears s A place number now may (can_arrive A place number now may))
  keeps_hears A place number now may r B =
      far_keeps s (sealed_after s (Hears A place number now)) B r (h.sides B) (far_hears s B place number now)
  keeps_hears B place number now may r A =
      far_keeps s (sealed_after s (Hears B place number now)) A r (h.sides A) (far_hears s A place number now)
  keeps_hears B place number now may r B =
      own_keeps s (sealed_after s (Hears B place number now)) B h.reached (h.sides B)
      (own_hears s B place number now may (can_arrive B place number now may))

  pub holding_after : (e : SealedEvent) → MayHappen s e → Holding (sealed_after s e)
  holding_after (Does x event) own =
      let r = reached_on s.net (At x event) h.reached own in
      record { reached = r; sides = keeps_does x event own r }
  holding_after (Seals x d) may = record { reached = h.reached; sides = keeps_seals x d may }
  holding_after (Hears x place number now) may =
      let r = reached_on s.net (Arrives x number now) h.reached (can_arrive x place number now may) in
      record { reached = r; sides = keeps_hears x place number now may r }

-- ---- every run

runs : (events : List SealedEvent) (s r : SealedNet) → Holding s → SealedRun s events r
    → Run s.net (events_of events) r.net
runs [] s r h run = ap (λ (z : SealedNet). z.net) run
runs (Does x event ∷ es) s r h run =
    (run.0, runs es (sealed_after s (Does x event)) r (holding_after s h (Does x event) run.0) run.1)
runs (Seals x d ∷ es) s r h run =
    runs es (sealed_after s (Seals x d)) r (holding_after s h (Seals x d) run.0) run.1
runs (Hears x place number now ∷ es) s r h run = (
  can_arrive s h x place number now run.0,
  runs es (sealed_after s (Hears x place number now)) r (holding_after s h (Hears x place number now) run.0) run.1,
)

-- ---- the start

new_keeps : (n : Net) → Reached n → ((x : Side) → IsNew (n x)) → (x : Side) → Keeps (new_sealed n) x
new_keeps n r new x =
    let sent : (n (other x)).sent ≡ [] = ap (λ (st : Station). st.sent) (new (other x)).is in
    record {
      begin = n;
      begin_is = record {
        reached = r;
        lasts = λ y. last_same (n y);
        more = [];
        sent = sym (append-nil (n (other x)).sent);
        mixed = λ all. mixed_now n x r;
      };
      none = λ y name. ap (λ (st : Station). length_of (st.story name)) (new y).is;
      packets = λ i q at. none_at (n (other x)).sent i q sent at;
      rising = λ i j p q le at_p at_q y name. none_at (n (other x)).sent i p sent at_p;
      order = λ m k d e less at_d at_e. absurd (cc);
      fits = λ m d at. absurd (cc);
      known = λ c some all. omega (arith, some);
      mates = λ i j m q p d is at_p within y name. none_at (n (other x)).sent j p sent at_p;
      level = λ i j m k q p d e is at_p at_e within below y name. none_at (n (other x)).sent j p sent at_p;
    }

pub new_holding : (n : Net) → IsNew (n A) → IsNew (n B) → Holding (new_sealed n)
new_holding n a b =
    let r : Reached n = record { start = n; a = a; b = b; events = []; run = refl } in
    record { reached = r; sides = new_keeps n r new }
  where
    new : (x : Side) → IsNew (n x)
    new A = a
    new B = b

-- ---- the law

pub sealed_runs : SealedRunsAreRuns
sealed_runs start events s a b run = runs events (new_sealed start) s (new_holding start a b) run

pub sealed_law : SealedNetworkLaw
sealed_law start events s x name a b run =
    network s.net x name
    (record { start = start; a = a; b = b; events = events_of events; run = sealed_runs start events s a b run })
