-- A net of two times: a side as it is now, and the other side as it was. A run leads to it, if the side has heard nothing
-- that the other side sent since.
use Rattle.std.proofs.Common.{◌≡◌, ℕ, ◌+◌, ◌≤◌, List, ◌++◌, length, map, Option, Some, None, refl, sym, ap, ◌∙◌, subst, ⊎_elim, arith}
use Rattle.std.specs.Prelude.{slice_get}
use Rattle.chaos_conn.specs.Act.{Call}
use Rattle.chaos_host.specs.declared.slot.Slot.{Slot}
use Rattle.chaos_host.specs.Deeds.{HostEvent, Deed, host_made, deed_of}
use Rattle.chaos_host.specs.Deeds.HostEvent.{Comes}
use Rattle.chaos_host.specs.Deeds.Deed.{Nothing, Does}
use Rattle.chaos_lab.specs.declared.side.Side.{Side}
use Rattle.chaos_lab.specs.declared.side.Side.TheVariants.{A, B}
use Rattle.chaos_lab.specs.Machine.{other}
use Rattle.chaos_lab.proofs.Lists.{begins_shorter}
use Rattle.chaos_net.specs.Net.{Name, Story, Sent, Station, Net, IsOwn, IsFresh, CanHappen, Reached, with_station, moved, after_slot, after_deed, after_event, arrives, sender, sent_by, length_of, lengths_of}
use Rattle.chaos_net.specs.Net.NetEvent.{At, Arrives}
use Rattle.chaos_net.specs.Lasting.{LastsAs}
use Rattle.chaos_net.proofs.Lists.{some_eq}
use Rattle.chaos_net.proofs.Goes.{IsFreshAt}
use Rattle.chaos_net.proofs.Standing.{reached_on}
use Rattle.chaos_net.proofs.Network.{reached_is_played}
use Rattle.chaos_net.proofs.Holding.{twice}
use Rattle.chaos_sealed_net.proofs.Openers.{reached_openers}
use Rattle.chaos_sealed_net.proofs.Unread.{IsRead, unread, read_most}

-- ---- both stations

pub net_eq : (n m : Net) → n A ≡ m A → n B ≡ m B → n ≡ m
net_eq n m a b = λ j x. both x j
  where
    both : (x : Side) → n x ≡ m x
    both A = a
    both B = b

-- a station with another list of what it sent
abbrev pub with_sent : Station → List Sent → Station
with_sent st sent = record st { sent = sent }

-- what a host sent changes nothing else
slot_alike : (st : Station) (sent : List Sent) (place : ℕ) (call : Call) (from : Option Name) (o : Option Slot)
    → after_slot (with_sent st sent) place call from o ≡ with_sent (after_slot st place call from o) sent
slot_alike st sent place call from None = refl
slot_alike st sent place call from (Some slot) = refl

deed_alike : (st : Station) (sent : List Sent) (d : Deed) (from : Option Name)
    → after_deed (with_sent st sent) d from ≡ with_sent (after_deed st d from) sent
deed_alike st sent Nothing from = refl
deed_alike st sent (Does place call) from = slot_alike st sent place call from (slice_get st.host.slots place)

moved_alike : (st : Station) (sent more : List Sent) (event : HostEvent) (from : Option Name)
    → with_sent (moved (with_sent st sent) event from) more ≡ with_sent (moved st event from) more
moved_alike st sent more event from = λ j.
    with_sent
    (record (deed_alike st sent (deed_of st.host event) from j) { host = (host_made st.host event).view })
    more

-- ---- the net of two times

-- x as it is now in n, but for what it sent, and the other side as it was in early
abbrev pub mix : Net → Net → Side → List Sent → Net
mix n early x sent = with_station early x (with_sent (n x) sent)

abbrev pub IsMixed : Net → Net → Side → Type 0
IsMixed n early x = (sent : List Sent) × Reached (mix n early x sent)

pub mix_own : (n early : Net) (x : Side) (sent : List Sent) → mix n early x sent x ≡ with_sent (n x) sent
mix_own n early A sent = refl
mix_own n early B sent = refl

pub mix_far : (n early : Net) (x : Side) (sent : List Sent) → mix n early x sent (other x) ≡ early (other x)
mix_far n early A sent = refl
mix_far n early B sent = refl

-- a net is of one time
pub mixed_now : (n : Net) (x : Side) → Reached n → IsMixed n n x
mixed_now n x r = ((n x).sent, subst Reached (same x) r)
  where
    same : (x : Side) → n ≡ mix n n x (n x).sent
    same A = net_eq n (mix n n A (n A).sent) refl refl
    same B = net_eq n (mix n n B (n B).sent) refl refl

-- it goes on, where the side does
mixed_after : (n early : Net) (x : Side) (sent : List Sent) (event : HostEvent) (from : Option Name)
    → Reached (after_event (mix n early x sent) x event from) → IsMixed (after_event n x event from) early x
mixed_after n early A sent event from r =
    let m = mix n early A sent in
    let more : List Sent =
    sent
    ++ map (sent_by (sender (m A) (deed_of (m A).host event)) (lengths_of (with_station m A (moved (m A) event from))))
    (host_made (m A).host event).packets in (
      more,
      subst Reached
          (net_eq (after_event m A event from) (mix (after_event n A event from) early A more)
          (moved_alike (n A) sent more event from) refl) r,
    )
mixed_after n early B sent event from r =
    let m = mix n early B sent in
    let more : List Sent =
    sent
    ++ map (sent_by (sender (m B) (deed_of (m B).host event)) (lengths_of (with_station m B (moved (m B) event from))))
    (host_made (m B).host event).packets in (
      more,
      subst Reached
          (net_eq (after_event m B event from) (mix (after_event n B event from) early B more) refl
          (moved_alike (n B) sent more event from)) r,
    )

pub mixed_own : (n early : Net) (x : Side) (event : HostEvent) → IsOwn event → IsMixed n early x
    → IsMixed (after_event n x event None) early x
mixed_own n early x event own m =
    mixed_after n early x m.0 event None (reached_on (mix n early x m.0) (At x event) m.1 own)

-- ---- what comes was fresh for the other side as it was

-- each story of a station lasts in another
abbrev pub StoriesLastIn : Station → Station → Type 0
StoriesLastIn early st = (name : Name) (s : Story) → early.story name ≡ Some s
    → (t : Story) × (st.story name ≡ Some t) × LastsAs s t

fresh_before : (x : Side) (own far early : Station) (sent : List Sent) (q : Sent) → StoriesLastIn early far
    → IsFreshAt x own far q → IsFreshAt x (with_sent own sent) early q
fresh_before x own far early sent q lasts fresh ack c d s t by from now there index =
    let l = lasts c s from in
    let f = fresh ack c d l.0 t by l.1 now there index in
    let shorter = begins_shorter s.end.written l.0.end.written l.2.written in
    let sender = f.sender in
    record {
      meant = λ m is. f.meant m (l.2.peer m is);
      peer = f.peer;
      sender = omega (arith, shorter, sender);
      receiver = f.receiver;
    }

pub mixed_arrives : (n early : Net) (x : Side) (number now : ℕ) (q : Sent)
    → slice_get (early (other x)).sent number ≡ Some q → StoriesLastIn (early (other x)) (n (other x)) → IsFresh n x q
    → IsMixed n early x → IsMixed (after_event n x (Comes q.packet now) q.by) early x
mixed_arrives n early x number now q there lasts fresh m =
    let k = mix n early x m.0 in
    let far : k (other x) ≡ early (other x) = mix_far n early x m.0 in
    let at : slice_get (k (other x)).sent number ≡ Some q =
    ap (λ (st : Station). slice_get st.sent number) far ∙ there in
    let before : IsFreshAt x (k x) (k (other x)) q =
    subst (λ (z : Station × Station). IsFreshAt x z.0 z.1 q)
    (λ j. (sym (mix_own n early x m.0) j, sym far j))
    (fresh_before x (n x) (n (other x)) (early (other x)) m.0 q lasts fresh) in
    let can : CanHappen k (Arrives x number now) = λ one is. subst (IsFresh k x) (some_eq (sym at ∙ is)) before in
    mixed_after n early x m.0 (Comes q.packet now) q.by
    (subst Reached (ap (arrives k x now) at) (reached_on k (Arrives x number now) m.1 can))

-- ---- what was written since

length_there : (n : Net) (x : Side) (name : Name) (most : ℕ)
    → ((s : Story) → (n x).story name ≡ Some s → length s.end.written ≤ most) → lengths_of n x name ≤ most
length_there n x name most h = by ((n x).story name) refl
  where
    by : (o : Option Story) → (n x).story name ≡ o → length_of o ≤ most
    by None is = omega arith
    by (Some s) is = h s is

written_own : (n early : Net) (x : Side) → Reached early → IsMixed n early x → (name : Name)
    → lengths_of n x name ≤ lengths_of early x name + 64
written_own n early x r m name = length_there n x name (lengths_of early x name + 64) at
  where
    k : Net
    k = mix n early x m.0

    at : (s : Story) → (n x).story name ≡ Some s → length s.end.written ≤ lengths_of early x name + 64
    at s there =
        let here : (k x).story name ≡ Some s = ap (λ (st : Station). st.story name) (mix_own n early x m.0) ∙ there in
        ⊎_elim (λ (few : length s.end.written ≤ 64). omega (arith, few))
        (λ (is : IsRead k x name s).
        let known : (early (other x)).story is.name ≡ Some is.story =
        sym (ap (λ (st : Station). st.story is.name) (mix_far n early x m.0)) ∙ is.there in
        let read = read_most early (other x) is.name is.story name r known is.to in
        let same = ap (λ y. lengths_of early y name) (twice x) in
        let most = is.most in
        omega (arith, read, same, most))
        (unread k x name s (reached_is_played k m.1) (reached_openers k m.1) here)

written_far : (n early : Net) (x : Side) → Reached n → IsMixed n early x → (name : Name)
    → lengths_of n (other x) name ≤ lengths_of early (other x) name + 64
written_far n early x r m name = length_there n (other x) name (lengths_of early (other x) name + 64) at
  where
    k : Net
    k = mix n early x m.0

    at : (s : Story) → (n (other x)).story name ≡ Some s
        → length s.end.written ≤ lengths_of early (other x) name + 64
    at s there =
        ⊎_elim (λ (few : length s.end.written ≤ 64). omega (arith, few))
        (λ (is : IsRead n (other x) name s).
        let here : (k x).story is.name ≡ Some is.story =
        ap (λ (st : Station). st.story is.name) (mix_own n early x m.0)
        ∙ ap (λ y. (n y).story is.name) (sym (twice x))
        ∙ is.there in
        let read = read_most k x is.name is.story name m.1 here is.to in
        let same = ap (λ (st : Station). length_of (st.story name)) (mix_far n early x m.0) in
        let most = is.most in
        omega (arith, read, same, most))
        (unread n (other x) name s (reached_is_played n r) (reached_openers n r) there)

pub written_since : (n early : Net) (x : Side) → Reached n → Reached early → IsMixed n early x → (y : Side) (name : Name)
    → lengths_of n y name ≤ lengths_of early y name + 64
written_since n early A r e m A name = written_own n early A e m name
written_since n early A r e m B name = written_far n early A r m name
written_since n early B r e m A name = written_far n early B r m name
written_since n early B r e m B name = written_own n early B e m name
