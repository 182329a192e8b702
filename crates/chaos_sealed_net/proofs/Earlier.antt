-- What holds of the sealed machine after every run. For each packet that was sent, there is the net of that time. The
-- counters of datagrams bound what was written since.
use Rattle.std.proofs.Common.{◌≡◌, ℕ, ◌+◌, ◌-◌, ◌*◌, ◌<◌, ◌≤◌, List, [], ◌∷◌, ◌++◌, length, Option, Some, None, refl, sym, ap, ◌∙◌, subst, inl, inr, ◌⊎◌, ⊎_elim, append_assoc, append-nil, arith}
use Rattle.std.specs.Prelude.{slice_get}
use Rattle.chaos_lab.specs.declared.side.Side.{Side}
use Rattle.chaos_lab.specs.Machine.{other}
use Rattle.chaos_lab.proofs.Lists.{begins_itself, begins_through, begins_shorter}
use Rattle.chaos_net.specs.Net.{Name, Story, Sent, Station, Net, Reached, with_station, length_of, lengths_of}
use Rattle.chaos_net.proofs.Lists.{some_eq, all_at, get_front}
use Rattle.chaos_sealed_net.specs.SealedNet.{Datagram, SealedNet, ComesAfter, MaySeal}
use Rattle.chaos_sealed_net.proofs.Lists.{below_or_not, get_within, get_some, get_old, get_new, get_last, AreAbove, IsLatest, latest}
use Rattle.chaos_sealed_net.proofs.Mixed.{StoriesLastIn, IsMixed, with_sent, mixed_now, written_since}

-- ---- stories last

pub last_same : (st : Station) → StoriesLastIn st st
last_same st name s there =
    (s, there, record { written = begins_itself s.end.written; read = begins_itself s.end.read; asked = refl; peer = λ peer is. is })

last_through : (st su sv : Station) → StoriesLastIn st su → StoriesLastIn su sv → StoriesLastIn st sv
last_through st su sv h k name s there =
    let t = h name s there in
    let u = k name t.0 t.1 in (
      u.0,
      u.1,
      record {
        written = begins_through s.end.written t.0.end.written u.0.end.written t.2.written u.2.written;
        read = begins_through s.end.read t.0.end.read u.0.end.read t.2.read u.2.read;
        asked = u.2.asked ∙ t.2.asked;
        peer = λ peer is. u.2.peer peer (t.2.peer peer is);
      },
    )

lengths_last : (st su : Station) → StoriesLastIn st su → (name : Name)
    → length_of (st.story name) ≤ length_of (su.story name)
lengths_last st su h name = by (st.story name) refl
  where
    by : (o : Option Story) → st.story name ≡ o → length_of o ≤ length_of (su.story name)
    by None is = omega arith
    by (Some s) is =
        let t = h name s is in
        let shorter = begins_shorter s.end.written t.0.end.written t.2.written in
        let same = ap length_of t.1 in
        omega (arith, shorter, same)

-- ---- an earlier net

-- all that x may have heard by now had been sent then
abbrev pub HadSentAll : SealedNet → Side → Net → Type 0
HadSentAll s x early = (m : ℕ) (d : Datagram) → slice_get (s.datagrams (other x)) m ≡ Some d
    → d.counter ≤ s.newest x → d.last < length (early (other x)).sent

pub record IsEarlier (s : SealedNet) (x : Side) (early : Net) : Type 0 where
  pub reached : Reached early
  pub lasts : (y : Side) → StoriesLastIn (early y) (s.net y)
  pub more : List Sent
  pub sent : (s.net (other x)).sent ≡ (early (other x)).sent ++ more
  pub mixed : HadSentAll s x early → IsMixed s.net early x

-- the net when the other side had sent its packet of this number
pub record IsSentAt (s : SealedNet) (x : Side) (number : ℕ) (q : Sent) : Type 0 where
  pub early : Net
  pub is : IsEarlier s x early
  pub sent : number < length (early (other x)).sent
  pub lengths : (y : Side) (name : Name) → q.lengths y name ≡ lengths_of early y name

-- ---- what holds

-- the packet of this number is in the datagram at this place
pub record IsIn (s : SealedNet) (x : Side) (number : ℕ) (q : Sent) (place : ℕ) (d : Datagram) : Type 0 where
  pub sent : slice_get (s.net (other x)).sent number ≡ Some q
  pub there : slice_get (s.datagrams (other x)) place ≡ Some d
  pub first : d.first ≤ number
  pub last : number ≤ d.last

-- While a side sends the packets of one datagram, no connection writes more than 64 items.
abbrev pub AreMates : SealedNet → Side → Type 0
AreMates s x = (i j m : ℕ) (q p : Sent) (d : Datagram) → IsIn s x i q m d
    → slice_get (s.net (other x)).sent j ≡ Some p → j ≤ d.last → (y : Side) (name : Name)
    → p.lengths y name ≤ q.lengths y name + 64

-- Let x have heard counters up to this one. Take a packet of a datagram, and a packet that x may have heard. Between them
-- no connection has written more than 64 items for each counter from that of the datagram on, and 64 more.
abbrev pub IsLevel : SealedNet → Side → ℕ → Type 0
IsLevel s x newest = (i j m n : ℕ) (q p : Sent) (d e : Datagram) → IsIn s x i q m d
    → slice_get (s.net (other x)).sent j ≡ Some p → slice_get (s.datagrams (other x)) n ≡ Some e → j ≤ e.last
    → e.counter ≤ newest → (y : Side) (name : Name)
    → p.lengths y name ≤ q.lengths y name + 64 * (newest + 1 - d.counter) + 64

-- what x hears, and the other side sends and seals
pub record Keeps (s : SealedNet) (x : Side) : Type 0 where
  pub begin : Net
  pub begin_is : IsEarlier s x begin
  pub none : (y : Side) (name : Name) → lengths_of begin y name ≡ 0
  pub packets : (i : ℕ) (q : Sent) → slice_get (s.net (other x)).sent i ≡ Some q → IsSentAt s x i q
  pub rising : (i j : ℕ) (p q : Sent) → i ≤ j → slice_get (s.net (other x)).sent i ≡ Some p
      → slice_get (s.net (other x)).sent j ≡ Some q → (y : Side) (name : Name) → p.lengths y name ≤ q.lengths y name
  pub order : (m n : ℕ) (d e : Datagram) → m < n → slice_get (s.datagrams (other x)) m ≡ Some d
      → slice_get (s.datagrams (other x)) n ≡ Some e → ComesAfter d e
  pub fits : (m : ℕ) (d : Datagram) → slice_get (s.datagrams (other x)) m ≡ Some d
      → (d.first ≤ d.last) × (d.last < length (s.net (other x)).sent)
  -- x has heard no counter above all that were sealed
  pub known : (c : ℕ) → 1 ≤ c
      → ((m : ℕ) (d : Datagram) → slice_get (s.datagrams (other x)) m ≡ Some d → d.counter < c) → s.newest x < c
  pub mates : AreMates s x
  pub level : IsLevel s x (s.newest x)

-- what was written by now
until_now : (s : SealedNet) (x : Side) (i : ℕ) (q : Sent) → IsSentAt s x i q → (y : Side) (name : Name)
    → q.lengths y name ≤ lengths_of s.net y name
until_now s x i q at y name =
    let same = at.lengths y name in
    let most = lengths_last (at.early y) (s.net y) (at.is.lasts y) name in
    omega (arith, same, most)

-- the newest packet that x may have heard, and what was written since
pub record IsClose (s : SealedNet) (x : Side) : Type 0 where
  pub place : ℕ
  pub datagram : Datagram
  pub there : slice_get (s.datagrams (other x)) place ≡ Some datagram
  pub below : datagram.counter ≤ s.newest x
  pub packet : Sent
  pub sent : slice_get (s.net (other x)).sent datagram.last ≡ Some packet
  pub most : (y : Side) (name : Name) → lengths_of s.net y name ≤ packet.lengths y name + 64

module _ (s : SealedNet) (x : Side) (reached : Reached s.net) (h : Keeps s x) where
  -- no datagram before the newest that x may have heard has a later packet
  sent_before : (l : IsLatest (s.datagrams (other x)) (s.newest x)) (m : ℕ) (d : Datagram)
      → slice_get (s.datagrams (other x)) m ≡ Some d → d.counter ≤ s.newest x → d.last ≤ l.datagram.last
  sent_before l m d there below =
      ⊎_elim
      (λ (before : m < l.place).
      let order = (h.fits l.place l.datagram l.there).0 in
      ⊎_elim (λ (apart : d.last < l.datagram.first). omega (arith, apart, order))
      (λ (same : (l.datagram.first ≡ d.first) × (l.datagram.last ≡ d.last)).
      let last = same.1 in
      omega (arith, last))
      (h.order m l.place d l.datagram before there l.there).packets)
      (λ (behind : l.place ≤ m).
      ⊎_elim
      (λ (later : l.place < m).
      let above = l.after m d there later in
      absurd (omega (arith, above, below)))
      (λ (at : m ≤ l.place).
      let same : m ≡ l.place = omega (arith, at, behind) in
      let both : d ≡ l.datagram =
      some_eq (sym there ∙ ap (slice_get (s.datagrams (other x))) same ∙ l.there) in
      let last = ap (λ (e : Datagram). e.last) both in
      omega (arith, last))
      (below_or_not l.place m))
      (below_or_not m l.place)

  -- Since the newest packet that x may have heard was sent, no connection has written more than 64 items.
  pub close : ((y : Side) (name : Name) → lengths_of s.net y name ≤ 64) ⊎ IsClose s x
  close =
      ⊎_elim
      (λ (above : AreAbove (s.datagrams (other x)) (s.newest x)).
      inl
      (λ y name.
      let mixed =
      h.begin_is.mixed
      (λ m d there below. let over = above m d there in absurd (omega (arith, over, below))) in
      let since = written_since s.net h.begin x reached h.begin_is.reached mixed y name in
      let none = h.none y name in
      omega (arith, since, none)))
      (λ (l : IsLatest (s.datagrams (other x)) (s.newest x)).
      let p = get_some (s.net (other x)).sent l.datagram.last (h.fits l.place l.datagram l.there).1 in
      let at = h.packets l.datagram.last p.0 p.1 in
      let mixed =
      at.is.mixed
      (λ m d there below.
      let before = sent_before l m d there below in
      let in_early = at.sent in
      omega (arith, before, in_early)) in
      inr
      (record {
        place = l.place;
        datagram = l.datagram;
        there = l.there;
        below = l.below;
        packet = p.0;
        sent = p.1;
        most = λ y name.
            let since = written_since s.net at.early x reached at.is.reached mixed y name in
            let same = at.lengths y name in
            omega (arith, since, same);
      }))
      (latest (s.datagrams (other x)) (s.newest x))

  -- and since any packet of a datagram was sent
  pub written_since_sent : (i m : ℕ) (q : Sent) (d : Datagram) → IsIn s x i q m d → (y : Side) (name : Name)
      → lengths_of s.net y name ≤ q.lengths y name + 64 * (s.newest x + 1 - d.counter) + 128
  written_since_sent i m q d is y name =
      ⊎_elim
      (λ (few : (y : Side) (name : Name) → lengths_of s.net y name ≤ 64).
      let most = few y name in
      omega (arith, most))
      (λ (l : IsClose s x).
      let most = l.most y name in
      let level =
      h.level i l.datagram.last m l.place q l.packet d l.datagram is l.sent l.there (omega arith) l.below y name in
      omega (arith, most, level))
      close

-- ---- an event at x

pub record IsOwnStep (s r : SealedNet) (x : Side) : Type 0 where
  pub far : r.net (other x) ≡ s.net (other x)
  pub datagrams : r.datagrams (other x) ≡ s.datagrams (other x)
  pub newest : s.newest x ≤ r.newest x
  pub known : (c : ℕ) → s.newest x < c
      → ((m : ℕ) (d : Datagram) → slice_get (s.datagrams (other x)) m ≡ Some d → d.counter < c) → r.newest x < c
  pub lasts : (y : Side) → StoriesLastIn (s.net y) (r.net y)
  pub mixed : (early : Net) → IsEarlier s x early → HadSentAll r x early → IsMixed r.net early x

-- what had been sent before x heard more
pub sent_all_before : (s r : SealedNet) (x : Side) (early : Net) → r.datagrams (other x) ≡ s.datagrams (other x)
    → s.newest x ≤ r.newest x → HadSentAll r x early → HadSentAll s x early
sent_all_before s r x early datagrams newest h m d there below =
    h m d (ap (λ ds. slice_get ds m) datagrams ∙ there) (omega (arith, newest, below))

module _ (s r : SealedNet) (x : Side) (reached : Reached s.net) (h : Keeps s x) (step : IsOwnStep s r x) where
  own_sent : (i : ℕ) (q : Sent) → slice_get (r.net (other x)).sent i ≡ Some q
      → slice_get (s.net (other x)).sent i ≡ Some q
  own_sent i q at = sym (ap (λ (st : Station). slice_get st.sent i) step.far) ∙ at

  own_sealed : (m : ℕ) (d : Datagram) → slice_get (r.datagrams (other x)) m ≡ Some d
      → slice_get (s.datagrams (other x)) m ≡ Some d
  own_sealed m d at = sym (ap (λ ds. slice_get ds m) step.datagrams) ∙ at

  own_in : (i m : ℕ) (q : Sent) (d : Datagram) → IsIn r x i q m d → IsIn s x i q m d
  own_in i m q d is =
      record { sent = own_sent i q is.sent; there = own_sealed m d is.there; first = is.first; last = is.last }

  own_earlier : (early : Net) → IsEarlier s x early → IsEarlier r x early
  own_earlier early e = record {
    reached = e.reached;
    lasts = λ y. last_through (early y) (s.net y) (r.net y) (e.lasts y) (step.lasts y);
    more = e.more;
    sent = ap (λ (st : Station). st.sent) step.far ∙ e.sent;
    mixed = step.mixed early e;
  }

  -- a datagram with a smaller counter was sealed before
  sealed_before : (m n : ℕ) (d e : Datagram) → slice_get (s.datagrams (other x)) m ≡ Some d
      → slice_get (s.datagrams (other x)) n ≡ Some e → e.counter < d.counter → ComesAfter e d
  sealed_before m n d e at_d at_e less =
      ⊎_elim (λ (before : n < m). h.order n m e d before at_e at_d)
      (λ (behind : m ≤ n).
      ⊎_elim
      (λ (after : m < n).
      let more = (h.order m n d e after at_d at_e).counter in
      absurd (omega (arith, more, less)))
      (λ (at : n ≤ m).
      let same : n ≡ m = omega (arith, at, behind) in
      let both : e ≡ d = some_eq (sym at_e ∙ ap (slice_get (s.datagrams (other x))) same ∙ at_d) in
      let counters = ap (λ (z : Datagram). z.counter) both in
      absurd (omega (arith, counters, less)))
      (below_or_not m n))
      (below_or_not n m)

  own_level : IsLevel r x (r.newest x)
  own_level i j m n q p d e is at_p at_e within below y name =
      ⊎_elim
      (λ (now : s.newest x < e.counter).
      let newest = step.newest in
      ⊎_elim
      (λ (ahead : r.newest x < d.counter).
      let after =
      sealed_before m n d e before.there (own_sealed n e at_e) (omega (arith, below, ahead)) in
      ⊎_elim
      (λ (apart : e.last < d.first).
      let first = is.first in
      let rising = h.rising j i p q (omega (arith, within, apart, first)) (own_sent j p at_p) before.sent y name in
      omega (arith, rising))
      (λ (same : (d.first ≡ e.first) × (d.last ≡ e.last)).
      let last = same.1 in
      let mates = h.mates i j m q p d before (own_sent j p at_p) (omega (arith, within, last)) y name in
      omega (arith, mates))
      after.packets)
      (λ (heard : d.counter ≤ r.newest x).
      let most = until_now s x j p (h.packets j p (own_sent j p at_p)) y name in
      let since = written_since_sent s x reached h i m q d before y name in
      omega (arith, most, since, now, heard, below, newest))
      (below_or_not (r.newest x) d.counter))
      (λ (old : e.counter ≤ s.newest x).
      let level =
      h.level i j m n q p d e before (own_sent j p at_p) (own_sealed n e at_e) within old y name in
      let newest = step.newest in
      omega (arith, level, newest))
      (below_or_not (s.newest x) e.counter)
    where
      before : IsIn s x i q m d
      before = own_in i m q d is

  pub own_keeps : Keeps r x
  own_keeps = record {
    begin = h.begin;
    begin_is = own_earlier h.begin h.begin_is;
    none = h.none;
    packets = λ i q at.
        let sent = h.packets i q (own_sent i q at) in
        record { early = sent.early; is = own_earlier sent.early sent.is; sent = sent.sent; lengths = sent.lengths };
    rising = λ i j p q le at_p at_q. h.rising i j p q le (own_sent i p at_p) (own_sent j q at_q);
    order = λ m n d e before at_d at_e. h.order m n d e before (own_sealed m d at_d) (own_sealed n e at_e);
    fits = λ m d at.
        let fits = h.fits m d (own_sealed m d at) in
        let same = ap (λ (st : Station). length st.sent) step.far in
        let last = fits.1 in
        (fits.0, omega (arith, same, last));
    known = λ c some all.
        let below : (m : ℕ) (d : Datagram) → slice_get (s.datagrams (other x)) m ≡ Some d → d.counter < c =
        λ m d at. all m d (ap (λ ds. slice_get ds m) step.datagrams ∙ at) in
        step.known c (h.known c some below) below;
    mates = λ i j m q p d is at_p within. h.mates i j m q p d (own_in i m q d is) (own_sent j p at_p) within;
    level = own_level;
  }

-- ---- an event at the other side

pub record IsFarStep (s r : SealedNet) (x : Side) : Type 0 where
  pub near : r.net x ≡ s.net x
  pub newest : r.newest x ≡ s.newest x
  pub datagrams : r.datagrams (other x) ≡ s.datagrams (other x)
  pub lasts : (y : Side) → StoriesLastIn (s.net y) (r.net y)
  pub new : List Sent
  pub sent : (r.net (other x)).sent ≡ (s.net (other x)).sent ++ new
  pub lengths : (j : ℕ) (q : Sent) → slice_get new j ≡ Some q → (y : Side) (name : Name)
      → q.lengths y name ≡ lengths_of r.net y name

module _ (s r : SealedNet) (x : Side) (reached : Reached r.net) (h : Keeps s x) (step : IsFarStep s r x) where
  far_sealed : (m : ℕ) (d : Datagram) → slice_get (r.datagrams (other x)) m ≡ Some d
      → slice_get (s.datagrams (other x)) m ≡ Some d
  far_sealed m d at = sym (ap (λ ds. slice_get ds m) step.datagrams) ∙ at

  far_earlier : (early : Net) → IsEarlier s x early → IsEarlier r x early
  far_earlier early e = record {
    reached = e.reached;
    lasts = λ y. last_through (early y) (s.net y) (r.net y) (e.lasts y) (step.lasts y);
    more = e.more ++ step.new;
    sent =
        step.sent
        ∙ ap (λ (qs : List Sent). qs ++ step.new) e.sent
        ∙ append_assoc (early (other x)).sent e.more step.new;
    mixed = λ all.
        let same = step.newest in
        let m = e.mixed (sent_all_before s r x early step.datagrams (omega (arith, same)) all) in
        (m.0, subst (λ (st : Station). Reached (with_station early x (with_sent st m.0))) (sym step.near) m.1);
  }

  -- what is sent now
  now_earlier : IsEarlier r x r.net
  now_earlier = record {
    reached = reached;
    lasts = λ y. last_same (r.net y);
    more = [];
    sent = sym (append-nil (r.net (other x)).sent);
    mixed = λ all. mixed_now r.net x reached;
  }

  old_sent : (i : ℕ) (q : Sent) → i < length (s.net (other x)).sent → slice_get (r.net (other x)).sent i ≡ Some q
      → slice_get (s.net (other x)).sent i ≡ Some q
  old_sent i q few at =
      get_old (s.net (other x)).sent step.new i q few (sym (ap (λ qs. slice_get qs i) step.sent) ∙ at)

  new_lengths : (i : ℕ) (q : Sent) → length (s.net (other x)).sent ≤ i → slice_get (r.net (other x)).sent i ≡ Some q
      → (y : Side) (name : Name) → q.lengths y name ≡ lengths_of r.net y name
  new_lengths i q late at =
      let new =
      get_new (s.net (other x)).sent step.new i q late (sym (ap (λ qs. slice_get qs i) step.sent) ∙ at) in
      step.lengths new.0 q new.1

  far_packets : (i : ℕ) (q : Sent) → slice_get (r.net (other x)).sent i ≡ Some q → IsSentAt r x i q
  far_packets i q at =
      ⊎_elim
      (λ (old : i < length (s.net (other x)).sent).
      let sent = h.packets i q (old_sent i q old at) in
      record { early = sent.early; is = far_earlier sent.early sent.is; sent = sent.sent; lengths = sent.lengths })
      (λ (late : length (s.net (other x)).sent ≤ i).
      record {
        early = r.net;
        is = now_earlier;
        sent = get_within (r.net (other x)).sent i q at;
        lengths = new_lengths i q late at;
      })
      (below_or_not i (length (s.net (other x)).sent))

  far_rising : (i j : ℕ) (p q : Sent) → i ≤ j → slice_get (r.net (other x)).sent i ≡ Some p
      → slice_get (r.net (other x)).sent j ≡ Some q → (y : Side) (name : Name) → p.lengths y name ≤ q.lengths y name
  far_rising i j p q le at_p at_q y name =
      ⊎_elim
      (λ (old : j < length (s.net (other x)).sent).
      h.rising i j p q le (old_sent i p (omega (arith, old, le)) at_p) (old_sent j q old at_q) y name)
      (λ (late : length (s.net (other x)).sent ≤ j).
      let most = until_now r x i p (far_packets i p at_p) y name in
      let same = new_lengths j q late at_q y name in
      omega (arith, most, same))
      (below_or_not j (length (s.net (other x)).sent))

  -- what was sealed had been sent before
  sealed_sent : (i n : ℕ) (q : Sent) (e : Datagram) → slice_get (s.datagrams (other x)) n ≡ Some e → i ≤ e.last
      → slice_get (r.net (other x)).sent i ≡ Some q → slice_get (s.net (other x)).sent i ≡ Some q
  sealed_sent i n q e at_e within at =
      let last = (h.fits n e at_e).1 in
      old_sent i q (omega (arith, within, last)) at

  far_in : (i m : ℕ) (q : Sent) (d : Datagram) → IsIn r x i q m d → IsIn s x i q m d
  far_in i m q d is =
      let there = far_sealed m d is.there in
      record { sent = sealed_sent i m q d there is.last is.sent; there = there; first = is.first; last = is.last }

  far_level : IsLevel r x (r.newest x)
  far_level i j m n q p d e is at_p at_e within below y name =
      let there = far_sealed n e at_e in
      let newest = step.newest in
      let level =
      h.level i j m n q p d e (far_in i m q d is) (sealed_sent j n p e there within at_p) there within
      (omega (arith, below, newest)) y name in
      omega (arith, level, newest)

  pub far_keeps : Keeps r x
  far_keeps = record {
    begin = h.begin;
    begin_is = far_earlier h.begin h.begin_is;
    none = h.none;
    packets = far_packets;
    rising = far_rising;
    order = λ m n d e before at_d at_e. h.order m n d e before (far_sealed m d at_d) (far_sealed n e at_e);
    fits = λ m d at.
        let there = far_sealed m d at in
        let fits = h.fits m d there in
        let p = get_some (s.net (other x)).sent d.last fits.1 in
        let later =
        get_within (r.net (other x)).sent d.last p.0
        (ap (λ qs. slice_get qs d.last) step.sent ∙ get_front (s.net (other x)).sent step.new d.last p.0 p.1) in
        (fits.0, later);
    known = λ c some all.
        let newest = step.newest in
        let less = h.known c some (λ m d at. all m d (ap (λ ds. slice_get ds m) step.datagrams ∙ at)) in
        omega (arith, newest, less);
    mates = λ i j m q p d is at_p within.
        h.mates i j m q p d (far_in i m q d is) (sealed_sent j m p d (far_sealed m d is.there) within at_p) within;
    level = far_level;
  }

-- ---- the other side seals

module _ (s : SealedNet) (x : Side) (sealed : Side → List Datagram) (new : Datagram) (reached : Reached s.net)
    (h : Keeps s x) (is : sealed (other x) ≡ s.datagrams (other x) ++ new ∷ []) (can : MaySeal s (other x) new)
  where
    abbrev after : SealedNet
    after = record s { datagrams = sealed }

    old_there : (m : ℕ) (d : Datagram) → slice_get (s.datagrams (other x)) m ≡ Some d
        → slice_get (sealed (other x)) m ≡ Some d
    old_there m d at =
        ap (λ ds. slice_get ds m) is ∙ get_front (s.datagrams (other x)) (new ∷ []) m d at

    -- each datagram is an old one, or the new one
    old_or_new : (m : ℕ) (d : Datagram) → slice_get (sealed (other x)) m ≡ Some d
        → (slice_get (s.datagrams (other x)) m ≡ Some d) ⊎ ((d ≡ new) × (m ≡ length (s.datagrams (other x))))
    old_or_new m d at =
        ⊎_elim
        (λ (few : m < length (s.datagrams (other x))).
        inl (get_old (s.datagrams (other x)) (new ∷ []) m d few (sym (ap (λ ds. slice_get ds m) is) ∙ at)))
        (λ (late : length (s.datagrams (other x)) ≤ m).
        inr (get_last (s.datagrams (other x)) new m d late (sym (ap (λ ds. slice_get ds m) is) ∙ at)))
        (below_or_not m (length (s.datagrams (other x))))

    comes_after : (m : ℕ) (d : Datagram) → slice_get (s.datagrams (other x)) m ≡ Some d → ComesAfter d new
    comes_after m d at = all_at (λ e. ComesAfter e new) (s.datagrams (other x)) m d can.after at

    unheard : s.newest x < new.counter
    unheard = h.known new.counter can.some (λ m d at. (comes_after m d at).counter)

    sealed_earlier : (early : Net) → IsEarlier s x early → IsEarlier after x early
    sealed_earlier early e = record {
      reached = e.reached;
      lasts = e.lasts;
      more = e.more;
      sent = e.sent;
      mixed = λ all. e.mixed (λ m d there below. all m d (old_there m d there) below);
    }

    sealed_order : (m n : ℕ) (d e : Datagram) → m < n → slice_get (sealed (other x)) m ≡ Some d
        → slice_get (sealed (other x)) n ≡ Some e → ComesAfter d e
    sealed_order m n d e before at_d at_e = by (old_or_new m d at_d) (old_or_new n e at_e)
      where
        by : (slice_get (s.datagrams (other x)) m ≡ Some d) ⊎ ((d ≡ new) × (m ≡ length (s.datagrams (other x))))
            → (slice_get (s.datagrams (other x)) n ≡ Some e) ⊎ ((e ≡ new) × (n ≡ length (s.datagrams (other x))))
            → ComesAfter d e
        by (inl old_d) (inl old_e) = h.order m n d e before old_d old_e
        by (inl old_d) (inr now_e) = subst (ComesAfter d) (sym now_e.0) (comes_after m d old_d)
        by (inr now_d) (inl old_e) =
            let within = get_within (s.datagrams (other x)) n e old_e in
            let place = now_d.1 in
            absurd (omega (arith, before, within, place))
        by (inr now_d) (inr now_e) =
            let place_d = now_d.1 in
            let place_e = now_e.1 in
            absurd (omega (arith, before, place_d, place_e))

    -- The newest packet that x may have heard is before the new datagram, or the new datagram is the last one again.
    new_mates : (i j : ℕ) (q p : Sent) → slice_get (s.net (other x)).sent i ≡ Some q → new.first ≤ i → i ≤ new.last
        → slice_get (s.net (other x)).sent j ≡ Some p → j ≤ new.last → (y : Side) (name : Name)
        → p.lengths y name ≤ q.lengths y name + 64
    new_mates i j q p at_q first last at_p within y name =
        ⊎_elim
        (λ (few : (y : Side) (name : Name) → lengths_of s.net y name ≤ 64).
        let most = few y name in
        let now = until_now s x j p (h.packets j p at_p) y name in
        omega (arith, most, now))
        (λ (l : IsClose s x).
        ⊎_elim
        (λ (apart : l.datagram.last < new.first).
        let most = l.most y name in
        let now = until_now s x j p (h.packets j p at_p) y name in
        let rising = h.rising l.datagram.last i l.packet q (omega (arith, apart, first)) l.sent at_q y name in
        omega (arith, most, now, rising))
        (λ (same : (new.first ≡ l.datagram.first) × (new.last ≡ l.datagram.last)).
        let same_first = same.0 in
        let same_last = same.1 in
        h.mates i j l.place q p l.datagram
        (record {
          sent = at_q;
          there = l.there;
          first = omega (arith, first, same_first);
          last = omega (arith, last, same_last);
        })
        at_p (omega (arith, within, same_last)) y name)
        (comes_after l.place l.datagram l.there).packets)
        (close s x reached h)

    -- the packet is in an old datagram, or in the new one
    sealed_in : (i m : ℕ) (q : Sent) (d : Datagram) → IsIn after x i q m d → IsIn s x i q m d ⊎ (d ≡ new)
    sealed_in i m q d at =
        ⊎_elim
        (λ (old : slice_get (s.datagrams (other x)) m ≡ Some d).
        inl (record { sent = at.sent; there = old; first = at.first; last = at.last }))
        (λ (now : (d ≡ new) × (m ≡ length (s.datagrams (other x)))). inr now.0)
        (old_or_new m d at.there)

    sealed_mates : AreMates after x
    sealed_mates i j m q p d at at_p within y name =
        ⊎_elim (λ (old : IsIn s x i q m d). h.mates i j m q p d old at_p within y name)
        (λ (now : d ≡ new).
        let d_first = ap (λ (z : Datagram). z.first) now in
        let d_last = ap (λ (z : Datagram). z.last) now in
        let first = at.first in
        let last = at.last in
        new_mates i j q p at.sent (omega (arith, first, d_first)) (omega (arith, last, d_last)) at_p
        (omega (arith, within, d_last)) y name)
        (sealed_in i m q d at)

    sealed_level : IsLevel after x (s.newest x)
    sealed_level i j m n q p d e at at_p at_e within below y name =
        ⊎_elim
        (λ (old_e : slice_get (s.datagrams (other x)) n ≡ Some e).
        ⊎_elim (λ (old : IsIn s x i q m d). h.level i j m n q p d e old at_p old_e within below y name)
        (λ (now : d ≡ new).
        let d_first = ap (λ (z : Datagram). z.first) now in
        let d_last = ap (λ (z : Datagram). z.last) now in
        let first = at.first in
        let last = at.last in
        ⊎_elim
        (λ (apart : e.last < new.first).
        let rising = h.rising j i p q (omega (arith, within, apart, first, d_first)) at_p at.sent y name in
        omega (arith, rising))
        (λ (same : (new.first ≡ e.first) × (new.last ≡ e.last)).
        let same_last = same.1 in
        let mates =
        new_mates i j q p at.sent (omega (arith, first, d_first)) (omega (arith, last, d_last)) at_p
        (omega (arith, within, same_last)) y name in
        omega (arith, mates))
        (comes_after n e old_e).packets)
        (sealed_in i m q d at))
        (λ (now_e : (e ≡ new) × (n ≡ length (s.datagrams (other x)))).
        let counter = ap (λ (z : Datagram). z.counter) now_e.0 in
        let over = unheard in
        absurd (omega (arith, counter, over, below)))
        (old_or_new n e at_e)

    pub sealed_keeps : Keeps (record s { datagrams = sealed }) x
    sealed_keeps = record {
      begin = h.begin;
      begin_is = sealed_earlier h.begin h.begin_is;
      none = h.none;
      packets = λ i q at.
          let sent = h.packets i q at in
          record { early = sent.early; is = sealed_earlier sent.early sent.is; sent = sent.sent; lengths = sent.lengths };
      rising = h.rising;
      order = sealed_order;
      fits = λ m d at.
          ⊎_elim (λ (old : slice_get (s.datagrams (other x)) m ≡ Some d). h.fits m d old)
          (λ (now : (d ≡ new) × (m ≡ length (s.datagrams (other x)))).
          subst (λ (z : Datagram). (z.first ≤ z.last) × (z.last < length (s.net (other x)).sent)) (sym now.0)
          (can.order, can.sent))
          (old_or_new m d at);
      known = λ c some all. h.known c some (λ m d at. all m d (old_there m d at));
      mates = sealed_mates;
      level = sealed_level;
    }
