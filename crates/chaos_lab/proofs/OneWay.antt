-- One way of settling, step by step: an end is told, sends again, and the other end's user reads what comes.
use Rattle.std.proofs.Common.{◌≡◌, ℕ, zero, suc, ◌+◌, ◌-◌, ◌<◌, ◌≤◌, max, List, [], ◌∷◌, ◌++◌, length, true, false, Option, Some, None, refl, sym, ap, ◌∙◌, subst, inl, inr, ◌⊎◌, ⊎_elim, arith, map, length-drop, length-append, append_assoc}
use Rattle.std.specs.Prelude.{is_none, slice_get}
use Rattle.std.specs.FinSet.{contains}
use Rattle.std.proofs.lemmas.Bool.{cond_both, cases_lt, false≢true}
use Rattle.std.proofs.lemmas.List.{length-map}
use Rattle.std.proofs.lemmas.Option.{slice_get_within, get_or_from_slice_get}
use Rattle.chaos_packet.specs.Item.{ItemView}
use Rattle.chaos_conn.specs.View.{ConnView}
use Rattle.chaos_packet.specs.Number.{num}
use Rattle.chaos_conn.specs.declared.time.Due.{Due}
use Rattle.chaos_conn.specs.Act.Call.{Tick}
use Rattle.chaos_conn.specs.Time.{is_down, is_resend_due, is_probe_due, at_moment, due_of, ticked_by, act_tick}
use Rattle.chaos_conn.specs.Calls.{front_of}
use Rattle.chaos_lab.specs.declared.side.Side.{Side}
use Rattle.chaos_lab.specs.Machine.{PlainEnd as Plain, Kind, Told, Copy, Machine, other, end_of, with_end, IsSent, Step}
use Rattle.chaos_lab.specs.Machine.Phase.{Open}
use Rattle.chaos_lab.specs.Machine.Event.{TickAt}
use Rattle.chaos_lab.specs.Machine.Kind.{Nth, Cls}
use Rattle.chaos_lab.specs.Law.{IsThere}
use Rattle.chaos_lab.specs.Laboratory.{LabView, Happening, lab_end, happen, after_all}
use Rattle.chaos_lab.specs.Laboratory.Happening.{ReadBy, AnnounceBy, TickOf, DeliverCopy}
use Rattle.chaos_lab.specs.Tied.{Ties}
use Rattle.chaos_lab.specs.Settling.{telling, told, last_moment, resend_moment, again, reading, reading_on, coming, taking_in, taking}
use Rattle.chaos_lab.proofs.Total.{received}
use Rattle.chaos_lab.proofs.Arriving.{heard_there}
use Rattle.chaos_lab.proofs.Machines.{reached_holds, end_holds}
use Rattle.chaos_lab.proofs.Directions.{Sound}
use Rattle.chaos_lab.proofs.Known.{other_other}
use Rattle.chaos_lab.proofs.OnSide.{conn_at}
use Rattle.chaos_lab.proofs.Keeps.{Keeps, CopyAt, keeps_through}
use Rattle.chaos_lab.proofs.Helping.{SameTimes, HeardNow, OnTime, Burst, Copies, Announces, Sends, next_moment, read_event, copy_event, announce_event, hears_at, tick_event, packets_count, past_front, burst_keeps, copies_keep, copies_after, stamp_after, same_count, shows}
use Rattle.chaos_lab.proofs.Waiting.{waiting}
use Rattle.chaos_lab.proofs.Playing.{Plays, after_both, plays_none, plays_one, plays_both, plays_first}

-- both ends are open
abbrev pub AreOpen : Machine → Type 0
AreOpen w = (x : Side) → (end_of w x).phase ≡ Open

pub stay_open : (w v : Machine) → Keeps w v → AreOpen w → AreOpen v
stay_open w v k h x = (k.ends x).opened (h x)

-- ---- the user at y announces its window, and x hears it

pub record Hears (n : ℕ) (y x : Side) (w : Machine) (l : LabView) : Type 0 where
  pub machine : Machine
  pub plays : Plays n w l (telling y l) machine
  pub some : 1 ≤ (end_of machine y).announced
  pub heard : length (end_of w y).read ≤ (end_of machine x).acknowledged
  pub room : 1 ≤ (end_of machine x).window
  pub hears : HeardNow l.clock (conn_at l x) (conn_at (told y l) x)
  pub speaks : SameTimes (conn_at l y) (conn_at (told y l) y)
  pub clock : (told y l).clock ≡ l.clock

told_other : (n : ℕ) (y : Side) (w : Machine) (l : LabView) → Ties w l → AreOpen w → n ≤ length l.copies
    → Hears n y (other y) w l
told_other n y w l t opens from =
    let window : ℕ = (lab_end l y).conn.config.recv_cap in
    let cap : window ≡ (end_of w y).recv_cap = ap (λ (c : ConnView). c.config.recv_cap) (shows y w l t (opens y)).is in
    let a : Announces y w l window = subst (Announces y w l) (sym cap) (announce_event y w l t (opens y)) in
    let l1 : LabView = (happen l (AnnounceBy y window)).lab in
    let copy : ℕ = length l.copies in
    let h =
    hears_at y a.machine l1 copy (length (end_of a.machine y).read) a.told.0 (end_of a.machine y).announced a.copy
    a.ties a.at a.kind a.told.1 (stay_open w a.machine a.keeps opens (other y)) in
    let l2 : LabView = told y l in
    record {
      machine = h.machine;
      plays = plays_first n w a.machine h.machine l (AnnounceBy y window) (DeliverCopy copy ∷ [])
          (plays_one n w a.machine l (AnnounceBy y window) tt a.taken a.ties a.keeps)
          (plays_one n a.machine h.machine l1 (DeliverCopy copy) from h.taken h.ties h.keeps);
      some = (h.keeps.ends y).announces a.some;
      heard = omega (arith, (a.keeps.ends y).read, h.heard);
      room = h.room a.some;
      hears =
          subst (λ (u : ConnView × ℕ). HeardNow u.1 u.0 (conn_at l2 (other y)))
          (λ j. (a.peers (other y) refl j, a.clock j)) h.own;
      speaks = subst (λ (u : ConnView). SameTimes (conn_at l y) u) (sym h.peers) a.own;
      clock = h.clock ∙ a.clock;
    }

-- said of the end that hears
pub told_by : (n : ℕ) (x : Side) (w : Machine) (l : LabView) → Ties w l → AreOpen w → n ≤ length l.copies
    → Hears n (other x) x w l
told_by n x w l t opens from =
    subst (λ (z : Side). Hears n (other x) z w l) (other_other x) (told_other n (other x) w l t opens from)

-- ---- then x sends again what it has no receipt for

-- it sends again before it would count its peer as down
pub record Timely (v : ConnView) : Type 0 where
  pub again : v.config.retransmit < v.config.down
  pub resent : v.resent ≤ v.last

pub same_timely : (u v : ConnView) → SameTimes u v → Timely u → Timely v
same_timely u v s h =
    let again : v.config.retransmit ≡ u.config.retransmit = ap (λ c. c.retransmit) s.config in
    let down : v.config.down ≡ u.config.down = ap (λ c. c.down) s.config in
    record { again = omega (arith, again, down, h.again); resent = omega (arith, s.last, s.resent, h.resent) }

on_time : (t : ℕ) (u v : ConnView) → HeardNow t u v → Timely u → OnTime v
on_time t u v s h =
    let again : v.config.retransmit ≡ u.config.retransmit = ap (λ c. c.retransmit) s.config in
    let down : v.config.down ≡ u.config.down = ap (λ c. c.down) s.config in
    record { heard = s.heard; again = omega (arith, again, down, h.again); resent = omega (arith, s.last, s.resent, h.resent) }

-- a copy is stamped with what both ends have written now
pub record IsStamped (w : Machine) (c : Copy) : Type 0 where
  pub len_a : c.len_a ≡ length w.a.written
  pub len_b : c.len_b ≡ length w.b.written

-- so those are that a tick puts out
stamped_at : (x : Side) (w v : Machine) (n : ℕ) (c : Copy) → Keeps w v → Step w (TickAt x) v → length w.copies ≤ n
    → slice_get v.copies n ≡ Some c → IsStamped v c
stamped_at x w v n c k s from at =
    let b = s.2 in
    let j : ℕ = n - length w.copies in
    let place : n ≡ length w.copies + j = omega (arith, from) in
    let all : v.copies ≡ w.copies ++ b.0 = ap (λ (u : Machine). u.copies) b.2 in
    let there : slice_get b.0 j ≡ Some c =
    sym (past_front w.copies b.0 n j place) ∙ ap (λ cs. slice_get cs n) (sym all) ∙ at in
    let sent : IsSent (with_end w x s.0) x c =
    subst (IsSent (with_end w x s.0) x) (get_or_from_slice_get b.0 j c c there)
    (b.1 j c (slice_get_within b.0 j c there)) in
    record { len_a = sent.len_a ∙ sym (ap (λ (u : Machine). length u.a.written) b.2); len_b = sent.len_b ∙ sym (ap (λ (u : Machine). length u.b.written) b.2) }

-- it has a moment left for that
abbrev pub HasMoment : Side → LabView → Type 0
HasMoment x l = max (conn_at l x).last l.clock + (conn_at l x).config.retransmit ≤ last_moment

-- the laboratory when x was told, and when it has sent again
abbrev pub resent : Side → LabView → LabView
resent x l = again x (told (other x) l)

pub record Resends (n : ℕ) (x : Side) (w : Machine) (l : LabView) : Type 0 where
  pub machine : Machine
  pub plays : Plays n w l (telling (other x) l ++ TickOf x (resend_moment x (told (other x) l)) ∷ []) machine
  pub ties : Ties machine (resent x l)
  pub some : 1 ≤ (end_of machine (other x)).announced
  pub receipted : ℕ
  pub burst : Burst machine x (length (told (other x) l).copies) receipted
  pub all : Copies machine x (length (told (other x) l).copies) (length (resent x l).copies)
  pub upto : length (told (other x) l).copies ≤ length (resent x l).copies
  pub enough : length (end_of machine x).written
      ≤ receipted + (length (resent x l).copies - length (told (other x) l).copies)
  pub few : length (resent x l).copies ≤ length (told (other x) l).copies + 64
  pub exact : receipted < length (end_of machine x).written
      → length (resent x l).copies ≡ length (told (other x) l).copies + (length (end_of machine x).written - receipted)
  pub stamped : (number : ℕ) (c : Copy) → length (told (other x) l).copies ≤ number
      → slice_get machine.copies number ≡ Some c → IsStamped machine c
  pub from : length l.copies ≤ length (told (other x) l).copies
  pub speaks : SameTimes (conn_at l (other x)) (conn_at (resent x l) (other x))
  pub clock : (resent x l).clock ≡ max (conn_at l x).last l.clock + (conn_at l x).config.retransmit

-- a copy of each item was put out
all_put : (v : Machine) (m : LabView) (x : Side) (number r : ℕ) → Ties v m → Burst v x number r
    → length (end_of v x).written ≤ r + (length m.copies - number)
all_put v m x number r t burst =
    ⊎_elim
    (λ (less : r < length (end_of v x).written).
    let j : ℕ = length (end_of v x).written - suc r in
    let c = burst.copies j (omega (arith, less)) in
    let within = slice_get_within v.copies (number + j) c.0 c.1.there in
    let count : length m.copies ≡ length v.copies = same_count v m t in
    omega (arith, within, count, less))
    (λ (past : length (end_of v x).written ≤ r). omega (arith, past))
    (cases_lt r (length (end_of v x).written))

-- a tick puts out what is kept, or one packet, or none
tick_count : (v : ConnView) (most : ℕ) → length v.send.kept ≤ most → 1 ≤ most
    → length (ticked_by (due_of v) v).packets ≤ most
tick_count v most kept one =
    cond_both (is_down v) _ _ Few (λ _. omega arith)
    (λ _. cond_both (is_resend_due v) _ _ Few
    (λ _. let count = packets_count v.send.kept v (num v.send.receipted 1) in omega (arith, count, kept))
    (λ _. cond_both (is_probe_due v) _ _ Few (λ _. one) (λ _. omega arith)))
  where
    Few : Due → Type 0
    Few due = length (ticked_by due v).packets ≤ most

few_put : (x : Side) (v : Machine) (m : LabView) (now : ℕ) → Ties v m → (end_of v x).phase ≡ Open
    → length (happen m (TickOf x now)).lab.copies ≤ length m.copies + 64
few_put x v m now t at =
    let e : Plain = end_of v x in
    let u : ConnView = conn_at m x in
    let h = end_holds v x (reached_holds v t.tied.reached) in
    let kept : length u.send.kept ≡ length e.written - e.receipted =
    ap (λ (c : ConnView). length c.send.kept) (shows x v m t at).is ∙ length-drop e.receipted e.written in
    let few =
    tick_count (at_moment u now) 64 (omega (arith, kept, h.writer.room, h.writer.in_order, h.ok.caps.1))
    (omega arith) in
    let packets = (act_tick u now).packets in
    let long =
    ap length (copies_after x m (Tick now)) ∙ length-append m.copies (map (stamp_after m x (Tick now)) packets)
    ∙ ap (λ k. length m.copies + k) (length-map packets (stamp_after m x (Tick now))) in
    omega (arith, few, long)

pub resends : (n : ℕ) (x : Side) (w : Machine) (l : LabView) → Ties w l → AreOpen w → n ≤ length l.copies
    → Timely (conn_at l x) → HasMoment x l → Resends n x w l
resends n x w l t opens from timely left =
    let y : Side = other x in
    let s = told_by n x w l t opens from in
    let m : LabView = told y l in
    let v : Machine = s.machine in
    let h : HeardNow l.clock (conn_at l x) (conn_at m x) = s.hears in
    let time : OnTime (conn_at m x) = on_time l.clock (conn_at l x) (conn_at m x) h timely in
    let retransmit : (conn_at m x).config.retransmit ≡ (conn_at l x).config.retransmit =
    ap (λ c. c.retransmit) h.config in
    let moment : resend_moment x m ≡ max (conn_at l x).last l.clock + (conn_at l x).config.retransmit =
    omega (arith, h.heard, h.last, retransmit, left) in
    let now : next_moment (conn_at m x) ≡ resend_moment x m = omega (arith, h.heard, h.last, retransmit, left) in
    let e : Sends x v m (resend_moment x m) =
    subst (Sends x v m) now (tick_event x v m s.plays.ties (stay_open w v s.plays.keeps opens x) time) in
    let z : LabView = resent x l in
    let first : length l.copies ≡ length w.copies = same_count w l t in
    let before : length m.copies ≡ length v.copies = same_count v m s.plays.ties in
    let after : length z.copies ≡ length e.machine.copies = same_count e.machine z e.ties in
    record {
      machine = e.machine;
      plays = plays_both n w v e.machine l (telling y l) (TickOf x (resend_moment x m) ∷ []) s.plays
          (plays_one n v e.machine m (TickOf x (resend_moment x m)) tt e.taken e.ties e.keeps);
      ties = e.ties;
      some = (e.keeps.ends y).announces s.some;
      receipted = (end_of v x).receipted;
      burst = e.burst;
      all = e.all;
      upto = omega (arith, before, after, e.keeps.count);
      enough = all_put e.machine z x (length m.copies) (end_of v x).receipted e.ties e.burst;
      few = few_put x v m (resend_moment x m) s.plays.ties (stay_open w v s.plays.keeps opens x);
      exact = λ less.
          let kept : length (conn_at m x).send.kept ≡ length (end_of v x).written - (end_of v x).receipted =
          ap (λ (c : ConnView). length c.send.kept)
          (shows x v m s.plays.ties (stay_open w v s.plays.keeps opens x)).is
          ∙ length-drop (end_of v x).receipted (end_of v x).written in
          let same : length (end_of e.machine x).written ≡ length (end_of v x).written =
          ap length (e.keeps.ends x).written in
          let all = e.exact (omega (arith, kept, same, less)) in
          omega (arith, all, kept, same);
      stamped = λ number c late at. stamped_at x v e.machine number c e.keeps e.step (omega (arith, before, late)) at;
      from = omega (arith, first, before, s.plays.keeps.count);
      speaks = subst (λ (u : ConnView). SameTimes (conn_at l y) u) (sym (e.peers y refl)) s.speaks;
      clock =
          ap (λ (k : ℕ). max k (resend_moment x m)) s.clock
          ∙ (let last : max l.clock (resend_moment x m)
          ≡ max (conn_at l x).last l.clock + (conn_at l x).config.retransmit = omega (arith, moment) in last);
    }

-- ---- the other user reads

pub none_is : (o : Option ItemView) → is_none o ≡ true → o ≡ None
none_is None h = refl
none_is (Some item) h = absurd (false≢true h)

pub record ReadsFront (n : ℕ) (y : Side) (w : Machine) (l : LabView) : Type 0 where
  pub machine : Machine
  pub plays : Plays n w l (reading y l) machine
  pub reads : contains (end_of w y).arrived (length (end_of w y).read) ≡ true
      → length (end_of w y).read < length (end_of machine y).read

pub reads_front : (n : ℕ) (y : Side) (w : Machine) (l : LabView) → Ties w l → (end_of w y).phase ≡ Open
    → ReadsFront n y w l
reads_front n y w l t at =
    let f : Front (reading y l) = cond_both (is_none (front_of (conn_at l y))) [] (ReadBy y ∷ []) Front waits some in
    record { machine = f.0; plays = f.1; reads = f.2 }
  where
    Front : List Happening → Type 0
    Front events =
        (v : Machine) × Plays n w l events v
        × (contains (end_of w y).arrived (length (end_of w y).read) ≡ true
        → length (end_of w y).read < length (end_of v y).read)

    waits : is_none (front_of (conn_at l y)) ≡ true → Front []
    waits none =
        (w, plays_none n w l t, λ here. absurd (false≢true (sym (waiting y w l t at (none_is (front_of (conn_at l y)) none)) ∙ here)))

    some : is_none (front_of (conn_at l y)) ≡ false → Front (ReadBy y ∷ [])
    some h =
        let e = read_event y w l t
        at in (e.machine, plays_one n w e.machine l (ReadBy y) tt e.taken e.ties e.keeps, e.reads)

-- so many times: it reads all that had come, or an item each time
pub record ReadsOn (n : ℕ) (y : Side) (r k : ℕ) (w : Machine) (l : LabView) : Type 0 where
  pub machine : Machine
  pub plays : Plays n w l (reading_on y k l) machine
  pub read : (r ≤ length (end_of machine y).read) ⊎ (length (end_of w y).read + k ≤ length (end_of machine y).read)

pub reads_on : (k n : ℕ) (y : Side) (r : ℕ) (w : Machine) (l : LabView) → Ties w l → (end_of w y).phase ≡ Open
    → ((i : ℕ) → i < r → contains (end_of w y).arrived i ≡ true) → ReadsOn n y r k w l
reads_on zero n y r w l t at here = record { machine = w; plays = plays_none n w l t; read = inr (omega arith) }
reads_on (suc k) n y r w l t at here =
    let e = reads_front n y w l t at in
    let v : Machine = e.machine in
    let m : LabView = after_all l (reading y l) in
    let keeps = (e.plays.keeps.ends y) in
    let rest = reads_on k n y r v m e.plays.ties (keeps.opened at) (λ i less. keeps.arrived i (here i less)) in
    let z : Machine = rest.machine in
    let more = (rest.plays.keeps.ends y).read in
    record {
      machine = z;
      plays = plays_both n w v z l (reading y l) (reading_on y k m) e.plays rest.plays;
      read = ⊎_elim
          (λ (less : length (end_of w y).read < r).
          let one = e.reads (here (length (end_of w y).read) less) in
          ⊎_elim
          (λ (u : r ≤ length (end_of z y).read). inl u)
          (λ (u : length (end_of v y).read + k ≤ length (end_of z y).read). inr (omega (arith, one, u)))
          rest.read)
          (λ (enough : r ≤ length (end_of w y).read). inl (omega (arith, enough, keeps.read, more)))
          (cases_lt (length (end_of w y).read) r);
    }

-- ---- copies come

-- a copy of any kind but CLS comes, and the user reads
pub record Comes (n : ℕ) (x : Side) (w : Machine) (l : LabView) (copy : ℕ) : Type 0 where
  pub machine : Machine
  pub plays : Plays n w l (DeliverCopy copy ∷ reading (other x) (happen l (DeliverCopy copy)).lab) machine

comes : (n : ℕ) (x : Side) (w : Machine) (l : LabView) (copy : ℕ) (c : Copy) → Ties w l → CopyAt w x copy c
    → (c.kind ≡ Cls → ⊥) → (end_of w (other x)).phase ≡ Open → n ≤ copy → Comes n x w l copy
comes n x w l copy c t h apart at from =
    let y : Side = other x in
    let d = copy_event x w l copy c t h at apart in
    let m : LabView = (happen l (DeliverCopy copy)).lab in
    let e = reads_front n y d.machine m d.ties ((d.came.keeps.ends y).opened at) in
    record {
      machine = e.machine;
      plays =
          plays_first n w d.machine e.machine l (DeliverCopy copy) (reading y m)
          (plays_one n w d.machine l (DeliverCopy copy) from d.taken d.ties d.came.keeps) e.plays;
    }

pub took_there : (kind : Kind) (i : ℕ) (told : Told) (p e : Plain) → kind ≡ Nth i → i ≤ length e.read → 1 ≤ e.announced
    → IsThere (received Open kind told p e) i
took_there kind i told p e is upto some =
    subst (λ (q : Kind). IsThere (received Open q told p e) i) (sym is)
    (heard_there told i e (omega (arith, upto, some)))

-- item i comes, and is read if it wasn't yet
pub record ItemComes (n : ℕ) (x : Side) (w : Machine) (l : LabView) (copy i : ℕ) : Type 0 where
  pub comes : Comes n x w l copy
  pub more : i < length (end_of comes.machine (other x)).read

pub item_comes : (n : ℕ) (x : Side) (w : Machine) (l : LabView) (copy i : ℕ) (c : Copy) → Ties w l → CopyAt w x copy c
    → c.kind ≡ Nth i → (end_of w (other x)).phase ≡ Open → 1 ≤ (end_of w (other x)).announced
    → i ≤ length (end_of w (other x)).read → n ≤ copy → ItemComes n x w l copy i
item_comes n x w l copy i c t h kind at some upto from =
    let y : Side = other x in
    let apart : c.kind ≡ Cls → ⊥ = λ is. let no : Nth i ≡ Cls = sym kind ∙ is in absurd (cc) in
    let d = copy_event x w l copy c t h at apart in
    let v : Machine = d.machine in
    let m : LabView = (happen l (DeliverCopy copy)).lab in
    let k1 : Keeps w v = d.came.keeps in
    let there : IsThere (end_of v y) i =
    subst (λ (e : Plain). IsThere e i) (sym d.came.is)
    (took_there c.kind i c.told (end_of w (other y)) (end_of w y) kind upto some) in
    let e = reads_front n y v m d.ties ((k1.ends y).opened at) in
    let grown = (e.plays.keeps.ends y).read in
    let more : i < length (end_of e.machine y).read =
    ⊎_elim
    (λ (u : i < length (end_of v y).read). omega (arith, u, grown))
    (λ (u : contains (end_of v y).arrived i ≡ true).
    ⊎_elim
    (λ (q : i < length (end_of v y).read). omega (arith, q, grown))
    (λ (q : length (end_of v y).read ≤ i).
    let same : i ≡ length (end_of v y).read = omega (arith, q, upto, (k1.ends y).read) in
    let one = e.reads (ap (contains (end_of v y).arrived) (sym same) ∙ u) in
    omega (arith, one, same))
    (cases_lt i (length (end_of v y).read)))
    there in
    record {
      comes = record {
        machine = e.machine;
        plays =
            plays_first n w v e.machine l (DeliverCopy copy) (reading y m)
            (plays_one n w v l (DeliverCopy copy) from d.taken d.ties k1) e.plays;
      };
      more = more;
    }

-- what a reader has read when so many copies of a burst came: all, or the items of those
abbrev HasTaken : Machine → Side → ℕ → Type 0
HasTaken w x i =
    (length (end_of w x).written ≤ length (end_of w (other x)).read) ⊎ (i ≤ length (end_of w (other x)).read)

-- the next copy of a burst comes
record NextComes (n : ℕ) (x : Side) (w : Machine) (l : LabView) (copy i : ℕ) : Type 0 where
  comes : Comes n x w l copy
  read : HasTaken comes.machine x (suc i)

next_comes : (n : ℕ) (x : Side) (number r j last : ℕ) (w : Machine) (l : LabView) → Ties w l
    → (end_of w (other x)).phase ≡ Open → 1 ≤ (end_of w (other x)).announced → Burst w x number r
    → Copies w x number last → number + j < last → n ≤ number → HasTaken w x (r + j)
    → NextComes n x w l (number + j) (r + j)
next_comes n x number r j last w l t at some burst all within from taken =
    let y : Side = other x in
    ⊎_elim
    (λ (less : r + j < length (end_of w x).written).
    let c = burst.copies j less in
    ⊎_elim
    (λ (enough : length (end_of w x).written ≤ length (end_of w y).read).
    any c.0 c.1 (λ is. let no : Nth (r + j) ≡ Cls = sym c.2 ∙ is in absurd (cc)) enough)
    (λ (upto : r + j ≤ length (end_of w y).read).
    let i = item_comes n x w l (number + j) (r + j) c.0 t c.1 c.2 at some upto (omega (arith, from)) in
    record { comes = i.comes; read = inr (omega (arith, i.more)) })
    taken)
    (λ (past : length (end_of w x).written ≤ r + j).
    let c = all (number + j) (omega arith) within in
    any c.0 c.1 c.2
    (⊎_elim (λ (u : length (end_of w x).written ≤ length (end_of w y).read). u)
    (λ (u : r + j ≤ length (end_of w y).read). omega (arith, u, past)) taken))
    (cases_lt (r + j) (length (end_of w x).written))
  where
    any : (c : Copy) → CopyAt w x (number + j) c → (c.kind ≡ Cls → ⊥)
        → length (end_of w x).written ≤ length (end_of w (other x)).read → NextComes n x w l (number + j) (r + j)
    any c h apart enough =
        let g = comes n x w l (number + j) c t h apart at (omega (arith, from)) in
        let same : length (end_of g.machine x).written ≡ length (end_of w x).written =
        ap length (g.plays.keeps.ends x).written in
        let more = (g.plays.keeps.ends (other x)).read in
        record { comes = g; read = inl (omega (arith, enough, more, same)) }

record BurstComes (n : ℕ) (x : Side) (r j k copy : ℕ) (w : Machine) (l : LabView) : Type 0 where
  machine : Machine
  plays : Plays n w l (coming (other x) copy k l) machine
  read : HasTaken machine x (r + j + k)

burst_comes : (k n : ℕ) (x : Side) (number r j last copy : ℕ) (w : Machine) (l : LabView) → copy ≡ number + j → Ties w l
    → (end_of w (other x)).phase ≡ Open → 1 ≤ (end_of w (other x)).announced → Burst w x number r
    → Copies w x number last → number + j + k ≤ last → n ≤ number → HasTaken w x (r + j) → BurstComes n x r j k copy w l
burst_comes zero n x number r j last copy w l is t at some burst all within from taken =
    record { machine = w; plays = plays_none n w l t; read = subst (HasTaken w x) (let same : r + j ≡ r + j + 0 = omega arith in same) taken }
burst_comes (suc k) n x number r j last copy w l is t at some burst all within from taken =
    let y : Side = other x in
    let g : NextComes n x w l copy (r + j) =
    subst (λ q. NextComes n x w l q (r + j)) (sym is)
    (next_comes n x number r j last w l t at some burst all (omega (arith, within)) from taken) in
    let v : Machine = g.comes.machine in
    let es : List Happening = DeliverCopy copy ∷ reading y (happen l (DeliverCopy copy)).lab in
    let m : LabView = after_all l es in
    let keeps = g.comes.plays.keeps in
    let rest =
    burst_comes k n x number r (suc j) last (copy + 1) v m (omega (arith, is)) g.comes.plays.ties
    ((keeps.ends y).opened at) ((keeps.ends y).announces some)
    (burst_keeps w v x number r keeps burst) (copies_keep w v x number last keeps all) (omega (arith, within)) from
    (subst (HasTaken v x) (let next : suc (r + j) ≡ r + suc j = omega arith in next) g.read) in
    record {
      machine = rest.machine;
      plays = plays_both n w v rest.machine l es (coming y (copy + 1) k m) g.comes.plays rest.plays;
      read = subst (HasTaken rest.machine x) (let all : r + suc j + k ≡ r + j + suc k = omega arith in all) rest.read;
    }

-- ---- what was sent again is taken in, and the writer hears that all was read

-- the writer knows that all was read
abbrev pub IsDone : Machine → Side → Type 0
IsDone w x = length (end_of w x).written ≤ (end_of w x).acknowledged

pub done_keeps : (w v : Machine) (x : Side) → Keeps w v → IsDone w x → IsDone v x
done_keeps w v x k h =
    let same : length (end_of v x).written
    ≡ length (end_of w x).written = ap length (k.ends x).written in omega (arith, same, h, (k.ends x).acknowledged)

-- what arrived without a gap reaches no further than the window
arrived_near : (e p : Plain) (r : ℕ) → Sound e p → ((i : ℕ) → i < r → contains p.arrived i ≡ true)
    → r ≤ length p.read + p.recv_cap
arrived_near e p zero d here = omega arith
arrived_near e p (suc r) d here = let last = d.inside r (here r (omega arith)) in omega (arith, last)

-- its user reads all that was written
pub record TakesIn (n : ℕ) (x : Side) (first last : ℕ) (w : Machine) (l : LabView) : Type 0 where
  pub machine : Machine
  pub plays : Plays n w l (taking_in (other x) first last l) machine
  pub read : length (end_of machine x).written ≤ length (end_of machine (other x)).read

pub takes_in : (n : ℕ) (x : Side) (first last r : ℕ) (w : Machine) (l : LabView) → Ties w l → AreOpen w
    → 1 ≤ (end_of w (other x)).announced → Burst w x first r → Copies w x first last → first ≤ last
    → length (end_of w x).written ≤ r + (last - first) → n ≤ first → TakesIn n x first last w l
takes_in n x first last r w l t opens some burst all upto enough from =
    let y : Side = other x in
    let count : ℕ = last - first in
    let h = end_holds w x (reached_holds w t.tied.reached) in
    let times : ℕ = (lab_end l y).conn.config.recv_cap in
    let cap : times ≡ (end_of w y).recv_cap = ap (λ (c : ConnView). c.config.recv_cap) (shows y w l t (opens y)).is in
    let a = reads_on times n y r w l t (opens y) burst.arrived in
    let u : Machine = a.machine in
    let ku : Keeps w u = a.plays.keeps in
    let read : r ≤ length (end_of u y).read =
    ⊎_elim (λ (q : r ≤ length (end_of u y).read). q)
    (λ (q : length (end_of w y).read + times ≤ length (end_of u y).read).
    let far = arrived_near (end_of w x) (end_of w y) r h.writer burst.arrived in
    omega (arith, q, cap, far))
    a.read in
    let m : LabView = after_all l (reading_on y times l) in
    let b =
    burst_comes count n x first r 0 last first u m (omega arith) a.plays.ties ((ku.ends y).opened (opens y))
    ((ku.ends y).announces some)
    (burst_keeps w u x first r ku burst) (copies_keep w u x first last ku all) (omega (arith, upto)) from
    (inr (omega (arith, read))) in
    let v : Machine = b.machine in
    record {
      machine = v;
      plays = plays_both n w u v l (reading_on y times l) (coming y first count m) a.plays b.plays;
      read = ⊎_elim
          (λ (g : length (end_of v x).written ≤ length (end_of v y).read). g)
          (λ (g : r + 0 + count ≤ length (end_of v y).read).
          let kv : Keeps w v = keeps_through w u v ku b.plays.keeps in
          let same : length (end_of v x).written ≡ length (end_of w x).written = ap length (kv.ends x).written in
          omega (arith, g, enough, same))
          b.read;
    }

pub record Takes (n : ℕ) (x : Side) (first last : ℕ) (w : Machine) (l : LabView) : Type 0 where
  pub machine : Machine
  pub plays : Plays n w l (taking (other x) first last l) machine
  pub done : IsDone machine x

taking_is : (y : Side) (first last : ℕ) (l : LabView)
    → taking_in y first last l ++ telling y (after_all l (taking_in y first last l)) ≡ taking y first last l
taking_is y first last l =
    let read : List Happening = reading_on y (lab_end l y).conn.config.recv_cap l in
    let m : LabView = after_all l read in
    let come : List Happening = coming y first (last - first) m in
    ap (λ (k : LabView). (read ++ come) ++ telling y k) (after_both l read come)
    ∙ append_assoc read come (telling y (after_all m come))

pub takes : (n : ℕ) (x : Side) (first last r : ℕ) (w : Machine) (l : LabView) → Ties w l → AreOpen w
    → 1 ≤ (end_of w (other x)).announced → Burst w x first r → Copies w x first last → first ≤ last
    → length (end_of w x).written ≤ r + (last - first) → n ≤ first → n ≤ length l.copies → Takes n x first last w l
takes n x first last r w l t opens some burst all upto enough from long =
    let y : Side = other x in
    let a = takes_in n x first last r w l t opens some burst all upto enough from in
    let v : Machine = a.machine in
    let es : List Happening = taking_in y first last l in
    let q : LabView = after_all l es in
    let there : length l.copies ≡ length w.copies = same_count w l t in
    let here : length q.copies ≡ length v.copies = same_count v q a.plays.ties in
    let c =
    told_by n x v q a.plays.ties (stay_open w v a.plays.keeps opens)
    (omega (arith, there, here, a.plays.keeps.count, long)) in
    let z : Machine = c.machine in
    let same : length (end_of z x).written ≡ length (end_of v x).written = ap length (c.plays.keeps.ends x).written in
    record {
      machine = z;
      plays =
          subst (λ es. Plays n w l es z) (taking_is y first last l)
          (plays_both n w v z l es (telling y q) a.plays c.plays);
      done = omega (arith, a.read, same, c.heard);
    }
