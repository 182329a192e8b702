-- Where both writers know that all was read, nothing is stored.
use Rattle.std.proofs.Common.{◌≡◌, ℕ, zero, suc, ◌+◌, ◌*◌, ◌-◌, ◌<◌, ◌≤◌, List, [], ◌∷◌, length, drop, take, replicate, true, Option, None, refl, sym, ap, ◌∙◌, subst, ⊎_elim, arith, length-drop, length-append}
use Rattle.std.specs.Prelude.{slice_get, count_by, is_some, is_none}
use Rattle.std.specs.FinSet.{contains}
use Rattle.std.proofs.lemmas.Bool.{cond_both, eq-eqb, cases_lt}
use Rattle.std.proofs.lemmas.Option.{slice_get_past}
use Rattle.chaos_packet.specs.Item.{ItemView}
use Rattle.chaos_packet.specs.Number.{off}
use Rattle.chaos_packet.specs.Begins.{Begins}
use Rattle.chaos_conn.specs.declared.state.State.TheVariants as st
use Rattle.chaos_conn.specs.View.{ConnView, IsConn}
use Rattle.chaos_conn.specs.Calls.{front_of, is_drained}
use Rattle.chaos_conn.specs.Stored.{stored_packets}
use Rattle.chaos_lab.specs.declared.side.Side.{Side}
use Rattle.chaos_lab.specs.declared.side.Side.TheVariants.{A, B}
use Rattle.chaos_lab.specs.Machine.{PlainEnd as Plain, Machine, other, end_of}
use Rattle.chaos_lab.specs.Machine.Phase.{Open}
use Rattle.chaos_lab.specs.Numbers.{told_num}
use Rattle.chaos_lab.specs.Shown.{Rest, met_view, slots_from, there_at}
use Rattle.chaos_lab.specs.Laboratory.{LabView, Happening, lab_end, happen, after_all}
use Rattle.chaos_lab.specs.Laboratory.Happening.{ReadBy, AnnounceBy, TickOf, DeliverCopy}
use Rattle.chaos_lab.specs.Tied.{Ties, HasMachine}
use Rattle.chaos_lab.specs.Progress.{IsInTime, IsSettled, CanSettle, Settles, ReadThrough, most_events}
use Rattle.chaos_lab.specs.Settling.{telling, told, resend_moment, reading, reading_on, coming, bringing, taking, both_taking, b_hearing, settling}
use Rattle.chaos_lab.proofs.Machines.{reached_holds, end_holds}
use Rattle.chaos_lab.proofs.Directions.{Sound}
use Rattle.chaos_lab.proofs.DeliveryLaw.{beginning}
use Rattle.chaos_lab.proofs.Lists.{begins_shorter}
use Rattle.chaos_lab.proofs.RecvTie.{no_slots}
use Rattle.chaos_lab.proofs.Known.{other_other}
use Rattle.chaos_lab.proofs.OnSide.{conn_at, first_at, written_at, read_at}
use Rattle.chaos_lab.proofs.HeadlineLaw.{open_at}
use Rattle.chaos_lab.proofs.Keeps.{Keeps}
use Rattle.chaos_lab.proofs.Helping.{Burst, Copies, shows, same_count, burst_keeps, copies_keep}
use Rattle.chaos_lab.proofs.Playing.{Plays, plays_both}
use Rattle.chaos_lab.proofs.OneWay.{Timely, AreOpen, IsDone, HasMoment, Resends, Takes, stay_open, done_keeps, same_timely, resent, resends, takes}

-- ---- lists

begins_all : (xs ys : List ItemView) → Begins xs ys → length ys ≤ length xs → xs ≡ ys
begins_all [] [] b h = refl
begins_all [] (y ∷ ys) b h = absurd (omega (arith, h))
begins_all (x ∷ xs) [] b h = absurd (cc)
begins_all (x ∷ xs) (y ∷ ys) b h =
    let tail : take (length xs) ys ≡ xs = cc in
    let rest : xs ≡ ys = begins_all xs ys tail (omega (arith, h)) in
    cc

abbrev nothing : Option ItemView
nothing = None

none_counted : (n : ℕ) → count_by is_some (replicate n nothing) ≡ 0
none_counted zero = refl
none_counted (suc n) = none_counted n

nothing_there : (p e : Plain) (i : ℕ) → length p.written ≤ i → there_at p e i ≡ None
nothing_there p e i past =
    cond_both (contains e.arrived i) (slice_get p.written i) None (λ (o : Option ItemView). o ≡ None)
    (λ _. slice_get_past p.written i past) (λ _. refl)

-- ---- a direction

-- what a done direction knows. e: the writer, p: the reader
record Ended (e p : Plain) : Type 0 where
  read : length p.read ≡ length e.written
  receipted : e.receipted ≡ length e.written
  acknowledged : e.acknowledged ≡ length e.written

done_ended : (e p : Plain) → Sound e p → length e.written ≤ e.acknowledged → Ended e p
done_ended e p d done =
    let read = begins_shorter p.read e.written d.begins in
    let receipt : e.receipted ≤ length e.written = receipt_fits in
    record { read = omega (arith, read, done, d.acked_read); receipted = omega (arith, done, d.in_order, receipt); acknowledged = omega (arith, read, done, d.acked_read) }
  where
    receipt_fits : e.receipted ≤ length e.written
    receipt_fits =
        ⊎_elim
        (λ (u : length e.written < e.receipted). let no = d.within (length e.written)
        (d.receipted_arrived (length e.written) u) in absurd (omega (arith, no)))
        (λ (u : e.receipted ≤ length e.written). u)
        (cases_lt (length e.written) e.receipted)

-- nothing is stored at e, which has read all that p wrote, and is known by p to have
none_stored : (x : Side) (rest : Rest) (b b' : ℕ) (p e : Plain) → Ended e p → Ended p e
    → stored_packets (met_view st.Open x rest b b' p e) ≡ 0
none_stored x rest b b' p e own back =
    let kept : length (drop e.receipted e.written) ≡ 0 =
    let l = length-drop e.receipted e.written in omega (arith, l, own.receipted) in
    let slots : slots_from p e (length e.read) e.recv_cap ≡ replicate e.recv_cap None =
    no_slots p e (length e.read) e.recv_cap (λ i l. nothing_there p e (length e.read + i) (omega (arith, back.read))) in
    let held : count_by is_some (slots_from p e (length e.read) e.recv_cap) ≡ 0 =
    ap (count_by is_some) slots ∙ none_counted e.recv_cap in
    omega (arith, kept, held)

all_drained : (x : Side) (rest : Rest) (b b' : ℕ) (p e : Plain) → Ended e p
    → is_drained (met_view st.Open x rest b b' p e) ≡ true
all_drained x rest b b' p e own =
    let none : off (told_num b (length e.written)) (told_num b e.acknowledged) ≡ 0 = omega (arith, own.acknowledged) in
    eq-eqb _ 0 none

-- ---- the laboratory

ended_at : (w : Machine) (l : LabView) (x : Side) → Ties w l → IsDone w x → Ended (end_of w x) (end_of w (other x))
ended_at w l x t done =
    done_ended (end_of w x) (end_of w (other x)) (end_holds w x (reached_holds w t.tied.reached)).writer done

pub settled : (w v : Machine) (l m : LabView) → Ties w l → Ties v m → Keeps w v → AreOpen v → ((x : Side) → IsDone v x)
    → IsSettled l m
settled w v l m t tv k opens done =
    let written : (x : Side) → (lab_end m x).written ≡ (lab_end l x).written =
    λ x. written_at x v m tv ∙ (k.ends x).written ∙ sym (written_at x w l t) in
    let back : (x : Side) → Ended (end_of v (other x)) (end_of v x) =
    λ x. subst (λ (z : Side). Ended (end_of v (other x)) (end_of v z)) (other_other x)
    (ended_at v m (other x) tv (done (other x))) in
    record {
      written = written;
      read = λ x.
          read_at (other x) v m tv
          ∙ begins_all (end_of v (other x)).read (end_of v x).written (beginning v x tv.tied.reached)
          (let e = ended_at v m x tv (done x) in omega (arith, e.read))
          ∙ sym (written_at x v m tv) ∙ written x;
      stored = λ x. let s = shows x v m tv (opens x) in
          subst (λ (u : ConnView). stored_packets u ≡ 0) (sym s.is)
          (none_stored x s.rest (first_at m x) (first_at m (other x)) (end_of v (other x)) (end_of v x)
          (ended_at v m x tv (done x)) (back x));
      drained = λ x. let s = shows x v m tv (opens x) in
          subst (λ (u : ConnView). is_drained u ≡ true) (sym s.is)
          (all_drained x s.rest (first_at m x) (first_at m (other x)) (end_of v (other x)) (end_of v x)
          (ended_at v m x tv (done x)));
      open_ends = λ x. let s = shows x v m tv (opens x) in ap (λ (u : ConnView). u.state) s.is;
    }

pub timely : (v : ConnView) → IsConn v → IsInTime v → Timely v
timely v c h = record { again = h.again; resent = c.resent }

-- ---- how many events there are

reading_few : (y : Side) (l : LabView) → length (reading y l) ≤ 1
reading_few y l =
    cond_both (is_none (front_of (conn_at l y))) [] (ReadBy y ∷ []) (λ (es : List Happening). length es ≤ 1)
    (λ _. omega arith) (λ _. omega arith)

pub reading_on_few : (k : ℕ) (y : Side) (l : LabView) → length (reading_on y k l) ≤ k
reading_on_few zero y l = omega arith
reading_on_few (suc k) y l =
    let one = reading_few y l in
    let m : LabView = after_all l (reading y l) in
    let rest = reading_on_few k y m in
    let all = length-append (reading y l) (reading_on y k m) in
    omega (arith, one, rest, all)

pub coming_few : (k : ℕ) (y : Side) (copy : ℕ) (l : LabView) → length (coming y copy k l) ≤ 2 * k
coming_few zero y copy l = omega arith
coming_few (suc k) y copy l =
    let m : LabView = (happen l (DeliverCopy copy)).lab in
    let one = reading_few y m in
    let n : LabView = after_all m (reading y m) in
    let rest = coming_few k y (copy + 1) n in
    let all = length-append (reading y m) (coming y (copy + 1) k n) in
    omega (arith, one, rest, all)

taking_few : (y : Side) (first last : ℕ) (l : LabView)
    → length (taking y first last l) ≤ (lab_end l y).conn.config.recv_cap + 2 * (last - first) + 2
taking_few y first last l =
    let times : ℕ = (lab_end l y).conn.config.recv_cap in
    let m : LabView = after_all l (reading_on y times l) in
    let come : List Happening = coming y first (last - first) m in
    let n : LabView = after_all m come in
    let some = reading_on_few times y l in
    let rest = coming_few (last - first) y first m in
    let all = length-append (reading_on y times l) (bringing y first last m) in
    let end = length-append come (telling y n) in
    omega (arith, some, rest, all, end)

taking_fits : (y : Side) (first last : ℕ) (w : Machine) (l : LabView) → Ties w l → (end_of w y).phase ≡ Open
    → last ≤ first + 64 → length (taking y first last l) ≤ 194
taking_fits y first last w l t at near =
    let cap : (lab_end l y).conn.config.recv_cap ≡ (end_of w y).recv_cap =
    ap (λ (c : ConnView). c.config.recv_cap) (shows y w l t at).is in
    let caps = (end_holds w y (reached_holds w t.tied.reached)).ok.caps in
    let few = taking_few y first last l in
    omega (arith, cap, caps.2, few, near)

-- ---- both ways

in_time : (l : LabView) → CanSettle l → (x : Side) → IsInTime (conn_at l x)
in_time l can A = can.a
in_time l can B = can.b

-- What the end at x sent again as these copies, from the n-th on: one of each item for which it had no receipt.
record HasSent (n : ℕ) (x : Side) (first last : ℕ) (w : Machine) : Type 0 where
  receipted : ℕ
  burst : Burst w x first receipted
  all : Copies w x first last
  some : 1 ≤ (end_of w (other x)).announced
  upto : first ≤ last
  near : last ≤ first + 64
  enough : length (end_of w x).written ≤ receipted + (last - first)
  from : n ≤ first

sent_again : (n : ℕ) (x : Side) (w : Machine) (l : LabView) (a : Resends n x w l) → n ≤ length l.copies
    → HasSent n x (length (told (other x) l).copies) (length (resent x l).copies) a.machine
sent_again n x w l a from =
    record {
      receipted = a.receipted;
      burst = a.burst;
      all = a.all;
      some = a.some;
      upto = a.upto;
      near = a.few;
      enough = a.enough;
      from = omega (arith, from, a.from);
    }

sent_keeps : (n : ℕ) (x : Side) (first last : ℕ) (w v : Machine) → Keeps w v → HasSent n x first last w
    → HasSent n x first last v
sent_keeps n x first last w v k h =
    let wrote : length (end_of v x).written ≡ length (end_of w x).written = ap length (k.ends x).written in
    record {
      receipted = h.receipted;
      burst = burst_keeps w v x first h.receipted k h.burst;
      all = copies_keep w v x first last k h.all;
      some = (k.ends (other x)).announces h.some;
      upto = h.upto;
      near = h.near;
      enough = omega (arith, wrote, h.enough);
      from = h.from;
    }

take_sent : (n : ℕ) (x : Side) (first last : ℕ) (w : Machine) (l : LabView) → Ties w l → AreOpen w
    → HasSent n x first last w → n ≤ length l.copies → Takes n x first last w l
take_sent n x first last w l t opens h long =
    takes n x first last h.receipted w l t opens h.some h.burst h.all h.upto h.enough h.from long

-- these events settle both ways, and there are at most so many of them
record SettlesBoth (n most : ℕ) (w : Machine) (l : LabView) (events : List Happening) : Type 0 where
  machine : Machine
  plays : Plays n w l events machine
  done : (x : Side) → IsDone machine x
  few : length events ≤ most

-- both ends have sent again: A takes, and then B
take_both : (n from_a to_a from_b to_b : ℕ) (w : Machine) (l : LabView) → Ties w l → AreOpen w
    → HasSent n A from_a to_a w → HasSent n B from_b to_b w → n ≤ length l.copies
    → SettlesBoth n 388 w l (both_taking from_a to_a from_b to_b l)
take_both n from_a to_a from_b to_b w l t opens a b long =
    let home = take_sent n B from_b to_b w l t opens b long in
    let v : Machine = home.machine in
    let kept : Keeps w v = home.plays.keeps in
    let first : List Happening = taking A from_b to_b l in
    let m : LabView = after_all l first in
    let before : length l.copies ≡ length w.copies = same_count w l t in
    let now : length m.copies ≡ length v.copies = same_count v m home.plays.ties in
    let open_v = stay_open w v kept opens in
    let there =
    take_sent n A from_a to_a v m home.plays.ties open_v (sent_keeps n A from_a to_a w v kept a)
    (omega (arith, long, before, now, kept.count)) in
    let z : Machine = there.machine in
    let second : List Happening = taking B from_a to_a m in
    let few = taking_fits A from_b to_b w l t (opens A) b.near in
    let more = taking_fits B from_a to_a v m home.plays.ties (open_v B) a.near in
    let all = length-append first second in
    record {
      machine = z;
      plays = plays_both n w v z l first second home.plays there.plays;
      done = both z (done_keeps v z B there.plays.keeps home.done) there.done;
      few = omega (arith, few, more, all);
    }
  where
    both : (g : Machine) → IsDone g B → IsDone g A → (x : Side) → IsDone g x
    both g b a A = a
    both g b a B = b

-- three events more
three_more : (n most : ℕ) (w u : Machine) (l : LabView) (a b c : Happening) (events : List Happening)
    → Plays n w l (a ∷ b ∷ c ∷ []) u → SettlesBoth n most u (after_all l (a ∷ b ∷ c ∷ [])) events
    → SettlesBoth n (3 + most) w l (a ∷ b ∷ c ∷ events)
three_more n most w u l a b c events p s =
    record {
      machine = s.machine;
      plays = plays_both n w u s.machine l (a ∷ b ∷ c ∷ []) events p s.plays;
      done = s.done;
      few = omega (arith, s.few);
    }

-- A has sent again: B does too, and both take
b_then_both : (n from_a to_a : ℕ) (w : Machine) (l : LabView) → Ties w l → AreOpen w → HasSent n A from_a to_a w
    → n ≤ length l.copies → Timely (conn_at l B) → HasMoment B l → SettlesBoth n 391 w l (b_hearing from_a to_a l)
b_then_both n from_a to_a w l t opens a long time moment =
    let b = resends n B w l t opens long time moment in
    let v : Machine = b.machine in
    let both =
    take_both n from_a to_a (length (told A l).copies) (length (resent B l).copies) v (resent B l) b.ties
    (stay_open w v b.plays.keeps opens) (sent_keeps n A from_a to_a w v b.plays.keeps a) (sent_again n B w l b long)
    (omega (arith, long, b.from, b.upto)) in
    three_more n 388 w v l (AnnounceBy A (conn_at l A).config.recv_cap) (DeliverCopy (length l.copies))
    (TickOf B (resend_moment B (told A l)))
    (both_taking from_a to_a (length (told A l).copies) (length (resent B l).copies) (resent B l)) b.plays both

-- how both ways go, and what comes of it
goes_both : (l : LabView) (w : Machine) → Ties w l → ((x : Side) → IsConn (lab_end l x).conn) → CanSettle l
    → SettlesBoth (length l.copies) most_events w l (settling l)
goes_both l w t conns can =
    let n : ℕ = length l.copies in
    let opens : AreOpen w = λ x. open_at x w l t (in_time l can x).open_end in
    let time : (x : Side) → Timely (conn_at l x) = λ x. timely (conn_at l x) (conns x) (in_time l can x) in
    let a = resends n A w l t opens (omega arith) (time A) (omega (arith, can.moments)) in
    let u : Machine = a.machine in
    let m : LabView = resent A l in
    let retransmit : (conn_at m B).config.retransmit ≡ (conn_at l B).config.retransmit =
    ap (λ c. c.retransmit) a.speaks.config in
    let rest =
    b_then_both n (length (told B l).copies) (length m.copies) u m a.ties (stay_open w u a.plays.keeps opens)
    (sent_again n A w l a (omega arith)) (omega (arith, a.from, a.upto))
    (same_timely (conn_at l B) (conn_at m B) a.speaks (time B))
    (omega (arith, a.clock, a.speaks.last, retransmit, can.moments)) in
    three_more n 391 w u l (AnnounceBy B (conn_at l B).config.recv_cap) (DeliverCopy n)
    (TickOf A (resend_moment A (told B l))) (b_hearing (length (told B l).copies) (length m.copies) m) a.plays rest

pub settles : (l : LabView) → HasMachine l → ((x : Side) → IsConn (lab_end l x).conn) → CanSettle l
    → Settles l (settling l)
settles l h conns can =
    let w : Machine = h.plain in
    let g = goes_both l w h.ties conns can in
    let opens : AreOpen w = λ x. open_at x w l h.ties (in_time l can x).open_end in
    record {
      few = g.few;
      help = g.plays.help;
      taken = g.plays.taken;
      settled =
          settled w g.machine l (after_all l (settling l)) h.ties g.plays.ties g.plays.keeps
          (stay_open w g.machine g.plays.keeps opens) g.done;
    }

-- what was written is read in its turn
pub reads_through : (l : LabView) → HasMachine l → ((x : Side) → IsConn (lab_end l x).conn) → CanSettle l → (x : Side)
    → ReadThrough x l (after_all l (settling l))
reads_through l h conns can x =
    let s = (settles l h conns can).settled in
    (λ i item at. ap (λ items. slice_get items i) (s.read x) ∙ at, s.drained x)
