-- From each state in which both ends can settle, all that A wrote is served.
use Rattle.std.proofs.Common.{◌≡◌, ℕ, ◌+◌, ◌-◌, ◌*◌, ◌≤◌, List, [], ◌∷◌, ◌++◌, length, sym, ap, ◌∙◌, subst, arith, length-append}
use Rattle.std.specs.Prelude.{slice_get}
use Rattle.std.specs.FinMap as map
use Rattle.chaos_conn.specs.View.{ConnView, IsConn}
use Rattle.chaos_file.specs.Session.{SessionView, new_session}
use Rattle.chaos_file.specs.Replies.{replies_of}
use Rattle.chaos_file.proofs.Fitting.{AreSmall, small_after}
use Rattle.chaos_lab.specs.declared.side.Side.{Side}
use Rattle.chaos_lab.specs.declared.side.Side.TheVariants.{A, B}
use Rattle.chaos_lab.specs.Machine.{Machine, end_of}
use Rattle.chaos_lab.specs.Machine.Phase.{Open}
use Rattle.chaos_lab.specs.Machine.Kind.{Nth}
use Rattle.chaos_lab.specs.Laboratory.{LabView, Happening, lab_end, after_all}
use Rattle.chaos_lab.specs.Laboratory.Happening.{AnnounceBy, TickOf, DeliverCopy}
use Rattle.chaos_lab.specs.Progress.{IsInTime, CanSettle, IsSettled}
use Rattle.chaos_lab.specs.Settling.{telling, told, last_moment, resend_moment, settling_moment, reading_on, coming, taking_in}
use Rattle.chaos_lab.specs.Tied.{Ties, HasMachine}
use Rattle.chaos_lab.proofs.Machines.{reached_holds, end_holds}
use Rattle.chaos_lab.proofs.Lists.{begins_shorter}
use Rattle.chaos_lab.proofs.OnSide.{conn_at, read_at, written_at}
use Rattle.chaos_lab.proofs.HeadlineLaw.{open_at}
use Rattle.chaos_lab.proofs.Keeps.{Keeps, keeps_same}
use Rattle.chaos_lab.proofs.Helping.{same_count, shows}
use Rattle.chaos_lab.proofs.Playing.{Plays, plays_both}
use Rattle.chaos_lab.proofs.OneWay.{Timely, HasMoment, AreOpen, Resends, stay_open, same_timely, resent, resends, takes_in}
use Rattle.chaos_lab.proofs.Settled.{timely, settled, reading_on_few, coming_few}
use Rattle.file_lab.specs.Bodies.{data_bodies}
use Rattle.file_lab.specs.View.{FileLabView, commands_at_b}
use Rattle.file_lab.specs.Kept.{AreAnswered}
use Rattle.file_lab.specs.Events.{FileHappening}
use Rattle.file_lab.specs.Settling.{after_events, in_lab, b_hearing, serving, unread, homing, file_settling}
use Rattle.file_lab.specs.Progress.{AllServed, Serves, most_file_events}
use Rattle.file_lab.proofs.QuietEvents.{AreQuiet, quiet_all, quiet_hearing}
use Rattle.file_lab.proofs.Passed.{passes_most, passes_lab}
use Rattle.file_lab.proofs.Fetching.{Saved, saved_keeps}
use Rattle.file_lab.proofs.Walk.{Rests, Ready, Finished, answered_lab, walks}

-- ---- what A sent again

saved_by : (n room : ℕ) (w : Machine) (l : LabView) → (r : Resends n A w l) → n ≤ length l.copies → room ≤ 64
    → Saved n room (length (resent A l).copies) r.machine
saved_by n room w l r from few =
    let u : Machine = r.machine in
    let first : ℕ = length (told B l).copies in
    record {
      receipted = r.receipted;
      arrived = r.burst.arrived;
      copies = λ i low high.
          let j : ℕ = i - r.receipted in
          let c = r.burst.copies j (omega (arith, low, high)) in
          let all = r.exact (omega (arith, low, high)) in
          let place : first + j ≡ length (resent A l).copies - (length u.a.written - i) =
          omega (arith, all, low, high) in
          let stamped = r.stamped (first + j) c.0 (omega arith) c.1.there in
          record {
            late = omega (arith, place, from, r.from);
            copy = c.0;
            there = ap (slice_get u.copies) (sym place) ∙ c.1.there;
            sender = c.1.sender;
            kind = c.2 ∙ ap Nth (let same : r.receipted + j ≡ i = omega (arith, low) in same);
            fresh_a = omega (arith, stamped.len_a);
            fresh_b = omega (arith, stamped.len_b, few);
          };
    }

-- ---- A sends again what it has no receipt for

in_time : (l : LabView) → CanSettle l → (x : Side) → IsInTime (conn_at l x)
in_time l can A = can.a
in_time l can B = can.b

-- at most a window of items isn't read
few_unread : (u : Machine) (m : LabView) → Ties u m → unread m ≤ 64
few_unread u m t =
    let h = end_holds u A (reached_holds u t.tied.reached) in
    let read : length m.b.read ≡ length u.b.read = ap length (read_at B u m t) in
    let wrote : length m.a.written ≡ length u.a.written = ap length (written_at A u m t) in
    omega (arith, read, wrote, h.writer.room, h.writer.acked_read, h.ok.caps.1)

abbrev a_sent : LabView → List Happening
a_sent l = telling B l ++ TickOf A (resend_moment A (told B l)) ∷ []

-- B may go on in time
record Sent (n : ℕ) (w : Machine) (l : LabView) : Type 0 where
  machine : Machine
  plays : Plays n w l (a_sent l) machine
  ties : Ties machine (resent A l)
  saved : Saved n (unread (resent A l)) (length (resent A l).copies) machine
  some : 1 ≤ machine.b.announced
  from : n ≤ length (resent A l).copies
  time : Timely (conn_at (resent A l) B)
  moment : HasMoment B (resent A l)

sends : (n : ℕ) (w : Machine) (l : LabView) → Ties w l → AreOpen w → n ≤ length l.copies
    → ((x : Side) → Timely (conn_at l x)) → settling_moment l ≤ last_moment → Sent n w l
sends n w l t opens from time moments =
    let a = resends n A w l t opens from (time A) (omega (arith, moments)) in
    let retransmit : (conn_at (resent A l) B).config.retransmit ≡ (conn_at l B).config.retransmit =
    ap (λ c. c.retransmit) a.speaks.config in
    record {
      machine = a.machine;
      plays = a.plays;
      ties = a.ties;
      saved = saved_by n (unread (resent A l)) w l a from (few_unread a.machine (resent A l) a.ties);
      some = a.some;
      from = omega (arith, from, a.from, a.upto);
      time = same_timely (conn_at l B) (conn_at (resent A l) B) a.speaks (time B);
      moment = omega (arith, a.clock, a.speaks.last, retransmit, moments);
    }

-- ---- A's user reads the replies that were there

taking_in_fits : (first last : ℕ) (w : Machine) (l : LabView) → Ties w l → (end_of w A).phase ≡ Open → last ≤ first + 64
    → length (taking_in A first last l) ≤ 192
taking_in_fits first last w l t at near =
    let times : ℕ = (lab_end l A).conn.config.recv_cap in
    let m : LabView = after_all l (reading_on A times l) in
    let cap : times ≡ (end_of w A).recv_cap = ap (λ (c : ConnView). c.config.recv_cap) (shows A w l t at).is in
    let caps = (end_holds w A (reached_holds w t.tied.reached)).ok.caps in
    let some = reading_on_few times A l in
    let rest = coming_few (last - first) A first m in
    let all = length-append (reading_on A times l) (coming A first (last - first) m) in
    omega (arith, cap, caps.3, some, rest, all, near)

three_more : (a b c : Happening) (events : List Happening) → length events ≤ 192 → length (a ∷ b ∷ c ∷ events) ≤ 195
three_more a b c events few = omega (arith, few)

-- B hears, sends again, and A takes that in
record BringsHome (n : ℕ) (u : Machine) (m : LabView) : Type 0 where
  machine : Machine
  plays : Plays n u m (b_hearing m) machine
  home : length machine.b.written ≤ length machine.a.read
  few : length (b_hearing m) ≤ 195

brings_home : (n : ℕ) (u : Machine) (m : LabView) → Ties u m → AreOpen u → n ≤ length m.copies → Timely (conn_at m B)
    → HasMoment B m → BringsHome n u m
brings_home n u m t opens from time moment =
    let b = resends n B u m t opens from time moment in
    let v : Machine = b.machine in
    let q : LabView = resent B m in
    let from_b : ℕ = length (told A m).copies in
    let to_b : ℕ = length q.copies in
    let open_v = stay_open u v b.plays.keeps opens in
    let home =
    takes_in n B from_b to_b b.receipted v q b.ties open_v b.some b.burst b.all b.upto b.enough
    (omega (arith, from, b.from)) in
    let taking = taking_in_fits from_b to_b v q b.ties (open_v A) b.few in
    record {
      machine = home.machine;
      plays =
          plays_both n u v home.machine m (telling A m ++ TickOf B (resend_moment B (told A m)) ∷ [])
          (taking_in A from_b to_b q) b.plays home.plays;
      home = home.read;
      few =
          three_more (AnnounceBy A (conn_at m A).config.recv_cap) (DeliverCopy (length m.copies))
          (TickOf B (resend_moment B (told A m))) (taking_in A from_b to_b q) taking;
    }

-- ---- so B may begin to serve

ready_by : Rests → (n before : ℕ) (u : Machine) (l : FileLabView) → Ties u l.lab → AreOpen u → n ≤ length l.lab.copies
    → 1 ≤ u.b.announced → Saved n (unread l.lab) before u → AreAnswered l → (h : BringsHome n u l.lab)
    → Ready n (unread l.lab) before (in_lab l (b_hearing l.lab)) h.machine
ready_by laws n before u l t opens from some saved answered h =
    let y : Machine = h.machine in
    let m : LabView = l.lab in
    let r : LabView = after_all m (b_hearing m) in
    let kuy : Keeps u y = h.plays.keeps in
    let quiet = quiet_hearing m in
    let stays = quiet_all laws.phases (b_hearing m) m quiet (record { plain = u; ties = t }) in
    let read_y : length y.b.read ≡ length m.b.read = ap length (sym (read_at B y r h.plays.ties) ∙ stays.read) in
    let read_u : length m.b.read ≡ length u.b.read = ap length (read_at B u m t) in
    let wrote_u : length m.a.written ≡ length u.a.written = ap length (written_at A u m t) in
    let wrote_y : length y.a.written ≡ length u.a.written = ap length (kuy.ends A).written in
    let short = begins_shorter u.b.read u.a.written (end_holds u A (reached_holds u t.tied.reached)).writer.begins in
    let first : length m.copies ≡ length u.copies = same_count u m t in
    let last : length r.copies ≡ length y.copies = same_count y r h.plays.ties in
    record {
      ties = h.plays.ties;
      opens = stay_open u y kuy opens;
      from = omega (arith, from, first, last, kuy.count);
      home = h.home;
      left = omega (arith, read_y, read_u, wrote_u, wrote_y, short);
      some = (kuy.ends B).announces some;
      saved = saved_keeps n (unread m) before u y kuy saved;
      small =
          subst (λ (s : SessionView). AreSmall s.handles) (sym answered.session)
          (small_after (commands_at_b l) map.empty new_session tt);
      answered = answered_lab laws.phases l (b_hearing m) u quiet t answered;
    }

-- ---- all of it

served_all : (l : FileLabView) (events : List FileHappening) (n most : ℕ) → Finished n l events most
    → AllServed l (after_events l events)
served_all l events n most f = subst (AllServed l) (sym f.passes.after) all
  where
    m : FileLabView
    m = f.after

    at_end : IsSettled m.lab m.lab
    at_end = settled f.machine f.machine m.lab m.lab f.ties f.ties (keeps_same f.machine) f.opens f.done

    all : AllServed l m
    all = record {
      written = f.written;
      replies =
          ap data_bodies (at_end.read B) ∙ f.answered.replies
          ∙ ap (λ ws. replies_of map.empty (data_bodies ws)) (at_end.read A ∙ f.written);
      settled = at_end;
    }

-- from the state in which A has sent again
home_serves : Rests → (n : ℕ) (u : Machine) (l : FileLabView) → Ties u l.lab → AreOpen u → n ≤ length l.lab.copies
    → 1 ≤ u.b.announced → Saved n (unread l.lab) (length l.lab.copies) u → AreAnswered l → Timely (conn_at l.lab B)
    → HasMoment B l.lab → Finished n l (homing l) 583
home_serves laws n u l t opens from some saved answered time moment =
    let h = brings_home n u l.lab t opens from time moment in
    let k : FileLabView = in_lab l (b_hearing l.lab) in
    let before : ℕ = length l.lab.copies in
    let left : ℕ = unread l.lab in
    let few = few_unread u l.lab t in
    let w = walks laws left n before k h.machine (ready_by laws n before u l t opens from some saved answered h) in
    let on =
    passes_lab (b_hearing l.lab) n l w.after (serving before left k) (left * 6 + 4) (quiet_hearing l.lab)
    h.plays.help h.plays.taken w.passes in
    record {
      after = w.after;
      passes =
          passes_most n l w.after (homing l) (length (b_hearing l.lab) + (left * 6 + 4)) 583 (omega (arith, h.few, few))
          on;
      machine = w.machine;
      ties = w.ties;
      opens = w.opens;
      done = w.done;
      written =
          w.written ∙ written_at A h.machine k.lab h.plays.ties ∙ (h.plays.keeps.ends A).written
          ∙ sym (written_at A u l.lab t);
      answered = w.answered;
    }

finished : Rests → (l : FileLabView) (w : Machine) → Ties w l.lab → ((x : Side) → IsConn (lab_end l.lab x).conn)
    → CanSettle l.lab → AreAnswered l → Finished (length l.lab.copies) l (file_settling l) most_file_events
finished laws l w t conns can answered =
    let n : ℕ = length l.lab.copies in
    let opens : AreOpen w = λ x. open_at x w l.lab t (in_time l.lab can x).open_end in
    let a =
    sends n w l.lab t opens (omega arith) (λ x. timely (conn_at l.lab x) (conns x) (in_time l.lab can x))
    can.moments in
    let u : Machine = a.machine in
    let quiet : AreQuiet (a_sent l.lab) = (tt, (tt, (tt, tt))) in
    let m : FileLabView = in_lab l (a_sent l.lab) in
    let h =
    home_serves laws n u m a.ties (stay_open w u a.plays.keeps opens) a.from a.some a.saved
    (answered_lab laws.phases l (a_sent l.lab) w quiet t answered) a.time a.moment in
    record {
      after = h.after;
      passes = passes_most n l h.after (file_settling l) (length (a_sent l.lab) + 583) most_file_events (omega arith)
          (passes_lab (a_sent l.lab) n l h.after (homing m) 583 quiet a.plays.help a.plays.taken h.passes);
      machine = h.machine;
      ties = h.ties;
      opens = h.opens;
      done = h.done;
      written = h.written ∙ written_at A u m.lab a.ties ∙ (a.plays.keeps.ends A).written ∙ sym (written_at A w l.lab t);
      answered = h.answered;
    }

pub serves : Rests → (l : FileLabView) → HasMachine l.lab → ((x : Side) → IsConn (lab_end l.lab x).conn)
    → CanSettle l.lab → AreAnswered l → Serves l (file_settling l)
serves laws l h conns can answered =
    let done = finished laws l h.plain h.ties conns can answered in
    record {
      few = done.passes.few;
      help = done.passes.help;
      taken = done.passes.taken;
      served = served_all l (file_settling l) (length l.lab.copies) most_file_events done;
    }
