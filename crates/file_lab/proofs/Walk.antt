-- How FILE settles, from the state in which A has sent again what it has no receipt for.
use Rattle.std.proofs.Common.{◌≡◌, ℕ, zero, suc, ◌+◌, ◌-◌, ◌*◌, ◌≤◌, List, [], ◌∷◌, ◌++◌, length, map, refl, sym, ap, ◌∙◌, subst, inl, inr, ◌⊎◌, ⊎_elim, arith, length-append}
use Rattle.std.specs.Prelude.{slice_get, nat_lt, is_none}
use Rattle.std.proofs.lemmas.Bool.{cond_both, cond-true, cond-false, lt-ltb, le-ltb}
use Rattle.chaos_packet.specs.Item.{ItemView}
use Rattle.chaos_packet.specs.Opcode.{op_data, kind_of}
use Rattle.chaos_packet.specs.declared.opcode.Kind.TheVariants as k
use Rattle.chaos_conn.specs.Calls.{front_of}
use Rattle.chaos_file.specs.Step.{file_step}
use Rattle.chaos_file.specs.Serve.{IsReplyTaken}
use Rattle.chaos_file.specs.ServeWork.{LastItem, Command}
use Rattle.chaos_lab.specs.declared.side.Side.{Side}
use Rattle.chaos_lab.specs.declared.side.Side.TheVariants.{A, B}
use Rattle.chaos_lab.specs.Machine.{Machine}
use Rattle.chaos_lab.specs.Machine.Phase.{Open}
use Rattle.chaos_lab.specs.Laboratory.{LabView, Happening, happen, after_all}
use Rattle.chaos_lab.specs.Laboratory.Happening.{ReadBy, DeliverCopy}
use Rattle.chaos_lab.specs.Settling.{telling, told, reading}
use Rattle.chaos_lab.specs.Tied.{Ties}
use Rattle.chaos_lab.proofs.OnSide.{read_at, written_at}
use Rattle.chaos_lab.proofs.Helping.{same_count}
use Rattle.chaos_lab.proofs.Playing.{Plays, plays_none, plays_both}
use Rattle.chaos_lab.proofs.OneWay.{AreOpen, IsDone as KnowsAll, stay_open, item_comes, told_by}
use Rattle.file_lab.specs.Bodies.{data_bodies}
use Rattle.file_lab.specs.View.{FileLabView}
use Rattle.file_lab.specs.Kept.{AreAnswered}
use Rattle.file_lab.specs.Events.{FileHappening, At, Serve}
use Rattle.file_lab.specs.Exact.{FileDone, serve_work, file_happen}
use Rattle.file_lab.specs.Settling.{in_lab, then_on, fetching, asking, replying, answering, serving}
use Rattle.file_lab.specs.Progress.{IsDone}
use Rattle.file_lab.proofs.RepliesLaw.{GoOn}
use Rattle.file_lab.proofs.QuietSteps.{PhaseLaws}
use Rattle.file_lab.proofs.QuietEvents.{AreQuiet, quiet_all, quiet_replying}
use Rattle.file_lab.proofs.Passed.{Passes, passes_none, passes_most, passes_first, passes_lab}
use Rattle.chaos_file.proofs.Fitting.{AreSmall, fits}
use Rattle.file_lab.proofs.Fetching.{Saved, saved_keeps, asked}
use Rattle.file_lab.proofs.Serving.{AtFront, Goes, IsReply, at_front, work_eof, work_data, serves_eof, serves_command}
use Rattle.file_lab.proofs.Answered.{answered_same, answered_eof, answered_more}

-- the laws that this rests on
pub record Rests : Type 0 where
  pub phases : PhaseLaws
  pub go_on : GoOn
  pub taken : IsReplyTaken

-- A's user has read all replies. So many items of A are left to be served, of which A has sent what hasn't come.
pub record Ready (n unread before : ℕ) (l : FileLabView) (w : Machine) : Type 0 where
  pub ties : Ties w l.lab
  pub opens : AreOpen w
  pub from : n ≤ length l.lab.copies
  pub home : length w.b.written ≤ length w.a.read
  pub left : length w.b.read + unread ≡ length w.a.written
  pub some : 1 ≤ w.b.announced
  pub saved : Saved n unread before w
  pub small : AreSmall l.session.handles
  pub answered : AreAnswered l

-- ---- the server serves

-- serving came to this: one item was read, and what B wrote more is the last copy
record Serves1 (l : FileLabView) (w : Machine) (d : FileDone) : Type 0 where
  done : IsDone d.answer
  machine : Machine
  ties : Ties machine d.view.lab
  goes : Goes w machine
  read : length machine.b.read ≡ suc (length w.b.read)
  count : length l.lab.copies ≤ length d.view.lab.copies
  small : AreSmall d.view.session.handles
  answered : AreAnswered d.view
  wrote : (d.view.lab.b.written ≡ l.lab.b.written)
      ⊎ ((length d.view.lab.b.written ≡ suc (length l.lab.b.written)) × IsReply machine l.lab d.view.lab)

read_one : (w v : Machine) (l m : LabView) (item : ItemView) → Ties w l → Ties v m → m.b.read ≡ l.b.read ++ item ∷ []
    → length v.b.read ≡ suc (length w.b.read)
read_one w v l m item t tv is =
    let one = length-append l.b.read (item ∷ []) in
    let before : length l.b.read ≡ length w.b.read = ap length (read_at B w l t) in
    let after : length m.b.read ≡ length v.b.read = ap length (read_at B v m tv) in
    let longer : length m.b.read ≡ length (l.b.read ++ item ∷ []) = ap length is in
    omega (arith, one, before, after, longer)

serves_one : Rests → (l : FileLabView) (w : Machine) → Ties w l.lab → AreOpen w → AtFront l.lab → AreSmall l.session.handles → AreAnswered l → Serves1 l w (file_happen l Serve)
serves_one laws l w t opens f small answered = ⊎_elim command last f.users
  where
    command : kind_of f.item.op ≡ k.Data → Serves1 l w (file_happen l Serve)
    command is =
        let c : List ℕ = f.item.body in
        let fit = fits l.files l.session c small in
        let reply : List ℕ = (file_step l.files l.session c).reply in
        let r = serves_command laws.taken w l.lab reply t opens f fit.reply in
        let s = r.served in
        let d : FileDone = serve_work l (Command c) in
        let one = length-append l.lab.b.written ((record { op = op_data; body = reply }) ∷ []) in
        let longer : length d.view.lab.b.written ≡ length (l.lab.b.written ++ (record { op = op_data; body = reply }) ∷ []) = ap length r.written in
        subst (λ (e : FileDone). Serves1 l w e) (sym (ap (serve_work l) (work_data l.lab f is)))
        (record {
          done = tt;
          machine = s.machine;
          ties = s.ties;
          goes = s.goes;
          read = read_one w s.machine l.lab d.view.lab f.item t s.ties s.read;
          count = s.count;
          small = fit.small;
          answered = answered_more laws.go_on l d.view f.item is s.read r.written refl refl answered;
          wrote = inr (omega (arith, one, longer), r.copy);
        })

    last : (kind_of f.item.op ≡ k.Eof) × (f.item.body ≡ []) → Serves1 l w (file_happen l Serve)
    last is =
        let s = serves_eof w l.lab t opens f in
        let d : FileDone = serve_work l LastItem in
        subst (λ (e : FileDone). Serves1 l w e) (sym (ap (serve_work l) (work_eof l.lab f is.0)))
        (record {
          done = tt;
          machine = s.machine;
          ties = s.ties;
          goes = s.goes;
          read = read_one w s.machine l.lab d.view.lab f.item t s.ties s.read;
          count = s.count;
          small = small;
          answered = answered_eof l d.view f.item is.0 s.read refl refl refl answered;
          wrote = inl refl;
        })

-- ---- its reply comes to A

saved_goes : (n room before : ℕ) (w v : Machine) → Goes w v → Saved n (suc room) before w → Saved n room before v
saved_goes n room before w v g s =
    let a : length v.a.written ≡ length w.a.written = ap length g.a.written in
    record {
      receipted = s.receipted;
      arrived = λ i h. g.arrived i (s.arrived i h);
      copies = λ i low high.
          let c = s.copies i low (omega (arith, a, high)) in
          let place : before - (length w.a.written - i) ≡ before - (length v.a.written - i) = omega (arith, a) in
          record {
            late = omega (arith, c.late, place);
            copy = c.copy;
            there = ap (slice_get v.copies) (sym place) ∙ g.copies (before - (length w.a.written - i)) c.copy c.there;
            sender = c.sender;
            kind = c.kind;
            fresh_a = omega (arith, c.fresh_a, a);
            fresh_b = omega (arith, c.fresh_b, g.wrote);
          };
    }

reading_few : (l : LabView) → length (reading A l) ≤ 1
reading_few l =
    cond_both (is_none (front_of l.a.conn)) [] (ReadBy A ∷ []) (λ (es : List Happening). length es ≤ 1)
    (λ _. omega arith) (λ _. omega arith)

record Home (n : ℕ) (w : Machine) (l : LabView) (events : List Happening) : Type 0 where
  machine : Machine
  plays : Plays n w l events machine
  home : length machine.b.written ≤ length machine.a.read
  few : length events ≤ 2

replies_home : (n : ℕ) (w : Machine) (before l : LabView) → Ties w l → AreOpen w → n ≤ length before.copies
    → 1 ≤ w.a.announced → length before.b.written ≤ length w.a.read
    → ((l.b.written ≡ before.b.written) ⊎ ((length l.b.written ≡ suc (length before.b.written)) × IsReply w before l))
    → Home n w l (replying (length before.b.written) l)
replies_home n w before l t opens from some home wrote = ⊎_elim none one wrote
  where
    -- it wrote nothing
    none : l.b.written ≡ before.b.written → Home n w l (replying (length before.b.written) l)
    none same =
        let i : ℕ = length before.b.written in
        let count : length l.b.written ≡ length w.b.written = ap length (written_at B w l t) in
        let long : length l.b.written ≡ i = ap length same in
        subst (Home n w l)
        (sym
        (cond-false (nat_lt i (length l.b.written)) _ [] (le-ltb i (length l.b.written) (omega (arith, long)))))
        (record { machine = w; plays = plays_none n w l t; home = omega (arith, home, count, long); few = omega arith })

    one : (length l.b.written ≡ suc (length before.b.written)) × IsReply w before l
        → Home n w l (replying (length before.b.written) l)
    one h =
        let i : ℕ = length before.b.written in
        let copy : ℕ = length l.copies - 1 in
        let count : length l.b.written ≡ length w.b.written = ap length (written_at B w l t) in
        let r = h.1 in
        let c = item_comes n B w l copy i r.copy t r.at r.kind (opens A) some home (omega (arith, from, r.late)) in
        let v : Machine = c.comes.machine in
        let same : length v.b.written ≡ length w.b.written = ap length (c.comes.plays.keeps.ends B).written in
        let few = reading_few (happen l (DeliverCopy copy)).lab in
        subst (Home n w l)
        (sym
        (cond-true (nat_lt i (length l.b.written))
        (DeliverCopy copy ∷ reading A (happen l (DeliverCopy copy)).lab) []
        (lt-ltb i (length l.b.written) (omega (arith, h.0)))))
        (record
        { machine = v; plays = c.comes.plays; home = omega (arith, c.more, same, count, h.0); few = omega (arith, few) })

-- ---- all are served, and both users tell

-- these events lead to an end at which both writers know that all was read
pub record Finished (n : ℕ) (l : FileLabView) (events : List FileHappening) (most : ℕ) : Type 0 where
  pub after : FileLabView
  pub passes : Passes n l events after most
  pub machine : Machine
  pub ties : Ties machine after.lab
  pub opens : AreOpen machine
  pub done : (x : Side) → KnowsAll machine x
  pub written : after.lab.a.written ≡ l.lab.a.written
  pub answered : AreAnswered after

-- what events of the laboratory leave, that are none of B's server
pub answered_lab : PhaseLaws → (l : FileLabView) (events : List Happening) (w : Machine) → AreQuiet events
    → Ties w l.lab → AreAnswered l → AreAnswered (in_lab l events)
answered_lab laws l events w quiet t s =
    let q = quiet_all laws events l.lab quiet (record { plain = w; ties = t }) in
    answered_same l (in_lab l events) (ap data_bodies q.read) (ap data_bodies q.written) refl refl s

finishes : Rests → (n before : ℕ) (l : FileLabView) (w : Machine) → Ready n 0 before l w
    → Finished n l (serving before 0 l) 4
finishes laws n before l w r =
    let m : LabView = told A l.lab in
    let es : List Happening = telling A l.lab ++ telling B m in
    let a = told_by n B w l.lab r.ties r.opens r.from in
    let u : Machine = a.machine in
    let opens_u = stay_open w u a.plays.keeps r.opens in
    let first : length l.lab.copies ≡ length w.copies = same_count w l.lab r.ties in
    let mid : length m.copies ≡ length u.copies = same_count u m a.plays.ties in
    let b = told_by n A u m a.plays.ties opens_u (omega (arith, first, mid, a.plays.keeps.count, r.from)) in
    let v : Machine = b.machine in
    let plays = plays_both n w u v l.lab (telling A l.lab) (telling B m) a.plays b.plays in
    let quiet : AreQuiet es = (tt, (tt, (tt, (tt, tt)))) in
    let k : FileLabView = in_lab l es in
    let wrote_a : length v.a.written ≡ length w.a.written = ap length (plays.keeps.ends A).written in
    let wrote_b : length v.b.written ≡ length w.b.written = ap length (plays.keeps.ends B).written in
    record {
      after = k;
      passes =
          passes_most n l k (serving before 0 l) (length es + 0) 4 (omega arith)
          (passes_lab es n l k [] 0 quiet plays.help plays.taken (passes_none n k));
      machine = v;
      ties = plays.ties;
      opens = stay_open w v plays.keeps r.opens;
      done =
          both v (omega (arith, wrote_a, r.left, (a.plays.keeps.ends B).read, b.heard))
          (omega (arith, wrote_b, r.home, a.heard, (b.plays.keeps.ends B).acknowledged));
      written = written_at A v k.lab plays.ties ∙ (plays.keeps.ends A).written ∙ sym (written_at A w l.lab r.ties);
      answered = answered_lab laws.phases l es w quiet r.ties r.answered;
    }
  where
    both : (v : Machine) → length v.a.written ≤ v.a.acknowledged → length v.b.written ≤ v.b.acknowledged → (x : Side)
        → KnowsAll v x
    both v h j A = h
    both v h j B = j

-- ---- item after item

asking_few : (copy : ℕ) (l : LabView) → length (asking copy l) ≤ 3
asking_few copy l =
    let fetch : List Happening = fetching copy l in
    let few =
    cond_both (is_none (front_of l.b.conn)) (DeliverCopy copy ∷ []) [] (λ (es : List Happening). length es ≤ 1)
    (λ _. omega arith) (λ _. omega arith) in
    let all = length-append fetch (telling A (after_all l fetch)) in
    omega (arith, few, all)

-- the next item is in front of B's server, and B may reply
record InFront (n unread before : ℕ) (l : FileLabView) (w : Machine) (events : List Happening) : Type 0 where
  machine : Machine
  plays : Plays n w l.lab events machine
  quiet : AreQuiet events
  front : AtFront (in_lab l events).lab
  read : length machine.b.read ≡ length w.b.read
  some : 1 ≤ machine.a.announced

in_front : Rests → (n unread before : ℕ) (l : FileLabView) (w : Machine) → Ready n (suc unread) before l w
    → InFront n unread before l w (asking (before - suc unread) l.lab)
in_front laws n unread before l w r =
    let a = asked laws.phases n (suc unread) before unread w l.lab r.ties r.opens r.from r.some r.saved r.left in
    let v : Machine = a.machine in
    let wrote : length v.b.written ≡ length w.b.written = ap length (a.plays.keeps.ends B).written in
    record {
      machine = v;
      plays = a.plays;
      quiet = a.quiet;
      front =
          at_front v (in_lab l (asking (before - suc unread) l.lab)).lab a.plays.ties
          (stay_open w v a.plays.keeps r.opens) a.next (omega (arith, wrote, r.home, a.heard)) a.room;
      read = a.read;
      some = a.some;
    }

-- it is served, and its reply is read
record Round (n unread before : ℕ) (l : FileLabView) (w : Machine) : Type 0 where
  after : FileLabView
  machine : Machine
  ready : Ready n unread before after machine
  written : after.lab.a.written ≡ l.lab.a.written
  on : (others : FileLabView → List FileHappening) (end : FileLabView) (most : ℕ)
      → Passes n after (others after) end most
      → Passes n l (then_on (asking (before - suc unread) l.lab) (λ m. answering others m) l) end (most + 6)

round : Rests → (n unread before : ℕ) (l : FileLabView) (w : Machine) → Ready n (suc unread) before l w
    → Round n unread before l w
round laws n unread before l w r =
    let ask : List Happening = asking (before - suc unread) l.lab in
    let i = in_front laws n unread before l w r in
    let u : Machine = i.machine in
    let m : FileLabView = in_lab l ask in
    let opens_u = stay_open w u i.plays.keeps r.opens in
    let s =
    serves_one laws m u i.plays.ties opens_u i.front r.small
    (answered_lab laws.phases l ask w i.quiet r.ties r.answered) in
    let v : Machine = s.machine in
    let k : FileLabView = (file_happen m Serve).view in
    let opens_v : AreOpen v = open_both v (s.goes.a.opened (opens_u A)) (s.goes.opened (opens_u B)) in
    let first : length l.lab.copies ≡ length w.copies = same_count w l.lab r.ties in
    let mid : length m.lab.copies ≡ length u.copies = same_count u m.lab i.plays.ties in
    let from_m : n ≤ length m.lab.copies = omega (arith, first, mid, i.plays.keeps.count, r.from) in
    let wrote_m : length m.lab.b.written ≡ length w.b.written =
    ap length (written_at B u m.lab i.plays.ties ∙ (i.plays.keeps.ends B).written) in
    let h =
    replies_home n v m.lab k.lab s.ties opens_v from_m (s.goes.a.announces i.some)
    (omega (arith, wrote_m, r.home, (i.plays.keeps.ends A).read, s.goes.a.read)) s.wrote in
    let z : Machine = h.machine in
    let reply : List Happening = replying (length m.lab.b.written) k.lab in
    let end : FileLabView = in_lab k reply in
    let quiet = quiet_replying (length m.lab.b.written) k.lab in
    let stays = quiet_all laws.phases reply k.lab quiet (record { plain = v; ties = s.ties }) in
    let read_z : length z.b.read ≡ length v.b.read =
    ap length (sym (read_at B z end.lab h.plays.ties) ∙ stays.read ∙ read_at B v k.lab s.ties) in
    let kc : length k.lab.copies ≡ length v.copies = same_count v k.lab s.ties in
    let ec : length end.lab.copies ≡ length z.copies = same_count z end.lab h.plays.ties in
    let wrote_a : z.a.written ≡ w.a.written =
    (h.plays.keeps.ends A).written ∙ s.goes.a.written ∙ (i.plays.keeps.ends A).written in
    let long_a : length z.a.written ≡ length w.a.written = ap length wrote_a in
    let few = asking_few (before - suc unread) l.lab in
    record {
      after = end;
      machine = z;
      ready = record {
        ties = h.plays.ties;
        opens = stay_open v z h.plays.keeps opens_v;
        from = omega (arith, from_m, s.count, kc, ec, h.plays.keeps.count);
        home = h.home;
        left = omega (arith, r.left, long_a, read_z, s.read, i.read);
        some = (h.plays.keeps.ends B).announces (s.goes.announces ((i.plays.keeps.ends B).announces r.some));
        saved =
            saved_keeps n unread before v z h.plays.keeps
            (saved_goes n unread before u v s.goes (saved_keeps n (suc unread) before w u i.plays.keeps r.saved));
        small = s.small;
        answered = answered_lab laws.phases k reply v quiet s.ties s.answered;
      };
      written = written_at A z end.lab h.plays.ties ∙ wrote_a ∙ sym (written_at A w l.lab r.ties);
      on = λ others last most p.
          let after_reply = passes_lab reply n k last (others end) most quiet h.plays.help h.plays.taken p in
          let served =
          passes_first n m last Serve (map At reply ++ others end) (length reply + most) (tt, tt) s.done
          after_reply in
          let all =
          passes_lab ask n l last (Serve ∷ (map At reply ++ others end)) (length reply + most + 1) i.quiet
          i.plays.help i.plays.taken served in
          passes_most n l last _ (length ask + (length reply + most + 1)) (most + 6) (omega (arith, few, h.few)) all;
    }
  where
    open_both : (v : Machine) → v.a.phase ≡ Open → v.b.phase ≡ Open → AreOpen v
    open_both v h j A = h
    open_both v h j B = j

pub walks : Rests → (unread n before : ℕ) (l : FileLabView) (w : Machine) → Ready n unread before l w
    → Finished n l (serving before unread l) (unread * 6 + 4)
walks laws zero n before l w r = finishes laws n before l w r
walks laws (suc unread) n before l w r =
    let one = round laws n unread before l w r in
    let rest = walks laws unread n before one.after one.machine one.ready in
    record {
      after = rest.after;
      passes =
          passes_most n l rest.after _ (unread * 6 + 4 + 6) (suc unread * 6 + 4) (omega arith)
          (one.on (λ k. serving before unread k) rest.after (unread * 6 + 4) rest.passes);
      machine = rest.machine;
      ties = rest.ties;
      opens = rest.opens;
      done = rest.done;
      written = rest.written ∙ one.written;
      answered = rest.answered;
    }
