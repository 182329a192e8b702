-- A laboratory opens in which A has sent its request.
use Rattle.std.proofs.Common.{◌≡◌, ℕ, ◌+◌, ◌<◌, ◌≤◌, max, List, [], ◌∷◌, ◌++◌, length, map, drop, false, refl, sym, ap, ◌∙◌, subst, inl, inr, ⊎_elim, arith, length-append, length-drop}
use Rattle.chaos_packet.specs.Item.{ItemView}
use Rattle.chaos_conn.specs.declared.state.State.{State}
use Rattle.chaos_conn.specs.declared.state.State.TheVariants as st
use Rattle.chaos_conn.specs.Act.{Call, act}
use Rattle.chaos_conn.specs.Act.Call.{Tick, TakeRequest, Accept, Deliver as DeliverPacket}
use Rattle.chaos_conn.specs.View.{ConnView, IsConn}
use Rattle.chaos_lab.specs.declared.side.Side.{Side}
use Rattle.chaos_lab.specs.declared.side.Side.TheVariants.{A, B}
use Rattle.chaos_lab.specs.Machine.{PlainEnd as Plain, Machine, end_of}
use Rattle.chaos_lab.specs.Machine.Phase.{RfcSent, Open}
use Rattle.chaos_lab.specs.Shown.{place_of}
use Rattle.chaos_lab.specs.Laboratory.{LabView, Happening, lab_end, happen, after_all, after_call, clock_after}
use Rattle.chaos_lab.specs.Laboratory.Happening.{AcceptFrom, DeliverCopy}
use Rattle.chaos_lab.specs.Opening.{again_moment, asking, accepting, repeating, opening_in, opening, SendsInTime, CanOpen, AreOpeningHelp, WritesOpn, Opens, opening_moment, HasTimeToSettle}
use Rattle.chaos_lab.specs.Progress.{AreTaken, CanSettle}
use Rattle.chaos_lab.specs.Tied.{Ties, HasMachine}
use Rattle.chaos_lab.proofs.Accepting.{OpnAt, WroteOpn, accept_event, repeat_event}
use Rattle.chaos_lab.proofs.Asking.{asked_at, inactive, ask_event, request_event}
use Rattle.chaos_lab.proofs.Ends.{fits_at}
use Rattle.chaos_lab.proofs.HeadlineLaw.{open_at}
use Rattle.chaos_lab.proofs.Machines.{reached_holds, end_holds}
use Rattle.chaos_lab.proofs.Meeting.{meet_event}
use Rattle.chaos_lab.proofs.Phases.{open_met}
use Rattle.chaos_lab.proofs.OnSide.{conn_at, written_at}
use Rattle.chaos_lab.proofs.Keeps.{CopyAt}
use Rattle.chaos_lab.proofs.Helping.{hears_at, shows, copies_after, stamp_after}

-- ---- what calls leave

-- the configurations, and no moment past this one
record Stays (t : ℕ) (l m : LabView) : Type 0 where
  config : (y : Side) → (conn_at m y).config ≡ (conn_at l y).config
  last : (y : Side) → (conn_at m y).last ≤ t
  clock : m.clock ≤ t

stays_on : (t : ℕ) (l m : LabView) (x : Side) (call : Call) → Stays t l m
    → (act (conn_at m x) call).view.config ≡ (conn_at m x).config → (act (conn_at m x) call).view.last ≤ t
    → clock_after m.clock call ≤ t → Stays t l (after_call m x call)
stays_on t l m A call s config last clock = record { config = configs; last = lasts; clock = clock }
  where
    configs : (y : Side) → (conn_at (after_call m A call) y).config ≡ (conn_at l y).config
    configs A = config ∙ s.config A
    configs B = s.config B

    lasts : (y : Side) → (conn_at (after_call m A call) y).last ≤ t
    lasts A = last
    lasts B = s.last B
stays_on t l m B call s config last clock = record { config = configs; last = lasts; clock = clock }
  where
    configs : (y : Side) → (conn_at (after_call m B call) y).config ≡ (conn_at l y).config
    configs A = s.config A
    configs B = config ∙ s.config B

    lasts : (y : Side) → (conn_at (after_call m B call) y).last ≤ t
    lasts A = s.last A
    lasts B = last

more_copies : (x : Side) (l : LabView) (call : Call) → length l.copies ≤ length (after_call l x call).copies
more_copies x l call =
    let packets = map (stamp_after l x call) (act (conn_at l x) call).packets in
    let all : length (after_call l x call).copies ≡ length (l.copies ++ packets) = ap length (copies_after x l call) in
    let long = length-append l.copies packets in
    omega (arith, all, long)

-- ---- the events are taken, and both ends are open

-- most: the moment that is ticked
record Goes (most : ℕ) (l : LabView) (events : List Happening) : Type 0 where
  machine : Machine
  ties : Ties machine (after_all l events)
  taken : AreTaken l events
  opens : (x : Side) → (end_of machine x).phase ≡ Open
  knows : (x : Side) → 1 ≤ (end_of machine x).acknowledged
  asker : (after_all l events).a.written ≡ l.a.written
  stays : (t : ℕ) (first : LabView) → most ≤ t → Stays t first l → Stays t first (after_all l events)

-- the OPN comes to A, and the STS to B
meets : (w : Machine) (l : LabView) (n k : ℕ) → Ties w l → l.a.conn.state ≡ st.RfcSent → l.b.conn.state ≡ st.Open
    → OpnAt w n → k ≡ length l.copies
    → Goes 0 l (DeliverCopy n ∷ DeliverCopy k ∷ [])
    × ((after_all l (DeliverCopy n ∷ DeliverCopy k ∷ [])).b.written ≡ l.b.written)
meets w l n k t asks accepted opn is =
    let o = meet_event w l n t asks opn in
    let v : Machine = o.machine in
    let m : LabView = (happen l (DeliverCopy n)).lab in
    let call : Call = DeliverPacket o.packet l.clock in
    let at : CopyAt v A k o.copy = subst (λ j. CopyAt v A j o.copy) (sym is) o.at in
    let b : v.b.phase ≡ Open = open_at B v m o.ties (ap (λ (u : LabView). u.b.conn.state) o.lab ∙ accepted) in
    let h = hears_at A v m k (length v.a.read) o.status.0 v.a.announced o.copy o.ties at o.kind o.status.1 b in
    let z : Machine = h.machine in
    let r : LabView = (happen m (DeliverCopy k)).lab in
    let written : (y : Side) → (lab_end r y).written ≡ (lab_end m y).written =
    λ y. written_at y z r h.ties ∙ (h.keeps.ends y).written ∙ sym (written_at y v m o.ties) in (
      record {
        machine = z;
        ties = h.ties;
        taken = (o.taken, (h.taken, tt));
        opens = λ x. (h.keeps.ends x).opened (both v o.opens b x);
        knows = knows v z o.knows (h.keeps.ends A).acknowledged (length v.a.read) o.read h.heard;
        asker = written A ∙ ap (λ (u : LabView). u.a.written) o.lab;
        stays = λ t first _ s.
            let last : (act l.a.conn call).view.last ≡ max l.a.conn.last l.clock = ap (λ a. a.view.last) o.acts in
            let one : Stays t first m = subst (Stays t first) (sym o.lab)
            (stays_on t first l A call s (ap (λ a. a.view.config) o.acts)
            (let before = s.last A in omega (arith, last, before, s.clock)) s.clock) in
            heard t first m r one h.own.config h.own.last h.peers h.clock;
      },
      written B ∙ ap (λ (u : LabView). u.b.written) o.lab,
    )
  where
    both : (v : Machine) → v.a.phase ≡ Open → v.b.phase ≡ Open → (x : Side) → (end_of v x).phase ≡ Open
    both v a b A = a
    both v a b B = b

    knows : (v z : Machine) → 1 ≤ v.a.acknowledged → v.a.acknowledged ≤ z.a.acknowledged → (r : ℕ) → 1 ≤ r
        → r ≤ z.b.acknowledged → (x : Side) → 1 ≤ (end_of z x).acknowledged
    knows v z a more r some b A = omega (arith, a, more)
    knows v z a more r some b B = omega (arith, some, b)

    heard : (t : ℕ) (first m r : LabView) → Stays t first m → r.b.conn.config ≡ m.b.conn.config
        → r.b.conn.last ≡ max m.b.conn.last m.clock → r.a.conn ≡ m.a.conn → r.clock ≡ m.clock → Stays t first r
    heard t first m r s config last peer clock =
        record { config = configs; last = lasts; clock = omega (arith, clock, s.clock) }
      where
        configs : (y : Side) → (conn_at r y).config ≡ (conn_at first y).config
        configs A = ap (λ (u : ConnView). u.config) peer ∙ s.config A
        configs B = config ∙ s.config B

        lasts : (y : Side) → (conn_at r y).last ≤ t
        lasts A =
            let same : r.a.conn.last
            ≡ m.a.conn.last = ap (λ (u : ConnView). u.last) peer in let before = s.last A in omega
            (arith, same, before)
        lasts B = let before = s.last B in omega (arith, last, before, s.clock)

-- ---- B holds the request

wrote : (before after : List ItemView) → WroteOpn before after → WritesOpn before after
wrote before after h = inr (h.nothing, (h.opn, h.one, h.op))

accepts : (w : Machine) (l : LabView) (start : ℕ) → Ties w l → l.a.conn.state ≡ st.RfcSent
    → l.b.conn.state ≡ st.RfcReceived
    → Goes 0 l (accepting start l) × WritesOpn l.b.written (after_all l (accepting start l)).b.written
accepts w l start t asks holds =
    let a = accept_event w l start t holds in
    let call : Call = Accept start l.clock in
    let m : LabView = (happen l (AcceptFrom start)).lab in
    let n : ℕ = length l.copies in
    let count : n + 1 ≡ length m.copies = sym (ap (λ (u : LabView). length u.copies) a.lab ∙ a.count) in
    let opens : m.b.conn.state ≡ st.Open = ap (λ (u : LabView). u.b.conn.state) a.lab ∙ ap (λ d. d.view.state) a.acts in
    let g = meets a.machine m n (n + 1) a.ties (ap (λ (u : LabView). u.a.conn.state) a.lab ∙ asks) opens a.opn count in
    let last : (act l.b.conn call).view.last ≡ max l.b.conn.last l.clock = ap (λ d. d.view.last) a.acts in
    let config : (act l.b.conn call).view.config ≡ l.b.conn.config = ap (λ d. d.view.config) a.acts in
    let after : WritesOpn l.b.written m.b.written =
    subst (λ (u : LabView). WritesOpn l.b.written u.b.written) (sym a.lab)
    (wrote l.b.written (after_call l B call).b.written a.wrote) in (
      record {
        machine = g.0.machine;
        ties = g.0.ties;
        taken = (a.taken, g.0.taken);
        opens = g.0.opens;
        knows = g.0.knows;
        asker = g.0.asker ∙ ap (λ (u : LabView). u.a.written) a.lab;
        stays = λ t first some s. g.0.stays t first some
            (subst (Stays t first) (sym a.lab)
            (stays_on t first l B call s config (let was = s.last B in omega (arith, last, was, s.clock)) s.clock));
      },
      subst (WritesOpn l.b.written) (sym g.1) after,
    )

-- ---- B took no request yet

asks_anew : (w : Machine) (l : LabView) (start : ℕ) → Ties w l → l.a.conn.state ≡ st.RfcSent → l.asked ≡ false
    → IsConn l.a.conn → SendsInTime l.a.conn
    → Goes (again_moment l.a.conn) l (asking l ++ accepting start (after_all l (asking l)))
    × WritesOpn l.b.written (after_all l (asking l ++ accepting start (after_all l (asking l)))).b.written
    × (length l.copies ≤ length (after_all l (asking l)).copies)
asks_anew w l start t asks unasked conn time =
    let a = ask_event w l t asks unasked conn time in
    let tick : Call = Tick (again_moment l.a.conn) in
    let l1 : LabView = after_call l A tick in
    let n : ℕ = length l.copies in
    let b = request_event a.machine l1 n a.copy a.ties a.at a.kind unasked in
    let take : Call = TakeRequest b.packet (place_of B) l1.clock in
    let l2 : LabView = (happen l1 (DeliverCopy n)).lab in
    let still : l1.a.conn.state ≡ st.RfcSent = ap (λ d. d.view.state) a.acts ∙ asks in
    let holds : l2.b.conn.state ≡ st.RfcReceived =
    ap (λ (u : LabView). u.b.conn.state) b.lab ∙ ap (λ d. d.view.state) b.acts in
    let g = accepts b.machine l2 start b.ties (ap (λ (u : LabView). u.a.conn.state) b.lab ∙ still) holds in
    let same : l2.b.written ≡ l.b.written = ap (λ (u : LabView). u.b.written) b.lab in
    let more : length l2.copies ≡ length (after_call l1 B take).copies = ap (λ (u : LabView). length u.copies) b.lab in
    let one = more_copies A l tick in
    let two = more_copies B l1 take in
    let ticked : (act l.a.conn tick).view.last ≡ max l.a.conn.last (again_moment l.a.conn) =
    ap (λ d. d.view.last) a.acts in
    let taken : (act l1.b.conn take).view.last ≡ max l1.b.conn.last l1.clock = ap (λ d. d.view.last) b.acts in (
      record {
        machine = g.0.machine;
        ties = g.0.ties;
        taken = ((_, refl), (b.taken, g.0.taken));
        opens = g.0.opens;
        knows = g.0.knows;
        asker = g.0.asker ∙ ap (λ (u : LabView). u.a.written) b.lab;
        stays = λ t first most s. g.0.stays t first (omega arith)
            (let s1 : Stays t first l1 = stays_on t first l A tick s (ap (λ d. d.view.config) a.acts)
            (let was = s.last A in omega (arith, ticked, was, most)) (omega (arith, s.clock, most)) in
            (subst (Stays t first) (sym b.lab)
            (stays_on t first l1 B take s1 (ap (λ d. d.view.config) b.acts)
            (let was = s1.last B in omega (arith, taken, was, s1.clock)) s1.clock)));
      },
      subst (λ ws. WritesOpn ws (after_all l2 (accepting start l2)).b.written) same g.1,
      omega (arith, more, one, two),
    )

-- ---- B is open, and its OPN was lost

repeats : (w : Machine) (l : LabView) → Ties w l → l.a.conn.state ≡ st.RfcSent → l.b.conn.state ≡ st.Open
    → IsConn l.b.conn → SendsInTime l.b.conn
    → Goes (again_moment l.b.conn) l (repeating l) × ((after_all l (repeating l)).b.written ≡ l.b.written)
repeats w l t asks accepted conn time =
    let at : w.a.phase ≡ RfcSent = asked_at A w l t asks in
    let none = (fits_at A w.a RfcSent (end_holds w A (reached_holds w t.tied.reached)).ok at).1 in
    let a = repeat_event w l t accepted none conn time in
    let tick : Call = Tick (again_moment l.b.conn) in
    let l1 : LabView = after_call l B tick in
    let g =
    meets a.machine l1 (length l.copies) (length l1.copies) a.ties asks (ap (λ d. d.view.state) a.acts ∙ accepted)
    a.opn refl in
    let ticked : (act l.b.conn tick).view.last ≡ max l.b.conn.last (again_moment l.b.conn) =
    ap (λ d. d.view.last) a.acts in (
      record {
        machine = g.0.machine;
        ties = g.0.ties;
        taken = ((_, refl), g.0.taken);
        opens = g.0.opens;
        knows = g.0.knows;
        asker = g.0.asker;
        stays = λ t first most s. g.0.stays t first (omega arith)
            (stays_on t first l B tick s (ap (λ d. d.view.config) a.acts)
            (let was = s.last B in omega (arith, ticked, was, most)) (omega (arith, s.clock, most)));
      },
      g.1,
    )

-- ---- what comes of it

kept_less : (l : LabView) (events : List Happening) (most : ℕ) → Goes most l events → (x : Side)
    → length (lab_end (after_all l events) x).conn.send.kept < length (lab_end (after_all l events) x).written
kept_less l events most g x =
    let m : LabView = after_all l events in
    let e : Plain = end_of g.machine x in
    let view = shows x g.machine m g.ties (g.opens x) in
    let d = (end_holds g.machine x (reached_holds g.machine g.ties.tied.reached)).writer in
    let kept : length (conn_at m x).send.kept ≡ length (drop e.receipted e.written) =
    ap (λ (k : ConnView). length k.send.kept) view.is in
    let left = length-drop e.receipted e.written in
    let met = open_wrote x g.machine g.ties (g.opens x) in
    let same : length (lab_end m x).written ≡ length e.written = ap length (written_at x g.machine m g.ties) in
    let knows = g.knows x in
    omega (arith, kept, left, same, met, knows, d.in_order)
  where
    open_wrote : (x : Side) (v : Machine) → Ties v (after_all l events) → (end_of v x).phase ≡ Open
        → 1 ≤ length (end_of v x).written
    open_wrote A v t at = (open_met v A t.tied.reached at).0
    open_wrote B v t at = (open_met v B t.tied.reached at).0

opens_by : (l : LabView) (events : List Happening) (most : ℕ) → Goes most l events → length events ≤ 5
    → AreOpeningHelp (length l.copies) events → WritesOpn l.b.written (after_all l events).b.written → Opens l events
opens_by l events most g few help accepter =
    record {
      few = few;
      help = help;
      taken = g.taken;
      open_ends = λ x. ap (λ (u : ConnView). u.state) (shows x g.machine (after_all l events) g.ties (g.opens x)).is;
      asker = g.asker;
      accepter = accepter;
      kept = kept_less l events most g;
    }

-- ---- the law

-- it opens, and leaves moments
record OpensWell (l : LabView) (events : List Happening) : Type 0 where
  opens : Opens l events
  stays : Stays (opening_moment l) l (after_all l events)

first_stays : (l : LabView) → Stays (opening_moment l) l l
first_stays l = record { config = λ y. refl; last = lasts; clock = omega arith }
  where
    lasts : (y : Side) → (conn_at l y).last ≤ opening_moment l
    lasts A = omega arith
    lasts B = omega arith

opens_well : (l : LabView) (start : ℕ) → HasMachine l → ((x : Side) → IsConn (lab_end l x).conn) → CanOpen l
    → OpensWell l (opening start l)
opens_well l start h conns can = ⊎_elim anew (λ r. ⊎_elim held stalled r) can.meets
  where
    in_state : (s : State) → l.b.conn.state ≡ s → OpensWell l (opening_in s start l) → OpensWell l (opening start l)
    in_state s is k = subst (λ z. OpensWell l (opening_in z start l)) (sym is) k

    anew : (l.asked ≡ false) × SendsInTime l.a.conn → OpensWell l (opening start l)
    anew c =
        let g = asks_anew h.plain l start h.ties can.asks c.0 (conns A) c.1 in
        in_state st.Inactive (inactive h.plain l h.ties (h.ties.asked.new c.0))
        (record {
          opens =
              opens_by l (opening_in st.Inactive start l) (again_moment l.a.conn) g.0 (omega arith)
              (tt, (omega arith, (tt, (g.2, (omega (arith, g.2), tt))))) g.1;
          stays = g.0.stays (opening_moment l) l (omega arith) (first_stays l);
        })

    held : l.b.conn.state ≡ st.RfcReceived → OpensWell l (opening start l)
    held c =
        let g = accepts h.plain l start h.ties can.asks c in
        in_state st.RfcReceived c
        (record {
          opens = opens_by l (accepting start l) 0 g.0 (omega arith) (tt, (omega arith, (omega arith, tt))) g.1;
          stays = g.0.stays (opening_moment l) l (omega arith) (first_stays l);
        })

    stalled : (l.b.conn.state ≡ st.Open) × SendsInTime l.b.conn → OpensWell l (opening start l)
    stalled c =
        let g = repeats h.plain l h.ties can.asks c.0 (conns B) c.1 in
        let more = more_copies B l (Tick (again_moment l.b.conn)) in
        in_state st.Open c.0
        (record {
          opens =
              opens_by l (repeating l) (again_moment l.b.conn) g.0 (omega arith) (tt, (omega arith, (more, tt)))
              (inl g.1);
          stays = g.0.stays (opening_moment l) l (omega arith) (first_stays l);
        })

pub opens : (l : LabView) → HasMachine l → ((x : Side) → IsConn (lab_end l x).conn) → (start : ℕ) → CanOpen l
    → Opens l (opening start l)
opens l h conns start can = (opens_well l start h conns can).opens

-- and then the ends can settle
pub settles_then : (l : LabView) → HasMachine l → ((x : Side) → IsConn (lab_end l x).conn) → (start : ℕ) → CanOpen l
    → HasTimeToSettle l → CanSettle (after_all l (opening start l))
settles_then l h conns start can more =
    let g = opens_well l start h conns can in
    let m : LabView = after_all l (opening start l) in
    let ra : m.a.conn.config.retransmit ≡ l.a.conn.config.retransmit = ap (λ c. c.retransmit) (g.stays.config A) in
    let rb : m.b.conn.config.retransmit ≡ l.b.conn.config.retransmit = ap (λ c. c.retransmit) (g.stays.config B) in
    let da : m.a.conn.config.down ≡ l.a.conn.config.down = ap (λ c. c.down) (g.stays.config A) in
    let db : m.b.conn.config.down ≡ l.b.conn.config.down = ap (λ c. c.down) (g.stays.config B) in
    let ia = more.in_time A in
    let ib = more.in_time B in
    let la = g.stays.last A in
    let lb = g.stays.last B in
    record {
      a = record { open_end = g.opens.open_ends A; again = omega (arith, ra, da, ia) };
      b = record { open_end = g.opens.open_ends B; again = omega (arith, rb, db, ib) };
      moments = omega (arith, ra, rb, la, lb, g.stays.clock, more.moments);
    }
