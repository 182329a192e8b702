-- Rounds, in which whatever may happen meanwhile.
use Rattle.std.proofs.Common.{◌≡◌, ℕ, zero, suc, ◌+◌, ◌-◌, ◌<◌, ◌≤◌, List, [], ◌∷◌, ◌++◌, length, take, false, ◌&&◌, leb, ltb, Option, Some, None, Ok, Err, refl, sym, ap, ◌∙◌, subst, inl, inr, ◌⊎◌, ⊎_elim, arith, drop, length-drop}
use Rattle.std.specs.Prelude.{slice_get}
use Rattle.std.specs.FinSet.{contains, insert}
use Rattle.std.proofs.lemmas.Bool.{cond_both, cond-true, cond-false, cases_lt, false≢true, eq-eqb}
use Rattle.std.proofs.lemmas.List.{nil_from_length}
use Rattle.chaos_packet.specs.Item.{ItemView}
use Rattle.chaos_packet.specs.Begins.{Begins}
use Rattle.chaos_conn.specs.declared.state.State.TheVariants as st
use Rattle.chaos_conn.specs.declared.answers.Ticked.TheVariants as ti
use Rattle.chaos_conn.specs.View.{ConnView, IsConn}
use Rattle.chaos_conn.specs.Calls.{front_of, read_at_open, act_read}
use Rattle.chaos_conn.specs.State.{is_opening, is_open as is_open_state}
use Rattle.chaos_conn.specs.declared.answers.ReadEnd.TheVariants as gave
use Rattle.chaos_lab.specs.declared.side.Side.{Side}
use Rattle.chaos_lab.specs.declared.side.Side.TheVariants.{A, B}
use Rattle.chaos_lab.specs.declared.event.Stepped.{Stepped as Answer}
use Rattle.chaos_lab.specs.declared.event.Stepped.TheVariants as stepped
use Rattle.chaos_lab.specs.Machine.{PlainEnd as Plain, Phase, Told, Copy, Machine, Event, other, end_of, hear, take_in, read_item, read_next, Row, Accept, Write, Read, Resize, Close, Tick, End, Comes, OrNothing, Becomes, Moves, Step}
use Rattle.chaos_lab.specs.Machine.Phase.{Inactive, RfcSent, RfcReceived, Open, Ended}
use Rattle.chaos_lab.specs.Machine.Kind.{Nth, Sts}
use Rattle.chaos_lab.specs.Machine.Told.{Nothing, Acknowledges, Status}
use Rattle.chaos_lab.specs.Machine.Event.{AcceptAt, WriteAt, ReadAt, ResizeAt, TickAt, CloseAt, Deliver}
use Rattle.chaos_lab.specs.Law.{DeliversInside}
use Rattle.chaos_lab.specs.Laboratory.{LabView, Happening, Done, lab_end, happen, after_all, after_call}
use Rattle.chaos_lab.specs.Laboratory.Happening.{WriteBy, ReadBy, AnnounceBy, TickOf, CloseBy, AcceptFrom, DeliverCopy}
use Rattle.chaos_lab.specs.Tied.{Ties, HasMachine, plain_event, plain_run, sent_item}
use Rattle.chaos_conn.specs.Opening.{act_accept}
use Rattle.chaos_conn.specs.Act.Call.{Read as ReadCall}
use Rattle.chaos_lab.specs.Headline.{Unclosed, ReadsInTurn}
use Rattle.chaos_lab.specs.Progress.{IsCalm, Brings, Waits, IsDue, Round, GoesOn, Rounds, Report, Knows, HadRead, KeepsNone}
use Rattle.std.proofs.lemmas.Option.{slice_get_within}
use Rattle.chaos_lab.proofs.Lists.{member_at}
use Rattle.chaos_lab.proofs.Calls.{room_is}
use Rattle.chaos_lab.proofs.Known.{other_other}
use Rattle.chaos_window.specs.Send.{outstanding_of}
use Rattle.chaos_lab.proofs.Grows.{Grows, grows_same, grows_through, item_stays}
use Rattle.chaos_lab.proofs.Total.{received}
use Rattle.chaos_lab.proofs.Functions.{step_later}
use Rattle.chaos_lab.specs.declared.stamped.Stamped.{Stamped as Sent}
use Rattle.chaos_lab.proofs.Machines.{Holds, reached_holds, end_holds, end_later}
use Rattle.chaos_lab.proofs.Reading.{CanRead, becomes_same, step_stays}
use Rattle.chaos_lab.proofs.DeliveryLaw.{beginning, in_turn}
use Rattle.chaos_lab.proofs.OnSide.{Outcome, Refuses, Steps, Stepped, conn_at, first_at, items_at, read_at, written_at}
use Rattle.chaos_lab.proofs.UserTies.{read_ties}
use Rattle.chaos_lab.proofs.Due.{resends_due}
use Rattle.chaos_lab.proofs.LabTies.{event_ties}
use Rattle.chaos_lab.proofs.Runs.{runs, unclosed}
use Rattle.chaos_lab.proofs.HeadlineLaw.{open_at, given_is, after_read}
use Rattle.chaos_lab.proofs.Keeps.{front_stays, came_by}
use Rattle.chaos_lab.proofs.Waiting.{waiting}
use Rattle.chaos_lab.proofs.Helping.{same_count, sent_at, sent_what, sts_kind, told_status, shows, resend_event}

-- ---- what a step keeps of an end whose user is calm

-- its window stays more than none, it forgets no acknowledgement, and where it ended it stays so
pub record Calmly (e f : Plain) : Type 0 where
  pub announces : 1 ≤ e.announced → 1 ≤ f.announced
  pub acknowledged : e.acknowledged ≤ f.acknowledged
  pub ended : e.phase ≡ Ended → f.phase ≡ Ended

calm_same : (e : Plain) → Calmly e e
calm_same e = record { announces = λ h. h; acknowledged = omega arith; ended = λ h. h }

calm_read : (o : Option ItemView) (e : Plain) → Calmly e (read_item o e)
calm_read None e = calm_same e
calm_read (Some item) e = record { announces = λ h. h; acknowledged = omega arith; ended = λ h. h }

heard_announced : (told : Told) (e : Plain) → (hear told e).announced ≡ e.announced
heard_announced Nothing e = refl
heard_announced (Acknowledges a) e = refl
heard_announced (Status a r w) e = refl

read_announced : (o : Option ItemView) (e : Plain) → (read_item o e).announced ≡ e.announced
read_announced None e = refl
read_announced (Some item) e = refl

heard_acknowledged : (told : Told) (e : Plain) → e.acknowledged ≤ (hear told e).acknowledged
heard_acknowledged Nothing e = omega arith
heard_acknowledged (Acknowledges a) e = omega arith
heard_acknowledged (Status a r w) e = omega arith

read_acknowledged : (o : Option ItemView) (e : Plain) → (read_item o e).acknowledged ≡ e.acknowledged
read_acknowledged None e = refl
read_acknowledged (Some item) e = refl

took_acknowledged : (i : ℕ) (e : Plain) → (take_in i e).acknowledged ≡ e.acknowledged
took_acknowledged i e =
    cond_both (leb (length e.read) i && ltb i (length e.read + e.announced)) (record e { arrived = insert e.arrived i })
    e (λ (f : Plain). f.acknowledged ≡ e.acknowledged) (λ _. refl) (λ _. refl)

took_announced : (i : ℕ) (e : Plain) → (take_in i e).announced ≡ e.announced
took_announced i e =
    cond_both (leb (length e.read) i && ltb i (length e.read + e.announced)) (record e { arrived = insert e.arrived i })
    e (λ (f : Plain). f.announced ≡ e.announced) (λ _. refl) (λ _. refl)

-- an end that isn't ended
calm_live : (phase : Phase) (e f : Plain) → e.phase ≡ phase → (phase ≡ Ended → ⊥) → f.announced ≡ e.announced
    → e.acknowledged ≤ f.acknowledged → Calmly e f
calm_live phase e f at apart same more =
    record { announces = λ h. omega (arith, same, h); acknowledged = more; ended = λ h. absurd (apart (sym at ∙ h)) }

accept_calm : (opn : ItemView) (p e f : Plain) → Accept opn p e f → Calmly e f
accept_calm opn p e f r =
    let next : Option ItemView = slice_get p.written (length e.read) in
    let same : f.acknowledged ≡ e.acknowledged = ap (λ (g : Plain). g.acknowledged) r.1 ∙ read_acknowledged next e in
    calm_live RfcReceived e f r.0 (λ h. absurd (cc)) (ap (λ (g : Plain). g.announced) r.1 ∙ read_announced next e)
    (omega (arith, same))

write_calm : (item : ItemView) (p e f : Plain) → Write item p e f → Calmly e f
write_calm item p e f r =
    let same : f.acknowledged ≡ e.acknowledged = ap (λ (g : Plain). g.acknowledged) r.2 in
    calm_live Open e f r.0 (λ h. absurd (cc)) (ap (λ (g : Plain). g.announced) r.2) (omega (arith, same))

read_calm : (p e f : Plain) → Read p e f → Calmly e f
read_calm p e f r = subst (Calmly e) (sym r.2) (calm_read (slice_get p.written (length e.read)) e)

resize_calm : (window : ℕ) (p e f : Plain) → 1 ≤ window → Resize window p e f → Calmly e f
resize_calm window p e f some r =
    let is : f.announced ≡ window = ap (λ (g : Plain). g.announced) r.2 in
    let same : f.acknowledged ≡ e.acknowledged = ap (λ (g : Plain). g.acknowledged) r.2 in
    record { announces = λ _. omega (arith, is, some); acknowledged = omega (arith, same); ended = λ h. let no : Open ≡ Ended = sym r.0 ∙ h in absurd (cc) }

end_calm : (p e f : Plain) → End p e f → Calmly e f
end_calm p e f r =
    subst (Calmly e) (sym r.1) (record { announces = λ h. h; acknowledged = omega arith; ended = λ _. refl })

tick_calm : (p e f : Plain) → Tick p e f → Calmly e f
tick_calm p e f r = ⊎_elim (end_calm p e f) (λ (t : f ≡ e). subst (Calmly e) (sym t) (calm_same e)) r

comes_calm : (c : Copy) (p e f : Plain) → Comes c p e f → Calmly e f
comes_calm c p e f (inl r) =
    let same : f.acknowledged ≡ e.acknowledged = ap (λ (g : Plain). g.acknowledged) r.2 in
    calm_live Inactive e f r.1 (λ h. absurd (cc)) (ap (λ (g : Plain). g.announced) r.2) (omega (arith, same))
comes_calm c p e f (inr (inl r)) =
    let opened : Plain = record e { phase = Open; arrived = insert e.arrived 0 } in
    let next : Option ItemView = slice_get p.written (length e.read) in
    let same : f.acknowledged ≡ (hear c.told (read_next p opened)).acknowledged =
    ap (λ (g : Plain). g.acknowledged) r.2 in
    let more = heard_acknowledged c.told (read_next p opened) in
    let kept : (read_next p opened).acknowledged ≡ e.acknowledged = read_acknowledged next opened in
    calm_live RfcSent e f r.1 (λ h. absurd (cc))
    (ap (λ (g : Plain). g.announced) r.2 ∙ heard_announced c.told (read_next p opened) ∙ read_announced next opened)
    (omega (arith, same, more, kept))
comes_calm c p e f (inr (inr (inl r))) =
    let same : f.acknowledged ≡ (hear c.told e).acknowledged =
    ap (λ (g : Plain). g.acknowledged) r.3 ∙ took_acknowledged r.1 (hear c.told e) in
    let more = heard_acknowledged c.told e in
    calm_live Open e f r.0 (λ h. absurd (cc))
    (ap (λ (g : Plain). g.announced) r.3 ∙ took_announced r.1 (hear c.told e) ∙ heard_announced c.told e)
    (omega (arith, same, more))
comes_calm c p e f (inr (inr (inr (inl r)))) =
    let same : f.acknowledged ≡ (hear c.told e).acknowledged = ap (λ (g : Plain). g.acknowledged) r.2 in
    let more = heard_acknowledged c.told e in
    calm_live Open e f r.0 (λ h. absurd (cc)) (ap (λ (g : Plain). g.announced) r.2 ∙ heard_announced c.told e)
    (omega (arith, same, more))
comes_calm c p e f (inr (inr (inr (inr r)))) = end_calm p e f r.1

or_nothing_calm : (row : Row) (p e f : Plain) → (row p e f → Calmly e f) → OrNothing row p e f → Calmly e f
or_nothing_calm row p e f keeps (inl r) = keeps r
or_nothing_calm row p e f keeps (inr r) = subst (Calmly e) (sym r.1) (calm_same e)

-- a step at z changes the end at y only where they are the same
becomes_calm : (m : Machine) (y z : Side) (f : Plain) (n : Machine) → Becomes m z f n → (z ≡ y → Calmly (end_of m z) f)
    → Calmly (end_of m y) (end_of n y)
becomes_calm m A A f n b keeps = subst (λ (k : Machine). Calmly m.a k.a) (sym b.2) (keeps refl)
becomes_calm m A B f n b keeps = subst (λ (k : Machine). Calmly m.a k.a) (sym b.2) (calm_same m.a)
becomes_calm m B A f n b keeps = subst (λ (k : Machine). Calmly m.b k.b) (sym b.2) (calm_same m.b)
becomes_calm m B B f n b keeps = subst (λ (k : Machine). Calmly m.b k.b) (sym b.2) (keeps refl)

becomes_copies : (m : Machine) (z : Side) (f : Plain) (n : Machine) (k : ℕ) (c : Copy) → Becomes m z f n
    → slice_get m.copies k ≡ Some c → slice_get n.copies k ≡ Some c
becomes_copies m z f n k c b h = ap (λ (v : Machine). slice_get v.copies k) b.2 ∙ front_stays m.copies b.0 k c h

-- what a step keeps, of the end at y and of the copies
record CalmStep (y : Side) (w v : Machine) : Type 0 where
  calm : Calmly (end_of w y) (end_of v y)
  copies : (k : ℕ) (c : Copy) → slice_get w.copies k ≡ Some c → slice_get v.copies k ≡ Some c

moves_calm : (row : Row) (y z : Side) (w v : Machine) → Moves row w z v
    → (z ≡ y → (f : Plain) → row (end_of w (other z)) (end_of w z) f → Calmly (end_of w z) f) → CalmStep y w v
moves_calm row y z w v s keeps =
    record {
      calm =
          becomes_calm w y z s.0 v s.2
          (λ is. or_nothing_calm row (end_of w (other z)) (end_of w z) s.0 (keeps is s.0) s.1);
      copies = λ k c h. becomes_copies w z s.0 v k c s.2 h;
    }

calm_step : (y : Side) (l : LabView) (event : Happening) (events : List Happening) (w v : Machine)
    → IsCalm y (event ∷ events) → Step w (plain_event l event) v → CalmStep y w v
calm_step y l (WriteBy x op bytes) events w v h s =
    moves_calm (Write (record { op = op; body = bytes })) y x w v s
    (λ _ f r. write_calm (record { op = op; body = bytes }) (end_of w (other x)) (end_of w x) f r)
calm_step y l (ReadBy x) events w v h s =
    moves_calm Read y x w v s (λ _ f r. read_calm (end_of w (other x)) (end_of w x) f r)
calm_step y l (AnnounceBy x window) events w v h s =
    moves_calm (Resize window) y x w v s (λ is f r. resize_calm window (end_of w (other x)) (end_of w x) f (h.0 is) r)
calm_step y l (TickOf x now) events w v h s =
    moves_calm Tick y x w v s (λ _ f r. tick_calm (end_of w (other x)) (end_of w x) f r)
calm_step y l (CloseBy x text) events w v h s = moves_calm Close y x w v s (λ is f r. absurd (h.0 is))
calm_step y l (AcceptFrom start) events w v h s =
    moves_calm (Accept (sent_item (act_accept l.b.conn start l.clock).packets)) y B w v s
    (λ _ f r. accept_calm (sent_item (act_accept l.b.conn start l.clock).packets) (end_of w (other B)) (end_of w B)
    f r)
calm_step y l (DeliverCopy k) events w v h s =
    moves_calm (Comes s.0) y (other s.0.sender) w v s.3
    (λ _ f r. comes_calm s.0 (end_of w (other (other s.0.sender))) (end_of w (other s.0.sender)) f r)

calm_rest : (y : Side) (event : Happening) (events : List Happening) → IsCalm y (event ∷ events) → IsCalm y events
calm_rest y (CloseBy x text) events h = h.1
calm_rest y (AnnounceBy x window) events h = h.1
calm_rest y (WriteBy x op bytes) events h = h
calm_rest y (ReadBy x) events h = h
calm_rest y (TickOf x now) events h = h
calm_rest y (AcceptFrom start) events h = h
calm_rest y (DeliverCopy k) events h = h

calm_unclosed : (y : Side) (events : List Happening) → IsCalm y events → Unclosed y events
calm_unclosed y [] h = tt
calm_unclosed y (CloseBy x text ∷ events) h = (h.0, calm_unclosed y events h.1)
calm_unclosed y (AnnounceBy x window ∷ events) h = calm_unclosed y events h.1
calm_unclosed y (WriteBy x op bytes ∷ events) h = calm_unclosed y events h
calm_unclosed y (ReadBy x ∷ events) h = calm_unclosed y events h
calm_unclosed y (TickOf x now ∷ events) h = calm_unclosed y events h
calm_unclosed y (AcceptFrom start ∷ events) h = calm_unclosed y events h
calm_unclosed y (DeliverCopy k ∷ events) h = calm_unclosed y events h

-- ---- an event

-- the machine after it, and what it keeps
record After (y : Side) (w : Machine) (m : LabView) : Type 0 where
  machine : Machine
  ties : Ties machine m
  calm : CalmStep y w machine
  grows : (x : Side) → Grows (end_of w x) (end_of machine x)
  stays : CanRead (end_of w y).phase → CanRead (end_of machine y).phase

unclosed_event : (y : Side) (l : LabView) (event : Happening) (events : List Happening) → IsCalm y (event ∷ events)
    → plain_event l event ≡ CloseAt y → ⊥
unclosed_event y l (CloseBy x text) events h is = h.0 (let same : x ≡ y = cc in same)
unclosed_event y l (WriteBy x op bytes) events h is = absurd (cc)
unclosed_event y l (ReadBy x) events h is = absurd (cc)
unclosed_event y l (AnnounceBy x window) events h is = absurd (cc)
unclosed_event y l (TickOf x now) events h is = absurd (cc)
unclosed_event y l (AcceptFrom start) events h is = absurd (cc)
unclosed_event y l (DeliverCopy k) events h is = absurd (cc)

after_event : (y : Side) (w : Machine) (l : LabView) (event : Happening) (events : List Happening) → Ties w l
    → IsCalm y (event ∷ events) → After y w (happen l event).lab
after_event y w l event events t h = by (event_ties w l event t)
  where
    by : Outcome w (plain_event l event) l (happen l event) → After y w (happen l event).lab
    by (Refuses why is) =
        record {
          machine = w;
          ties = subst (Ties w) (sym (ap (λ (d : Done). d.lab) is)) t;
          calm = record { calm = calm_same (end_of w y); copies = λ k c q. q };
          grows = λ x. grows_same (end_of w x);
          stays = λ may. may;
        }
    by (Steps s) =
        let holds = reached_holds w t.tied.reached in
        record {
          machine = s.machine;
          ties = s.ties;
          calm = calm_step y l event events w s.machine h s.step;
          grows = λ x. end_later w s.machine x (step_later w (plain_event l event) s.machine holds s.step);
          stays = λ may. step_stays w (plain_event l event) s.machine y s.step (unclosed_event y l event events h) may;
        }

-- where it ended it is ended after all of them
ended_stays : (y : Side) (events : List Happening) (w : Machine) (l : LabView) → Ties w l → IsCalm y events
    → (end_of w y).phase ≡ Ended → (conn_at (after_all l events) y).state ≡ st.Open → ⊥
ended_stays y [] w l t h at is = let no : Ended ≡ Open = sym at ∙ open_at y w l t is in absurd (cc)
ended_stays y (event ∷ events) w l t h at is =
    let a = after_event y w l event events t h in
    ended_stays y events a.machine (happen l event).lab a.ties (calm_rest y event events h) (a.calm.calm.ended at) is

-- ---- the copy is brought

taken_step : (w : Machine) (l : LabView) (n : ℕ) → Ties w l
    → ((s : Answer) × ((happen l (DeliverCopy n)).answer ≡ Ok s)) → Stepped w (Deliver n) (happen l (DeliverCopy n)).lab
taken_step w l n t ok = by (event_ties w l (DeliverCopy n) t)
  where
    by : Outcome w (Deliver n) l (happen l (DeliverCopy n)) → Stepped w (Deliver n) (happen l (DeliverCopy n)).lab
    by (Refuses why r) = let no : Err why ≡ Ok ok.0 = sym (ap (λ (d : Done). d.answer) r) ∙ ok.1 in absurd (cc)
    by (Steps k) = k

-- item i, which a copy that is taken brings to the open end at y, inside its window
in_turn_of : (x : Side) (w : Machine) (l : LabView) (n : ℕ) (c : Copy) (i : ℕ) (item : ItemView)
    (events : List Happening)
    → Ties w l → slice_get w.copies n ≡ Some c → c.sender ≡ x → c.kind ≡ Nth i
    → slice_get (end_of w x).written i ≡ Some item → (end_of w (other x)).phase ≡ Open
    → i < length (end_of w (other x)).read + (end_of w (other x)).announced
    → ((s : Answer) × ((happen l (DeliverCopy n)).answer ≡ Ok s)) → IsCalm (other x) events
    → ReadsInTurn (after_all (happen l (DeliverCopy n)).lab events) (other x) i item
in_turn_of x w l n c i item events t there from kind written at inside ok calm next =
    let y : Side = other x in
    let m : LabView = (happen l (DeliverCopy n)).lab in
    let v : LabView = after_all m events in
    let first : Stepped w (Deliver n) m = taken_step w l n t ok in
    let ran = runs events first.machine m first.ties in
    let last = read_ties y ran.machine v ran.ties in
    let brings : DeliversInside w x i first.machine =
    record { number = n; copy = c; sent = there; sender = from; kind = kind; open_end = at; inside = inside; step = first.step } in
    let turn =
    in_turn w first.machine ran.machine last.machine x (plain_run m events) i t.tied.reached brings
    (ran.run, unclosed y events m (calm_unclosed y events calm))
    (sym (ap length (read_at y ran.machine v ran.ties)) ∙ next) last.step in
    let same : turn.0 ≡ item = some_is (sym turn.1 ∙ written) in
    let reads : (lab_end (after_call v y ReadCall) y).read ≡ (lab_end v y).read ++ item ∷ [] =
    read_at y last.machine (after_call v y ReadCall) last.ties ∙ turn.2
    ∙ (λ j. sym (read_at y ran.machine v ran.ties) j ++ same j ∷ []) in
    (ap (λ g. Ok (stepped.Read g)) (given_is (act_read (conn_at v y)).answer (lab_end v y).read item (sym (after_read y v) ∙ reads)), reads)
  where
    some_is : {a b : ItemView} → Some a ≡ Some b → a ≡ b
    some_is h = cc

-- so where one of many events brings it
brought : (events : List Happening) (x : Side) (w : Machine) (l : LabView) (n : ℕ) (c : Copy) (i : ℕ) (item : ItemView)
    → Ties w l → slice_get w.copies n ≡ Some c → c.sender ≡ x → c.kind ≡ Nth i
    → slice_get (end_of w x).written i ≡ Some item → CanRead (end_of w (other x)).phase
    → 1 ≤ (end_of w (other x)).announced → i ≤ length (end_of w (other x)).read → IsCalm (other x) events
    → (conn_at (after_all l events) (other x)).state ≡ st.Open → Brings l events n
    → ReadsInTurn (after_all l events) (other x) i item
brought [] x w l n c i item t there from kind written may some upto calm opens b = absurd b
brought (event ∷ events) x w l n c i item t there from kind written may some upto calm opens (inl b) =
    let y : Side = other x in
    let at : (end_of w y).phase ≡ Open =
    ⊎_elim (λ (u : (end_of w y).phase ≡ Open). u)
    (λ (u : (end_of w y).phase ≡ Ended). absurd (ended_stays y (event ∷ events) w l t calm u opens)) may in
    let ok : (s : Answer) × ((happen l (DeliverCopy n)).answer ≡ Ok s) =
    subst (λ (e : Happening). (s : Answer) × ((happen l e).answer ≡ Ok s)) b.0 b.1 in
    subst (λ (e : Happening). ReadsInTurn (after_all (happen l e).lab events) y i item) (sym b.0)
    (in_turn_of x w l n c i item events t there from kind written at (omega (arith, upto, some)) ok
    (calm_rest y event events calm))
brought (event ∷ events) x w l n c i item t there from kind written may some upto calm opens (inr b) =
    let y : Side = other x in
    let a = after_event y w l event events t calm in
    brought events x a.machine (happen l event).lab n c i item a.ties (a.calm.copies n c there) from kind
    (item_stays (end_of w x) (end_of a.machine x) i item (a.grows x) written)
    (a.stays may) (a.calm.calm.announces some) (let more = (a.grows y).read_more in omega (arith, upto, more))
    (calm_rest y event events calm) opens b

-- ---- all events of a round

record AllAfter (y : Side) (w : Machine) (m : LabView) : Type 0 where
  machine : Machine
  ties : Ties machine m
  grows : (x : Side) → Grows (end_of w x) (end_of machine x)

all_after : (y : Side) (events : List Happening) (w : Machine) (l : LabView) → Ties w l → IsCalm y events
    → AllAfter y w (after_all l events)
all_after y [] w l t h = record { machine = w; ties = t; grows = λ x. grows_same (end_of w x) }
all_after y (event ∷ events) w l t h =
    let a = after_event y w l event events t h in
    let b = all_after y events a.machine (happen l event).lab a.ties (calm_rest y event events h) in
    record { machine = b.machine; ties = b.ties; grows = λ x. grows_through (end_of w x) (end_of a.machine x) (end_of b.machine x) (a.grows x) (b.grows x) }

-- ---- a round

-- what it makes of a machine
pub record RoundGoes (x : Side) (w : Machine) (l m : LabView) : Type 0 where
  pub machine : Machine
  pub ties : Ties machine m
  pub grows : (z : Side) → Grows (end_of w z) (end_of machine z)
  pub goes : GoesOn x l m

pub round_goes : (x : Side) (w : Machine) (l m : LabView) → Ties w l → Round x l m → RoundGoes x w l m
round_goes x w l m t r =
    let y : Side = other x in
    let i : ℕ = length (end_of w y).read in
    let l1 : LabView = (happen l (TickOf x r.now)).lab in
    let at_x : (end_of w x).phase ≡ Open = open_at x w l t (r.open_ends x) in
    let at_y : (end_of w y).phase ≡ Open = open_at y w l t (r.open_ends y) in
    let s = resend_event x w l r.now r.sent t at_x r.again in
    let v : Machine = s.sends.machine in
    let k = s.sends.keeps in
    let d = (end_holds w x (reached_holds w t.tied.reached)).writer in
    let number : ℕ = (end_of w x).receipted in
    let read : length (lab_end l y).read ≡ i = ap length (read_at y w l t) in
    let wrote : length (lab_end l x).written ≡ length (end_of w x).written = ap length (written_at x w l t) in
    let same : length (end_of v x).written ≡ length (end_of w x).written = ap length (k.ends x).written in
    let here : contains (end_of w y).arrived i ≡ false = waiting y w l t at_y r.waits in
    let upto : number ≤ i =
    ⊎_elim (λ (u : i < number). absurd (false≢true (sym here ∙ d.receipted_arrived i u))) (λ (u : number ≤ i). u)
    (cases_lt i number) in
    let window : (conn_at l y).recv.window ≡ (end_of w y).announced =
    ap (λ (c : ConnView). c.recv.window) (shows y w l t at_y).is in
    let all = all_after y r.events v l1 s.sends.ties r.calm in
    let goes : GoesOn x l m =
    ⊎_elim
    (λ (less : i < length (end_of w x).written).
    let j : ℕ = i - number in
    let place : number + j ≡ i = omega (arith, upto) in
    let copy = s.sends.burst.copies j (omega (arith, place, less, same)) in
    let item = member_at (end_of w x).written i less in
    let reads : ReadsInTurn (after_all l1 r.events) y i item.0 =
    brought r.events x v l1 (length l.copies + j) copy.0 i item.0 s.sends.ties copy.1.there copy.1.sender
    (copy.2 ∙ ap Nth place) (ap (λ ws. slice_get ws i) (k.ends x).written ∙ item.1)
    (inl ((k.ends y).opened at_y)) ((k.ends y).announces (omega (arith, window, r.window))) (k.ends y).read r.calm
    (ap (λ (u : LabView). (conn_at u y).state) (sym r.after) ∙ r.stays)
    (r.brings j (omega (arith, place, less, s.count))) in
    inr (
      item.0,
      ap (λ ws. slice_get ws (length (lab_end l y).read)) (written_at x w l t)
          ∙ ap (slice_get (end_of w x).written) read ∙ item.1,
      subst (λ (q : LabView × ℕ). ReadsInTurn q.0 y q.1 item.0) (λ z. (sym r.after z, sym read z)) reads,
    ))
    (λ (enough : length (end_of w x).written ≤ i). inl (omega (arith, enough, read, wrote)))
    (cases_lt i (length (end_of w x).written)) in
    record {
      machine = all.machine;
      ties = subst (Ties all.machine) (sym r.after) all.ties;
      grows =
          λ z. grows_through (end_of w z) (end_of v z) (end_of all.machine z)
          (end_later w v z (step_later w (TickAt x) v (reached_holds w t.tied.reached) s.sends.step)) (all.grows z);
      goes = goes;
    }

-- ---- many rounds

no_item : (v : ConnView) → v.state ≡ st.Open → front_of v ≡ None → (act_read v).answer ≡ gave.Nothing
no_item v at none =
    ap (λ a. a.answer)
    (cond-false _ _ _ (ap is_opening at) ∙ cond-true _ _ _ (ap is_open_state at) ∙ ap (read_at_open v) none)

-- a reader that waits again has read more, or had read all
read_more : (x : Side) (w : Machine) (l m : LabView) → Ties w l → (r : RoundGoes x w l m)
    → (conn_at m (other x)).state ≡ st.Open → Waits m (other x)
    → (length (end_of w x).written ≤ length (end_of r.machine (other x)).read)
    ⊎ (length (end_of w (other x)).read < length (end_of r.machine (other x)).read)
read_more x w l m t r at waits = by r.goes
  where
    by : GoesOn x l m
        → (length (end_of w x).written ≤ length (end_of r.machine (other x)).read)
        ⊎ (length (end_of w (other x)).read < length (end_of r.machine (other x)).read)
    by (inl enough) =
        let read : length (lab_end l (other x)).read ≡ length (end_of w (other x)).read =
        ap length (read_at (other x) w l t) in
        let wrote : length (lab_end l x).written ≡ length (end_of w x).written = ap length (written_at x w l t) in
        let more = (r.grows (other x)).read_more in
        inl (omega (arith, enough, read, wrote, more))
    by (inr reads) =
        let y : Side = other x in
        let old : length (lab_end l y).read ≡ length (end_of w y).read = ap length (read_at y w l t) in
        let new : length (lab_end m y).read ≡ length (end_of r.machine y).read =
        ap length (read_at y r.machine m r.ties) in
        let more = (r.grows y).read_more in
        ⊎_elim
        (λ (u : length (end_of w y).read < length (end_of r.machine y).read). inr u)
        (λ (u : length (end_of r.machine y).read ≤ length (end_of w y).read).
        let now = (reads.2 (omega (arith, old, new, more, u))).0 in
        let given : (act_read (conn_at m y)).answer ≡ gave.Item reads.0 = cc in
        let no : gave.Nothing ≡ gave.Item reads.0 = sym (no_item (conn_at m y) at waits) ∙ given in
        absurd (cc))
        (cases_lt (length (end_of w y).read) (length (end_of r.machine y).read))

starts_waiting : (n : ℕ) (x : Side) (l m : LabView) → Rounds n x l m → Waits m (other x) → Waits l (other x)
starts_waiting zero x l m r waits = subst (λ (u : LabView). Waits u (other x)) r waits
starts_waiting (suc n) x l m r waits = r.1.waits

starts_open : (n : ℕ) (x : Side) (l m : LabView) → Rounds n x l m → (conn_at m (other x)).state ≡ st.Open
    → (conn_at l (other x)).state ≡ st.Open
starts_open zero x l m r at = subst (λ (u : LabView). (conn_at u (other x)).state ≡ st.Open) r at
starts_open (suc n) x l m r at = r.1.open_ends (other x)

pub record RoundsGo (n : ℕ) (x : Side) (w : Machine) (m : LabView) : Type 0 where
  pub machine : Machine
  pub ties : Ties machine m
  pub grows : (z : Side) → Grows (end_of w z) (end_of machine z)
  pub read : (length (end_of w x).written ≤ length (end_of machine (other x)).read)
      ⊎ (length (end_of w (other x)).read + n ≤ length (end_of machine (other x)).read)

pub rounds_go : (n : ℕ) (x : Side) (w : Machine) (l m : LabView) → Ties w l → Rounds n x l m
    → (conn_at m (other x)).state ≡ st.Open → Waits m (other x) → RoundsGo n x w m
rounds_go zero x w l m t r at waits =
    record { machine = w; ties = subst (Ties w) (sym r) t; grows = λ z. grows_same (end_of w z); read = inr (omega arith) }
rounds_go (suc n) x w l m t r at waits =
    let first = round_goes x w l r.0 t r.1 in
    let v : Machine = first.machine in
    let rest = rounds_go n x v r.0 m first.ties r.2 at waits in
    let more = (rest.grows (other x)).read_more in
    let wrote = (first.grows x).written_more in
    record {
      machine = rest.machine;
      ties = rest.ties;
      grows = λ z. grows_through (end_of w z) (end_of v z) (end_of rest.machine z) (first.grows z) (rest.grows z);
      read = ⊎_elim
          (λ (u : length (end_of w x).written ≤ length (end_of v (other x)).read). inl (omega (arith, u, more)))
          (λ (u : length (end_of w (other x)).read < length (end_of v (other x)).read).
          ⊎_elim
          (λ (q : length (end_of v x).written ≤ length (end_of rest.machine (other x)).read). inl
          (omega (arith, q, wrote)))
          (λ (q : length (end_of v (other x)).read + n ≤ length (end_of rest.machine (other x)).read). inr
          (omega (arith, u, q)))
          rest.read)
          (read_more x w l r.0 t first (starts_open n x r.0 m r.2 at) (starts_waiting n x r.0 m r.2 waits));
    }

-- ---- the laws

pub goes_on : (l : LabView) → HasMachine l → (x : Side) (m : LabView) → Round x l m → GoesOn x l m
goes_on l h x m r = (round_goes x h.plain l m h.ties r).goes

begins_between : (xs ys zs : List ItemView) → Begins xs zs → Begins ys zs → length xs ≤ length ys → Begins xs ys
begins_between [] ys zs b c h = refl
begins_between (x ∷ xs) [] zs b c h = absurd (omega (arith, h))
begins_between (x ∷ xs) (y ∷ ys) [] b c h = absurd (cc)
begins_between (x ∷ xs) (y ∷ ys) (z ∷ zs) b c h =
    let first : take (length xs) zs ≡ xs = cc in
    let second : take (length ys) zs ≡ ys = cc in
    let rest : take (length xs) ys ≡ xs = begins_between xs ys zs first second (omega (arith, h)) in
    cc

pub all_read : (l : LabView) → HasMachine l → (x : Side) (m : LabView) → Rounds 64 x l m
    → (conn_at m (other x)).state ≡ st.Open → Waits m (other x)
    → Begins (lab_end l x).written (lab_end m (other x)).read
all_read l h x m r at waits =
    let w : Machine = h.plain in
    let t = h.ties in
    let g = rounds_go 64 x w l m t r at waits in
    let v : Machine = g.machine in
    let d = end_holds w x (reached_holds w t.tied.reached) in
    let enough : length (end_of w x).written ≤ length (end_of v (other x)).read =
    ⊎_elim
    (λ (u : length (end_of w x).written ≤ length (end_of v (other x)).read). u)
    (λ (u : length (end_of w (other x)).read + 64 ≤ length (end_of v (other x)).read). omega
    (arith, u, d.writer.room, d.writer.acked_read, d.ok.caps.1))
    g.read in
    subst (λ (q : List ItemView × List ItemView). Begins q.0 q.1)
    (λ j. (sym (written_at x w l t) j, sym (read_at (other x) v m g.ties) j))
    (begins_between (end_of w x).written (end_of v (other x)).read (end_of v x).written (g.grows x).written
    (beginning v x g.ties.tied.reached) enough)

-- ---- a status that the reader sends

-- whose step it is, and what its end becomes
record Moved (w v : Machine) : Type 0 where
  side : Side
  end : Plain
  becomes : Becomes w side end v

step_moves : (w v : Machine) (event : Event) → Step w event v → Moved w v
step_moves w v (AcceptAt x opn) s = record { side = x; end = s.0; becomes = s.2 }
step_moves w v (WriteAt x item) s = record { side = x; end = s.0; becomes = s.2 }
step_moves w v (ReadAt x) s = record { side = x; end = s.0; becomes = s.2 }
step_moves w v (ResizeAt x window) s = record { side = x; end = s.0; becomes = s.2 }
step_moves w v (TickAt x) s = record { side = x; end = s.0; becomes = s.2 }
step_moves w v (CloseAt x) s = record { side = x; end = s.0; becomes = s.2 }
step_moves w v (Deliver k) s = record { side = other s.0.sender; end = s.3.0; becomes = s.3.2 }

-- the copy of a status that an event at l sent, as the machine v after it has it
record StatusAt (y : Side) (w v : Machine) (n : ℕ) : Type 0 where
  copy : Copy
  there : slice_get v.copies n ≡ Some copy
  sender : copy.sender ≡ y
  kind : copy.kind ≡ Sts
  told : (r : ℕ) × (f : ℕ) × (window : ℕ) × (copy.told ≡ Status r f window) × (length (end_of w y).read ≤ r)

-- ---- it comes

-- the acknowledgement that a status leaves
status_heard : (c : Copy) (r f window : ℕ) (p e g : Plain) → c.kind ≡ Sts → c.told ≡ Status r f window → e.phase ≡ Open
    → OrNothing (Comes c) p e g → r ≤ g.acknowledged
status_heard c r f window p e g kind told at o =
    let is : g ≡ received Open Sts c.told p e = came_by Sts c p e g kind at o in
    subst (λ (z : Plain). r ≤ z.acknowledged) (sym (is ∙ ap (λ t. received Open Sts t p e) told)) (omega arith)

status_step : (y : Side) (w v : Machine) (n r f window : ℕ) (c : Copy) → slice_get w.copies n ≡ Some c → c.sender ≡ y
    → c.kind ≡ Sts → c.told ≡ Status r f window → (end_of w (other y)).phase ≡ Open → Step w (Deliver n) v
    → r ≤ (end_of v (other y)).acknowledged
status_step y w v n r f window c there from kind told at s =
    let same : s.0 ≡ c = let e = s.1 in let e' = there in cc in
    let m : Moves (Comes c) w (other c.sender) v =
    subst (λ (d : Copy). Moves (Comes d) w (other d.sender) v) same s.3 in
    let z : Moves (Comes c) w (other y) v = subst (λ (q : Side). Moves (Comes c) w (other q) v) from m in
    subst (λ (e : Plain). r ≤ e.acknowledged) (sym (becomes_same w (other y) z.0 v z.2))
    (status_heard c r f window (end_of w (other (other y))) (end_of w (other y)) z.0 kind told at z.1)

-- what all events keep of the acknowledgement
record Acknowledged (x : Side) (r : ℕ) (m : LabView) : Type 0 where
  machine : Machine
  ties : Ties machine m
  heard : r ≤ (end_of machine x).acknowledged

acked_stays : (events : List Happening) (x : Side) (w : Machine) (l : LabView) (r : ℕ) → Ties w l → IsCalm x events
    → r ≤ (end_of w x).acknowledged → Acknowledged x r (after_all l events)
acked_stays [] x w l r t calm h = record { machine = w; ties = t; heard = h }
acked_stays (event ∷ events) x w l r t calm h =
    let a = after_event x w l event events t calm in
    let more = a.calm.calm.acknowledged in
    acked_stays events x a.machine (happen l event).lab r a.ties (calm_rest x event events calm)
    (omega (arith, h, more))

status_brought : (events : List Happening) (y : Side) (w : Machine) (l : LabView) (n r f window : ℕ) (c : Copy)
    → Ties w l → slice_get w.copies n ≡ Some c → c.sender ≡ y → c.kind ≡ Sts → c.told ≡ Status r f window
    → CanRead (end_of w (other y)).phase → IsCalm (other y) events
    → (conn_at (after_all l events) (other y)).state ≡ st.Open → Brings l events n
    → Acknowledged (other y) r (after_all l events)
status_brought [] y w l n r f window c t there from kind told may calm opens b = absurd b
status_brought (event ∷ events) y w l n r f window c t there from kind told may calm opens (inl b) =
    let x : Side = other y in
    let at : (end_of w x).phase ≡ Open =
    ⊎_elim (λ (u : (end_of w x).phase ≡ Open). u)
    (λ (u : (end_of w x).phase ≡ Ended). absurd (ended_stays x (event ∷ events) w l t calm u opens)) may in
    let ok : (s : Answer) × ((happen l (DeliverCopy n)).answer ≡ Ok s) =
    subst (λ (e : Happening). (s : Answer) × ((happen l e).answer ≡ Ok s)) b.0 b.1 in
    let first : Stepped w (Deliver n) (happen l (DeliverCopy n)).lab = taken_step w l n t ok in
    subst (λ (e : Happening). Acknowledged x r (after_all (happen l e).lab events)) (sym b.0)
    (acked_stays events x first.machine (happen l (DeliverCopy n)).lab r first.ties (calm_rest x event events calm)
    (status_step y w first.machine n r f window c there from kind told at first.step))
status_brought (event ∷ events) y w l n r f window c t there from kind told may calm opens (inr b) =
    let x : Side = other y in
    let a = after_event x w l event events t calm in
    status_brought events y a.machine (happen l event).lab n r f window c a.ties (a.calm.copies n c there) from kind
    told (a.stays may) (calm_rest x event events calm) opens b

-- the plain copy of an STS that a step sent
status_sent : (y : Side) (w v : Machine) (m : LabView) (event : Event) (n : ℕ) (s : Sent) → Ties v m → Holds w
    → Step w event v → length w.copies ≤ n → slice_get m.copies n ≡ Some s → s.side ≡ y → s.packet.op ≡ 7
    → StatusAt y w v n
status_sent y w v m event n s t holds step new at side op =
    let move = step_moves w v event step in
    let z : Side = move.side in
    let sent = sent_at z w v move.end m n (n - length w.copies) s t move.becomes (omega (arith, new)) at in
    let c : Copy = sent.copy in
    let kind : c.kind ≡ Sts =
    sts_kind c.kind z (first_at m z) (first_at m (other z)) (end_of v z) s.packet (items_at z v m t)
    (sent_what z v m n s sent) op in
    let told = told_status c.kind z (end_of v z) c.told kind sent.tells in
    let from : c.sender ≡ y = sym sent.stands.side ∙ side in
    let same : z ≡ y = sym sent.at.sender ∙ from in
    let more = (end_later w v y (step_later w event v holds step)).read_more in
    let read : length (end_of v z).read ≡ length (end_of v y).read = ap (λ (q : Side). length (end_of v q).read) same in
    record {
      copy = c;
      there = sent.at.there;
      sender = from;
      kind = kind;
      told = (length (end_of v z).read, told.0, (end_of v z).announced, told.1, omega (arith, more, read));
    }

pub knows : (l : LabView) → HasMachine l → (x : Side) (m : LabView) → Report x l m → Knows x l m
knows l h x m r = by (event_ties w l r.event t)
  where
    w : Machine
    w = h.plain

    t : Ties h.plain l
    t = h.ties

    by : Outcome h.plain (plain_event l r.event) l (happen l r.event) → Knows x l m
    by (Refuses why is) =
        let count : length (happen l r.event).lab.copies ≡ length l.copies =
        ap (λ (d : Done). length d.lab.copies) is in
        let within = slice_get_within (happen l r.event).lab.copies r.number r.status r.put_out in
        absurd (omega (arith, within, count, r.new))
    by (Steps s) =
        let v : Machine = s.machine in
        let y : Side = other x in
        let l1 : LabView = (happen l r.event).lab in
        let is : other y ≡ x = other_other x in
        let holds = reached_holds h.plain h.ties.tied.reached in
        let count : length l.copies ≡ length h.plain.copies = same_count h.plain l h.ties in
        let c =
        status_sent y h.plain v l1 (plain_event l r.event) r.number r.status s.ties holds s.step
        (omega (arith, count, r.new)) r.put_out r.sender r.sts in
        let may : CanRead (end_of v x).phase =
        step_stays h.plain (plain_event l r.event) v x s.step (unclosed_event x l r.event r.events r.calm)
        (inl (open_at x h.plain l h.ties r.open_end)) in
        let opens : (conn_at (after_all l1 r.events) x).state ≡ st.Open =
        ap (λ (u : LabView). (conn_at u x).state) (sym r.after) ∙ r.stays in
        let heard : Acknowledged (other y) c.told.0 (after_all l1 r.events) =
        status_brought r.events y v l1 r.number c.told.0 c.told.1 c.told.2 c.copy s.ties c.there c.sender c.kind
        c.told.3
        (subst (λ (z : Side). CanRead (end_of v z).phase) (sym is) may)
        (subst (λ (z : Side). IsCalm z r.events) (sym is) (calm_rest x r.event r.events r.calm))
        (subst (λ (z : Side). (conn_at (after_all l1 r.events) z).state ≡ st.Open) (sym is) opens) r.brings in
        let g : Acknowledged x c.told.0 m =
        subst (λ (q : Side × LabView). Acknowledged q.0 c.told.0 q.1) (λ j. (is j, sym r.after j)) heard in
        let u : Machine = g.machine in
        let e : Plain = end_of u x in
        let view = shows x u m g.ties (open_at x u m g.ties r.stays) in
        let d = end_holds u x (reached_holds u g.ties.tied.reached) in
        let left = length-drop e.receipted e.written in
        let kept : length (conn_at m x).send.kept ≡ length (drop e.receipted e.written) =
        ap (λ (k : ConnView). length k.send.kept) view.is in
        let out : outstanding_of (conn_at m x).send ≡ length e.written - e.acknowledged =
        ap (λ (k : ConnView). outstanding_of k.send) view.is
        ∙ room_is (first_at m x) e (end_of u (other x)) d.writer d.ok.caps.1 in
        let wrote : length (lab_end m x).written ≡ length e.written = ap length (written_at x u m g.ties) in
        let read : length (lab_end l y).read ≡ length (end_of h.plain y).read =
        ap length (read_at y h.plain l h.ties) in
        (omega (arith, kept, left, wrote, read, g.heard, c.told.4, d.writer.in_order), omega (arith, out, wrote, read, g.heard, c.told.4))

-- where that was all, it is drained
pub keeps_none : (l : LabView) → HasMachine l → (x : Side) (m : LabView) → Report x l m → HadRead x l m → KeepsNone x m
keeps_none l h x m r all =
    let k = knows l h x m r in
    let send = (lab_end m x).conn.send in
    let out : outstanding_of send ≡ 0 = omega (arith, k.1, all) in
    (nil_from_length send.kept (omega (arith, k.0, all)), eq-eqb (outstanding_of send) 0 out)

-- ---- while something is unread, the writer keeps something, and sends it again when that is due

pub keeps_some : (l : LabView) → HasMachine l → (x : Side) → ((y : Side) → (lab_end l y).conn.state ≡ st.Open)
    → Waits l (other x) → length (lab_end l (other x)).read < length (lab_end l x).written
    → 0 < length (lab_end l x).conn.send.kept
keeps_some l h x opens waits more =
    let w : Machine = h.plain in
    let t = h.ties in
    let e : Plain = end_of w x in
    let i : ℕ = length (end_of w (other x)).read in
    let d = (end_holds w x (reached_holds w t.tied.reached)).writer in
    let here : contains (end_of w (other x)).arrived i ≡ false =
    waiting (other x) w l t (open_at (other x) w l t (opens (other x))) waits in
    let upto : e.receipted ≤ i =
    ⊎_elim (λ (u : i < e.receipted). absurd (false≢true (sym here ∙ d.receipted_arrived i u)))
    (λ (u : e.receipted ≤ i). u) (cases_lt i e.receipted) in
    let read : length (lab_end l (other x)).read ≡ i = ap length (read_at (other x) w l t) in
    let wrote : length (lab_end l x).written ≡ length e.written = ap length (written_at x w l t) in
    let left = length-drop e.receipted e.written in
    let kept : length (conn_at l x).send.kept ≡ length (drop e.receipted e.written) =
    ap (λ (k : ConnView). length k.send.kept) (shows x w l t (open_at x w l t (opens x))).is in
    omega (arith, kept, left, upto, read, wrote, more)

pub sends_when_due : (l : LabView) (x : Side) (now : ℕ) → IsConn (lab_end l x).conn → IsDue (lab_end l x).conn now
    → (happen l (TickOf x now)).answer ≡ Ok (stepped.Ticked (ti.Resent (length (lab_end l x).conn.send.kept)))
sends_when_due l x now c h = ap (λ a. Ok (stepped.Ticked a.answer)) (resends_due (conn_at l x) now c h)
