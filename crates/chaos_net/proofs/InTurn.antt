-- An item that came is read in its turn.
use Rattle.std.proofs.Common.{◌≡◌, ℕ, zero, suc, ◌+◌, ◌-◌, ◌<◌, ◌≤◌, List, [], ◌∷◌, ◌++◌, length, Bool, true, false, if◌then◌else◌, Option, Some, None, Result, nat_lt, refl, sym, ap, ◌∙◌, subst, inl, inr, ◌⊎◌, ⊎_elim, arith}
use Rattle.std.specs.Prelude.{slice_get}
use Rattle.std.proofs.lemmas.Bool.{false≢true, cases_Bool, cond-false}
use Rattle.std.proofs.lemmas.Bool.Decides.{nat_tests}
use Rattle.chaos_packet.specs.Item.{ItemView}
use Rattle.chaos_packet.specs.Packet.{PacketView, item_of}
use Rattle.chaos_conn.specs.declared.answers.ReadEnd.{ReadEnd}
use Rattle.chaos_conn.specs.declared.answers.ReadEnd.TheVariants as gave
use Rattle.chaos_conn.specs.declared.state.State.{State}
use Rattle.chaos_conn.specs.declared.state.State.TheVariants as st
use Rattle.chaos_conn.specs.declared.fault.ConnFault.{ConnFault}
use Rattle.chaos_conn.specs.State.{is_inactive, is_requested}
use Rattle.chaos_conn.specs.View.{ConnView}
use Rattle.chaos_conn.specs.Acted.{Acted}
use Rattle.chaos_conn.specs.Calls.{act_read, front_of}
use Rattle.chaos_conn.specs.Arriving.{act_deliver}
use Rattle.chaos_conn.specs.Act.{Call}
use Rattle.chaos_conn.specs.Act.Call.{Request, TakeRequest, Accept, Answer, Reject, Deliver, Write, Unc, Read, FinishRead, Announce, Close, Tick}
use Rattle.chaos_conn.specs.Held.{has_met, held_at, HoldsAs, given_by, IsReadBy}
use Rattle.chaos_conn.specs.Act.Reply.{Did}
use Rattle.chaos_conn.specs.Names.{Opens, Stays, begins, is_opened, is_refused}
use Rattle.chaos_conn.proofs.Held.{held_stays, held_is_read}
use Rattle.chaos_conn.proofs.NamesStay.{opens_or_stays}
use Rattle.chaos_host.specs.declared.slot.Slot.{Slot}
use Rattle.chaos_host.specs.Slot.{is_free}
use Rattle.chaos_host.specs.View.{HostView}
use Rattle.chaos_host.specs.Deeds.{HostEvent, Deed, IsEvent, IsDeed, FitsSlot, HostMade, host_made, deed_of}
use Rattle.chaos_host.specs.Deeds.HostEvent.{Comes, Calls, Ends, Releases, Connects, Listens, Ticks}
use Rattle.chaos_host.specs.Deeds.Deed.{Nothing, Does}
use Rattle.chaos_host.proofs.Deeds.{has_deeds}
use Rattle.chaos_lab.specs.declared.side.Side.{Side}
use Rattle.chaos_lab.specs.declared.side.Side.TheVariants.{A, B}
use Rattle.chaos_lab.specs.Machine.{other}
use Rattle.chaos_lab.specs.Laboratory.{EndView, with_given}
use Rattle.chaos_lab.proofs.Lists.{length-one_more}
use Rattle.chaos_net.specs.Net.{Name, Story, Sent, Station, Net, NetEvent, IsOwn, IsFresh, CanHappen, Run, Reached, present, end_of_call, goes_on, story_after, after_slot, after_deed, after_event, arrives, happens, with_story}
use Rattle.chaos_net.specs.Net.NetEvent.{At, Arrives}
use Rattle.chaos_net.specs.Played.{IsSlot, ArePlayed}
use Rattle.chaos_net.specs.InTurn.{ComesInside, ReadsInTurn}
use Rattle.chaos_net.proofs.Lists.{some_eq}
use Rattle.chaos_net.proofs.Holding.{name_eq}
use Rattle.chaos_net.proofs.Moves.{refused_keeps, delivery_keeps}
use Rattle.chaos_net.proofs.Next.{look_own, look_other}
use Rattle.chaos_net.proofs.Steps.{not_begins}
use Rattle.chaos_net.proofs.Apart.{comes_after}
use Rattle.chaos_net.proofs.Network.{reached_is_played, steps_are_played}
use Rattle.chaos_net.proofs.Coming.{coming, slot_at, comes_to}

-- ---- an end that holds item i, or has read it, or is closed

-- the item is held, so many places from the front
record Waits (i : ℕ) (item : ItemView) (e : EndView) : Type 0 where
  place : ℕ
  index : length e.read + place ≡ i
  held : held_at e.conn place ≡ Some item

-- its user closed it; or it has met its peer, and holds the item or has read as many
abbrev Keeps : ℕ → ItemView → EndView → Type 0
Keeps i item e =
    (is_inactive e.conn.state ≡ true) ⊎ ((has_met e.conn.state ≡ true) × (Waits i item e ⊎ (i < length e.read)))

not_closed : (i : ℕ) (item : ItemView) (e : EndView) → is_inactive e.conn.state ≡ false → Keeps i item e
    → (has_met e.conn.state ≡ true) × (Waits i item e ⊎ (i < length e.read))
not_closed i item e used (inl closed) = absurd (false≢true (sym used ∙ closed))
not_closed i item e used (inr k) = k

-- ---- a call that is no read

-- what is held stays, and nothing is read
kept_by : (i : ℕ) (item : ItemView) (e f : EndView) → f.read ≡ e.read → HoldsAs e.conn f.conn
    → (Waits i item e ⊎ (i < length e.read)) → Keeps i item f
kept_by i item e f same k w = inr (
  k.met,
  ⊎_elim
      (λ (h : Waits i item e). inl
      (record
      { place = h.place; index = ap (λ (xs : List ItemView). length xs + h.place) same ∙ h.index; held = k.held h.place item h.held }))
      (λ (h : i < length e.read). inr (subst (λ (xs : List ItemView). i < length xs) (sym same) h))
      w,
)

stays_by : (i : ℕ) (item : ItemView) (e f : EndView) → f.read ≡ e.read
    → (is_inactive f.conn.state ≡ true) ⊎ HoldsAs e.conn f.conn → (Waits i item e ⊎ (i < length e.read))
    → Keeps i item f
stays_by i item e f same (inl closed) w = inl closed
stays_by i item e f same (inr k) w = kept_by i item e f same k w

either_same : (b : Bool) (xs : List ItemView) → (if b then xs else xs) ≡ xs
either_same true xs = refl
either_same false xs = refl

-- one that has met its peer isn't opened again
met_unopened : (v : ConnView) (p : PacketView) (now : ℕ) → has_met v.state ≡ true
    → is_opened (act_deliver v p now).answer ≡ false
met_unopened v p now met =
    ⊎_elim
    (λ (o : Opens v p (act_deliver v p now)). absurd (false≢true (sym (ap has_met o.asked) ∙ met)))
    (λ (s : Stays v p (act_deliver v p now)). s.opened)
    (opens_or_stays v p now)

-- an acceptance is refused
not_requested : (s : State) → has_met s ≡ true → is_requested s ≡ false
not_requested st.RfcReceived met = absurd (false≢true met)
not_requested s met = refl

not_accepted : (e : EndView) (start now : ℕ) → has_met e.conn.state ≡ true
    → (end_of_call e (Accept start now)).read ≡ e.read
not_accepted e start now met =
    (refused_keeps e (Accept start now)
    (ap (λ (a : Acted (Result (Unit {0}) ConnFault)). is_refused (Did a.answer))
    (cond-false (is_requested e.conn.state) _ _ (not_requested e.conn.state met)))).read

-- ---- a read

given_none : (given : ReadEnd) (items : List ItemView) → given_by given ≡ None → with_given given items ≡ items
given_none (gave.Item item) items h = absurd (cc)
given_none gave.Nothing items h = refl
given_none (gave.Ended state) items h = refl

given_some : (given : ReadEnd) (items : List ItemView) (item : ItemView) → given_by given ≡ Some item
    → with_given given items ≡ items ++ item ∷ []
given_some (gave.Item one) items item h = ap (λ (i : ItemView). items ++ i ∷ []) (some_eq h)
given_some gave.Nothing items item h = absurd (cc)
given_some (gave.Ended state) items item h = absurd (cc)

given_item : (given : ReadEnd) (item : ItemView) → given_by given ≡ Some item → given ≡ gave.Item item
given_item (gave.Item one) item h = ap gave.Item (some_eq h)
given_item gave.Nothing item h = absurd (cc)
given_item (gave.Ended state) item h = absurd (cc)

-- one place nearer
nearer : (i : ℕ) (item front : ItemView) (e f : EndView) → f.read ≡ e.read ++ front ∷ []
    → ((place : ℕ) (one : ItemView) → held_at e.conn (place + 1) ≡ Some one → held_at f.conn place ≡ Some one)
    → (Waits i item e ⊎ (i < length e.read)) → Waits i item f ⊎ (i < length f.read)
nearer i item front e f grows moves (inl w) = by w.place w.index w.held
  where
    longer : length f.read ≡ suc (length e.read)
    longer = ap length grows ∙ length-one_more e.read front

    by : (place : ℕ) → length e.read + place ≡ i → held_at e.conn place ≡ Some item
        → Waits i item f ⊎ (i < length f.read)
    by zero index held = inr (omega (arith, longer, index))
    by (suc k) index held =
        let next : k + 1
        ≡ suc k = omega arith in inl
        (record
        { place = k; index = omega (arith, longer, index); held = moves k item (ap (held_at e.conn) next ∙ held) })
nearer i item front e f grows moves (inr early) =
    let longer : length f.read ≡ suc (length e.read) = ap length grows
    ∙ length-one_more e.read front in inr (omega (arith, longer, early))

read_keeps : (i : ℕ) (item : ItemView) (e : EndView) → has_met e.conn.state ≡ true
    → (Waits i item e ⊎ (i < length e.read)) → Keeps i item (end_of_call e Read)
read_keeps i item e met w = by (front_of e.conn) refl
  where
    r : IsReadBy e.conn (act_read e.conn)
    r = held_is_read e.conn met

    by : (o : Option ItemView) → front_of e.conn ≡ o → Keeps i item (end_of_call e Read)
    by None front =
        kept_by i item e (end_of_call e Read) (given_none (act_read e.conn).answer e.read (r.gives ∙ front))
        (r.stays front) w
    by (Some first) front =
        inr
        (r.met, nearer i item first e (end_of_call e Read) (given_some (act_read e.conn).answer e.read first (r.gives ∙ front)) (r.nearer first front) w)

call_keeps : (i : ℕ) (item : ItemView) (e : EndView) (call : Call) → begins call ≡ false → has_met e.conn.state ≡ true
    → (Waits i item e ⊎ (i < length e.read)) → Keeps i item (end_of_call e call)
call_keeps i item e (Request me peer contact start now) b met w = absurd (false≢true (sym b))
call_keeps i item e (TakeRequest rfc me now) b met w = absurd (false≢true (sym b))
call_keeps i item e (Accept start now) b met w =
    stays_by i item e (end_of_call e (Accept start now)) (not_accepted e start now met)
    (held_stays e.conn (Accept start now) refl refl met) w
call_keeps i item e (Answer bytes) b met w =
    stays_by i item e (end_of_call e (Answer bytes)) (either_same _ _) (held_stays e.conn (Answer bytes) refl refl met)
    w
call_keeps i item e (Reject text) b met w =
    stays_by i item e (end_of_call e (Reject text)) (either_same _ _) (held_stays e.conn (Reject text) refl refl met) w
call_keeps i item e (Deliver p now) b met w =
    stays_by i item e (end_of_call e (Deliver p now)) (delivery_keeps e p now (met_unopened e.conn p now met)).read
    (held_stays e.conn (Deliver p now) refl refl met) w
call_keeps i item e (Write op bytes now) b met w =
    stays_by i item e (end_of_call e (Write op bytes now)) (either_same _ _)
    (held_stays e.conn (Write op bytes now) refl refl met) w
call_keeps i item e (Unc bytes) b met w =
    stays_by i item e (end_of_call e (Unc bytes)) (either_same _ _) (held_stays e.conn (Unc bytes) refl refl met) w
call_keeps i item e Read b met w = read_keeps i item e met w
call_keeps i item e FinishRead b met w = read_keeps i item e met w
call_keeps i item e (Announce window) b met w =
    stays_by i item e (end_of_call e (Announce window)) (either_same _ _)
    (held_stays e.conn (Announce window) refl refl met) w
call_keeps i item e (Close text) b met w =
    stays_by i item e (end_of_call e (Close text)) (either_same _ _) (held_stays e.conn (Close text) refl refl met) w
call_keeps i item e (Tick now) b met w =
    stays_by i item e (end_of_call e (Tick now)) refl (held_stays e.conn (Tick now) refl refl met) w

-- ---- the events of a net

-- the story of a name goes on to one that keeps the item
abbrev GoesOn : ℕ → ItemView → (Name → Option Story) → Name → Type 0
GoesOn i item stories d = (t : Story) × (stories d ≡ Some t) × Keeps i item t.end

fits_free : (v : HostView) (place : ℕ) (slot : Slot) (call : Call) → begins call ≡ true → FitsSlot v place slot call
    → is_free slot ≡ true
fits_free v place slot (Request me peer contact start now) b h = h.0
fits_free v place slot (TakeRequest rfc me now) b h = h.0
fits_free v place slot (Accept start now) b h = absurd (false≢true b)
fits_free v place slot (Answer bytes) b h = absurd (false≢true b)
fits_free v place slot (Reject text) b h = absurd (false≢true b)
fits_free v place slot (Deliver p now) b h = absurd (false≢true b)
fits_free v place slot (Write op bytes now) b h = absurd (false≢true b)
fits_free v place slot (Unc bytes) b h = absurd (false≢true b)
fits_free v place slot Read b h = absurd (false≢true b)
fits_free v place slot FinishRead b h = absurd (false≢true b)
fits_free v place slot (Announce window) b h = absurd (false≢true b)
fits_free v place slot (Close text) b h = absurd (false≢true b)
fits_free v place slot (Tick now) b h = absurd (false≢true b)

-- the story of the connection in a slot, after its call
pub slot_story : (own : Station) (place : ℕ) (call : Call) (from : Option Name) (slot : Slot) (d : Name) (s : Story)
    → slice_get own.host.slots place ≡ Some slot → d ≡ present own place → own.story d ≡ Some s
    → (after_slot own place call from (slice_get own.host.slots place)).story d ≡ Some (goes_on s call from)
slot_story own place call from slot d s there same story =
    let c : Name = present own place in
    let next : Option Story = story_after (own.story c) slot.conn call from in
    ap (λ o. (after_slot own place call from o).story d) there
    ∙ ap (with_story own.story c next) same
    ∙ look_own own.story c next
    ∙ ap (λ o. story_after o slot.conn call from) (ap own.story (sym same) ∙ story)

deed_keeps : (own : Station) (i : ℕ) (item : ItemView) (d : Name) (s : Story) (e : Deed) (made : HostMade)
    (from : Option Name)
    → ((place : ℕ) (slot : Slot) → slice_get own.host.slots place ≡ Some slot → IsSlot own place slot)
    → IsDeed own.host e made → own.story d ≡ Some s → Keeps i item s.end → GoesOn i item (after_deed own e from).story d
deed_keeps own i item d s Nothing made from slots k story keeps = (s, story, keeps)
deed_keeps own i item d s (Does place call) made from slots k story keeps =
    let c : Name = present own place in
    ⊎_elim
    (λ (same : d ≡ c).
    ⊎_elim
    (λ (b : begins call ≡ true).
    let none = (slots place k.slot k.there).free (fits_free own.host place k.slot call b k.fits) in
    let missing : None ≡ Some s = sym none ∙ ap own.story (sym same) ∙ story in absurd (cc))
    (λ (b : begins call ≡ false).
    let used = not_begins own.host place k.slot call b k.fits in
    let u = (slots place k.slot k.there).used used in
    let is : u.0 ≡ s = some_eq (sym u.1 ∙ ap own.story (sym same) ∙ story) in
    let live : is_inactive s.end.conn.state ≡ false =
    ap (λ (z : Story). is_inactive z.end.conn.state) (sym is) ∙ ap (λ v. is_inactive v.state) u.2 ∙ used in
    let m = not_closed i item s.end live keeps in
    (goes_on s call from, slot_story own place call from k.slot d s k.there same story, call_keeps i item s.end call b m.0 m.1))
    (cases_Bool (begins call)))
    (λ (apart : d ≡ c → ⊥). (
      s,
      ap (λ o. (after_slot own place call from o).story d) k.there
          ∙ look_other own.story c (story_after (own.story c) k.slot.conn call from) d apart
          ∙ story,
      keeps,
    ))
    (name_eq d c)

event_keeps : (n : Net) (y : Side) (event : HostEvent) (from : Option Name) → ArePlayed n → IsEvent event
    → (x : Side) (i : ℕ) (item : ItemView) (d : Name) (s : Story) → (n x).story d ≡ Some s → Keeps i item s.end
    → GoesOn i item (after_event n y event from x).story d
event_keeps n A event from h is A i item d s story keeps =
    deed_keeps (n A) i item d s (deed_of (n A).host event) (host_made (n A).host event) from (h A).station.slots
    (has_deeds (n A).host event (h A).station.host is) story keeps
event_keeps n A event from h is B i item d s story keeps = (s, story, keeps)
event_keeps n B event from h is A i item d s story keeps = (s, story, keeps)
event_keeps n B event from h is B i item d s story keeps =
    deed_keeps (n B) i item d s (deed_of (n B).host event) (host_made (n B).host event) from (h B).station.slots
    (has_deeds (n B).host event (h B).station.host is) story keeps

own_event : (event : HostEvent) → IsOwn event → IsEvent event
own_event (Comes p now) h = tt
own_event (Connects peer contact start now) h = tt
own_event (Calls id call) h = h
own_event (Ends id call) h = h
own_event (Releases id) h = tt
own_event (Listens contact) h = tt
own_event (Ticks place now) h = tt

arrives_keeps : (n : Net) (y : Side) (now : ℕ) (o : Option Sent) → ArePlayed n
    → (x : Side) (i : ℕ) (item : ItemView) (d : Name) (s : Story) → (n x).story d ≡ Some s → Keeps i item s.end
    → GoesOn i item (arrives n y now o x).story d
arrives_keeps n y now None h x i item d s story keeps = (s, story, keeps)
arrives_keeps n y now (Some q) h x i item d s story keeps =
    event_keeps n y (Comes q.packet now) q.by h tt x i item d s story keeps

step_keeps : (n : Net) (event : NetEvent) → ArePlayed n → CanHappen n event
    → (x : Side) (i : ℕ) (item : ItemView) (d : Name) (s : Story) → (n x).story d ≡ Some s → Keeps i item s.end
    → GoesOn i item (happens n event x).story d
step_keeps n (At y event) h can x i item d s story keeps =
    event_keeps n y event None h (own_event event can) x i item d s story keeps
step_keeps n (Arrives y number now) h can x i item d s story keeps =
    arrives_keeps n y now (slice_get (n (other y)).sent number) h x i item d s story keeps

run_keeps : (events : List NetEvent) (n m : Net) → ArePlayed n → Run n events m
    → (x : Side) (i : ℕ) (item : ItemView) (d : Name) (s : Story) → (n x).story d ≡ Some s → Keeps i item s.end
    → GoesOn i item (m x).story d
run_keeps [] n m h run x i item d s story keeps = (s, ap (λ (k : Net). (k x).story d) run ∙ story, keeps)
run_keeps (event ∷ events) n m h run x i item d s story keeps =
    let one = step_keeps n event h run.0 x i item d s story keeps in
    run_keeps events (happens n event) m (steps_are_played n event h run.0) run.1 x i item d one.0 one.1 one.2

-- ---- from the arrival on

early_or_not : (i read : ℕ) → (i < read) ⊎ (read ≤ i)
early_or_not i read = by (nat_lt i read) refl
  where
    by : (b : Bool) → nat_lt i read ≡ b → (i < read) ⊎ (read ≤ i)
    by true h = inl (grind (arith, nat_tests))
    by false h = inr (grind (arith, nat_tests))

arrival_keeps : (n : Net) (x : Side) (number now i : ℕ) (c d : Name) (s t : Story) → Reached n
    → (k : ComesInside n x number c d s t i)
    → GoesOn i (item_of k.packet.packet) (happens n (Arrives x number now) x).story d
arrival_keeps n x number now i c d s t r k =
    let q : Sent = k.packet in
    let p : PacketView = q.packet in
    let met : has_met t.end.conn.state ≡ true = ap has_met k.open_end in
    let read = (delivery_keeps t.end p now (met_unopened t.end.conn p now met)).read in
    let f : EndView = end_of_call t.end (Deliver p now) in (
      goes_on t (Deliver p now) q.by,
      comes_after n x number now q d k.sent
          ∙ ap (λ e. (after_deed (n x) e q.by).story d) (comes_to n x number now i c d s t r k)
          ∙ slot_story (n x) d.place (Deliver p now) q.by k.slot d t (slot_at n x number i c d s t r k)
          (λ j. record { place = d.place; turn = sym k.present j }) k.there,
      ⊎_elim
          (λ (early : i < length t.end.read). stays_by i (item_of p) t.end f read
          (held_stays t.end.conn (Deliver p now) refl refl met) (inr early))
          (λ (late : length t.end.read ≤ i).
          let index : length t.end.read + (i - length t.end.read) ≡ i = omega (arith, late) in
          let w : Waits i (item_of p) f = record {
            place = i - length t.end.read;
            index = ap (λ (xs : List ItemView). length xs + (i - length t.end.read)) read ∙ index;
            held = coming n x number now i (i - length t.end.read) c d s t r k index;
          } in
          waits_there (item_of p) t.end f (held_stays t.end.conn (Deliver p now) refl refl met) w)
          (early_or_not i (length t.end.read)),
    )
  where
    waits_there : (item : ItemView) (e f : EndView) → (is_inactive f.conn.state ≡ true) ⊎ HoldsAs e.conn f.conn
        → Waits i item f → Keeps i item f
    waits_there item e f (inl closed) w = inl closed
    waits_there item e f (inr h) w = inr (h.met, inl w)

-- what is held in front is what a read hands out
front_read : (i : ℕ) (item : ItemView) (e : EndView) → has_met e.conn.state ≡ true → length e.read ≡ i
    → (Waits i item e ⊎ (i < length e.read)) → (act_read e.conn).answer ≡ gave.Item item
front_read i item e met index (inr early) = absurd (omega (arith, index, early))
front_read i item e met index (inl w) =
    let at : w.place ≡ 0 = let far = w.index in omega (arith, index, far) in
    given_item (act_read e.conn).answer item ((held_is_read e.conn met).gives ∙ ap (held_at e.conn) (sym at) ∙ w.held)

pub reads_in_turn : ReadsInTurn
reads_in_turn n m x number now i c d s t u events r k run there used index =
    let item : ItemView = item_of k.packet.packet in
    let h = reached_is_played n r in
    let can : CanHappen n (Arrives x number now) = λ q at. subst (IsFresh n x) (some_eq (sym k.sent ∙ at)) k.fresh in
    let a = arrival_keeps n x number now i c d s t r k in
    let z =
    run_keeps events (happens n (Arrives x number now)) m (steps_are_played n (Arrives x number now) h can) run x i
    item d a.0 a.1 a.2 in
    let same : z.0 ≡ u = some_eq (sym z.1 ∙ there) in
    let last = not_closed i item u.end used (subst (λ (y : Story). Keeps i item y.end) same z.2) in
    front_read i item u.end last.0 index last.1
