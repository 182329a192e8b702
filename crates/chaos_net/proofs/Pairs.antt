-- What each step makes of a pair: a laboratory goes on to play it.
use Rattle.std.proofs.Common.{◌≡◌, ℕ, ◌+◌, ◌-◌, ◌<◌, ◌≤◌, ◌==◌, ◌||◌, ◌&&◌, List, [], ◌∷◌, ◌++◌, length, map, Bool, true, false, if◌then◌else◌, Option, Some, None, Ok, refl, sym, ap, ◌∙◌, subst, inl, inr, ⊎_elim, arith}
use Rattle.std.specs.Prelude.{slice_get, nat_lt}
use Rattle.std.proofs.lemmas.Bool.{false≢true, cond-true, cond-false, cases_Bool, lt-ltb}
use Rattle.chaos_packet.specs.Begins.{Begins}
use Rattle.chaos_packet.specs.Item.{ItemView}
use Rattle.chaos_packet.specs.Number.{num, off}
use Rattle.chaos_packet.specs.Opcode.{kind_of, is_rfc}
use Rattle.chaos_packet.specs.Packet.{PacketView, item_of}
use Rattle.chaos_packet.specs.declared.limits.TheConstants.{MAX_DATA}
use Rattle.chaos_window.specs.Receive.{started_receive, after_arrival}
use Rattle.chaos_conn.specs.declared.state.End.{End}
use Rattle.chaos_conn.specs.declared.state.State.{State}
use Rattle.chaos_conn.specs.declared.state.State.TheVariants as st
use Rattle.chaos_conn.specs.Config.{ConfigView, IsConfig}
use Rattle.chaos_conn.specs.State.{is_live, is_inactive, is_requested}
use Rattle.chaos_conn.specs.View.{ConnView, moment, new_conn}
use Rattle.chaos_conn.specs.Acted.{Acted, map_answer, quietly}
use Rattle.chaos_conn.specs.Sending.{carries_ack, with_item}
use Rattle.chaos_conn.specs.Opening.{Outcome, act_request, closed_conn, rfc_item, after_asking, after_taking_rfc}
use Rattle.chaos_conn.specs.Arriving.{act_deliver}
use Rattle.chaos_conn.specs.Act.{Call, Reply, act}
use Rattle.chaos_conn.specs.Act.Call.{Request, TakeRequest, Accept, Answer, Reject, Deliver, Write, Unc, Read, FinishRead, Announce, Close, Tick}
use Rattle.chaos_conn.specs.Act.Reply.{Did, Came}
use Rattle.chaos_conn.specs.Names.{IsBare, begins, is_refused, renamed, renamed_packet, renamed_in, Opens, Stays}
use Rattle.chaos_conn.proofs.Alike.{not_rfc}
use Rattle.chaos_conn.proofs.NamesStay.{opens_or_stays}
use Rattle.chaos_lab.specs.declared.side.Side.{Side}
use Rattle.chaos_lab.specs.declared.side.Side.TheVariants.{A, B}
use Rattle.chaos_lab.specs.declared.stamped.Stamped.{Stamped}
use Rattle.chaos_lab.specs.Machine.{other}
use Rattle.chaos_lab.specs.Shown.{place_of, address_of}
use Rattle.chaos_lab.specs.Laboratory.{LabView, EndView, stamp, call_at, call_effect, after_call, is_fresh, refusal_of, with_written}
use Rattle.chaos_lab.specs.Tied.{HasMachine}
use Rattle.chaos_lab.specs.Plays.{names_of, IsCopyTo, begun_lab}
use Rattle.chaos_lab.proofs.Lists.{begins_itself, begins_longer}
use Rattle.chaos_lab.proofs.Plays.{keeps_play, may_begin, may_replace, rfc_is_first, asking_waits, unasked_is_new, knows_sides, others_name_index, open_has_read}
use Rattle.chaos_net.specs.Net.{Name, Story, Sent, as_read, end_of_call, goes_on, peer_after, length_of, sent_by}
use Rattle.chaos_net.specs.Played.{plain, IsEnd, IsLinked, IsParted, Takes, lab_packet, InLab, HasRequest, IsPlayed}
use Rattle.chaos_net.proofs.Lists.{some_eq, get_front, get_split, get_unmap, either_same}
use Rattle.chaos_net.proofs.Moves.{KeepsLists, Moved, CanMove, moves, delivery_keeps, refused_keeps, over_keeps, same_end}
use Rattle.chaos_net.proofs.Holding.{end_written, end_first, linked_or_parted}

-- ---- small facts

linked_not_parted : (o : Option Name) (taker : Name) {P : Type 0} → IsLinked o taker → IsParted o taker → P
linked_not_parted None taker k p = absurd p
linked_not_parted (Some peer) taker k p = absurd (p k)

pub linked_to : (o : Option Name) (taker : Name) → o ≡ Some taker → IsLinked o taker
linked_to o taker h = subst (λ p. IsLinked p taker) (sym h) refl

parted_not : (o : Option Name) (taker : Name) {P : Type 0} → IsParted o taker → o ≡ Some taker → P
parted_not o taker p h = linked_not_parted o taker (linked_to o taker h) p

-- a copy stays in the laboratory
pub in_front : (l m : LabView) (more : List Stamped) (y : Side) (p : PacketView) (a b : ℕ) → m.copies ≡ l.copies ++ more
    → InLab l y p a b → InLab m y p a b
in_front l m more y p a b is h = (h.0, ap (λ cs. slice_get cs h.0) is ∙ get_front l.copies more h.0 _ h.1)

request_front : (l m : LabView) (more : List Stamped) → m.copies ≡ l.copies ++ more → HasRequest l → HasRequest m
request_front l m more is h = record {
  number = h.number;
  copy = h.copy;
  there = ap (λ cs. slice_get cs h.number) is ∙ get_front l.copies more h.number h.copy h.there;
  rfc = h.rfc;
  len_a = h.len_a;
  len_b = h.len_b;
}

not_bare : (p : PacketView) {P : Type 0} → carries_ack (kind_of p.op) ≡ true → IsBare p → P
not_bare p ack bare = absurd (false≢true (sym bare.0 ∙ ack))

-- a packet that carries an acknowledgement lies in the laboratory as its end sent it
as_sent : (l : LabView) (y : Side) (known : Option ℕ) (p : PacketView) (a b k : ℕ) → HasMachine l
    → carries_ack (kind_of p.op) ≡ true
    → slice_get l.copies k ≡ Some (stamp y a b (renamed_packet (names_of y) known p))
    → slice_get l.copies k ≡ Some (stamp y a b (lab_packet y p))
as_sent l y known p a b k h ack there =
    let one =
    others_name_index l k (stamp y a b (renamed_packet (names_of y) known p)) h there
    (not_rfc (kind_of p.op) ack) in
    there ∙ (λ j. Some (stamp y a b (record (lab_packet y p) { dst_index = one j })))

-- what a move puts out
put_in : (l : LabView) (y : Side) (e : EndView) (call : Call) (m : Moved l y e call) (j : ℕ) (p : PacketView) (a b : ℕ)
    → slice_get (act e.conn call).packets j ≡ Some p → carries_ack (kind_of p.op) ≡ true
    → a ≡ length m.lab.a.written → b ≡ length m.lab.b.written → InLab m.lab y p a b
put_in l y e call m j p a b at ack is_a is_b =
    ⊎_elim
    (λ (bare : IsBare p). not_bare p ack bare)
    (λ
    (k : (k : ℕ)
    × (slice_get m.lab.copies k
    ≡ Some
    (stamp y (length m.lab.a.written) (length m.lab.b.written)
    (renamed_packet (names_of y) (act e.conn call).view.peer_index p)))).
    (k.0, as_sent m.lab y (act e.conn call).view.peer_index p (length m.lab.a.written) (length m.lab.b.written) k.0 m.machine ack k.1 ∙ (λ i. Some (stamp y (sym is_a i) (sym is_b i) (lab_packet y p)))))
    (m.sent j p at)

-- a packet that carries an acknowledgement and lies there as a copy, and is fresh, comes as one
fresh_lt : (n m : ℕ) → n < m + 32640 → nat_lt (n - m) 32640 ≡ true
fresh_lt n m h = lt-ltb (n - m) 32640 (omega (arith, h))

both_true : (a b : Bool) → a ≡ true → b ≡ true → (a && b) ≡ true
both_true true true p q = refl
both_true true false p q = absurd (false≢true q)
both_true false b p q = absurd (false≢true p)

pub copy_to : (l : LabView) (y : Side) (p : PacketView) (a b : ℕ) → InLab l (other y) p a b
    → length l.a.written < a + 32640 → length l.b.written < b + 32640 → IsCopyTo l y (renamed_in (names_of y) p)
copy_to l A p a b h fa fb =
    record { number = h.0; copy = stamp B a b (lab_packet B p); there = h.1; side = refl; packet = refl; fresh = both_true _ _ (fresh_lt (length l.a.written) a fa) (fresh_lt (length l.b.written) b fb) }
copy_to l B p a b h fa fb =
    record { number = h.0; copy = stamp A a b (lab_packet A p); there = h.1; side = refl; packet = refl; fresh = both_true _ _ (fresh_lt (length l.a.written) a fa) (fresh_lt (length l.b.written) b fb) }

-- ---- nobody of the pair moves

-- what is put out is of another
abbrev pub OfOther : List Sent → Name → Type 0
OfOther new name = (j : ℕ) (q : Sent) → slice_get new j ≡ Some q → q.by ≡ Some name → ⊥

pub pair_waits : (x : Side) (asker taker : Name) (r : Story) (t : Option Story) (from_r from_t new_r new_t : List Sent)
    (config : ConfigView) (l : LabView)
    → IsPlayed x asker taker r t from_r from_t config l
    → OfOther new_r asker → OfOther new_t taker
    → IsPlayed x asker taker r t (from_r ++ new_r) (from_t ++ new_t) config l
pair_waits x asker taker r t from_r from_t new_r new_t config l p other_r other_t = record {
  machine = p.machine;
  first = p.first;
  linked = p.linked;
  parted = p.parted;
  taken = p.taken;
  new = p.new;
  request = p.request;
  sent_a =
      λ k q at by ack peer. ⊎_elim (λ (h : slice_get from_r k ≡ Some q). p.sent_a k q h by ack peer)
      (λ (h : (j : ℕ) × (slice_get new_r j ≡ Some q)). absurd (other_r h.0 q h.1 by))
      (get_split from_r new_r k q at);
  sent_b =
      λ k q at by ack takes link. ⊎_elim (λ (h : slice_get from_t k ≡ Some q). p.sent_b k q h by ack takes link)
      (λ (h : (j : ℕ) × (slice_get new_t j ≡ Some q)). absurd (other_t h.0 q h.1 by))
      (get_split from_t new_t k q at);
}

-- ---- the other connection isn't, and doesn't become, one that took the request

pub pair_untaken : (x : Side) (asker taker : Name) (r : Story) (t u : Option Story) (from_r from_t from_u : List Sent)
    (config : ConfigView) (l : LabView)
    → IsPlayed x asker taker r t from_r from_t config l
    → (Takes t asker → ⊥) → (Takes u asker → ⊥)
    → ((k : ℕ) (q : Sent) → slice_get from_r k ≡ Some q → q.by ≡ Some asker → r.peer ≡ Some taker → ⊥)
    → IsPlayed x asker taker r u from_r from_u config l
pair_untaken x asker taker r t u from_r from_t from_u config l p no_t no_u apart = record {
  machine = p.machine;
  first = p.first;
  linked = p.linked;
  parted = p.parted;
  taken = λ s is takes. absurd (no_u (subst (λ o. Takes o asker) (sym is) takes));
  new = λ _. p.new no_t;
  request = p.request;
  sent_a = λ k q at by ack peer. absurd (apart k q at by peer);
  sent_b = λ k q at by ack takes link. absurd (no_u takes);
}

-- ---- the taker moves

pub pair_b : (x : Side) (asker taker : Name) (r s : Story) (from_r from_t : List Sent) (config : ConfigView)
    (l : LabView) (call : Call) (from : Option Name) (lengths : Side → Name → ℕ)
    → IsPlayed x asker taker r (Some s) from_r from_t config l → s.asked ≡ false → s.peer ≡ Some asker
    → (goes_on s call from).peer ≡ Some asker → begins call ≡ false → CanMove l B s.end call
    → lengths x asker ≡ length r.end.written → lengths (other x) taker ≡ length (goes_on s call from).end.written
    → (m : LabView)
    × IsPlayed x asker taker r (Some (goes_on s call from)) from_r
    (from_t ++ map (sent_by (Some taker) lengths) (act s.end.conn call).packets) config m
pair_b x asker taker r s from_r from_t config l call from lengths p asked peer still b can len_r len_t =
    let is = p.taken s refl (asked, peer) in
    let m = moves l B s.end call p.machine is b can in
    let same : m.lab.a ≡ l.a = m.rest in (
      m.lab,
      record {
        machine = m.machine;
        first = ap (λ e. e.first) same ∙ p.first;
        linked = λ k. subst (IsEnd A r.end) (sym same) (p.linked k);
        parted =
            λ k. subst (λ (e : EndView). (length e.written ≤ 1) × Begins e.written r.end.written) (sym same)
            (p.parted k);
        taken = λ u is_u takes. subst (λ (v : Story). IsEnd B v.end m.lab.b) (some_eq is_u) m.ends;
        new = λ none. absurd (none (asked, still));
        request = request_front l m.lab m.more m.copies p.request;
        sent_a = λ k q at by ack to. in_front l m.lab m.more A q.packet _ _ m.copies (p.sent_a k q at by ack to);
        sent_b = λ k q at by ack takes link.
            ⊎_elim
            (λ (h : slice_get from_t k ≡ Some q). in_front l m.lab m.more B q.packet _ _ m.copies
            (p.sent_b k q h by ack (asked, peer) link))
            (λ
            (h : (j : ℕ)
            × (slice_get (map (sent_by (Some taker) lengths) (act s.end.conn call).packets) j ≡ Some q)).
            let u = get_unmap (sent_by (Some taker) lengths) (act s.end.conn call).packets h.0 q h.1 in
            subst (λ (v : Sent). InLab m.lab B v.packet (v.lengths x asker) (v.lengths (other x) taker)) u.2
            (put_in l B s.end call m h.0 u.0 (lengths x asker) (lengths (other x) taker) u.1
            (subst (λ (v : Sent). carries_ack (kind_of v.packet.op) ≡ true) (sym u.2) ack)
            (len_r ∙ sym (ap length (ap (λ e. e.written) same ∙ end_written A r.end l.a (p.linked link))))
            (len_t ∙ sym (ap length (end_written B (end_of_call s.end call) m.lab.b m.ends)))))
            (get_split from_t _ k q at);
      },
    )

-- ---- the asker moves

-- lists only grow
written_grows : (call : Call) (ps : List PacketView) (items : List ItemView) → Begins items (with_written call ps items)
written_grows (Write op bytes now) ps items = begins_longer items items _ (begins_itself items)
written_grows (Accept start now) ps items = begins_longer items items _ (begins_itself items)
written_grows (Request me peer contact start now) ps items = begins_itself items
written_grows (TakeRequest rfc me now) ps items = begins_itself items
written_grows (Answer bytes) ps items = begins_itself items
written_grows (Reject text) ps items = begins_itself items
written_grows (Deliver p now) ps items = begins_itself items
written_grows (Unc bytes) ps items = begins_itself items
written_grows Read ps items = begins_itself items
written_grows FinishRead ps items = begins_itself items
written_grows (Announce window) ps items = begins_itself items
written_grows (Close text) ps items = begins_itself items
written_grows (Tick now) ps items = begins_itself items

pub end_grows : (e : EndView) (call : Call) → Begins e.written (end_of_call e call).written
end_grows e call = by (is_refused (act e.conn (as_read call)).answer)
  where
    by : (b : Bool)
        → Begins e.written
        (if b then e.written else with_written (as_read call) (act e.conn (as_read call)).packets e.written)
    by true = begins_itself e.written
    by false = written_grows (as_read call) (act e.conn (as_read call)).packets e.written

-- it was linked, and is: its end moves
pub pair_a : (x : Side) (asker taker : Name) (r : Story) (t : Option Story) (from_r from_t : List Sent)
    (config : ConfigView) (l : LabView) (call : Call) (from : Option Name) (lengths : Side → Name → ℕ)
    → IsPlayed x asker taker r t from_r from_t config l → IsLinked r.peer taker
    → IsLinked (goes_on r call from).peer taker → begins call ≡ false → CanMove l A r.end call
    → lengths x asker ≡ length (goes_on r call from).end.written → lengths (other x) taker ≡ length_of t
    → ((goes_on r call from).peer ≡ Some taker → Takes t asker)
    → ((k : ℕ) (q : Sent) → slice_get from_r k ≡ Some q → q.by ≡ Some asker → carries_ack (kind_of q.packet.op) ≡ true
    → (peer : Name) × (r.peer ≡ Some peer))
    → (m : LabView)
    × IsPlayed x asker taker (goes_on r call from) t
    (from_r ++ map (sent_by (Some asker) lengths) (act r.end.conn call).packets) from_t config m
pair_a x asker taker r t from_r from_t config l call from lengths p link still b can len_r len_t met old =
    let is = p.linked link in
    let m = moves l A r.end call p.machine is b can in
    let same : m.lab.b ≡ l.b = m.rest in
    let was : (o : Option Name) → r.peer ≡ o → IsLinked o taker → (peer : Name) → r.peer ≡ Some peer
    → r.peer ≡ Some taker =
    λ o q k peer h. h ∙ ap Some (subst (λ z. IsLinked z taker) (sym q ∙ h) k) in (
      m.lab,
      record {
        machine = m.machine;
        first = end_first A (end_of_call r.end call) m.lab.a m.ends;
        linked = λ _. m.ends;
        parted = λ k. linked_not_parted (goes_on r call from).peer taker still k;
        taken = λ s is_s takes. subst (IsEnd B s.end) (sym same) (p.taken s is_s takes);
        new =
            λ none. let n = p.new
            none in (m.asked ∙ n.0, ap (λ e. e.conn.config) same ∙ n.1, ap (λ e. e.first) same ∙ n.2);
        request = request_front l m.lab m.more m.copies p.request;
        sent_a = λ k q at by ack to.
            ⊎_elim
            (λ (h : slice_get from_r k ≡ Some q). let o = old k q h by ack in in_front l m.lab m.more A q.packet _ _
            m.copies (p.sent_a k q h by ack (was r.peer refl link o.0 o.1)))
            (λ
            (h : (j : ℕ)
            × (slice_get (map (sent_by (Some asker) lengths) (act r.end.conn call).packets) j ≡ Some q)).
            let u = get_unmap (sent_by (Some asker) lengths) (act r.end.conn call).packets h.0 q h.1 in
            subst (λ (v : Sent). InLab m.lab A v.packet (v.lengths x asker) (v.lengths (other x) taker)) u.2
            (put_in l A r.end call m h.0 u.0 (lengths x asker) (lengths (other x) taker) u.1
            (subst (λ (v : Sent). carries_ack (kind_of v.packet.op) ≡ true) (sym u.2) ack)
            (len_r ∙ sym (ap length (end_written A (end_of_call r.end call) m.lab.a m.ends)))
            (len_t ∙ taken_length t refl (met to) ∙ sym (ap (λ e. length e.written) same))))
            (get_split from_r _ k q at);
        sent_b =
            λ k q at by ack takes _. in_front l m.lab m.more B q.packet _ _ m.copies
            (p.sent_b k q at by ack takes link);
      },
    )
  where
    taken_length : (o : Option Story) → t ≡ o → Takes o asker → length_of o ≡ length l.b.written
    taken_length None is takes = absurd takes
    taken_length (Some s) is takes = sym (ap length (end_written B s.end l.b (p.taken s is takes)))

-- it is another's, and goes on without the laboratory
pub pair_parted : (x : Side) (asker taker : Name) (r f : Story) (t : Option Story) (from_r from_t new : List Sent)
    (config : ConfigView) (l : LabView)
    → IsPlayed x asker taker r t from_r from_t config l → f.end.first ≡ r.end.first → IsParted f.peer taker
    → (length l.a.written ≤ 1) → Begins l.a.written f.end.written
    → IsPlayed x asker taker f t (from_r ++ new) from_t config l
pair_parted x asker taker r f t from_r from_t new config l p first apart short begins_f = record {
  machine = p.machine;
  first = p.first ∙ sym first;
  linked = λ k. linked_not_parted f.peer taker k apart;
  parted = λ _. (short, begins_f);
  taken = p.taken;
  new = p.new;
  request = p.request;
  sent_a = λ k q at by ack to. parted_not f.peer taker apart to;
  sent_b = λ k q at by ack takes link. linked_not_parted f.peer taker link apart;
}

-- one that asked is never asked, so an acceptance changes nothing
pub accept_keeps : (l : LabView) (e : EndView) (start now : ℕ) → HasMachine l → l.a ≡ plain A e
    → KeepsLists e (Accept start now)
accept_keeps l e start now h is =
    refused_keeps e (Accept start now)
    (ap (λ (a : Acted Outcome). is_refused (Did a.answer))
    (cond-false (is_requested e.conn.state) _ _
    (shut e.conn.state
    (λ (r : e.conn.state ≡ st.RfcReceived). (knows_sides l h).0 (ap (λ f. f.conn.state) is ∙ r)))))
  where
    shut : (s : State) → (s ≡ st.RfcReceived → ⊥) → is_requested s ≡ false
    shut st.RfcReceived h = absurd (h refl)
    shut st.Inactive h = refl
    shut st.RfcSent h = refl
    shut st.Open h = refl
    shut st.Answered h = refl
    shut st.ClsReceived h = refl
    shut st.LosReceived h = refl
    shut st.HostDown h = refl
    shut st.Forwarded h = refl

-- the first number of one that asked stays
pub first_stays : (l : LabView) (e : EndView) (call : Call) → HasMachine l → IsEnd A e l.a → begins call ≡ false
    → (end_of_call e call).first ≡ e.first
first_stays l e call h (inr past) b = (over_keeps e call b past.over).first
first_stays l e (Accept start now) h (inl is) b = (accept_keeps l e start now h is).first
first_stays l e (Request me peer contact start now) h (inl is) b = absurd (false≢true (sym b))
first_stays l e (TakeRequest rfc me now) h (inl is) b = absurd (false≢true (sym b))
first_stays l e (Answer bytes) h (inl is) b = either_same _ _
first_stays l e (Reject text) h (inl is) b = either_same _ _
first_stays l e (Deliver p now) h (inl is) b = refl
first_stays l e (Write op bytes now) h (inl is) b =
    either_same (is_refused (act e.conn (Write op bytes now)).answer) e.first
first_stays l e (Unc bytes) h (inl is) b = either_same _ _
first_stays l e Read h (inl is) b = refl
first_stays l e FinishRead h (inl is) b = refl
first_stays l e (Announce window) h (inl is) b = either_same _ _
first_stays l e (Close text) h (inl is) b = either_same _ _
first_stays l e (Tick now) h (inl is) b = refl

-- ---- one that asked gets a packet of another taker

-- a live one that wasn't opened waits
waits_by : (s : State) → is_live s ≡ true → (s ≡ st.RfcReceived → ⊥) → (s ≡ st.Open → ⊥) → s ≡ st.RfcSent
waits_by st.RfcSent live a b = refl
waits_by st.RfcReceived live a b = absurd (a refl)
waits_by st.Open live a b = absurd (b refl)
waits_by st.Inactive live a b = absurd (false≢true live)
waits_by st.Answered live a b = absurd (false≢true live)
waits_by st.ClsReceived live a b = absurd (false≢true live)
waits_by st.LosReceived live a b = absurd (false≢true live)
waits_by st.HostDown live a b = absurd (false≢true live)
waits_by st.Forwarded live a b = absurd (false≢true live)

pub waits : (l : LabView) (e : EndView) → HasMachine l → IsEnd A e l.a → e.read ≡ [] → is_live e.conn.state ≡ true
    → e.conn.state ≡ st.RfcSent
waits l e h (inr past) none live = absurd (false≢true (sym past.over.dead ∙ live))
waits l e h (inl is) none live =
    waits_by e.conn.state live
    (λ r. (knows_sides l h).0 (ap (λ f. f.conn.state) is ∙ r))
    (λ o. let one = open_has_read l A h (ap (λ f. f.conn.state) is ∙ o) in let zero_read : length l.a.read
    ≡ 0 = ap (λ f. length f.read) is
    ∙ ap length none in absurd (omega (arith, one, zero_read)))

-- the end that waits has written its RFC alone
waits_alone : (l : LabView) (e : EndView) → HasMachine l → IsEnd A e l.a → e.conn.state ≡ st.RfcSent
    → length l.a.written ≤ 1
waits_alone l e h (inl is) asks =
    let w = (asking_waits l h (ap (λ f. f.conn.state) is ∙ asks)).written in omega (arith, w)
waits_alone l e h (inr past) asks = absurd (false≢true (sym past.over.dead ∙ ap is_live asks))

pub pair_other : (x : Side) (asker taker c : Name) (r : Story) (t : Option Story) (from_r from_t : List Sent)
    (config : ConfigView) (l : LabView) (pk : PacketView) (now : ℕ) (lengths : Side → Name → ℕ)
    → IsPlayed x asker taker r t from_r from_t config l → r.peer ≡ None → r.end.read ≡ []
    → carries_ack (kind_of pk.op) ≡ true → (c ≡ taker → ⊥)
    → IsPlayed x asker taker (goes_on r (Deliver pk now) (Some c)) t
    (from_r ++ map (sent_by (Some asker) lengths) (act r.end.conn (Deliver pk now)).packets) from_t config l
pair_other x asker taker c r t from_r from_t config l pk now lengths p none unread ack apart =
    let call : Call = Deliver pk now in
    let f : Story = goes_on r call (Some c) in
    let link : IsLinked r.peer taker = subst (λ o. IsLinked o taker) (sym none) tt in
    let is = p.linked link in
    let same_written : l.a.written ≡ f.end.written = end_written A r.end l.a is in
    ⊎_elim
    (λ (o : Opens r.end.conn pk (act_deliver r.end.conn pk now)).
    let peer : f.peer ≡ Some c =
    ap (λ z. peer_after z (Came (act_deliver r.end.conn pk now).answer) (Some c)) none
    ∙ ap (λ (b : Bool). if b then Some c else None) o.opened in
    pair_parted x asker taker r f t from_r from_t _ config l p refl (subst (λ z. IsParted z taker) (sym peer) apart)
    (waits_alone l r.end p.machine is o.asked)
    (subst (Begins l.a.written) same_written (begins_itself l.a.written)))
    (λ (s : Stays r.end.conn pk (act_deliver r.end.conn pk now)).
    let peer : f.peer ≡ None =
    ap (λ z. peer_after z (Came (act_deliver r.end.conn pk now).answer) (Some c)) none
    ∙ ap (λ (b : Bool). if b then Some c else None) s.opened in
    let still : ((act_deliver r.end.conn pk now).view ≡ r.end.conn) × ((act_deliver r.end.conn pk now).packets ≡ []) =
    ⊎_elim (λ (live : is_live r.end.conn.state ≡ true). s.asked (waits l r.end p.machine is unread live) ack)
    (λ (dead : is_live r.end.conn.state ≡ false). s.dead dead) (cases_Bool (is_live r.end.conn.state)) in
    record {
      machine = p.machine;
      first = p.first;
      linked = λ _. same_end l A r.end call is still.0 (delivery_keeps r.end pk now s.opened);
      parted = λ k. linked_not_parted f.peer taker (subst (λ o. IsLinked o taker) (sym peer) tt) k;
      taken = p.taken;
      new = p.new;
      request = p.request;
      sent_a = λ k q at by ack to. let no : None ≡ Some taker = sym peer ∙ to in absurd (cc);
      sent_b = λ k q at by ack takes _. p.sent_b k q at by ack takes link;
    })
    (opens_or_stays r.end.conn pk now)

-- ---- a request is taken

-- the story of a connection that takes a request
abbrev pub taken_story : ConnView → PacketView → End → ℕ → Name → Story
taken_story conn pk me now asker =
    record { end = record { conn = (act conn (TakeRequest pk me now)).view; first = 0; written = []; read = [] }; asked = false; peer = Some asker }

pub takes_rfc : (conn : ConnView) (pk : PacketView) (me : End) (now : ℕ) → is_inactive conn.state ≡ true
    → (me.address == 0) ≡ false → (pk.src == 0) ≡ false → is_rfc (kind_of pk.op) ≡ true
    → act conn (TakeRequest pk me now)
    ≡ map_answer Did (quietly (after_taking_rfc conn pk me (moment conn now)) (Ok tt))
takes_rfc conn pk me now free here there rfc =
    ap (map_answer Did)
    (cond-true (is_inactive conn.state) _ _ free
    ∙ cond-false (me.address == 0 || pk.src == 0) _ _ (neither (me.address == 0) (pk.src == 0) here there)
    ∙ cond-true (is_rfc (kind_of pk.op)) _ _ rfc)
  where
    neither : (a b : Bool) → a ≡ false → b ≡ false → (a || b) ≡ false
    neither false false p q = refl
    neither true b p q = absurd (false≢true (sym p))
    neither false true p q = absurd (false≢true (sym q))

pub pair_taken : (x : Side) (asker taker : Name) (r : Story) (from_r from_t : List Sent) (l : LabView) (conn : ConnView)
    (pk : PacketView) (me : End) (now : ℕ) (new : List Sent)
    → IsPlayed x asker taker r None from_r from_t conn.config l → conn ≡ closed_conn conn
    → is_inactive conn.state ≡ true → (me.address == 0) ≡ false → (pk.src == 0) ≡ false
    → is_rfc (kind_of pk.op) ≡ true
    → pk.num ≡ num r.end.first 0 → slice_get r.end.written 0 ≡ Some (item_of pk)
    → (r.peer ≡ Some taker → ⊥) → ((k : ℕ) (q : Sent) → slice_get (from_t ++ new) k ≡ Some q → q.by ≡ Some taker → ⊥)
    → (m : LabView)
    × IsPlayed x asker taker r (Some (taken_story conn pk me now asker)) from_r (from_t ++ new) conn.config m
pair_taken x asker taker r from_r from_t l conn pk me now new p blank free here there rfc number item apart none =
    let n = p.new (λ h. h) in
    let l1 : LabView = record l { b = record l.b { conn = conn } } in
    let h1 : HasMachine l1 = may_replace l conn p.machine n.0 blank (sym n.1) in
    let u = unasked_is_new l p.machine n.0 in
    let c : Stamped = p.request.copy in
    let q = rfc_is_first l1 p.request.number c h1 p.request.there p.request.rfc in
    let call : Call = TakeRequest c.packet (place_of B) now in
    let fresh : is_fresh l1.a l1.b c ≡ true =
    both_true _ _ (fresh_lt (length l.a.written) c.len_a (omega (arith, u.wrote, p.request.len_a)))
    (fresh_lt (length l.b.written) c.len_b
    (let zero_b : length l.b.written ≡ 0 = ap length u.written in omega (arith, zero_b))) in
    let copy : IsCopyTo l1 B c.packet =
    record { number = p.request.number; copy = c; there = p.request.there; side = q.side; packet = refl; fresh = fresh } in
    let m : LabView = after_call l1 B call in
    let src : (c.packet.src == 0) ≡ false = ap (λ a. a == 0) q.src in
    let does = takes_rfc conn c.packet (place_of B) now free refl src p.request.rfc in
    let real = takes_rfc conn pk me now free here there rfc in
    let made : (call_at l1 B call).lab ≡ m =
    ap (λ (a : Acted Reply). (call_effect l1 B call (refusal_of a.answer)).lab) does in
    let wrote : slice_get r.end.written 0 ≡ slice_get l.a.written 0 = written_same r.peer refl in
    let same_num : c.packet.num ≡ pk.num = q.number ∙ ap (λ f. num f 0) p.first ∙ sym number in
    let same_item : item_of c.packet ≡ item_of pk = some_eq (sym q.item ∙ sym wrote ∙ item) in
    let view : (act conn call).view ≡ renamed (names_of B) (act conn (TakeRequest pk me now)).view =
    ap (λ a. a.view) does
    ∙ (λ j. record (after_taking_rfc conn c.packet (place_of B) (moment conn now)) {
      peer = q.src j;
      peer_index = Some (q.src_index j);
      request = same_num j;
      recv = after_arrival (started_receive conn.recv.cap (off (same_num j) 1)) (same_num j) (same_item j);
    })
    ∙ sym (ap (λ (a : Acted Reply). renamed (names_of B) a.view) real) in
    let ends : IsEnd B (taken_story conn pk me now asker).end m.b =
    inl (λ j. record { conn = view j; first = n.2 j; written = u.written j; read = u.read j }) in (
      m,
      record {
        machine = subst HasMachine made (keeps_play l1 B call h1 (refl, refl, p.request.rfc, n.0, copy));
        first = p.first;
        linked = p.linked;
        parted = p.parted;
        taken = λ s is takes. subst (λ (v : Story). IsEnd B v.end m.b) (some_eq is) ends;
        new = λ no. absurd (no (refl, refl));
        request = request_front l m _ refl p.request;
        sent_a = λ k s at by ack to. absurd (apart to);
        sent_b = λ k s at by ack takes link. absurd (none k s at by);
      },
    )
  where
    written_same : (o : Option Name) → r.peer ≡ o → slice_get r.end.written 0 ≡ slice_get l.a.written 0
    written_same o is =
        ⊎_elim
        (λ (k : IsLinked r.peer taker). ap (λ ws. slice_get ws 0) (sym (end_written A r.end l.a (p.linked k))))
        (λ (k : IsParted r.peer taker). first_of l.a.written r.end.written (p.parted k).1
        (let u = unasked_is_new l p.machine (p.new (λ h. h)).0 in u.wrote))
        (linked_or_parted r.peer taker)
      where
        first_of : (xs ys : List ItemView) → Begins xs ys → length xs ≡ 1 → slice_get ys 0 ≡ slice_get xs 0
        first_of [] ys b one = absurd (omega arith)
        first_of (x ∷ xs) [] b one = absurd (cc)
        first_of (x ∷ xs) (y ∷ ys) b one = let e : y ≡ x = cc in ap Some e

-- ---- a request is made

-- the story of a connection that asks
abbrev pub asked_story : ConnView → End → ℕ → List ℕ → ℕ → ℕ → Story
asked_story conn me peer contact start now =
    record { end = record { conn = (act conn (Request me peer contact start now)).view; first = start; written = rfc_item contact ∷ []; read = [] }; asked = true; peer = None }

pub asks_rfc : (conn : ConnView) (me : End) (peer : ℕ) (contact : List ℕ) (start now : ℕ)
    → is_inactive conn.state ≡ true → (me.address == 0) ≡ false → (peer == 0) ≡ false
    → nat_lt MAX_DATA (length contact) ≡ false
    → act_request conn me peer contact start now
    ≡ with_item (after_asking conn me peer start (moment conn now)) (rfc_item contact) (Ok tt)
asks_rfc conn me peer contact start now free here there short =
    cond-false (nat_lt MAX_DATA (length contact)) _ _ short ∙ cond-true (is_inactive conn.state) _ _ free
    ∙ cond-false (me.address == 0 || peer == 0) _ _ (neither (me.address == 0) (peer == 0) here there)
  where
    neither : (a b : Bool) → a ≡ false → b ≡ false → (a || b) ≡ false
    neither false false p q = refl
    neither true b p q = absurd (false≢true (sym p))
    neither false true p q = absurd (false≢true (sym q))

pub pair_asks : (x : Side) (asker taker : Name) (t : Option Story) (from_r from_t : List Sent) (config : ConfigView)
    (conn : ConnView) (me : End) (peer : ℕ) (contact : List ℕ) (start now : ℕ)
    → conn ≡ closed_conn conn → is_inactive conn.state ≡ true → (me.address == 0) ≡ false → (peer == 0) ≡ false
    → nat_lt MAX_DATA (length contact) ≡ false → length contact ≤ MAX_DATA → start < 65536
    → IsConfig conn.config → IsConfig config → (Takes t asker → ⊥)
    → IsPlayed x asker taker (asked_story conn me peer contact start now) t from_r from_t config
    (begun_lab contact conn config start now)
pair_asks x asker taker t from_r from_t config conn me peer contact start now blank free here there short fits
    start_fits right_a right_b none =
    let l : LabView = begun_lab contact conn config start now in
    let view : l.a.conn ≡ renamed (names_of A) (act conn (Request me peer contact start now)).view =
    ap (λ (a : Acted Outcome). a.view)
    (asks_rfc conn (place_of A) (address_of B) contact start now free refl refl short)
    ∙ sym
    (ap (λ (a : Acted Outcome). renamed (names_of A) a.view)
    (asks_rfc conn me peer contact start now free here there short)) in
    let first : Acted Outcome =
    with_item
    (after_asking (new_conn conn.config) (place_of A) (address_of B) start (moment (new_conn conn.config) 0))
    (rfc_item contact) (Ok tt) in
    let copies : l.copies ≡ map (stamp A 1 0) first.packets =
    ap (λ (a : Acted Outcome). map (stamp A 1 0) a.packets)
    (asks_rfc (new_conn conn.config) (place_of A) (address_of B) contact start 0 refl refl refl short) in
    record {
      machine = may_begin contact conn config start now blank fits start_fits right_a right_b;
      first = refl;
      linked = λ _. inl (λ j. record { conn = view j; first = start; written = rfc_item contact ∷ []; read = [] });
      parted = λ k. absurd k;
      taken = λ s is takes. absurd (none (subst (λ o. Takes o asker) (sym is) takes));
      new = λ _. (refl, refl, refl);
      request =
          record { number = 0; copy = _; there = ap (λ cs. slice_get cs 0) copies; rfc = refl; len_a = refl; len_b = refl };
      sent_a = λ k q at by ack to. absurd (cc);
      sent_b = λ k q at by ack takes link. absurd (none takes);
    }
