-- A call of a connection is played by an end of a laboratory.
use Rattle.std.proofs.Common.{◌≡◌, ℕ, List, [], ◌∷◌, ◌++◌, length, map, Bool, true, false, if◌then◌else◌, Option, Some, None, Result, Ok, Err, refl, sym, ap, ◌∙◌, subst, inl, inr, ◌⊎◌, ⊎_elim, nat_lt}
use Rattle.std.specs.Prelude.{slice_get}
use Rattle.std.specs.List.{AllByRecursion}
use Rattle.std.proofs.lemmas.Bool.{false≢true, cond-true, cond-false, cases_Bool}
use Rattle.chaos_packet.specs.Item.{ItemView}
use Rattle.chaos_packet.specs.Opcode.{kind_of, op_unc}
use Rattle.chaos_packet.specs.Packet.{PacketView, item_of}
use Rattle.chaos_packet.specs.declared.limits.TheConstants.{MAX_DATA}
use Rattle.chaos_conn.specs.declared.state.State.{State}
use Rattle.chaos_conn.specs.declared.state.State.TheVariants as st
use Rattle.chaos_conn.specs.declared.fault.ConnFault.{ConnFault}
use Rattle.chaos_conn.specs.declared.fault.ConnFault.TheVariants as fa
use Rattle.chaos_conn.specs.declared.answers.Delivered.{Delivered}
use Rattle.chaos_conn.specs.declared.answers.Delivered.TheVariants as answer
use Rattle.chaos_conn.specs.declared.answers.ReadEnd.{ReadEnd}
use Rattle.chaos_conn.specs.State.{is_live, is_open, is_opening, is_requested}
use Rattle.chaos_conn.specs.View.{ConnView}
use Rattle.chaos_conn.specs.Acted.{Acted, map_answer}
use Rattle.chaos_conn.specs.Sending.{carries_ack, untelling_packet}
use Rattle.chaos_conn.specs.Opening.{refusal}
use Rattle.chaos_conn.specs.Calls.{act_read, read_at_end, front_of, act_unc}
use Rattle.chaos_conn.specs.Arriving.{act_deliver}
use Rattle.chaos_conn.specs.Act.{Call, Reply, act}
use Rattle.chaos_conn.specs.Act.Call.{Request, TakeRequest, Accept, Answer, Reject, Deliver, Write, Unc, Read, FinishRead, Announce, Close, Tick}
use Rattle.chaos_conn.specs.Act.Reply.{Did, Came, Wrote, Gave, Finished, Ticks}
use Rattle.chaos_conn.specs.Names.{Names, Quiet, MayBe, IsQuiet, IsLost, IsOver, IsBare, begins, ends, is_named, is_opened, is_refused, quiet, renamed, renamed_acted, renamed_packet, renamed_in, Opens, Stays}
use Rattle.chaos_conn.specs.Names.Quiet.{Same, Heard, Tells, Ends}
use Rattle.chaos_conn.proofs.Alike.{acts_alike, comes_alike, not_rfc}
use Rattle.chaos_conn.proofs.Foreign.{foreign_is_quiet, over_stays, refused_is_same, ends_are_over, dead_is}
use Rattle.chaos_conn.proofs.NamesStay.{opens_or_stays}
use Rattle.chaos_lab.specs.declared.side.Side.{Side}
use Rattle.chaos_lab.specs.declared.side.Side.TheVariants.{A, B}
use Rattle.chaos_lab.specs.declared.stamped.Stamped.{Stamped}
use Rattle.chaos_lab.specs.Machine.{other}
use Rattle.chaos_lab.specs.Laboratory.{LabView, EndView, lab_end, stamp, call_at, call_effect, after_call, end_after, refusal_of, with_written, with_read, with_given, with_opened, first_after, asked_after}
use Rattle.chaos_lab.specs.Tied.{HasMachine}
use Rattle.chaos_lab.specs.Plays.{names_of, IsCopyTo, CanPlay, quiet_at}
use Rattle.chaos_lab.proofs.Plays.{keeps_play, keeps_quiet, knows_sides}
use Rattle.chaos_net.specs.Net.{as_read, end_by, end_of_call}
use Rattle.chaos_net.specs.Played.{plain, IsEnd}
use Rattle.chaos_net.proofs.Lists.{get_back, get_map, all_at, none_at, map_map, either_same}

-- ---- what a call leaves of both lists

pub record KeepsLists (e : EndView) (call : Call) : Type 0 where
  pub first : (end_of_call e call).first ≡ e.first
  pub written : (end_of_call e call).written ≡ e.written
  pub read : (end_of_call e call).read ≡ e.read

pub refused_keeps : (e : EndView) (call : Call) → is_refused (act e.conn (as_read call)).answer ≡ true
    → KeepsLists e call
refused_keeps e call h = record { first = cond-true _ _ _ h; written = cond-true _ _ _ h; read = cond-true _ _ _ h }

not_opened_keeps : (d : Delivered) (p : PacketView) (items : List ItemView) → is_opened d ≡ false
    → with_opened d p items ≡ items
not_opened_keeps answer.Opened p items h = absurd (false≢true (sym h))
not_opened_keeps answer.Took p items h = refl
not_opened_keeps answer.Duplicate p items h = refl
not_opened_keeps answer.Outside p items h = refl
not_opened_keeps answer.Status p items h = refl
not_opened_keeps answer.Probed p items h = refl
not_opened_keeps (answer.Unc q) p items h = refl
not_opened_keeps (answer.Answered q) p items h = refl
not_opened_keeps (answer.Forwarded q) p items h = refl
not_opened_keeps (answer.Closed q) p items h = refl
not_opened_keeps (answer.Lost q) p items h = refl
not_opened_keeps (answer.Dropped why) p items h = refl

pub delivery_keeps : (e : EndView) (p : PacketView) (now : ℕ) → is_opened (act_deliver e.conn p now).answer ≡ false
    → KeepsLists e (Deliver p now)
delivery_keeps e p now h =
    record { first = refl; written = refl; read = not_opened_keeps (act_deliver e.conn p now).answer p e.read h }

-- ---- a move

pub record Moved (l : LabView) (y : Side) (e : EndView) (call : Call) : Type 0 where
  pub lab : LabView
  pub machine : HasMachine lab
  pub ends : IsEnd y (end_of_call e call) (lab_end lab y)
  pub rest : lab_end lab (other y) ≡ lab_end l (other y)
  pub asked : lab.asked ≡ l.asked
  pub more : List Stamped
  pub copies : lab.copies ≡ l.copies ++ more
  pub sent : (j : ℕ) (p : PacketView) → slice_get (act e.conn call).packets j ≡ Some p
      → IsBare p
      ⊎ ((k : ℕ)
      × (slice_get lab.copies k
      ≡ Some
      (stamp y (length lab.a.written) (length lab.b.written)
      (renamed_packet (names_of y) (act e.conn call).view.peer_index p))))

-- a packet that carries an acknowledgement comes as a copy
abbrev pub CanMove : LabView → Side → EndView → Call → Type 0
CanMove l y e (Deliver p now) =
    carries_ack (kind_of p.op) ≡ true → is_named e.conn p ≡ true → IsCopyTo l y (renamed_in (names_of y) p)
CanMove l y e call = Unit {0}

-- reading with or without handing out is the same
same_read : (v : ConnView) (call : Call)
    → ((act v (as_read call)).view ≡ (act v call).view) × ((act v (as_read call)).packets ≡ (act v call).packets)
same_read v (Request me peer contact start now) = (refl, refl)
same_read v (TakeRequest rfc me now) = (refl, refl)
same_read v (Accept start now) = (refl, refl)
same_read v (Answer bytes) = (refl, refl)
same_read v (Reject text) = (refl, refl)
same_read v (Deliver packet now) = (refl, refl)
same_read v (Write op bytes now) = (refl, refl)
same_read v (Unc bytes) = (refl, refl)
same_read v Read = (refl, refl)
same_read v FinishRead = (refl, refl)
same_read v (Announce window) = (refl, refl)
same_read v (Close text) = (refl, refl)
same_read v (Tick now) = (refl, refl)

append-nil : {X : Type 0} (xs : List X) → xs ≡ xs ++ []
append-nil [] = refl
append-nil (x ∷ xs) = ap (λ ys. x ∷ ys) (append-nil xs)

-- the laboratory stays
stays_in : (l : LabView) (y : Side) (e : EndView) (call : Call) → HasMachine l
    → IsEnd y (end_of_call e call) (lab_end l y)
    → ((j : ℕ) (p : PacketView) → slice_get (act e.conn call).packets j ≡ Some p → IsBare p) → Moved l y e call
stays_in l y e call h ends bare = record {
  lab = l;
  machine = h;
  ends = ends;
  rest = refl;
  asked = refl;
  more = [];
  copies = append-nil l.copies;
  sent = λ j p at. inl (bare j p at);
}

-- its connection and its lists stay
pub same_end : (l : LabView) (y : Side) (e : EndView) (call : Call) → IsEnd y e (lab_end l y)
    → (act e.conn call).view ≡ e.conn → KeepsLists e call → IsEnd y (end_of_call e call) (lab_end l y)
same_end l y e call is view k =
    let same : end_of_call e call ≡ e =
    λ j.
    record { conn = ((same_read e.conn call).0 ∙ view) j; first = k.first j; written = k.written j; read = k.read j } in
    subst (λ f. IsEnd y f (lab_end l y)) (sym same) is

-- it is over then
past_end : (y : Side) (e lab : EndView) (call : Call) → IsEnd y e lab → IsOver (act e.conn call).view
    → KeepsLists e call → IsEnd y (end_of_call e call) lab
past_end y e lab call is over k = inr (record {
  over = subst IsOver (sym (same_read e.conn call).0) over;
  first = end_first is ∙ sym k.first;
  written = end_written is ∙ sym k.written;
  read = end_read is ∙ sym k.read;
})
  where
    end_first : IsEnd y e lab → lab.first ≡ e.first
    end_first (inl h) = ap (λ l. l.first) h
    end_first (inr h) = h.first

    end_written : IsEnd y e lab → lab.written ≡ e.written
    end_written (inl h) = ap (λ l. l.written) h
    end_written (inr h) = h.written

    end_read : IsEnd y e lab → lab.read ≡ e.read
    end_read (inl h) = ap (λ l. l.read) h
    end_read (inr h) = h.read

-- ---- a connection that is over

nothing_given : (v : ConnView) (o : Option ItemView) (items : List ItemView) → o ≡ None
    → with_given (read_at_end v o).answer items ≡ items
nothing_given v None items h = refl
nothing_given v (Some item) items h = absurd (cc)

over_reads : (v : ConnView) (items : List ItemView) → IsOver v → with_given (act_read v).answer items ≡ items
over_reads v items h =
    let d = dead_is v.state h.dead in
    ap (λ (a : Acted ReadEnd). with_given a.answer items)
    (cond-false (is_opening v.state) _ _ d.not_opening ∙ cond-false (is_open v.state) _ _ d.not_open)
    ∙ nothing_given v (front_of v) items h.empty

pub over_keeps : (e : EndView) (call : Call) → begins call ≡ false → IsOver e.conn → KeepsLists e call
over_keeps e (Request me peer contact start now) b h = absurd (false≢true (sym b))
over_keeps e (TakeRequest rfc me now) b h = absurd (false≢true (sym b))
over_keeps e (Accept start now) b h =
    refused_keeps e (Accept start now)
    (ap (λ (a : Acted (Result (Unit {0}) ConnFault)). is_refused (Did a.answer))
    (cond-false (is_requested e.conn.state) _ _ (dead_is e.conn.state h.dead).not_requested))
over_keeps e (Write op bytes now) b h =
    refused_keeps e (Write op bytes now)
    (ap (λ (a : Acted (Result ℕ ConnFault)). is_refused (Wrote a.answer))
    (cond-false (is_open e.conn.state) _ _ (dead_is e.conn.state h.dead).not_open))
over_keeps e Read b h = record { first = refl; written = refl; read = over_reads e.conn e.read h }
over_keeps e FinishRead b h = record { first = refl; written = refl; read = over_reads e.conn e.read h }
over_keeps e (Deliver p now) b h =
    delivery_keeps e p now
    (⊎_elim (λ (o : Opens e.conn p (act_deliver e.conn p now)). absurd (false≢true (sym h.dead ∙ ap is_live o.asked)))
    (λ (s : Stays e.conn p (act_deliver e.conn p now)). s.opened) (opens_or_stays e.conn p now))
over_keeps e (Answer bytes) b h = record { first = either_same _ _; written = either_same _ _; read = either_same _ _ }
over_keeps e (Reject text) b h = record { first = either_same _ _; written = either_same _ _; read = either_same _ _ }
over_keeps e (Unc bytes) b h = record { first = either_same _ _; written = either_same _ _; read = either_same _ _ }
over_keeps e (Announce window) b h =
    record { first = either_same _ _; written = either_same _ _; read = either_same _ _ }
over_keeps e (Close text) b h = record { first = either_same _ _; written = either_same _ _; read = either_same _ _ }
over_keeps e (Tick now) b h = record { first = refl; written = refl; read = refl }

moved_past : (l : LabView) (y : Side) (e : EndView) (call : Call) → HasMachine l → IsEnd y e (lab_end l y)
    → begins call ≡ false → IsOver e.conn → Moved l y e call
moved_past l y e call h is b over =
    let s = over_stays e.conn call b over in
    stays_in l y e call h (past_end y e (lab_end l y) call is s.0 (over_keeps e call b over))
    (λ j p at. none_at (act e.conn call).packets j p s.1 at)

-- ---- a call that is played

called_end : (y : Side) (l : LabView) (call : Call) → lab_end (after_call l y call) y ≡ end_after (lab_end l y) call
called_end A l call = refl
called_end B l call = refl

called_rest : (y : Side) (l : LabView) (call : Call) → lab_end (after_call l y call) (other y) ≡ lab_end l (other y)
called_rest A l call = refl
called_rest B l call = refl

called_copies : (y : Side) (l : LabView) (call : Call)
    → (after_call l y call).copies
    ≡ l.copies
    ++ map (stamp y (length (after_call l y call).a.written) (length (after_call l y call).b.written))
    (act (lab_end l y).conn call).packets
called_copies A l call = refl
called_copies B l call = refl

called_asked : (y : Side) (l : LabView) (call : Call) → (after_call l y call).asked ≡ asked_after l.asked call
called_asked A l call = refl
called_asked B l call = refl

-- the calls that are played, a read that hands nothing out as a read
abbrev IsPlay : Call → Type 0
IsPlay (Accept start now) = Unit {0}
IsPlay (Write op bytes now) = Unit {0}
IsPlay Read = Unit {0}
IsPlay (Announce window) = Unit {0}
IsPlay (Tick now) = Unit {0}
IsPlay (Deliver p now) = Unit {0}
IsPlay call = ⊥

-- the call in the laboratory
abbrev in_lab : Side → Call → Call
in_lab y (Deliver p now) = Deliver (renamed_in (names_of y) p) now
in_lab y call = call

-- no list sees the names
written_alike : (n : Names) (known : Option ℕ) (y : Side) (call : Call) (ps : List PacketView) (items : List ItemView)
    → with_written (in_lab y call) (map (renamed_packet n known) ps) items ≡ with_written call ps items
written_alike n known y (Accept start now) ps items =
    ap (λ (is : List ItemView). items ++ is) (map_map item_of (renamed_packet n known) item_of (λ p. refl) ps)
written_alike n known y (Write op bytes now) ps items = refl
written_alike n known y (Deliver p now) ps items = refl
written_alike n known y (Request me peer contact start now) ps items = refl
written_alike n known y (TakeRequest rfc me now) ps items = refl
written_alike n known y (Answer bytes) ps items = refl
written_alike n known y (Reject text) ps items = refl
written_alike n known y (Unc bytes) ps items = refl
written_alike n known y Read ps items = refl
written_alike n known y FinishRead ps items = refl
written_alike n known y (Announce window) ps items = refl
written_alike n known y (Close text) ps items = refl
written_alike n known y (Tick now) ps items = refl

opened_alike : (d : Delivered) (n : Names) (p : PacketView) (items : List ItemView)
    → with_opened d (renamed_in n p) items ≡ with_opened d p items
opened_alike answer.Opened n p items = refl
opened_alike answer.Took n p items = refl
opened_alike answer.Duplicate n p items = refl
opened_alike answer.Outside n p items = refl
opened_alike answer.Status n p items = refl
opened_alike answer.Probed n p items = refl
opened_alike (answer.Unc q) n p items = refl
opened_alike (answer.Answered q) n p items = refl
opened_alike (answer.Forwarded q) n p items = refl
opened_alike (answer.Closed q) n p items = refl
opened_alike (answer.Lost q) n p items = refl
opened_alike (answer.Dropped why) n p items = refl

came_alike : (v : ConnView) (n : Names) (p : PacketView) (now : ℕ) (y : Side) (reply : Reply) (items : List ItemView)
    → with_read (renamed n v) (Deliver (renamed_in (names_of y) p) now) reply items
    ≡ with_read v (Deliver p now) reply items
came_alike v n p now y (Came d) items = opened_alike d (names_of y) p items
came_alike v n p now y (Did d) items = refl
came_alike v n p now y (Wrote d) items = refl
came_alike v n p now y (Gave d) items = refl
came_alike v n p now y (Finished d) items = refl
came_alike v n p now y (Ticks d) items = refl

read_alike : (n : Names) (v : ConnView) (y : Side) (call : Call) (reply : Reply) (items : List ItemView)
    → with_read (renamed n v) (in_lab y call) reply items ≡ with_read v call reply items
read_alike n v y (Deliver p now) reply items = came_alike v n p now y reply items
read_alike n v y (Accept start now) reply items = refl
read_alike n v y (Write op bytes now) reply items = refl
read_alike n v y (Request me peer contact start now) reply items = refl
read_alike n v y (TakeRequest rfc me now) reply items = refl
read_alike n v y (Answer bytes) reply items = refl
read_alike n v y (Reject text) reply items = refl
read_alike n v y (Unc bytes) reply items = refl
read_alike n v y Read reply items = refl
read_alike n v y FinishRead reply items = refl
read_alike n v y (Announce window) reply items = refl
read_alike n v y (Close text) reply items = refl
read_alike n v y (Tick now) reply items = refl

first_alike : (y : Side) (first : ℕ) (call : Call) → first_after first (in_lab y call) ≡ first_after first call
first_alike y first (Deliver p now) = refl
first_alike y first (Accept start now) = refl
first_alike y first (Write op bytes now) = refl
first_alike y first (Request me peer contact start now) = refl
first_alike y first (TakeRequest rfc me now) = refl
first_alike y first (Answer bytes) = refl
first_alike y first (Reject text) = refl
first_alike y first (Unc bytes) = refl
first_alike y first Read = refl
first_alike y first FinishRead = refl
first_alike y first (Announce window) = refl
first_alike y first (Close text) = refl
first_alike y first (Tick now) = refl

asked_alike : (y : Side) (asked : Bool) (call : Call) → IsPlay call → asked_after asked (in_lab y call) ≡ asked
asked_alike y asked (Deliver p now) h = refl
asked_alike y asked (Accept start now) h = refl
asked_alike y asked (Write op bytes now) h = refl
asked_alike y asked Read h = refl
asked_alike y asked (Announce window) h = refl
asked_alike y asked (Tick now) h = refl
asked_alike y asked (Request me peer contact start now) h = absurd h
asked_alike y asked (TakeRequest rfc me now) h = absurd h
asked_alike y asked (Answer bytes) h = absurd h
asked_alike y asked (Reject text) h = absurd h
asked_alike y asked (Unc bytes) h = absurd h
asked_alike y asked FinishRead h = absurd h
asked_alike y asked (Close text) h = absurd h

-- what the call makes of the end, where it isn't refused
taken_end : (y : Side) (e lab : EndView) (call : Call) → lab ≡ plain y e
    → act (renamed (names_of y) e.conn) (in_lab y call) ≡ renamed_acted (names_of y) (act e.conn call)
    → is_refused (act e.conn call).answer ≡ false
    → end_after lab (in_lab y call) ≡ plain y (end_by e call (act e.conn call))
taken_end y e lab call is alike taken =
    let n = names_of y in
    let acted = act e.conn call in
    ap (λ (f : EndView). end_after f (in_lab y call)) is
    ∙ (λ j. record {
      conn = (alike j).view;
      first =
          (first_alike y e.first call
          ∙ sym (cond-false (is_refused acted.answer) e.first (first_after e.first call) taken))
          j;
      written =
          ((λ i. with_written (in_lab y call) (alike i).packets e.written)
          ∙ written_alike n acted.view.peer_index y call acted.packets e.written
          ∙ sym
          (cond-false (is_refused acted.answer) e.written (with_written call acted.packets e.written)
          taken))
          j;
      read =
          ((λ i. with_read (renamed n e.conn) (in_lab y call) (alike i).answer e.read)
          ∙ read_alike n e.conn y call acted.answer e.read
          ∙ sym (cond-false (is_refused acted.answer) e.read (with_read e.conn call acted.answer e.read) taken))
          j;
    })

-- a refusal is told as one
refusal_none : (reply : Reply) → is_refused reply ≡ false → refusal_of reply ≡ None
refusal_none (Did (Ok d)) h = refl
refusal_none (Did (Err why)) h = absurd (false≢true (sym h))
refusal_none (Wrote (Ok d)) h = refl
refusal_none (Wrote (Err why)) h = absurd (false≢true (sym h))
refusal_none (Came d) h = refl
refusal_none (Gave d) h = refl
refusal_none (Finished d) h = refl
refusal_none (Ticks d) h = refl

play : (l : LabView) (y : Side) (e : EndView) (call : Call) → HasMachine l → lab_end l y ≡ plain y e → IsPlay call
    → CanPlay l y (in_lab y call)
    → act (renamed (names_of y) e.conn) (in_lab y call) ≡ renamed_acted (names_of y) (act e.conn call)
    → as_read call ≡ call → Moved l y e call
play l y e call h is plays can alike same =
    ⊎_elim
    (λ (r : is_refused (act e.conn call).answer ≡ true).
    let s = refused_is_same e.conn call r in
    stays_in l y e call h
    (same_end l y e call (inl is) s.0 (refused_keeps e call (ap (λ c. is_refused (act e.conn c).answer) same ∙ r)))
    (λ j p at. none_at (act e.conn call).packets j p s.1 at))
    (λ (r : is_refused (act e.conn call).answer ≡ false). taken r)
    (cases_Bool (is_refused (act e.conn call).answer))
  where
    taken : is_refused (act e.conn call).answer ≡ false → Moved l y e call
    taken r =
        let n = names_of y in
        let c : Call = in_lab y call in
        let m : LabView = after_call l y c in
        let acted = act e.conn call in
        let does : act (lab_end l y).conn c ≡ renamed_acted n acted = ap (λ (f : EndView). act f.conn c) is ∙ alike in
        let none : refusal_of (act (lab_end l y).conn c).answer ≡ None =
        ap (λ (a : Acted Reply). refusal_of a.answer) does ∙ refusal_none acted.answer r in
        let made : (call_at l y c).lab ≡ m = ap (λ o. (call_effect l y c o).lab) none in
        let packets : map (stamp y (length m.a.written) (length m.b.written)) (act (lab_end l y).conn c).packets
        ≡ map (stamp y (length m.a.written) (length m.b.written))
        (map (renamed_packet n acted.view.peer_index) acted.packets) =
        ap (λ (a : Acted Reply). map (stamp y (length m.a.written) (length m.b.written)) a.packets) does in
        record {
          lab = m;
          machine = subst HasMachine made (keeps_play l y c h can);
          ends =
              inl
              (called_end y l c ∙ taken_end y e (lab_end l y) call is alike r
              ∙ ap (λ k. plain y (end_by e k (act e.conn k))) (sym same));
          rest = called_rest y l c;
          asked = called_asked y l c ∙ asked_alike y l.asked call plays;
          more =
              map (stamp y (length m.a.written) (length m.b.written))
              (map (renamed_packet n acted.view.peer_index) acted.packets);
          copies = called_copies y l c ∙ ap (λ (more : List Stamped). l.copies ++ more) packets;
          sent = λ j p at.
              let put =
              get_back l.copies
              (map (stamp y (length m.a.written) (length m.b.written))
              (map (renamed_packet n acted.view.peer_index) acted.packets))
              j (stamp y (length m.a.written) (length m.b.written) (renamed_packet n acted.view.peer_index p))
              (get_map (stamp y (length m.a.written) (length m.b.written))
              (map (renamed_packet n acted.view.peer_index) acted.packets) j
              (renamed_packet n acted.view.peer_index p)
              (get_map (renamed_packet n acted.view.peer_index) acted.packets j p at)) in
              inr
              (put.0, ap (λ (cs : List Stamped). slice_get cs put.0) (called_copies y l c ∙ ap (λ (more : List Stamped). l.copies ++ more) packets) ∙ put.1);
        }

-- a read that hands nothing out is played as a read
as_a_read : (l : LabView) (y : Side) (e : EndView) → Moved l y e Read → Moved l y e FinishRead
as_a_read l y e m =
    record { lab = m.lab; machine = m.machine; ends = m.ends; rest = m.rest; asked = m.asked; more = m.more; copies = m.copies; sent = m.sent }

-- ---- a packet that makes little of it

quiet_alike : (n : Names) (kind : Quiet) (v : ConnView) (now : ℕ)
    → quiet kind (renamed n v) now ≡ renamed_acted n (quiet kind v now)
quiet_alike n Same v now = refl
quiet_alike n Heard v now = refl
quiet_alike n Tells v now = refl
quiet_alike n (Ends state) v now = refl

may_alike : (n : Names) (kind : Quiet) (v : ConnView) → MayBe kind v → MayBe kind (renamed n v)
may_alike n Same v h = tt
may_alike n Heard v h = tt
may_alike n Tells v h = h
may_alike n (Ends state) v h = h

quiet_end : (y : Side) (l : LabView) (kind : Quiet) (now : ℕ)
    → lab_end (quiet_at l y kind now) y ≡ record (lab_end l y) { conn = (quiet kind (lab_end l y).conn now).view }
quiet_end A l kind now = refl
quiet_end B l kind now = refl

quiet_rest : (y : Side) (l : LabView) (kind : Quiet) (now : ℕ)
    → lab_end (quiet_at l y kind now) (other y) ≡ lab_end l (other y)
quiet_rest A l kind now = refl
quiet_rest B l kind now = refl

quiet_asked : (y : Side) (l : LabView) (kind : Quiet) (now : ℕ) → (quiet_at l y kind now).asked ≡ l.asked
quiet_asked A l kind now = refl
quiet_asked B l kind now = refl

quiet_copies : (y : Side) (l : LabView) (kind : Quiet) (now : ℕ)
    → (quiet_at l y kind now).copies
    ≡ l.copies
    ++ map (stamp y (length (quiet_at l y kind now).a.written) (length (quiet_at l y kind now).b.written))
    (quiet kind (lab_end l y).conn now).packets
quiet_copies A l kind now = refl
quiet_copies B l kind now = refl

moved_quiet : (l : LabView) (y : Side) (e : EndView) (p : PacketView) (now : ℕ) → HasMachine l → lab_end l y ≡ plain y e
    → IsQuiet e.conn now (act_deliver e.conn p now) → Moved l y e (Deliver p now)
moved_quiet l y e p now h is q =
    let n = names_of y in
    let m : LabView = quiet_at l y q.kind now in
    let k = delivery_keeps e p now q.answer in
    let made = quiet q.kind e.conn now in
    let does : quiet q.kind (lab_end l y).conn now ≡ renamed_acted n made =
    ap (λ (f : EndView). quiet q.kind f.conn now) is ∙ quiet_alike n q.kind e.conn now in
    let known : made.view.peer_index ≡ (act_deliver e.conn p now).view.peer_index =
    sym (ap (λ v. v.peer_index) q.view) in
    let packets : map (stamp y (length m.a.written) (length m.b.written)) (quiet q.kind (lab_end l y).conn now).packets
    ≡ map (stamp y (length m.a.written) (length m.b.written))
    (map (renamed_packet n (act_deliver e.conn p now).view.peer_index) (act_deliver e.conn p now).packets) =
    ap (λ (a : Acted (Unit {0})). map (stamp y (length m.a.written) (length m.b.written)) a.packets) does
    ∙ (λ j. map (stamp y (length m.a.written) (length m.b.written))
    (map (renamed_packet n (known j)) (sym q.packets j))) in
    let more : List Stamped =
    map (stamp y (length m.a.written) (length m.b.written))
    (map (renamed_packet n (act_deliver e.conn p now).view.peer_index) (act_deliver e.conn p now).packets) in
    let copies : m.copies ≡ l.copies ++ more =
    quiet_copies y l q.kind now ∙ ap (λ (xs : List Stamped). l.copies ++ xs) packets in
    record {
      lab = m;
      machine =
          keeps_quiet l y q.kind now h
          (subst (MayBe q.kind) (sym (ap (λ f. f.conn) is)) (may_alike n q.kind e.conn q.may));
      ends = inl (quiet_end y l q.kind now ∙ (λ j. record {
        conn = (ap (λ (a : Acted (Unit {0})). a.view) does ∙ ap (renamed n) (sym q.view)) j;
        first = (ap (λ f. f.first) is ∙ sym k.first) j;
        written = (ap (λ f. f.written) is ∙ sym k.written) j;
        read = (ap (λ f. f.read) is ∙ sym k.read) j;
      }));
      rest = quiet_rest y l q.kind now;
      asked = quiet_asked y l q.kind now;
      more = more;
      copies = copies;
      sent = λ j s at.
          let put =
          get_back l.copies more j
          (stamp y (length m.a.written) (length m.b.written)
          (renamed_packet n (act_deliver e.conn p now).view.peer_index s))
          (get_map (stamp y (length m.a.written) (length m.b.written))
          (map (renamed_packet n (act_deliver e.conn p now).view.peer_index) (act_deliver e.conn p now).packets) j
          (renamed_packet n (act_deliver e.conn p now).view.peer_index s)
          (get_map (renamed_packet n (act_deliver e.conn p now).view.peer_index) (act_deliver e.conn p now).packets j s
          at)) in
          inr (put.0, ap (λ (cs : List Stamped). slice_get cs put.0) copies ∙ put.1);
    }

moved_lost : (l : LabView) (y : Side) (e : EndView) (p : PacketView) (now : ℕ) → HasMachine l → lab_end l y ≡ plain y e
    → IsLost (act_deliver e.conn p now) → Moved l y e (Deliver p now)
moved_lost l y e p now h is q =
    stays_in l y e (Deliver p now) h
    (past_end y e (lab_end l y) (Deliver p now) (inl is) q.over (delivery_keeps e p now q.answer))
    (λ j s at. none_at (act_deliver e.conn p now).packets j s q.packets at)

moved_little : (l : LabView) (y : Side) (e : EndView) (p : PacketView) (now : ℕ) → HasMachine l
    → lab_end l y ≡ plain y e → (carries_ack (kind_of p.op) ≡ false) ⊎ (is_named e.conn p ≡ false)
    → Moved l y e (Deliver p now)
moved_little l y e p now h is little =
    ⊎_elim (moved_quiet l y e p now h is) (moved_lost l y e p now h is) (foreign_is_quiet e.conn p now little)

moved_copy : (l : LabView) (y : Side) (e : EndView) (p : PacketView) (now : ℕ) → HasMachine l → lab_end l y ≡ plain y e
    → carries_ack (kind_of p.op) ≡ true → is_named e.conn p ≡ true → IsCopyTo l y (renamed_in (names_of y) p)
    → Moved l y e (Deliver p now)
moved_copy l y e p now h is ack named copy =
    play l y e (Deliver p now) h is tt (not_rfc (kind_of p.op) ack, copy)
    (ap (map_answer Came) (comes_alike (names_of y) e.conn p now named ack)) refl

moved_delivery : (l : LabView) (y : Side) (e : EndView) (p : PacketView) (now : ℕ) → HasMachine l
    → lab_end l y ≡ plain y e → CanMove l y e (Deliver p now) → Moved l y e (Deliver p now)
moved_delivery l y e p now h is can =
    ⊎_elim
    (λ (ack : carries_ack (kind_of p.op) ≡ true). ⊎_elim
    (λ (named : is_named e.conn p ≡ true). moved_copy l y e p now h is ack named (can ack named))
    (λ (foreign : is_named e.conn p ≡ false). moved_little l y e p now h is (inr foreign))
    (cases_Bool (is_named e.conn p)))
    (λ (bare : carries_ack (kind_of p.op) ≡ false). moved_little l y e p now h is (inl bare))
    (cases_Bool (carries_ack (kind_of p.op)))

-- ---- the calls that end it, and uncontrolled data

moved_ending : (l : LabView) (y : Side) (e : EndView) (call : Call) → HasMachine l → IsEnd y e (lab_end l y)
    → ends call ≡ true → KeepsLists e call → Moved l y e call
moved_ending l y e call h is ending k =
    let d = ends_are_over e.conn call ending in
    stays_in l y e call h
    (⊎_elim (λ (over : IsOver (act e.conn call).view). past_end y e (lab_end l y) call is over k)
    (λ (same : (act e.conn call).view ≡ e.conn). same_end l y e call is same k) d.0)
    (λ j p at. all_at IsBare (act e.conn call).packets j p d.1 at)

record Uncontrolled (v : ConnView) (acted : Acted (Result (Unit {0}) ConnFault)) : Type 0 where
  view : acted.view ≡ v
  packets : AllByRecursion IsBare acted.packets

unc_by : (v : ConnView) (a b : Bool) (x : PacketView) → IsBare x
    → Uncontrolled v
    (if a then (if b then refusal v fa.TooLong else record { view = v; packets = x ∷ []; answer = Ok tt })
    else refusal v fa.NotOpen)
unc_by v true true x h = record { view = refl; packets = tt }
unc_by v true false x h = record { view = refl; packets = (h, tt) }
unc_by v false b x h = record { view = refl; packets = tt }

moved_unc : (l : LabView) (y : Side) (e : EndView) (bytes : List ℕ) → HasMachine l → IsEnd y e (lab_end l y)
    → Moved l y e (Unc bytes)
moved_unc l y e bytes h is =
    let u : Uncontrolled e.conn (act_unc e.conn bytes) =
    unc_by e.conn (is_open e.conn.state) (nat_lt MAX_DATA (length bytes)) (untelling_packet e.conn op_unc bytes)
    (refl, refl) in
    stays_in l y e (Unc bytes) h
    (same_end l y e (Unc bytes) is u.view
    (record { first = either_same _ _; written = either_same _ _; read = either_same _ _ }))
    (λ j p at. all_at IsBare (act_unc e.conn bytes).packets j p u.packets at)

-- ---- any call

-- A's end never holds a request
moved_accept : (l : LabView) (y : Side) (e : EndView) (start now : ℕ) → HasMachine l → lab_end l y ≡ plain y e
    → Moved l y e (Accept start now)
moved_accept l B e start now h is =
    play l B e (Accept start now) h is tt refl (acts_alike (names_of B) e.conn (Accept start now) refl) refl
moved_accept l A e start now h is =
    let sides = knows_sides l h in
    let apart : is_requested e.conn.state ≡ false =
    not_requested e.conn.state (λ (r : e.conn.state ≡ st.RfcReceived). sides.0 (ap (λ f. f.conn.state) is ∙ r)) in
    let refuses : act e.conn (Accept start now) ≡ map_answer Did (refusal e.conn fa.WrongState) =
    ap (map_answer Did) (cond-false (is_requested e.conn.state) _ _ apart) in
    stays_in l A e (Accept start now) h
    (same_end l A e (Accept start now) (inl is) (ap (λ a. a.view) refuses)
    (refused_keeps e (Accept start now) (ap (λ (a : Acted Reply). is_refused a.answer) refuses)))
    (λ j p at. none_at (act e.conn (Accept start now)).packets j p (ap (λ a. a.packets) refuses) at)
  where
    not_requested : (s : State) → (s ≡ st.RfcReceived → ⊥) → is_requested s ≡ false
    not_requested st.RfcReceived h = absurd (h refl)
    not_requested st.Inactive h = refl
    not_requested st.RfcSent h = refl
    not_requested st.Open h = refl
    not_requested st.Answered h = refl
    not_requested st.ClsReceived h = refl
    not_requested st.LosReceived h = refl
    not_requested st.HostDown h = refl
    not_requested st.Forwarded h = refl

moved_live : (l : LabView) (y : Side) (e : EndView) (call : Call) → HasMachine l → lab_end l y ≡ plain y e
    → begins call ≡ false → CanMove l y e call → Moved l y e call
moved_live l y e (Request me peer contact start now) h is b can = absurd (false≢true (sym b))
moved_live l y e (TakeRequest rfc me now) h is b can = absurd (false≢true (sym b))
moved_live l y e (Accept start now) h is b can = moved_accept l y e start now h is
moved_live l y e (Answer bytes) h is b can =
    moved_ending l y e (Answer bytes) h (inl is) refl
    (record { first = either_same _ _; written = either_same _ _; read = either_same _ _ })
moved_live l y e (Reject text) h is b can =
    moved_ending l y e (Reject text) h (inl is) refl
    (record { first = either_same _ _; written = either_same _ _; read = either_same _ _ })
moved_live l y e (Deliver p now) h is b can = moved_delivery l y e p now h is can
moved_live l y e (Write op bytes now) h is b can =
    play l y e (Write op bytes now) h is tt tt (acts_alike (names_of y) e.conn (Write op bytes now) refl) refl
moved_live l y e (Unc bytes) h is b can = moved_unc l y e bytes h (inl is)
moved_live l y e Read h is b can = play l y e Read h is tt tt (acts_alike (names_of y) e.conn Read refl) refl
moved_live l y e FinishRead h is b can =
    as_a_read l y e (play l y e Read h is tt tt (acts_alike (names_of y) e.conn Read refl) refl)
moved_live l y e (Announce window) h is b can =
    play l y e (Announce window) h is tt tt (acts_alike (names_of y) e.conn (Announce window) refl) refl
moved_live l y e (Close text) h is b can =
    moved_ending l y e (Close text) h (inl is) refl
    (record { first = either_same _ _; written = either_same _ _; read = either_same _ _ })
moved_live l y e (Tick now) h is b can =
    play l y e (Tick now) h is tt tt (acts_alike (names_of y) e.conn (Tick now) refl) refl

-- Each call but those that begin a connection is played.
pub moves : (l : LabView) (y : Side) (e : EndView) (call : Call) → HasMachine l → IsEnd y e (lab_end l y)
    → begins call ≡ false → CanMove l y e call → Moved l y e call
moves l y e call h (inl is) b can = moved_live l y e call h is b can
moves l y e call h (inr past) b can = moved_past l y e call h (inr past) b past.over
