-- B's server serves the item in front of it: it reads it, and writes its reply to a command.
use Rattle.std.proofs.Common.{◌≡◌, ℕ, zero, suc, ◌+◌, ◌-◌, ◌*◌, ◌≤◌, List, [], ◌∷◌, ◌++◌, length, map, true, Option, Some, None, Ok, refl, sym, ap, ◌∙◌, subst, inl, inr, arith, length-append}
use Rattle.std.specs.Prelude.{slice_get, nat_le, nat_lt}
use Rattle.std.specs.FinSet.{contains}
use Rattle.std.proofs.lemmas.Bool.{cond_both, cond-true, cond-false, lt-ltb, le-ltb, and_from}
use Rattle.chaos_packet.specs.Item.{ItemView}
use Rattle.chaos_packet.specs.Number.{num, off}
use Rattle.chaos_packet.specs.Opcode.{op_data, kind_of}
use Rattle.chaos_packet.specs.Packet.{PacketView}
use Rattle.chaos_packet.specs.declared.limits.TheConstants.{MAX_DATA}
use Rattle.chaos_packet.specs.declared.opcode.Kind.TheVariants as k
use Rattle.chaos_window.specs.Send.{next_of}
use Rattle.chaos_window.specs.Receive.{after_advance}
use Rattle.chaos_conn.specs.declared.state.State.TheVariants as st
use Rattle.chaos_conn.specs.declared.answers.ReadEnd.{ReadEnd}
use Rattle.chaos_conn.specs.declared.answers.ReadEnd.TheVariants as gave
use Rattle.chaos_conn.specs.State.{is_open}
use Rattle.chaos_conn.specs.View.{ConnView, moment}
use Rattle.chaos_conn.specs.Acted.{Acted, quietly}
use Rattle.chaos_conn.specs.Sending.{with_sts, with_item, item_packet}
use Rattle.chaos_conn.specs.Act.{Call, act}
use Rattle.chaos_conn.specs.Act.Call.{Read, Write}
use Rattle.chaos_conn.specs.Calls.{can_write, has_window, front_of, act_read, act_write, read_at_open, write_at_most, write_item}
use Rattle.chaos_file.specs.Serve.{IsReplyTaken}
use Rattle.chaos_file.specs.ServeWork.{LastItem, Command, work_of, work_by, work_of_kind}
use Rattle.chaos_lab.specs.declared.side.Side.{Side}
use Rattle.chaos_lab.specs.declared.side.Side.TheVariants.{A, B}
use Rattle.chaos_lab.specs.declared.stamped.Stamped.{Stamped as Sent}
use Rattle.chaos_lab.specs.Machine.{PlainEnd as Plain, Copy, Machine, end_of, OrNothing, Step, Write as WriteRow}
use Rattle.chaos_lab.specs.Machine.Kind.{Nth}
use Rattle.chaos_lab.specs.Machine.Event.{WriteAt}
use Rattle.chaos_lab.specs.Machine.Phase.{Open}
use Rattle.chaos_lab.specs.Numbers.{told_num}
use Rattle.chaos_lab.specs.Shown.{IsUsers}
use Rattle.chaos_lab.specs.Laboratory.{LabView, happen, after_all, after_call, call_effect, refusal_of}
use Rattle.chaos_lab.specs.Laboratory.Happening.{ReadBy}
use Rattle.chaos_lab.specs.Tied.{Ties}
use Rattle.chaos_lab.specs.Turn.{Replies, HasFront, IsTaken, turn_events}
use Rattle.chaos_lab.proofs.Copies.{KindOk, len_of}
use Rattle.chaos_lab.proofs.Lists.{begins_shorter, member_at}
use Rattle.chaos_lab.proofs.Machines.{reached_holds, end_holds, copy_at}
use Rattle.chaos_lab.proofs.Reading.{becomes_same}
use Rattle.chaos_lab.proofs.RecvTie.{front_is}
use Rattle.chaos_lab.proofs.OnSide.{Stepped, conn_at, first_at, items_at, read_at, written_at, refusal_at}
use Rattle.chaos_lab.proofs.HeadlineLaw.{opened, nth_of}
use Rattle.chaos_lab.proofs.UserTies.{Refuses, write_ties}
use Rattle.chaos_lab.proofs.Keeps.{EndKeeps, Keeps, CopyAt, front_stays}
use Rattle.chaos_lab.proofs.Helping.{shows, same_count, read_event, put_at, copies_after, stamp_after, sent_at, sent_what}
use Rattle.chaos_lab.proofs.OneWay.{AreOpen}
use Rattle.chaos_file.proofs.Spelling.{both_left}
use Rattle.file_lab.proofs.BodyLists.{last_item}
use Rattle.file_lab.proofs.KeptSteps.{reads_one, read_open_is, replied}
use Rattle.file_lab.proofs.Fetching.{HasNext}

-- ---- the item in front

-- an item of A's user is in front of B's open end, which may write
pub record AtFront (l : LabView) : Type 0 where
  pub is_open : l.b.conn.state ≡ st.Open
  pub item : ItemView
  pub front : front_of l.b.conn ≡ Some item
  pub users : IsUsers item
  pub room : can_write l.b.conn ≡ true

users_at : (w : Machine) (l : LabView) (i : ℕ) (item : ItemView) → Ties w l → 1 ≤ i
    → slice_get w.a.written i ≡ Some item → IsUsers item
users_at w l zero item t some at = absurd (omega (arith, some))
users_at w l (suc i) item t some at = t.tied.items_a.users i item at

pub at_front : (w : Machine) (l : LabView) → Ties w l → AreOpen w → HasNext w → length w.b.written ≤ w.b.acknowledged
    → 1 ≤ w.b.window → AtFront l
at_front w l t opens next known room =
    let v : ConnView = conn_at l B in
    let h = end_holds w B (reached_holds w t.tied.reached) in
    let view = shows B w l t (opens B) in
    let i : ℕ = length w.b.read in
    let found = member_at w.a.written i (h.reader.within i next) in
    let state : v.state ≡ st.Open = ap (λ (c : ConnView). c.state) view.is in
    let front : front_of v ≡ Some found.0 =
    ap front_of view.is ∙ front_is (first_at l A) w.a w.b h.ok.caps.2
    ∙ cond-true (contains w.b.arrived i) (slice_get w.a.written i) None next ∙ found.1 in
    let begun : 1 ≤ i =
    let some = opened l B (record { plain = w; ties = t }) state in let same = ap length (read_at B w l t) in omega
    (arith, some, same) in
    let read = begins_shorter w.a.read w.b.written h.writer.begins in
    let same : w.b.acknowledged ≡ length w.b.written = omega (arith, known, h.writer.acked_read, read) in
    let none : off (told_num (first_at l B) (length w.b.written)) (told_num (first_at l B) w.b.acknowledged) ≡ 0 =
    omega (arith, same) in
    let free : nat_lt (off (told_num (first_at l B) (length w.b.written)) (told_num (first_at l B) w.b.acknowledged))
    w.b.window
    ≡ true =
    lt-ltb _ _ (omega (arith, none, room)) in
    record {
      is_open = state;
      item = found.0;
      front = front;
      users = users_at w l i found.0 t begun found.1;
      room = ap can_write view.is ∙ and_from _ _ free refl;
    }

abbrev pub has_front : (l : LabView) → AtFront l → HasFront l.b.conn
has_front l f = record { is_open = f.is_open; item = f.item; front = f.front }

pub work_eof : (l : LabView) (f : AtFront l) → kind_of f.item.op ≡ k.Eof → work_of l.b.conn ≡ LastItem
work_eof l f is = (λ j. work_by (f.is_open j) (f.front j) (f.room j)) ∙ ap (λ q. work_of_kind q true f.item.body) is

pub work_data : (l : LabView) (f : AtFront l) → kind_of f.item.op ≡ k.Data → work_of l.b.conn ≡ Command f.item.body
work_data l f is = (λ j. work_by (f.is_open j) (f.front j) (f.room j)) ∙ ap (λ q. work_of_kind q true f.item.body) is

-- ---- the machine goes on

-- A's end keeps all, and B's all but what it wrote, which is an item more at most
pub record Goes (w v : Machine) : Type 0 where
  pub a : EndKeeps w.a v.a
  pub arrived : (i : ℕ) → contains w.b.arrived i ≡ true → contains v.b.arrived i ≡ true
  pub wrote : length v.b.written ≤ suc (length w.b.written)
  pub opened : w.b.phase ≡ Open → v.b.phase ≡ Open
  pub announces : 1 ≤ w.b.announced → 1 ≤ v.b.announced
  pub copies : (n : ℕ) (c : Copy) → slice_get w.copies n ≡ Some c → slice_get v.copies n ≡ Some c

goes_by : (w v : Machine) → Keeps w v → Goes w v
goes_by w v s =
    let b : length v.b.written ≡ length w.b.written = ap length (s.ends B).written in
    record { a = s.ends A; arrived = (s.ends B).arrived; wrote = omega (arith, b); opened = (s.ends B).opened; announces = (s.ends B).announces; copies = s.copies }

-- a write leaves all else of an end
record Writes (item : ItemView) (e f : Plain) : Type 0 where
  phase : f.phase ≡ e.phase
  arrived : f.arrived ≡ e.arrived
  announced : f.announced ≡ e.announced
  wrote : length f.written ≤ suc (length e.written)

one_longer : (xs : List ItemView) (x : ItemView) → length (xs ++ x ∷ []) ≤ suc (length xs)
one_longer xs x = let all = length-append xs (x ∷ []) in omega (arith, all)

writes_row : (item : ItemView) (p e f : Plain) → OrNothing (WriteRow item) p e f → Writes item e f
writes_row item p e f (inl r) =
    subst (Writes item e) (sym r.2)
    (record { phase = refl; arrived = refl; announced = refl; wrote = one_longer e.written item })
writes_row item p e f (inr r) =
    subst (Writes item e) (sym r.1) (record { phase = refl; arrived = refl; announced = refl; wrote = omega arith })

goes_on : (w u v : Machine) (item : ItemView) → Keeps w u → Step u (WriteAt B item) v → Goes w v
goes_on w u v item s step =
    let row = writes_row item u.a u.b step.0 step.1 in
    let same : v.b ≡ step.0 = becomes_same u B step.0 v step.2 in
    let a : v.a ≡ u.a = ap (λ (m : Machine). m.a) step.2.2 in
    let all : v.copies ≡ u.copies ++ step.2.0 = ap (λ (m : Machine). m.copies) step.2.2 in
    let b : length u.b.written ≡ length w.b.written = ap length (s.ends B).written in
    let long : length v.b.written ≡ length step.0.written = ap (λ (e : Plain). length e.written) same in
    record {
      a = subst (EndKeeps w.a) (sym a) (s.ends A);
      arrived =
          λ i h. ap (λ (e : Plain). contains e.arrived i) same ∙ ap (λ xs. contains xs i) row.arrived
          ∙ (s.ends B).arrived i h;
      wrote = omega (arith, row.wrote, b, long);
      opened = λ h. ap (λ (e : Plain). e.phase) same ∙ row.phase ∙ (s.ends B).opened h;
      announces =
          λ h. let is : v.b.announced ≡ u.b.announced = ap (λ (e : Plain). e.announced) same
          ∙ row.announced in let one = (s.ends B).announces h in omega (arith, is, one);
      copies = λ n c h. ap (λ cs. slice_get cs n) all ∙ front_stays u.copies step.2.0 n c (s.copies n c h);
    }

-- ---- it reads an EOF

pub record Served (w : Machine) (l m : LabView) (item : ItemView) : Type 0 where
  pub machine : Machine
  pub ties : Ties machine m
  pub goes : Goes w machine
  pub read : m.b.read ≡ l.b.read ++ item ∷ []
  pub count : length l.copies ≤ length m.copies

pub serves_eof : (w : Machine) (l : LabView) → Ties w l → AreOpen w → (f : AtFront l)
    → Served w l (after_all l (ReadBy B ∷ [])) f.item
serves_eof w l t opens f =
    let r = read_event B w l t (opens B) in
    let m : LabView = (happen l (ReadBy B)).lab in
    let before : length l.copies ≡ length w.copies = same_count w l t in
    let after : length m.copies ≡ length r.machine.copies = same_count r.machine m r.ties in
    record { machine = r.machine; ties = r.ties; goes = goes_by w r.machine r.keeps; read = reads_one l (has_front l f); count = omega (arith, before, after, r.keeps.count) }

-- ---- it reads a command and writes its reply

-- a read leaves the send window and the state
record Leaves (v u : ConnView) : Type 0 where
  send : u.send ≡ v.send
  state : u.state ≡ v.state

open_leaves : (v : ConnView) (o : Option ItemView) → Leaves v (read_at_open v o).view
open_leaves v None = record { send = refl; state = refl }
open_leaves v (Some item) =
    let u : ConnView = record v { recv = after_advance v.recv; untold = v.untold + 1 } in
    cond_both (nat_le u.recv.window (3 * u.untold)) (with_sts u (gave.Item item)) (quietly u (gave.Item item))
    (λ (a : Acted ReadEnd). Leaves v a.view)
    (λ _. record { send = refl; state = refl })
    (λ _. record { send = refl; state = refl })

read_leaves : (v : ConnView) → HasFront v → Leaves v (act_read v).view
read_leaves v h = subst (λ (a : Acted ReadEnd). Leaves v a.view) (sym (read_open_is v h)) (open_leaves v (front_of v))

-- a write of data that fits, at an open end whose window has room
write_is : (u : ConnView) (reply : List ℕ) (now : ℕ) → u.state ≡ st.Open → has_window u.send ≡ true
    → length reply ≤ MAX_DATA
    → act_write u op_data reply now
    ≡ with_item (record u { last = moment u now; untold = 0 }) (record { op = op_data; body = reply })
    (Ok (next_of u.send))
write_is u reply now is room fits =
    let item : ItemView = record { op = op_data; body = reply } in
    cond-true (is_open u.state) (write_at_most u (Some MAX_DATA) item (moment u now)) _ (ap is_open is)
    ∙ cond-false (nat_lt MAX_DATA (length reply)) _ (write_item u item (moment u now))
    (le-ltb MAX_DATA (length reply) fits)
    ∙ cond-true (has_window u.send) _ _ room

-- what the write puts out is a copy of the reply, the last of all
pub record IsReply (v : Machine) (l m : LabView) : Type 0 where
  pub copy : Copy
  pub at : CopyAt v B (length m.copies - 1) copy
  pub kind : copy.kind ≡ Nth (length l.b.written)
  pub late : length l.copies ≤ length m.copies - 1

pub record Replied (w : Machine) (l m : LabView) (item : ItemView) (reply : List ℕ) : Type 0 where
  pub served : Served w l m item
  pub written : m.b.written ≡ l.b.written ++ (record { op = op_data; body = reply }) ∷ []
  pub copy : IsReply served.machine l m

-- the reply is the last copy
reply_copy : (u v : Machine) (l m : LabView) (reply : List ℕ)
    (step : Step u (WriteAt B (record { op = op_data; body = reply })) v)
    → Ties u l → Ties v m → AreOpen u → m ≡ after_call l B (Write op_data reply l.clock) → l.b.conn.state ≡ st.Open
    → has_window l.b.conn.send ≡ true → length reply ≤ MAX_DATA
    → m.b.written ≡ l.b.written ++ (record { op = op_data; body = reply }) ∷ [] → IsReply v l m
reply_copy u v l m reply step t tv opens is state room fits written =
    let item : ItemView = record { op = op_data; body = reply } in
    let call : Call = Write op_data reply l.clock in
    let acts = write_is l.b.conn reply l.clock state room fits in
    let c : ConnView = record l.b.conn { last = moment l.b.conn l.clock; untold = 0 } in
    let pk : PacketView = item_packet c (next_of l.b.conn.send) item in
    let packets : (act l.b.conn call).packets ≡ pk ∷ [] = ap (λ a. a.packets) acts in
    let n : ℕ = length l.copies in
    let sent_pk : Sent = stamp_after l B call pk in
    let first : slice_get (act (conn_at l B) call).packets 0 ≡ Some pk = ap (λ ps. slice_get ps 0) packets in
    let put : slice_get m.copies n ≡ Some sent_pk =
    ap (λ (q : LabView). slice_get q.copies n) is ∙ put_at B l call n 0 pk (omega arith) first in
    let count : length l.copies ≡ length u.copies = same_count u l t in
    let sent = sent_at B u v step.0 m n 0 sent_pk tv step.2 (omega (arith, count)) put in
    let long : length m.copies ≡ length l.copies + 1 =
    ap (λ (q : LabView). length q.copies) is ∙ ap length (copies_after B l call)
    ∙ length-append l.copies (map (stamp_after l B call) (act l.b.conn call).packets)
    ∙ ap (λ ps. length l.copies + length (map (stamp_after l B call) ps)) packets in
    let place : n ≡ length m.copies - 1 = omega (arith, long) in
    let i : ℕ = length l.b.written in
    let holds = reached_holds v tv.tied.reached in
    let ok : KindOk sent.copy.kind v.b (len_of sent.copy B) =
    subst (λ (y : Side). KindOk sent.copy.kind (end_of v y) (len_of sent.copy y)) sent.at.sender
    (copy_at v n sent.copy holds sent.at.there).kind_ok in
    let wrote : v.b.written ≡ l.b.written ++ item ∷ [] = sym (written_at B v m tv) ∙ written in
    let longer : length v.b.written ≡ i + 1 = ap length wrote ∙ length-append l.b.written (item ∷ []) in
    let same : length l.b.written ≡ length u.b.written = ap length (written_at B u l t) in
    let base : first_at m B ≡ first_at l B = ap (λ (q : LabView). q.b.first) is in
    let told : l.b.conn.send.sent ≡ told_num (first_at l B) (length u.b.written) =
    ap (λ (q : ConnView). q.send.sent) (shows B u l t (opens B)).is in
    let number : pk.num ≡ num (first_at m B) i =
    ap (λ q. num q 1) told
    ∙ (let after : num (told_num (first_at l B) (length u.b.written)) 1
    ≡ num (first_at l B) (length u.b.written) = omega arith in after)
    ∙ (λ j. num (sym base j) (sym same j)) in
    record {
      copy = sent.copy;
      at = subst (λ q. CopyAt v B q sent.copy) place sent.at;
      kind =
          nth_of sent.copy.kind B (first_at m B) (first_at m A) i (len_of sent.copy B) v.b pk (items_at B v m tv)
          (sent_what B v m n sent_pk sent) ok (end_holds v B holds).ok.caps.1
          (omega (arith, sent.len)) (ap (λ ws. slice_get ws i) wrote ∙ last_item l.b.written item) number
          (omega (arith, longer)) (omega (arith, sent.len, longer));
      late = omega (arith, place);
    }

not_refused : (w : Machine) (l : LabView) (call : Call) (item : ItemView) → refusal_at l B call ≡ None
    → Refuses B w l call (WriteAt B item) → Stepped w (WriteAt B item) (after_call l B call)
not_refused w l call item none (inl r) = let no : None ≡ Some r.0 = sym none ∙ r.1 in absurd (cc)
not_refused w l call item none (inr s) = s

pub serves_command : IsReplyTaken → (w : Machine) (l : LabView) (reply : List ℕ) → Ties w l → AreOpen w
    → (f : AtFront l) → length reply ≤ MAX_DATA
    → Replied w l (after_all l (turn_events (Replies op_data reply))) f.item reply
serves_command law w l reply t opens f fits =
    let item : ItemView = record { op = op_data; body = reply } in
    let h : HasFront l.b.conn = has_front l f in
    let r = read_event B w l t (opens B) in
    let u : Machine = r.machine in
    let k1 : LabView = after_call l B Read in
    let call : Call = Write op_data reply l.clock in
    let m : LabView = after_all l (turn_events (Replies op_data reply)) in
    let taken = law l.b.conn reply l.clock f.room fits in
    let turn : IsTaken l.b.conn l.clock (Replies op_data reply) = (h, (next_of l.b.conn.send, taken)) in
    let both = replied l op_data reply turn in
    let none : refusal_at k1 B call ≡ None = ap refusal_of taken in
    let lab : m ≡ after_call k1 B call = ap (λ o. (call_effect k1 B call o).lab) none in
    let s : Stepped u (WriteAt B item) (after_call k1 B call) =
    not_refused u k1 call item none (write_ties B u k1 op_data reply l.clock r.ties) in
    let v : Machine = s.machine in
    let tv : Ties v m = subst (Ties v) (sym lab) s.ties in
    let left = read_leaves l.b.conn h in
    let opens_u : AreOpen u = λ x. (r.keeps.ends x).opened (opens x) in
    let room : has_window l.b.conn.send ≡ true = has_room l.b.conn f.room in
    let before : length l.copies ≡ length w.copies = same_count w l t in
    let mid : length k1.copies ≡ length u.copies = same_count u k1 r.ties in
    let copy =
    reply_copy u v k1 m reply s.step r.ties tv opens_u lab (left.state ∙ f.is_open) (ap has_window left.send ∙ room)
    fits both.written in
    record {
      served = record {
        machine = v;
        ties = tv;
        goes = goes_on w u v item r.keeps s.step;
        read = both.read;
        count = omega (arith, before, mid, r.keeps.count, copy.late);
      };
      written = both.written;
      copy =
          record { copy = copy.copy; at = copy.at; kind = copy.kind; late = omega (arith, copy.late, before, mid, r.keeps.count) };
    }
  where
    has_room : (v : ConnView) → can_write v ≡ true → has_window v.send ≡ true
    has_room v h = both_left (has_window v.send) (is_open v.state) h
