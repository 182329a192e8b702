-- A user's turn is its events.
use Rattle.std.proofs.Common.{◌≡◌, ℕ, ◌+◌, ◌*◌, ◌≤◌, List, [], ◌∷◌, ◌++◌, length, map, Option, Some, None, Result, Ok, Err, OnOk, OnErr, nat_le, refl, sym, ap, ◌∙◌, subst, arith, append_assoc}
use Rattle.std.specs.Option.{option_to_list}
use Rattle.std.proofs.lemmas.List.{append-nil}
use Rattle.std.proofs.lemmas.Bool.{cond_both, cond-true, cond-false}
use Rattle.chaos_packet.specs.Item.{ItemView}
use Rattle.chaos_packet.specs.Packet.{PacketView, item_of}
use Rattle.chaos_packet.specs.Outbox.{OutboxView}
use Rattle.chaos_window.specs.Receive.{after_advance}
use Rattle.chaos_conn.specs.declared.answers.ReadEnd.{ReadEnd}
use Rattle.chaos_conn.specs.declared.answers.ReadEnd.TheVariants as gave
use Rattle.chaos_conn.specs.View.{ConnView}
use Rattle.chaos_conn.specs.State.{is_open, is_opening}
use Rattle.chaos_conn.specs.Acted.{Acted, quietly}
use Rattle.chaos_conn.specs.Sending.{with_sts}
use Rattle.chaos_conn.specs.Act.{act}
use Rattle.chaos_conn.specs.Act.Call.{Read, FinishRead, Write}
use Rattle.chaos_conn.specs.Act.Reply.{Wrote}
use Rattle.chaos_conn.specs.Calls.{front_of, act_read, act_write, read_at_open}
use Rattle.chaos_lab.specs.declared.side.Side.TheVariants.{B}
use Rattle.chaos_lab.specs.declared.stamped.Stamped.{Stamped as Sent}
use Rattle.chaos_lab.specs.declared.user.Turned.{Turned}
use Rattle.chaos_lab.specs.declared.user.Turned.TheVariants as turned
use Rattle.chaos_lab.specs.Laboratory.{EndView, LabView, stamp, with_given, after_call, after_all, call_effect, refusal_of}
use Rattle.chaos_lab.specs.Turn.{Turn, Rests, Reads, Replies, HasFront, IsTaken, turn_done, turn_events, turn_packets, turn_view}
use Rattle.chaos_lab.specs.Tied.{HasMachine}
use Rattle.chaos_lab.specs.Turns.{TurnHappens}
use Rattle.chaos_lab.specs.Turning.{EndTurns, read_in_turn, stamped_reply, reply_items}
use Rattle.chaos_lab.proofs.Lists.{length-one_more}
use Rattle.chaos_lab.proofs.Runs.{after_machine, run_of}
use Rattle.chaos_lab.proofs.Refusals.{Writes, Refuses, Sends, write_cases}

-- ---- the read

-- a read at an open end gives the item in front
gives_open : (v : ConnView) (item : ItemView) (front : Option ItemView) → front ≡ Some item
    → (read_at_open v front).answer ≡ gave.Item item
gives_open v item None h = absurd (cc)
gives_open v item (Some other) h =
    let u : ConnView = record v { recv = after_advance v.recv; untold = v.untold + 1 } in
    let same : other ≡ item = cc in
    cond_both (nat_le u.recv.window (3 * u.untold)) (with_sts u (gave.Item other)) (quietly u (gave.Item other))
    (λ (a : Acted ReadEnd). a.answer ≡ gave.Item item)
    (λ _. ap gave.Item same)
    (λ _. ap gave.Item same)

read_open_is : (v : ConnView) → HasFront v → act_read v ≡ read_at_open v (front_of v)
read_open_is v h = cond-false _ _ _ (ap is_opening h.is_open) ∙ cond-true _ _ _ (ap is_open h.is_open)

pub read_gives : (v : ConnView) (h : HasFront v) → (act_read v).answer ≡ gave.Item h.item
read_gives v h = ap (λ a. a.answer) (read_open_is v h) ∙ gives_open v h.item (front_of v) h.front

-- a read puts out one packet at most
few_open : (v : ConnView) (front : Option ItemView) → length (read_at_open v front).packets ≤ 1
few_open v None = omega arith
few_open v (Some item) =
    let u : ConnView = record v { recv = after_advance v.recv; untold = v.untold + 1 } in
    cond_both (nat_le u.recv.window (3 * u.untold)) (with_sts u (gave.Item item)) (quietly u (gave.Item item))
    (λ (a : Acted ReadEnd). length a.packets ≤ 1)
    (λ _. omega arith)
    (λ _. omega arith)

few_read : (v : ConnView) → HasFront v → length (act v FinishRead).packets ≤ 1
few_read v h = subst (λ (a : Acted ReadEnd). length a.packets ≤ 1) (sym (read_open_is v h)) (few_open v (front_of v))

-- ---- the write

-- a write that is taken puts out a packet of its item
pub record PutsItem (op : ℕ) (bytes : List ℕ) (packets : List PacketView) : Type 0 where
  pub packet : PacketView
  pub one : packets ≡ packet ∷ []
  pub item : item_of packet ≡ record { op = op; body = bytes }

puts_by : (v : ConnView) (op : ℕ) (bytes : List ℕ) (now n : ℕ)
    → Writes v (record { op = op; body = bytes }) (act_write v op bytes now)
    → Wrote (act_write v op bytes now).answer ≡ Wrote (Ok n) → PutsItem op bytes (act_write v op bytes now).packets
puts_by v op bytes now n (Refuses why is) h =
    let no : Wrote (Err why) ≡ Wrote (Ok n) = sym (ap (λ a. Wrote a.answer) is) ∙ h in absurd (cc)
puts_by v op bytes now n (Sends u is) h = record { packet = _; one = ap (λ a. a.packets) is; item = refl }

puts_item : (v : ConnView) (op : ℕ) (bytes : List ℕ) (now n : ℕ) → (act v (Write op bytes now)).answer ≡ Wrote (Ok n)
    → PutsItem op bytes (act v (Write op bytes now)).packets
puts_item v op bytes now n h = puts_by v op bytes now n (write_cases v op bytes now) h

-- ---- the packets of a reply

stamped_last : (a b : ℕ) (status : List PacketView) (reply : PacketView) → length status ≤ 1
    → stamped_reply a b (status ++ reply ∷ []) ≡ map (stamp B a b) status ++ stamp B a (b + 1) reply ∷ []
stamped_last a b [] reply h = refl
stamped_last a b (x ∷ []) reply h = refl
stamped_last a b (x ∷ y ∷ status) reply h = absurd (omega arith)

items_last : (status : List PacketView) (reply : PacketView) → length status ≤ 1
    → reply_items (status ++ reply ∷ []) ≡ item_of reply ∷ []
items_last [] reply h = refl
items_last (x ∷ []) reply h = refl
items_last (x ∷ y ∷ status) reply h = absurd (omega arith)

-- ---- the laboratory after it

-- by what was done, from what the end put out
abbrev pub sent_in_turn : Turned → ℕ → ℕ → List PacketView → List Sent
sent_in_turn turned.Rested a b packets = map (stamp B a b) packets
sent_in_turn turned.Read a b packets = map (stamp B a b) packets
sent_in_turn turned.Replied a b packets = stamped_reply a b packets

abbrev pub written_in_turn : Turned → List PacketView → List ItemView
written_in_turn turned.Rested packets = []
written_in_turn turned.Read packets = []
written_in_turn turned.Replied packets = reply_items packets

abbrev pub turn_lab : LabView → ℕ → Turn → LabView
turn_lab l now turn =
    let packets = turn_packets l.b.conn now turn in
    record l {
      b =
          record { conn = turn_view l.b.conn now turn; first = l.b.first; written = l.b.written ++ written_in_turn (turn_done turn) packets; read = read_in_turn (turn_done turn) l.b.conn l.b.read };
      copies = l.copies ++ sent_in_turn (turn_done turn) (length l.a.written) (length l.b.written) packets;
    }

given_is : (v : ConnView) (items : List ItemView) (h : HasFront v)
    → items ++ option_to_list (front_of v) ≡ with_given (act_read v).answer items
given_is v items h = ap (λ o. items ++ option_to_list o) h.front ∙ sym (ap (λ g. with_given g items) (read_gives v h))

pub turn_is : (l : LabView) (turn : Turn) → IsTaken l.b.conn l.clock turn
    → turn_lab l l.clock turn ≡ after_all l (turn_events turn)
turn_is l Rests h =
    λ j. record l { b = record l.b { written = append-nil l.b.written j }; copies = append-nil l.copies j }
turn_is l Reads h = λ j. record (after_call l B Read) {
  b =
      record { conn = (act l.b.conn Read).view; first = l.b.first; written = append-nil l.b.written j; read = given_is l.b.conn l.b.read h j };
}
turn_is l (Replies op bytes) h =
    let v : ConnView = (act l.b.conn Read).view in
    let k : LabView = after_call l B Read in
    let put = puts_item v op bytes l.clock h.1.0 h.1.1 in
    let status : List PacketView = (act l.b.conn FinishRead).packets in
    let few = few_read l.b.conn h.0 in
    let item : ItemView = record { op = op; body = bytes } in
    let items : reply_items (status ++ (act v (Write op bytes l.clock)).packets) ≡ item ∷ [] =
    ap (λ ps. reply_items (status ++ ps)) put.one ∙ items_last status put.packet few ∙ ap (λ i. i ∷ []) put.item in
    let a = length l.a.written in
    let b = length l.b.written in
    let one = length-one_more l.b.written item in
    let longer : b + 1 ≡ length (l.b.written ++ item ∷ []) = omega (arith, one) in
    let sent : l.copies ++ stamped_reply a b (status ++ (act v (Write op bytes l.clock)).packets)
    ≡ k.copies ++ map (stamp B a (length (l.b.written ++ item ∷ []))) (act v (Write op bytes l.clock)).packets =
    ap (λ ps. l.copies ++ stamped_reply a b (status ++ ps)) put.one
    ∙ ap (λ ss. l.copies ++ ss) (stamped_last a b status put.packet few)
    ∙ sym (append_assoc l.copies (map (stamp B a b) status) (stamp B a (b + 1) put.packet ∷ []))
    ∙ ap (λ n. (l.copies ++ map (stamp B a b) status) ++ stamp B a n put.packet ∷ []) longer
    ∙ sym (ap (λ ps. k.copies ++ map (stamp B a (length (l.b.written ++ item ∷ []))) ps) put.one) in
    let none : refusal_of (act v (Write op bytes l.clock)).answer ≡ None = ap refusal_of h.1.1 in
    (λ j. record (after_call k B (Write op bytes l.clock)) {
      b =
          record { conn = (act v (Write op bytes l.clock)).view; first = l.b.first; written = l.b.written ++ items j; read = given_is l.b.conn l.b.read h.0 j };
      copies = sent j;
    })
    ∙ sym (ap (λ o. (call_effect k B (Write op bytes l.clock) o).lab) none)

-- the end's user took a turn, and what was put out has joined both lists
pub turned_lab : (l m : LabView) (turn : Turn) (result : Turned) (e : EndView) (before after : OutboxView)
    → EndTurns l.b l.clock turn e before after result → before.packets ≡ []
    → m
    ≡ record l
    { b = record e { written = e.written ++ written_in_turn result after.packets }; copies = l.copies ++ sent_in_turn result (length l.a.written) (length e.written) after.packets }
    → m ≡ after_all l (turn_events turn)
turned_lab l m turn result e before after t empty is =
    let packets : after.packets ≡ turn_packets l.b.conn l.clock turn =
    ap (λ o. o.packets) t.conn.packets ∙ ap (λ ps. ps ++ turn_packets l.b.conn l.clock turn) empty in
    is
    ∙ (λ j. record l {
      b = record {
        conn = t.conn.view j;
        first = t.first j;
        written = t.written j ++ written_in_turn (t.conn.done j) (packets j);
        read = (t.read ∙ ap (λ d. read_in_turn d l.b.conn l.b.read) t.conn.done) j;
      };
      copies = l.copies ++ sent_in_turn (t.conn.done j) (length l.a.written) (length (t.written j)) (packets j);
    })
    ∙ turn_is l turn t.conn.taken

-- ---- so it stands for a plain machine still

-- what a rig says of a turn
abbrev pub TakenBy : (Turn → Type 0) → LabView → LabView → Type 0
TakenBy may l m = (turn : Turn) × may turn × IsTaken l.b.conn l.clock turn × (m ≡ after_all l (turn_events turn))

module _ {R E : Type 0} where
  pub turn_machine : (may : Turn → Type 0) (same : Type 0) (l m : LabView) (r : Result R E) → HasMachine l
      → OnOk r (TakenBy may l m) → OnErr r ((m ≡ l) × same) → HasMachine m
  turn_machine may same l m (Ok x) h t s = after_machine l m (turn_events t.0) h t.3
  turn_machine may same l m (Err x) h t s = subst HasMachine (sym s.0) h

  pub turn_on : (may : Turn → Type 0) (l m : LabView) (r : Result R E) → OnOk r (TakenBy may l m)
      → OnOk r ((turn : Turn) × may turn × TurnHappens l turn m)
  turn_on may l m (Ok x) t = (t.0, t.1, record { taken = t.2; after = t.3; run = run_of l m (turn_events t.0) t.3 })
  turn_on may l m (Err x) t = tt
