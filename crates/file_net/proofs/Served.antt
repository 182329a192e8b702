-- B's server reads an item of one of its connections, and writes a reply.
use Rattle.std.proofs.Common.{◌≡◌, ℕ, ◌+◌, ◌≤◌, ◌==◌, Bool, true, false, if◌then◌else◌, List, [], ◌∷◌, ◌++◌, length, Option, Some, None, refl, sym, ap, ◌∙◌, subst, inl, inr}
use Rattle.std.specs.Prelude.{slice_get}
use Rattle.std.proofs.lemmas.Bool.{false≢true, cond-true, cond-false, eq-eqb}
use Rattle.chaos_packet.specs.Begins.{Begins}
use Rattle.chaos_packet.specs.Item.{ItemView}
use Rattle.chaos_packet.specs.Opcode.{op_data}
use Rattle.chaos_packet.specs.declared.limits.TheConstants.{MAX_DATA}
use Rattle.chaos_conn.specs.declared.state.State.TheVariants as st
use Rattle.chaos_conn.specs.State.{is_inactive, is_live}
use Rattle.chaos_conn.specs.Calls.{act_read, front_of, can_write}
use Rattle.chaos_conn.specs.Act.{Call, act}
use Rattle.chaos_conn.specs.Act.Call.{Write, FinishRead}
use Rattle.chaos_conn.specs.Names.{is_refused}
use Rattle.chaos_host.specs.declared.slot.Slot.{Slot}
use Rattle.chaos_host.specs.Slot.{is_free, place_of, named_slot}
use Rattle.chaos_host.specs.Acted.{slot_after_call}
use Rattle.chaos_host.specs.Calls.{call_slot}
use Rattle.chaos_host.specs.Deeds.{by_named}
use Rattle.chaos_host.specs.Deeds.HostEvent.{Calls}
use Rattle.chaos_host.proofs.Indices.{named_is}
use Rattle.chaos_file.proofs.ServeSlots.{named_after}
use Rattle.chaos_file.proofs.ReplyTaken.{read_leaves, reply_taken}
use Rattle.chaos_lab.specs.declared.side.Side.{Side}
use Rattle.chaos_lab.specs.declared.side.Side.TheVariants.{A, B}
use Rattle.chaos_lab.specs.Machine.{other}
use Rattle.chaos_lab.specs.Laboratory.{LabView, EndView, lab_end, with_given}
use Rattle.chaos_lab.specs.Shown.{IsUsers}
use Rattle.chaos_lab.specs.Tied.{HasMachine}
use Rattle.chaos_lab.proofs.Plays.{reads_begin, open_has_read}
use Rattle.file_lab.proofs.KeptSteps.{at_last, read_gives, users_later}
use Rattle.chaos_net.specs.Net.{Name, Story, Station, Net, Reached, goes_on, story_after, after_slot, after_deed, happens}
use Rattle.chaos_net.specs.Net.NetEvent.{At}
use Rattle.chaos_net.specs.Played.{IsEnd, IsLinked, HasPeer, ArePlayed, plain}
use Rattle.chaos_net.specs.Present.{IsPresent, named}
use Rattle.chaos_net.proofs.Lists.{some_eq}
use Rattle.chaos_net.proofs.Holding.{end_read, twice}
use Rattle.chaos_net.proofs.Next.{look_own, look_other}
use Rattle.chaos_net.proofs.Network.{reached_is_played}
use Rattle.chaos_net.proofs.Present.{named_is_present}
use Rattle.chaos_net.proofs.Standing.{reached_on}
use Rattle.file_net.specs.FileNet.{after_reading}

-- ---- a call of B's server

-- the stories of B after a call on a connection: its own goes on, and no other changes
pub record IsCalled (n m : Net) (call : Call) (c : Name) (s : Story) : Type 0 where
  pub there : (n B).story c ≡ Some s
  pub own : (m B).story c ≡ Some (goes_on s call None)
  pub others : (d : Name) → (c ≡ d → ⊥) → (m B).story d ≡ (n B).story d

pub is_called : (n : Net) (id : ℕ) (call : Call) (slot : Slot) → named_slot (n B).host.slots id ≡ Some slot
    → (p : IsPresent (n B) id slot)
    → IsCalled n (happens n (At B (Calls id call))) call (named (n B) id) p.story
is_called n id call slot names p =
    let own : Station = n B in
    let place : ℕ = place_of id in
    let c : Name = named own id in
    let i = named_is id (slice_get own.host.slots place) slot names in
    let made : (d : Name) → (happens n (At B (Calls id call)) B).story d
    ≡ (after_slot own place call None (Some slot)).story d =
    λ d. ap (λ o. (after_deed own (by_named id call o) None).story d) names
    ∙ ap (λ o. (after_slot own place call None o).story d) i.0 in
    record {
      there = p.there;
      own =
          made c ∙ look_own own.story c (story_after (own.story c) slot.conn call None)
          ∙ ap (λ o. story_after o slot.conn call None) p.there;
      others = λ d apart.
          made d ∙ look_other own.story c (story_after (own.story c) slot.conn call None) d (λ same. apart (sym same));
    }

-- a slot that stays in use keeps its connection's name
named_stays : (n : Net) (id : ℕ) (call : Call) (slot : Slot) → named_slot (n B).host.slots id ≡ Some slot
    → is_free (slot_after_call slot call) ≡ false
    → named (happens n (At B (Calls id call)) B) id ≡ named (n B) id
named_stays n id call slot names used =
    let own : Station = n B in
    let place : ℕ = place_of id in
    let i = named_is id (slice_get own.host.slots place) slot names in
    let turn : (happens n (At B (Calls id call)) B).turn place ≡ own.turn place =
    ap (λ o. (after_deed own (by_named id call o) None).turn place) names
    ∙ ap (λ o. (after_slot own place call None o).turn place) i.0
    ∙ cond-true (place == place) _ (own.turn place) (eq-eqb place place refl)
    ∙ cond-false (is_free (slot_after_call slot call)) (own.turn place + 1) (own.turn place) used in
    λ j. record { place = place; turn = turn j }

-- ---- an item is read

-- an open connection of B with an item in front
pub record HasItem (n : Net) (id : ℕ) (slot : Slot) (item : ItemView) : Type 0 where
  pub reached : Reached n
  pub names : named_slot (n B).host.slots id ≡ Some slot
  pub state : slot.conn.state ≡ st.Open
  pub front : front_of slot.conn ≡ Some item

-- the net after that: the item joined what the connection has read, and it is still there
pub record HasRead (n : Net) (id : ℕ) (slot : Slot) (item : ItemView) (s : Story) : Type 0 where
  pub reached : Reached (after_reading n id)
  pub called : IsCalled n (after_reading n id) FinishRead (named (n B) id) s
  pub state : s.end.conn.state ≡ st.Open
  pub read : (goes_on s FinishRead None).end.read ≡ s.end.read ++ item ∷ []
  pub written : (goes_on s FinishRead None).end.written ≡ s.end.written
  pub names : named_slot (after_reading n id B).host.slots id ≡ Some (slot_after_call slot FinishRead)
  pub name : named (after_reading n id B) id ≡ named (n B) id

pub has_read : (n : Net) (id : ℕ) (slot : Slot) (item : ItemView) → HasItem n id slot item
    → (s : Story) × HasRead n id slot item s
has_read n id slot item h =
    let p = named_is_present n B id slot h.reached h.names in
    let s : Story = p.story in
    let used : is_inactive (act slot.conn FinishRead).view.state ≡ false =
    ap is_inactive ((read_leaves slot.conn h.state).state ∙ h.state) in (
      s,
      record {
        reached = reached_on n (At B (Calls id FinishRead)) h.reached refl;
        called = is_called n id FinishRead slot h.names p;
        state = ap (λ v. v.state) p.conn ∙ h.state;
        read =
            ap (λ v. with_given (act_read v).answer s.end.read) p.conn
            ∙ ap (λ g. with_given g s.end.read) (read_gives slot.conn (record { is_open = h.state; item = item; front = h.front }));
        written = refl;
        names =
            ap (λ o. named_slot (call_slot (n B).host id FinishRead o).view.slots id) h.names
            ∙ named_after (n B).host.slots id slot (slot_after_call slot FinishRead) h.names refl used;
        name = named_stays n id FinishRead slot h.names used;
      },
    )

-- ---- a reply is written behind it

-- the net after both
pub record HasReplied (n m : Net) (c : Name) (item : ItemView) (reply : List ℕ) : Type 0 where
  pub reached : Reached m
  pub before : Story
  pub after : Story
  pub there : (n B).story c ≡ Some before
  pub own : (m B).story c ≡ Some after
  pub others : (d : Name) → (c ≡ d → ⊥) → (m B).story d ≡ (n B).story d
  pub read : after.end.read ≡ before.end.read ++ item ∷ []
  pub written : after.end.written ≡ before.end.written ++ record { op = op_data; body = reply } ∷ []

either_same : {X : Type 0} (b : Bool) (x : X) → (if b then x else x) ≡ x
either_same true x = refl
either_same false x = refl

pub has_replied : (n : Net) (id now : ℕ) (slot : Slot) (item : ItemView) (reply : List ℕ) → HasItem n id slot item
    → can_write slot.conn ≡ true → length reply ≤ MAX_DATA
    → HasReplied n (happens (after_reading n id) (At B (Calls id (Write op_data reply now)))) (named (n B) id) item reply
has_replied n id now slot item reply h can fits =
    let c : Name = named (n B) id in
    let k = has_read n id slot item h in
    let s : Story = k.0 in
    let t : Story = goes_on s FinishRead None in
    let one : Net = after_reading n id in
    let left : Slot = slot_after_call slot FinishRead in
    let call : Call = Write op_data reply now in
    let p = named_is_present one B id left k.1.reached k.1.names in
    let two = is_called one id call left k.1.names p in
    let same : p.story ≡ t =
    some_eq (sym two.there ∙ ap (one B).story k.1.name ∙ k.1.called.own) in
    let conn : t.end.conn ≡ left.conn = ap (λ z. z.end.conn) (sym same) ∙ p.conn in
    let taken : is_refused (act t.end.conn call).answer ≡ false =
    ap (λ v. is_refused (act v call).answer) conn ∙ ap is_refused (reply_taken slot.conn reply now can fits) in
    record {
      reached = reached_on one (At B (Calls id call)) k.1.reached refl;
      before = s;
      after = goes_on t call None;
      there = k.1.called.there;
      own =
          ap (happens one (At B (Calls id call)) B).story (sym k.1.name) ∙ two.own
          ∙ ap (λ z. Some (goes_on z call None)) same;
      others = λ d apart.
          two.others d (λ is. apart (sym k.1.name ∙ is)) ∙ k.1.called.others d apart;
      read = either_same (is_refused (act t.end.conn call).answer) t.end.read ∙ k.1.read;
      written =
          ap (λ (b : Bool). if b then t.end.written else (t.end.written ++ record { op = op_data; body = reply } ∷ [])) taken
          ∙ ap (λ ws. ws ++ record { op = op_data; body = reply } ∷ []) k.1.written;
    }

-- ---- what a connection reads are its peer's user's items

-- the laboratory in which a connection plays
pub record Plays (s : Story) : Type 0 where
  pub lab : LabView
  pub side : Side
  pub machine : HasMachine lab
  pub end : IsEnd side s.end (lab_end lab side)

pub in_lab : (n : Net) (x : Side) (name : Name) (s : Story) → ArePlayed n → (n x).story name ≡ Some s → Plays s
in_lab n x name s h there = by s.peer s.asked refl refl ((h x).station.stories name s there).peer
  where
    by : (peer : Option Name) (asked : Bool) → s.peer ≡ peer → s.asked ≡ asked
        → HasPeer (n (other x)) name s peer asked → Plays s
    by None asked peer is known =
        let pair = (h x).pairs name name s there (is ∙ known.0) in
        record { lab = pair.0; side = A; machine = pair.1.machine; end = pair.1.linked (subst (λ o. IsLinked o name) (sym peer) tt) }
    by (Some taker) true peer is known =
        let pair = (h x).pairs name taker s there is in
        record { lab = pair.0; side = A; machine = pair.1.machine; end = pair.1.linked (subst (λ o. IsLinked o taker) (sym peer) refl) }
    by (Some asker) false peer is known =
        let y = other x in
        let pair = (h y).pairs asker name known.0 known.1 known.2 in
        let here : (n (other y)).story name ≡ Some s = ap (λ z. (n z).story name) (twice x) ∙ there in
        record { lab = pair.0; side = B; machine = pair.1.machine; end = pair.1.taken s here (is, peer) }

-- an open one has read something
pub opened : (s : Story) → Plays s → s.end.conn.state ≡ st.Open → 1 ≤ length s.end.read
opened s p state =
    let same : lab_end p.lab p.side ≡ plain p.side s.end = playing p.end in
    let some = open_has_read p.lab p.side p.machine (ap (λ e. e.conn.state) same ∙ state) in
    subst (λ xs. 1 ≤ length xs) (end_read p.side s.end (lab_end p.lab p.side) p.end) some
  where
    playing : {l : EndView} → IsEnd p.side s.end l → l ≡ plain p.side s.end
    playing (inl is) = is
    playing (inr past) = absurd (false≢true (sym past.over.dead ∙ ap is_live state))

-- the last of more than one
lab_users : (l : LabView) (y : Side) (xs : List ItemView) (item : ItemView) → HasMachine l
    → (lab_end l y).read ≡ xs ++ item ∷ [] → 1 ≤ length xs → IsUsers item
lab_users l A xs item m read some =
    let begins : Begins (xs ++ item ∷ []) m.plain.b.written =
    subst (λ (z : List ItemView × List ItemView). Begins z.0 z.1) (λ j. (read j, m.ties.written_b j)) (reads_begin l B m) in
    users_later m.plain.b.written (length xs) item some m.ties.tied.items_b.users
    (at_last xs m.plain.b.written item begins)
lab_users l B xs item m read some =
    let begins : Begins (xs ++ item ∷ []) m.plain.a.written =
    subst (λ (z : List ItemView × List ItemView). Begins z.0 z.1) (λ j. (read j, m.ties.written_a j)) (reads_begin l A m) in
    users_later m.plain.a.written (length xs) item some m.ties.tied.items_a.users
    (at_last xs m.plain.a.written item begins)

-- the item that an open connection of B reads is data or an EOF
pub item_is_users : (n : Net) (id : ℕ) (slot : Slot) (item : ItemView) → HasItem n id slot item → IsUsers item
item_is_users n id slot item h =
    let k = has_read n id slot item h in
    let s : Story = k.0 in
    let c : Name = named (n B) id in
    let some = opened s (in_lab n B c s (reached_is_played n h.reached) k.1.called.there) k.1.state in
    let t : Story = goes_on s FinishRead None in
    let p = in_lab (after_reading n id) B c t (reached_is_played (after_reading n id) k.1.reached) k.1.called.own in
    lab_users p.lab p.side s.end.read item p.machine (end_read p.side t.end (lab_end p.lab p.side) p.end ∙ k.1.read) some
