-- Each event keeps what B's server has done.
use Rattle.std.proofs.Common.{◌≡◌, ℕ, ◌≤◌, suc, zero, List, [], ◌∷◌, ◌++◌, drop, length, Bool, true, false, Option, Some, None, Result, Err, refl, sym, ap, ◌∙◌, subst, inl, inr, arith, length-append}
use Rattle.std.specs.Prelude.{◌||◌, slice_get, nat_le, ◌+◌, ◌*◌}
use Rattle.std.specs.List.{list_any}
use Rattle.std.specs.FinMap as map
use Rattle.std.proofs.lemmas.List.{append-nil}
use Rattle.std.proofs.lemmas.Bool.{false≢true, cond_both, cond-true, cond-false}
use Rattle.chaos_packet.specs.Begins.{Begins}
use Rattle.chaos_packet.specs.Item.{ItemView}
use Rattle.chaos_packet.specs.Opcode.{op_data, kind_of}
use Rattle.chaos_packet.specs.declared.opcode.Kind.TheVariants as kind
use Rattle.chaos_conn.specs.View.{ConnView}
use Rattle.chaos_conn.specs.Calls.{front_of, read_at_open, act_read}
use Rattle.chaos_conn.specs.Acted.{Acted, quietly}
use Rattle.chaos_conn.specs.Sending.{with_sts}
use Rattle.chaos_conn.specs.State.{is_open, is_opening}
use Rattle.chaos_conn.specs.declared.state.State.TheVariants as st
use Rattle.chaos_conn.specs.declared.answers.ReadEnd.{ReadEnd}
use Rattle.chaos_conn.specs.declared.answers.ReadEnd.TheVariants as gave
use Rattle.chaos_window.specs.Receive.{after_advance}
use Rattle.chaos_conn.specs.Act.{act}
use Rattle.chaos_conn.specs.Act.Call.{Read, Write}
use Rattle.chaos_file.specs.declared.error.FileError.TheVariants as e
use Rattle.chaos_file.specs.declared.error.FileError.{FileError}
use Rattle.chaos_file.specs.Answer.{Answer, reply_to}
use Rattle.chaos_file.specs.Apply.{IsApplied, IsStep}
use Rattle.chaos_file.specs.Grammar.{parse_of}
use Rattle.chaos_file.specs.Session.{SessionView, new_session}
use Rattle.chaos_file.specs.Store.{Files}
use Rattle.chaos_file.specs.Step.{file_step}
use Rattle.chaos_file.specs.Replies.{memory_change, replies_of, replies_from, files_after, session_after}
use Rattle.chaos_file.specs.Want.{is_want, is_no_memory}
use Rattle.chaos_file.specs.ServeWork.{Work, NotOpen, Nothing, Full, LastItem, Command, work_of}
use Rattle.chaos_file.specs.declared.served.Served.{Served}
use Rattle.chaos_file.specs.declared.served.Served.TheVariants as told
use Rattle.chaos_lab.specs.declared.side.Side.{Side}
use Rattle.chaos_lab.specs.declared.side.Side.TheVariants.{A, B}
use Rattle.chaos_lab.specs.Machine.{Machine, Reached}
use Rattle.chaos_lab.specs.Law.{writer, reader}
use Rattle.chaos_lab.specs.Shown.{IsUsers}
use Rattle.chaos_lab.specs.Laboratory.{LabView, lab_end, with_given, after_call, after_all, call_effect, refusal_of}
use Rattle.chaos_lab.specs.Tied.{HasMachine}
use Rattle.chaos_lab.specs.Turn.{Turn, Rests, Reads, Replies, HasFront, IsTaken, turn_events}
use Rattle.chaos_lab.specs.Turns.{TurnHappens}
use Rattle.file_lab.specs.Bodies.{with_body, data_bodies, told_want}
use Rattle.file_lab.specs.View.{FileLabView, commands_at_b, replies_of_b, wrote_mem}
use Rattle.file_lab.specs.Serving.{ServesBy}
use Rattle.chaos_lab.specs.declared.fault.LabFault.TheVariants as fault
use Rattle.file_lab.specs.Events.{Serving, ServeHappens, service_of}
use Rattle.file_lab.specs.declared.file_lab.FileLab.TheInside.{Inside}
use Rattle.file_lab.specs.Kept.{IsServed, IsSound}
use Rattle.file_lab.proofs.BodyLists.{begins_split, bodies_append, front_same, last_item, want_same, want_more}
use Rattle.file_lab.proofs.ServedTurns.{only_open, is_work}
use Rattle.file_lab.proofs.QuietSteps.{SameBodies}

-- ---- B's bodies stay

pub same_keeps : (l m : FileLabView) → SameBodies (l.lab.b.written, l.lab.b.read) (m.lab.b.written, m.lab.b.read)
    → m.session ≡ l.session → m.files ≡ l.files → IsServed l → IsServed m
same_keeps l m b session files h isnt =
    let s = h (ap (list_any is_want) (sym b.written) ∙ isnt) in
    record {
      replies = b.written ∙ s.replies ∙ ap (replies_of map.empty) (sym b.read);
      session = session ∙ s.session ∙ ap (session_after map.empty new_session) (sym b.read);
      files = files ∙ s.files ∙ ap (files_after map.empty new_session) (sym b.read);
    }

-- ---- what a turn reads and writes

gives_open : (v : ConnView) (item : ItemView) (front : Option ItemView) → front ≡ Some item
    → (read_at_open v front).answer ≡ gave.Item item
gives_open v item None is = absurd (cc)
gives_open v item (Some other) is =
    let same : other ≡ item = cc in
    let u : ConnView = record v { recv = after_advance v.recv; untold = v.untold + 1 } in
    cond_both (nat_le u.recv.window (3 * u.untold)) (with_sts u (gave.Item other)) (quietly u (gave.Item other))
    (λ (a : Acted ReadEnd). a.answer ≡ gave.Item item)
    (λ _. ap gave.Item same)
    (λ _. ap gave.Item same)

pub read_open_is : (v : ConnView) → HasFront v → act_read v ≡ read_at_open v (front_of v)
read_open_is v h = cond-false _ _ _ (ap is_opening h.is_open) ∙ cond-true _ _ _ (ap is_open h.is_open)

pub read_gives : (v : ConnView) (h : HasFront v) → (act_read v).answer ≡ gave.Item h.item
read_gives v h = ap (λ a. a.answer) (read_open_is v h) ∙ gives_open v h.item (front_of v) h.front

pub reads_one : (l : LabView) (h : HasFront l.b.conn) → (after_call l B Read).b.read ≡ l.b.read ++ h.item ∷ []
reads_one l h = ap (λ g. with_given g l.b.read) (read_gives l.b.conn h)

-- the item that was read and the item that was written
pub record Replied (l m : LabView) (h : HasFront l.b.conn) (op : ℕ) (bytes : List ℕ) : Type 0 where
  pub read : m.b.read ≡ l.b.read ++ h.item ∷ []
  pub written : m.b.written ≡ l.b.written ++ (record { op = op; body = bytes }) ∷ []

pub replied : (l : LabView) (op : ℕ) (bytes : List ℕ) (t : IsTaken l.b.conn l.clock (Replies op bytes))
    → Replied l (after_all l (turn_events (Replies op bytes))) t.0 op bytes
replied l op bytes t =
    let k : LabView = after_call l B Read in
    let v : ConnView = (act l.b.conn Read).view in
    let none : refusal_of (act v (Write op bytes l.clock)).answer ≡ None = ap refusal_of t.1.1 in
    record {
      read = ap (λ o. (call_effect k B (Write op bytes l.clock) o).lab.b.read) none ∙ reads_one l t.0;
      written = ap (λ o. (call_effect k B (Write op bytes l.clock) o).lab.b.written) none;
    }

-- ---- what B's user reads are A's users' items

pub some_is : {X : Type 0} → {x y : X} → Some x ≡ Some y → x ≡ y
some_is h = cc

-- the last of a beginning stands where it stood
pub at_last : (xs ys : List ItemView) (x : ItemView) → Begins (xs ++ x ∷ []) ys → slice_get ys (length xs) ≡ Some x
at_last xs ys x h =
    let one = length-append xs (x ∷ []) in
    ap (λ zs. slice_get zs (length xs)) (begins_split (xs ++ x ∷ []) ys h)
    ∙ sym (front_same (xs ++ x ∷ []) (drop (length (xs ++ x ∷ [])) ys) (length xs) (omega (arith, one)))
    ∙ last_item xs x

pub users_later : (ys : List ItemView) (n : ℕ) (x : ItemView) → 1 ≤ n
    → ((i : ℕ) (item : ItemView) → slice_get ys (suc i) ≡ Some item → IsUsers item) → slice_get ys n ≡ Some x
    → IsUsers x
users_later ys zero x some users at = absurd (omega arith)
users_later ys (suc i) x some users at = users i x at

machine_after : (l m : LabView) (turn : Turn) → HasMachine l → TurnHappens l turn m → HasMachine m
machine_after l m turn h t = let n = t.run h.plain h.ties in record { plain = n.0; ties = n.2 }

-- what the laboratory says of itself: it stands for the plain machine, and an open end has read an item
pub record LabLaws (l : LabView) : Type 0 where
  pub machine : HasMachine l
  pub opened : (x : Side) → (lab_end l x).conn.state ≡ st.Open → 1 ≤ length (lab_end l x).read

-- what was read is a beginning of what was written
abbrev pub Beginning : Type 0
Beginning = (m : Machine) (x : Side) → Reached m → Begins (reader m x).read (writer m x).written

front_users : Beginning → (l m : LabView) (turn : Turn) (h : HasFront l.b.conn) → LabLaws l → TurnHappens l turn m
    → m.b.read ≡ l.b.read ++ h.item ∷ [] → IsUsers h.item
front_users beginning l m turn h had t read =
    let k = machine_after l m turn had.machine t in
    let some : 1 ≤ length l.b.read = had.opened B h.is_open in
    let begin : Begins (l.b.read ++ h.item ∷ []) k.plain.a.written =
    subst (λ xs. Begins xs k.plain.a.written) (sym k.ties.read_b ∙ read)
    (beginning k.plain A k.ties.tied.reached) in
    users_later k.plain.a.written (length l.b.read) h.item some k.ties.tied.items_a.users
    (at_last l.b.read k.plain.a.written h.item begin)

-- ---- bodies of one item more

pub eof_no_body : (items : List ItemView) (item : ItemView) → kind_of item.op ≡ kind.Eof
    → data_bodies (items ++ item ∷ []) ≡ data_bodies items
eof_no_body items item is =
    bodies_append items (item ∷ []) ∙ ap (λ k. data_bodies items ++ with_body k item.body []) is
    ∙ append-nil (data_bodies items)

pub one_body : (items : List ItemView) (item : ItemView) → kind_of item.op ≡ kind.Data
    → data_bodies (items ++ item ∷ []) ≡ data_bodies items ++ item.body ∷ []
one_body items item is = bodies_append items (item ∷ []) ∙ ap (λ k. data_bodies items ++ with_body k item.body []) is

-- ---- one command more

-- no out-of-memory reply among all
pub record NoWant (xs : List (List ℕ)) (x : List ℕ) : Type 0 where
  pub before : list_any is_want xs ≡ false
  pub last : is_want x ≡ false

no_or : (a b : Bool) → (a || b) ≡ false → (a ≡ false) × (b ≡ false)
no_or true b h = absurd (false≢true (sym h))
no_or false b h = (refl, h)

both_no : (a b : Bool) → a ≡ false → b ≡ false → (a || b) ≡ false
both_no a b h k = ap (λ c. c || b) h ∙ k

pub no_want : (xs : List (List ℕ)) (x : List ℕ) → list_any is_want (xs ++ x ∷ []) ≡ false → NoWant xs x
no_want [] x h = record { before = refl; last = (no_or (is_want x) false h).0 }
no_want (y ∷ xs) x h =
    let p = no_or (is_want y) (list_any is_want (xs ++ x ∷ [])) h in
    let k = no_want xs x p.1 in
    record { before = both_no (is_want y) (list_any is_want xs) p.0 k.before; last = k.last }

pub session_more : (m : Files) (s : SessionView) (xs : List (List ℕ)) (c : List ℕ)
    → session_after m s (xs ++ c ∷ []) ≡ (file_step (files_after m s xs) (session_after m s xs) c).session
session_more m s [] c = refl
session_more m s (x ∷ xs) c = session_more (file_step m s x).files (file_step m s x).session xs c

pub files_more : (m : Files) (s : SessionView) (xs : List (List ℕ)) (c : List ℕ)
    → files_after m s (xs ++ c ∷ []) ≡ (file_step (files_after m s xs) (session_after m s xs) c).files
files_more m s [] c = refl
files_more m s (x ∷ xs) c = files_more (file_step m s x).files (file_step m s x).session xs c

-- the laws of the language that this rests on
pub record Laws : Type 0 where
  pub go_on : (m : Files) (xs ys : List (List ℕ))
      → replies_of m (xs ++ ys)
      ≡ replies_of m xs ++ replies_from (files_after m new_session xs) (session_after m new_session xs) ys
  pub honest : (m n : Files) (s t : SessionView) (c reply : List ℕ) → IsApplied (memory_change m n) s t c reply
      → (reply ≡ reply_to (parse_of c) (Err e.NoMemory) → ⊥) → IsStep (memory_change m n) (file_step m s c) reply t
  pub want : (c : List ℕ) (outcome : Result Answer FileError)
      → is_want (reply_to (parse_of c) outcome) ≡ is_no_memory outcome
  pub beginning : Beginning

pub command_keeps : Laws → (l m : FileLabView) (c reply : List ℕ)
    → IsApplied (memory_change l.files m.files) l.session m.session c reply
    → commands_at_b m ≡ commands_at_b l ++ c ∷ [] → replies_of_b m ≡ replies_of_b l ++ reply ∷ [] → IsServed l
    → IsServed m
command_keeps laws l m c reply applied read wrote h isnt =
    let w = no_want (replies_of_b l) reply (ap (list_any is_want) (sym wrote) ∙ isnt) in
    let s = h w.before in
    let cs = commands_at_b l in
    let step = laws.honest l.files m.files l.session m.session c reply applied
    (λ is. false≢true (sym w.last ∙ ap is_want is ∙ laws.want c (Err e.NoMemory))) in
    let at = files_after map.empty new_session cs in
    let in_session = session_after map.empty new_session cs in
    let same : file_step l.files l.session c ≡ file_step at in_session c =
    (λ j. file_step (s.files j) (s.session j) c) in
    record {
      replies =
          wrote ∙ (λ j. s.replies j ++ (step.0 ∙ ap (λ d. d.reply) same) j ∷ [])
          ∙ sym (laws.go_on map.empty cs (c ∷ [])) ∙ ap (replies_of map.empty) (sym read);
      session =
          step.1 ∙ ap (λ d. d.session) same ∙ sym (session_more map.empty new_session cs c)
          ∙ ap (session_after map.empty new_session) (sym read);
      files =
          some_is step.2 ∙ ap (λ d. d.files) same ∙ sym (files_more map.empty new_session cs c)
          ∙ ap (files_after map.empty new_session) (sym read);
    }

-- ---- B's server serves once

rests_keeps : (l m : FileLabView) (turn : Turn) → turn ≡ Rests → service_of m ≡ service_of l
    → m.lab ≡ after_all l.lab (turn_events turn) → IsServed l → IsServed m
rests_keeps l m turn is same after h =
    let lab : m.lab ≡ l.lab = after ∙ ap (λ t. after_all l.lab (turn_events t)) is in
    same_keeps l m
    (record { written = ap (λ k. data_bodies k.b.written) lab; read = ap (λ k. data_bodies k.b.read) lab })
    (ap (λ s. s.session) same) (ap (λ s. s.files) same) h

eof_keeps : (l m : FileLabView) (f : HasFront l.lab.b.conn) → kind_of f.item.op ≡ kind.Eof → service_of m ≡ service_of l
    → m.lab ≡ after_all l.lab (turn_events Reads) → IsServed l → IsServed m
eof_keeps l m f is same after h =
    same_keeps l m
    (record {
      written = ap (λ k. data_bodies k.b.written) after;
      read =
          ap (λ k. data_bodies k.b.read) after ∙ ap data_bodies (reads_one l.lab f)
          ∙ eof_no_body l.lab.b.read f.item is;
    })
    (ap (λ s. s.session) same) (ap (λ s. s.files) same) h

data_of : (item : ItemView) → IsUsers item → (kind_of item.op ≡ kind.Eof → ⊥) → kind_of item.op ≡ kind.Data
data_of item (inl h) isnt = h
data_of item (inr h) isnt = absurd (isnt h.0)

reply_keeps : Laws → (l m : FileLabView) (item : ItemView) (reply : List ℕ) (turn : Turn) → turn ≡ Replies op_data reply
    → front_of l.lab.b.conn ≡ Some item → (kind_of item.op ≡ kind.Eof → ⊥)
    → IsApplied (memory_change l.files m.files) l.session m.session item.body reply → LabLaws l.lab
    → TurnHappens l.lab turn m.lab → IsServed l → IsServed m
reply_keeps laws l m item reply turn is front isnt applied machine t h =
    let u : TurnHappens l.lab (Replies op_data reply) m.lab = subst (λ s. TurnHappens l.lab s m.lab) is t in
    let f : HasFront l.lab.b.conn = u.taken.0 in
    let same : f.item ≡ item = some_is (sym f.front ∙ front) in
    let r = replied l.lab op_data reply u.taken in
    let read : m.lab.b.read ≡ l.lab.b.read ++ f.item ∷ [] = ap (λ k. k.b.read) u.after ∙ r.read in
    let users = front_users laws.beginning l.lab m.lab (Replies op_data reply) f machine u read in
    let is_data : kind_of item.op ≡ kind.Data = data_of item (subst IsUsers same users) isnt in
    command_keeps laws l m item.body reply applied
    (ap data_bodies (read ∙ ap (λ i. l.lab.b.read ++ i ∷ []) same) ∙ one_body l.lab.b.read item is_data)
    (ap data_bodies (ap (λ k. k.b.written) u.after ∙ r.written)
    ∙ one_body l.lab.b.written (record { op = op_data; body = reply }) refl)
    h

pub serving_keeps : Laws → (l m : FileLabView) (served : Served) → LabLaws l.lab → Serving l m served → IsServed l
    → IsServed m
serving_keeps laws l m served machine s h = by (work_of l.lab.b.conn) refl s.serves
  where
    v : ConnView
    v = l.lab.b.conn

    by : (work : Work) → work_of l.lab.b.conn ≡ work → ServesBy (service_of l) (service_of m) s.turn served work
        → IsServed m
    by (NotOpen state) is x = rests_keeps l m s.turn x.0 x.1 s.happens.after h
    by Nothing is x = rests_keeps l m s.turn x.0 x.1 s.happens.after h
    by Full is x = rests_keeps l m s.turn x.0 x.1 s.happens.after h
    by LastItem is x =
        let k = is_work l.lab.b.conn LastItem is in
        let f : HasFront l.lab.b.conn =
        record { is_open = only_open l.lab.b.conn.state k.0; item = k.1; front = k.2 } in
        eof_keeps l m f k.3 x.1 (s.happens.after ∙ ap (λ t. after_all l.lab (turn_events t)) x.0) h
    by (Command body) is x =
        let k = is_work l.lab.b.conn (Command body) is in
        reply_keeps laws l m k.1 x.0 s.turn x.1 k.2 k.5
        (subst (λ b. IsApplied (memory_change l.files m.files) l.session m.session b x.0) (sym k.4) x.3.applied)
        machine s.happens h

-- ---- an out-of-memory reply is known

pub serving_told : (l m : FileLabView) (served : Served) (flag : Bool) → Serving l m served → flag ≡ wrote_mem l
    → (flag || told_want served m.lab.b.written) ≡ wrote_mem m
serving_told l m served flag s is = by (work_of l.lab.b.conn) s.serves
  where
    rested : (turn : Turn) → s.turn ≡ turn → (after_all l.lab (turn_events turn)).b.written ≡ l.lab.b.written
        → ((ws : List ItemView) → told_want served ws ≡ false)
        → (flag || told_want served m.lab.b.written) ≡ wrote_mem m
    rested turn at same none =
        let written : m.lab.b.written ≡ l.lab.b.written =
        ap (λ k. k.b.written) (s.happens.after ∙ ap (λ t. after_all l.lab (turn_events t)) at) ∙ same in
        ap (λ b. flag || b) (none m.lab.b.written) ∙ want_same l.lab.b.written flag is
        ∙ ap (λ ws. list_any is_want (data_bodies ws)) (sym written)

    untold : (other : Served) → served ≡ other → ((ws : List ItemView) → told_want other ws ≡ false)
        → (ws : List ItemView) → told_want served ws ≡ false
    untold other at none ws = ap (λ o. told_want o ws) at ∙ none ws

    by : (work : Work) → ServesBy (service_of l) (service_of m) s.turn served work
        → (flag || told_want served m.lab.b.written) ≡ wrote_mem m
    by (NotOpen state) x = rested Rests x.0 refl (untold (told.Ended state) x.2 (λ ws. refl))
    by Nothing x = rested Rests x.0 refl (untold told.Idle x.2 (λ ws. refl))
    by Full x = rested Rests x.0 refl (untold told.NoRoom x.2 (λ ws. refl))
    by LastItem x = rested Reads x.0 refl (untold told.Eof x.2 (λ ws. refl))
    by (Command body) x =
        let reply : List ℕ = x.0 in
        let item : ItemView = record { op = op_data; body = reply } in
        let u : TurnHappens l.lab (Replies op_data reply) m.lab =
        subst (λ t. TurnHappens l.lab t m.lab) x.1 s.happens in
        let written : m.lab.b.written ≡ l.lab.b.written ++ item ∷ [] =
        ap (λ k. k.b.written) u.after ∙ (replied l.lab op_data reply u.taken).written in
        ap (λ o. flag || told_want o m.lab.b.written) x.2
        ∙ ap (λ ws. flag || told_want told.Replied ws) written
        ∙ want_more l.lab.b.written item flag is
        ∙ ap (λ ws. list_any is_want (data_bodies ws)) (sym written)

-- ---- there was no memory

pub serves_not : (l m : FileLabView) → m ≡ l → ServeHappens l m (Err fault.NoMemory)
serves_not l m same = inr (same, refl)

-- a laboratory whose parts stayed
pub stays_sound : (s t : Inside) → t.lab ≡ s.lab → t.server ≡ s.server → t.wanted ≡ s.wanted → IsSound s → IsSound t
stays_sound s t lab server wanted h =
    subst IsSound (λ j. record { lab = sym lab j; server = sym server j; wanted = sym wanted j }) h
