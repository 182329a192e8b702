-- What the user of a connection says and hears: in events, in a call and in a step of its engine.
use Rattle.std.proofs.Common.{◌≡◌, ◌⊎◌, ℕ, Bool, true, false, if◌then◌else◌, List, [], ◌∷◌, ◌++◌, Option, Some, None, Ok, Err, map, refl, sym, ap, ◌∙◌, subst, append_assoc, append-nil, arith, inl, inr, ◌==◌}
use Rattle.std.proofs.lemmas.List.{append_cancel_left}
use Rattle.std.specs.List.{AllByRecursion}
use Rattle.chaos_packet.specs.Item.{ItemView}
use Rattle.chaos_packet.specs.Opcode.{kind_of, is_data, op_rfc, op_opn, op_cls, op_fwd, op_ans, op_sns, op_sts, op_los, op_lsn, op_eof, op_unc}
use Rattle.chaos_packet.specs.declared.opcode.Kind.{Kind}
use Rattle.chaos_packet.specs.declared.opcode.Kind.TheVariants as kind
use Rattle.chaos_conn.specs.declared.answers.ReadEnd.TheVariants as gave
use Rattle.chaos_conn.specs.Act.{Call}
use Rattle.chaos_conn.specs.Act.Call.{Request, TakeRequest, Accept, Answer, Reject, Deliver, Write, Unc, Read, FinishRead, Announce, Close, Tick}
use Rattle.chaos_conn.specs.Act.Reply.{Did, Came, Wrote, Gave, Finished, Ticks as Ticked}
use Rattle.chaos_host.specs.Calls.{HostReply, host_call}
use Rattle.chaos_host.specs.Deeds.HostEvent.{Comes, Calls, Ends, Releases, Connects, Listens, Ticks}
use Rattle.chaos_file.specs.Store.{Files}
use Rattle.chaos_lab.specs.declared.side.Side.TheVariants.{A, B}
use Rattle.chaos_net.specs.Net.{Name, is_name}
use Rattle.chaos_net.specs.Net.NetEvent.{At, Arrives}
use Rattle.chaos_net.specs.Present.{named, read_of, written_of}
use Rattle.chaos_net.proofs.Next.{same_name}
use Rattle.file_copy.specs.Talk.{received_in}
use Rattle.file_client.specs.Calls.{call_by, is_wrote, data_read}
use Rattle.file_client.specs.Talk.{Talker, Talk, Step, Calls as Asks, Writes, Reads, Turns, and_then, command_item}
use Rattle.file_lab.specs.Bodies.{with_body, data_bodies}
use Rattle.file_net.specs.FileNet.{FileNet, FileEvent, Nets, Serves, FileRun, FileReached, file_happens, is_item_call}
use Rattle.file_net.specs.Users.{item_taken, item_given, said_at, heard_at, said_in, heard_in}
use Rattle.file_net.proofs.Users.{users_are_told}

-- ---- definitions

-- The user of this connection of A says and hears nothing in these events, from this net on.
pub record IsQuiet (a : Name) (f : FileNet) (events : List FileEvent) : Type 0 where
  pub said : said_in f events a ≡ []
  pub heard : heard_in f events a ≡ []

-- The client called its connection, and then other things happened; or it didn't, and they did.
pub record IsCalled (a : Name) (f : FileNet) (c : Talker) (call : Call) (answer : HostReply) (events : List FileEvent)
    : Type 0 where
  pub id : ℕ
  pub has : c.caller.id ≡ Some id
  pub named_so : named (f.net A) id ≡ a
  pub host : (f.net A).host ≡ c.caller.host
  pub told : answer ≡ (host_call c.caller.host id call).answer
  pub others : List FileEvent
  pub is : events ≡ Nets (At A (Calls id call)) ∷ others
  pub quiet : IsQuiet a (file_happens f (Nets (At A (Calls id call)))) others

-- A step of the client, from a net on, was these events: its write and its read are calls of its connection with this name, or were
-- not made; its turn is whatever happens
-- meanwhile, in which its user says and hears nothing.
abbrev pub Takes : Name → FileNet → Talker → Step → List FileEvent → Type 0
Takes a f c (Asks now) events = ⊥
Takes a f c (Writes item now taken) events =
    ((taken ≡ false) × IsQuiet a f events)
    ⊎ ((answer : HostReply) × (taken ≡ is_wrote answer) × IsCalled a f c (Write item.op item.body now) answer events)
Takes a f c (Reads got) events =
    ((got ≡ None) × IsQuiet a f events)
    ⊎ ((answer : HostReply) × (got ≡ data_read answer) × IsCalled a f c Read answer events)
Takes a f c (Turns now asks) events = IsQuiet a f events

-- The client's host is A's, and its connection has this name.
pub record StandsAt (a : Name) (f : FileNet) (c : Talker) (id : ℕ) : Type 0 where
  pub host : (f.net A).host ≡ c.caller.host
  pub has : c.caller.id ≡ Some id
  pub named_so : named (f.net A) id ≡ a

-- ---- kinds

abbrev Bodiless : Kind → Type 0
Bodiless k = (body : List ℕ) → with_body k body [] ≡ []

either : (b : Bool) (k l : Kind) → Bodiless k → Bodiless l → Bodiless (if b then k else l)
either true k l h g = h
either false k l h g = g

-- an item that is no data has no body among the data
no_data : (op : ℕ) → is_data op ≡ false → Bodiless (kind_of op)
no_data op none =
    either (op == op_rfc) _ _ (λ b. refl)
    (either (op == op_opn) _ _ (λ b. refl)
    (either (op == op_cls) _ _ (λ b. refl)
    (either (op == op_fwd) _ _ (λ b. refl)
    (either (op == op_ans) _ _ (λ b. refl)
    (either (op == op_sns) _ _ (λ b. refl)
    (either (op == op_sts) _ _ (λ b. refl)
    (either (op == op_los) _ _ (λ b. refl)
    (either (op == op_lsn) _ _ (λ b. refl)
    (either (op == op_eof) _ _ (λ b. refl)
    (either (op == op_unc) _ _ (λ b. refl)
    (subst (λ b. Bodiless (if b then kind.Data else kind.Other)) (sym none) (λ b. refl))))))))))))

skip : (b : Bool) (k l : Kind) → b ≡ false → (if b then k else l) ≡ l
skip true k l e = absurd (let no : ⊥ = cc in no)
skip false k l e = refl

is_kind_data : (op : ℕ) → is_data op ≡ true → kind_of op ≡ kind.Data
is_kind_data op some =
    skip (op == op_rfc) _ _ (grind (arith, some)) ∙ skip (op == op_opn) _ _ (grind (arith, some))
    ∙ skip (op == op_cls) _ _ (grind (arith, some)) ∙ skip (op == op_fwd) _ _ (grind (arith, some))
    ∙ skip (op == op_ans) _ _ (grind (arith, some)) ∙ skip (op == op_sns) _ _ (grind (arith, some))
    ∙ skip (op == op_sts) _ _ (grind (arith, some)) ∙ skip (op == op_los) _ _ (grind (arith, some))
    ∙ skip (op == op_lsn) _ _ (grind (arith, some)) ∙ skip (op == op_eof) _ _ (grind (arith, some))
    ∙ skip (op == op_unc) _ _ (grind (arith, some))
    ∙ ap (λ b. if b then kind.Data else kind.Other) some

-- the data that a read gave
item_data : (item : ItemView) (b : Bool) → is_data item.op ≡ b
    → data_bodies (item ∷ []) ≡ received_in (if b then Some item.body else None)
item_data item true e = ap (λ k. with_body k item.body []) (is_kind_data item.op e)
item_data item false e = no_data item.op e item.body

reply_data : (answer : HostReply) → data_bodies (item_given answer) ≡ received_in (data_read answer)
reply_data (Ok (Gave (gave.Item item))) = item_data item (is_data item.op) refl
reply_data (Ok (Gave gave.Nothing)) = refl
reply_data (Ok (Gave (gave.Ended state))) = refl
reply_data (Ok (Wrote result)) = refl
reply_data (Err fault) = refl
reply_data (Ok (Did outcome)) = refl
reply_data (Ok (Came delivered)) = refl
reply_data (Ok (Finished end)) = refl
reply_data (Ok (Ticked ticked)) = refl

-- the item that a write took
abbrev pub items_if : Bool → ItemView → List ItemView
items_if true item = item ∷ []
items_if false item = []

write_data : (answer : HostReply) (item : ItemView) → item_taken answer item ≡ items_if (is_wrote answer) item
write_data (Ok (Wrote (Ok number))) item = refl
write_data (Ok (Wrote (Err why))) item = refl
write_data (Err fault) item = refl
write_data (Ok (Gave end)) item = refl
write_data (Ok (Did outcome)) item = refl
write_data (Ok (Came delivered)) item = refl
write_data (Ok (Finished end)) item = refl
write_data (Ok (Ticked ticked)) item = refl

-- ---- runs

pub run_on : (es fs : List FileEvent) (f g h : FileNet) → FileRun f es g → FileRun g fs h → FileRun f (es ++ fs) h
run_on [] fs f g h first next = subst (λ u. FileRun u fs h) first next
run_on (e ∷ es) fs f g h first next = (first.0, run_on es fs (file_happens f e) g h first.1 next)

pub said_on : (es fs : List FileEvent) (f g : FileNet) (a : Name) → FileRun f es g
    → said_in f (es ++ fs) a ≡ said_in f es a ++ said_in g fs a
said_on [] fs f g a run = ap (λ u. said_in u fs a) (sym run)
said_on (e ∷ es) fs f g a run =
    ap (λ l. said_at f e a ++ l) (said_on es fs (file_happens f e) g a run.1)
    ∙ sym (append_assoc (said_at f e a) (said_in (file_happens f e) es a) (said_in g fs a))

pub heard_on : (es fs : List FileEvent) (f g : FileNet) (a : Name) → FileRun f es g
    → heard_in f (es ++ fs) a ≡ heard_in f es a ++ heard_in g fs a
heard_on [] fs f g a run = ap (λ u. heard_in u fs a) (sym run)
heard_on (e ∷ es) fs f g a run =
    ap (λ l. heard_at f e a ++ l) (heard_on es fs (file_happens f e) g a run.1)
    ∙ sym (append_assoc (heard_at f e a) (heard_in (file_happens f e) es a) (heard_in g fs a))

-- ---- other events

-- an event by which users of A say and hear nothing
abbrev pub is_by_user : FileEvent → Bool
is_by_user (Nets (At A (Calls id call))) = is_item_call call
is_by_user event = false

abbrev pub IsOther : FileEvent → Type 0
IsOther event = is_by_user event ≡ false

record IsSilent (f : FileNet) (event : FileEvent) (a : Name) : Type 0 where
  said : said_at f event a ≡ []
  heard : heard_at f event a ≡ []

call_silent : (f : FileNet) (id : ℕ) (call : Call) (a : Name) → IsOther (Nets (At A (Calls id call)))
    → IsSilent f (Nets (At A (Calls id call))) a
call_silent f id (Write op bytes now) a other = absurd (let no : ⊥ = cc in no)
call_silent f id Read a other = absurd (let no : ⊥ = cc in no)
call_silent f id FinishRead a other = absurd (let no : ⊥ = cc in no)
call_silent f id (Request me peer contact start now) a other = record { said = refl; heard = refl }
call_silent f id (TakeRequest rfc me now) a other = record { said = refl; heard = refl }
call_silent f id (Accept start now) a other = record { said = refl; heard = refl }
call_silent f id (Answer bytes) a other = record { said = refl; heard = refl }
call_silent f id (Reject text) a other = record { said = refl; heard = refl }
call_silent f id (Deliver packet now) a other = record { said = refl; heard = refl }
call_silent f id (Unc bytes) a other = record { said = refl; heard = refl }
call_silent f id (Announce bytes) a other = record { said = refl; heard = refl }
call_silent f id (Close text) a other = record { said = refl; heard = refl }
call_silent f id (Tick now) a other = record { said = refl; heard = refl }

other_silent : (f : FileNet) (event : FileEvent) (a : Name) → IsOther event → IsSilent f event a
other_silent f (Nets (At A (Calls id call))) a other = call_silent f id call a other
other_silent f (Nets (At A (Comes packet now))) a other = record { said = refl; heard = refl }
other_silent f (Nets (At A (Ends id call))) a other = record { said = refl; heard = refl }
other_silent f (Nets (At A (Releases id))) a other = record { said = refl; heard = refl }
other_silent f (Nets (At A (Connects peer contact start now))) a other = record { said = refl; heard = refl }
other_silent f (Nets (At A (Listens contact))) a other = record { said = refl; heard = refl }
other_silent f (Nets (At A (Ticks place now))) a other = record { said = refl; heard = refl }
other_silent f (Nets (At B event)) a other = record { said = refl; heard = refl }
other_silent f (Nets (Arrives side k now)) a other = record { said = refl; heard = refl }
other_silent f (Serves id now way) a other = record { said = refl; heard = refl }

pub others_silent : (f : FileNet) (events : List FileEvent) (a : Name) → AllByRecursion IsOther events → IsQuiet a f events
others_silent f [] a all = record { said = refl; heard = refl }
others_silent f (e ∷ es) a all =
    let one = other_silent f e a all.0 in
    let rest = others_silent (file_happens f e) es a all.1 in
    record {
      said = ap (λ l. l ++ said_in (file_happens f e) es a) one.said ∙ rest.said;
      heard = ap (λ l. l ++ heard_in (file_happens f e) es a) one.heard ∙ rest.heard;
    }

-- ---- a step

-- what a step adds
abbrev pub sent_by : Step → List ItemView
sent_by (Writes item now taken) = items_if taken item
sent_by step = []

abbrev pub heard_by : Step → List (List ℕ)
heard_by (Reads got) = received_in got
heard_by step = []

pub record StepSays (a : Name) (f : FileNet) (step : Step) (events : List FileEvent) : Type 0 where
  pub said : said_in f events a ≡ data_bodies (sent_by step)
  pub heard : heard_in f events a ≡ heard_by step

own_call : (a b : Name) (xs : List ItemView) → b ≡ a → (if is_name a b then xs else []) ≡ xs
own_call a b xs e =
    ap (λ z. if is_name a z then xs else []) e ∙ ap (λ t. if t then xs else []) (same_name a)

write_says : (a : Name) (f : FileNet) (c : Talker) (item : ItemView) (now : ℕ) (taken : Bool) (answer : HostReply)
    (events : List FileEvent) → taken ≡ is_wrote answer → IsCalled a f c (Write item.op item.body now) answer events
    → StepSays a f (Writes item now taken) events
write_says a f c item now taken answer events is k =
    let call : Call = Write item.op item.body now in
    let event : FileEvent = Nets (At A (Calls k.id call)) in
    let rest = k.quiet in
    let told : answer ≡ (host_call (f.net A).host k.id call).answer =
    k.told ∙ ap (λ h. (host_call h k.id call).answer) (sym k.host) in
    record {
      said =
          ap (λ es. said_in f es a) k.is
          ∙ (ap (λ l. said_at f event a ++ l) rest.said ∙ append-nil (said_at f event a))
          ∙ ap data_bodies
          (own_call a (named (f.net A) k.id) _ k.named_so ∙ ap (λ r. item_taken r item) (sym told) ∙ write_data answer item
          ∙ ap (λ b. items_if b item) (sym is));
      heard = ap (λ es. heard_in f es a) k.is ∙ rest.heard;
    }

read_says : (a : Name) (f : FileNet) (c : Talker) (got : Option (List ℕ)) (answer : HostReply) (events : List FileEvent)
    → got ≡ data_read answer → IsCalled a f c Read answer events → StepSays a f (Reads got) events
read_says a f c got answer events is k =
    let event : FileEvent = Nets (At A (Calls k.id Read)) in
    let rest = k.quiet in
    let told : answer ≡ (host_call (f.net A).host k.id Read).answer =
    k.told ∙ ap (λ h. (host_call h k.id Read).answer) (sym k.host) in
    record {
      said = ap (λ es. said_in f es a) k.is ∙ rest.said;
      heard =
          ap (λ es. heard_in f es a) k.is
          ∙ (ap (λ l. heard_at f event a ++ l) rest.heard ∙ append-nil (heard_at f event a))
          ∙ ap data_bodies
          (own_call a (named (f.net A) k.id) _ k.named_so ∙ ap (λ r. item_given r) (sym told))
          ∙ reply_data answer
          ∙ ap received_in (sym is);
    }

pub step_says : (a : Name) (f : FileNet) (c : Talker) (step : Step) (events : List FileEvent) → Takes a f c step events
    → StepSays a f step events
step_says a f c (Asks now) events none = absurd none
step_says a f c (Writes item now taken) events (inl (untaken, others)) =
    record { said = others.said ∙ ap (λ b. data_bodies (items_if b item)) (sym untaken); heard = others.heard }
step_says a f c (Writes item now taken) events (inr (answer, is, k)) = write_says a f c item now taken answer events is k
step_says a f c (Reads got) events (inl (untaken, others)) =
    record { said = others.said; heard = others.heard ∙ ap received_in (sym untaken) }
step_says a f c (Reads got) events (inr (answer, is, k)) = read_says a f c got answer events is k
step_says a f c (Turns now asks) events others = record { said = others.said; heard = others.heard }

-- ---- what a step adds to a talk

pub sent_more : (talk : Talk) (step : Step) → (and_then talk step).sent ≡ talk.sent ++ sent_by step
sent_more talk (Asks now) = sym (append-nil talk.sent)
sent_more talk (Writes item now true) = refl
sent_more talk (Writes item now false) = sym (append-nil talk.sent)
sent_more talk (Reads None) = sym (append-nil talk.sent)
sent_more talk (Reads (Some bytes)) = sym (append-nil talk.sent)
sent_more talk (Turns now asks) = sym (append-nil talk.sent)

pub heard_more : (talk : Talk) (step : Step)
    → (and_then talk step).received ≡ talk.received ++ heard_by step
heard_more talk (Asks now) = sym (append-nil talk.received)
heard_more talk (Writes item now true) = sym (append-nil talk.received)
heard_more talk (Writes item now false) = sym (append-nil talk.received)
heard_more talk (Reads None) = sym (append-nil talk.received)
heard_more talk (Reads (Some bytes)) = refl
heard_more talk (Turns now asks) = sym (append-nil talk.received)

pub commands_data : (commands : List (List ℕ)) → data_bodies (map command_item commands) ≡ commands
commands_data [] = refl
commands_data (command ∷ commands) = ap (λ l. command ∷ l) (commands_data commands)

-- ---- others

none_more : (xs ys zs : List (List ℕ)) → zs ≡ xs ++ ys → zs ≡ xs → ys ≡ []
none_more xs ys zs is same = append_cancel_left xs ys [] (sym is ∙ same ∙ sym (append-nil xs))

-- in a run in which A stays as it is, its users say and hear nothing
pub others_are_quiet : (m : Files) (f g : FileNet) (events : List FileEvent) (a : Name) → FileReached m f
    → FileRun f events g → g.net A ≡ f.net A → IsQuiet a f events
others_are_quiet m f g events a reached run same =
    let told = users_are_told m f g events a reached run in
    record {
      said = none_more _ _ _ told.said (ap (λ st. data_bodies (written_of (st.story a))) same);
      heard = none_more _ _ _ told.heard (ap (λ st. data_bodies (read_of (st.story a))) same);
    }

-- ---- a call

pub nothing_after : (a : Name) (f : FileNet) → IsQuiet a f []
nothing_after a f = record { said = refl; heard = refl }

pub called : (a : Name) (f : FileNet) (c : Talker) (id : ℕ) (call : Call) → StandsAt a f c id
    → IsCalled a f c call (call_by c.caller.host call c.caller.id).answer (Nets (At A (Calls id call)) ∷ [])
called a f c id call at = record {
  id = id;
  has = at.has;
  named_so = at.named_so;
  host = at.host;
  told = ap (λ (o : Option ℕ). (call_by c.caller.host call o).answer) at.has;
  others = [];
  is = refl;
  quiet = nothing_after a (file_happens f (Nets (At A (Calls id call))));
}
