-- What clients say and hear, step after step.
use Rattle.std.proofs.Common.{◌≡◌, ◌⊎◌, ℕ, ◌+◌, Bool, true, false, List, [], ◌∷◌, ◌++◌, refl, sym, ap, ◌∙◌, subst, append_assoc, append-nil, add_assoc, add-zero, arith, inl, inr}
use Rattle.std.specs.Prelude.{Option, None, Some, is_some, OnOk, Result}
use Rattle.chaos_node.specs.declared.fault.NodeFault.{NodeFault}
use Rattle.chaos_link.specs.Link.{Ask, AskedSince, Asks, QueueView}
use Rattle.chaos_link.proofs.Asked.{asks_both}
use Rattle.chaos_packet.specs.Item.{ItemView}
use Rattle.chaos_host.specs.View.{HostView}
use Rattle.file_client.specs.Calls.{is_over}
use Rattle.file_client.specs.Caller.{CallerView, Connects, HangsUpBy, ReceivesBehind, SendsOnce, TurnsAt, asked, asked_again}
use Rattle.file_client.specs.Pace.{Pace}
use Rattle.file_client.specs.Patience.{IsSpent}
use Rattle.file_client.specs.Talk.{Talker, Talk, Step, Calls, Writes, Reads, Turns, Does, Goes, Talks, WritesAndTurns, Exchanges, SendsFarewell, and_later, and_then, command_item, receiving, newly_sent, silence, talk_of, talker}
use Rattle.file_client.proofs.Asked.{asks_of, well_by}

pub talks_none : (p : Pace) (c : Talker) → Talks p c silence c
talks_none p c = record { steps = []; goes = refl; same = refl }

-- one step more
pub talks_step : (p : Pace) (first between last : Talker) (talk : Talk) (step : Step) → Talks p first talk between
    → Does p between step last → Talks p first (and_then talk step) last
talks_step p first between last talk step t does =
    record { steps = step ∷ t.steps; goes = (between, t.goes, does); same = ap (λ k. and_then k step) t.same }

-- ---- one talk after another

goes_on : (p : Pace) (first between last : Talker) (xs ys : List Step) → Goes p first xs between → Goes p between ys last → Goes p first (ys ++ xs) last
goes_on p first between last xs [] g same = subst (λ c. Goes p first xs c) (sym same) g
goes_on p first between last xs (step ∷ ys) g (mid, before, does) = (mid, goes_on p first between mid xs ys g before, does)

abbrev talk_by : List ItemView → List (List ℕ) → ℕ → List Ask → Talk
talk_by sent received turns asks = record { sent = sent; received = received; turns = turns; asks = asks }

then_later : (t u : Talk) (step : Step) → and_then (and_later t u) step ≡ and_later t (and_then u step)
then_later t u (Calls now) = refl
then_later t u (Writes item now true) =
    ap (λ (l : List ItemView). talk_by l (t.received ++ u.received) (t.turns + u.turns) (t.asks ++ u.asks))
    (append_assoc t.sent u.sent (item ∷ []))
then_later t u (Writes item now false) = refl
then_later t u (Reads None) = refl
then_later t u (Reads (Some bytes)) =
    ap (λ (l : List (List ℕ)). talk_by (t.sent ++ u.sent) l (t.turns + u.turns) (t.asks ++ u.asks))
    (append_assoc t.received u.received (bytes ∷ []))
then_later t u (Turns now asks) =
    ap (λ (n : ℕ). talk_by (t.sent ++ u.sent) (t.received ++ u.received) n ((t.asks ++ u.asks) ++ asks))
    (add_assoc t.turns u.turns 1)
    ∙ ap (λ (l : List Ask). talk_by (t.sent ++ u.sent) (t.received ++ u.received) (t.turns + (u.turns + 1)) l)
    (append_assoc t.asks u.asks asks)

later_none : (t : Talk) → and_later t silence ≡ t
later_none t =
    ap (λ (l : List ItemView). talk_by l (t.received ++ []) (t.turns + 0) (t.asks ++ [])) (append-nil t.sent)
    ∙ ap (λ (l : List (List ℕ)). talk_by t.sent l (t.turns + 0) (t.asks ++ [])) (append-nil t.received)
    ∙ ap (λ (n : ℕ). talk_by t.sent t.received n (t.asks ++ [])) (add-zero t.turns)
    ∙ ap (λ (l : List Ask). talk_by t.sent t.received t.turns l) (append-nil t.asks)

talk_later : (xs ys : List Step) → talk_of (ys ++ xs) ≡ and_later (talk_of xs) (talk_of ys)
talk_later xs [] = sym (later_none (talk_of xs))
talk_later xs (step ∷ ys) = ap (λ t. and_then t step) (talk_later xs ys) ∙ then_later (talk_of xs) (talk_of ys) step

pub talks_on : (p : Pace) (first between last : Talker) (talk later : Talk) → Talks p first talk between
    → Talks p between later last → Talks p first (and_later talk later) last
talks_on p first between last talk later t u = record {
  steps = u.steps ++ t.steps;
  goes = goes_on p first between last t.steps u.steps t.goes u.goes;
  same =
      talk_later t.steps u.steps ∙ ap (λ k. and_later k (talk_of u.steps)) t.same ∙ ap (λ k. and_later talk k) u.same;
}

talks_same : (p : Pace) (first last : Talker) (talk other : Talk) → talk ≡ other → Talks p first talk last
    → Talks p first other last
talks_same p first last talk other e t = subst (λ k. Talks p first k last) e t

-- ---- the steps of a client

calls_by : (p : Pace) (Asked : List Ask → Type 0) (now : ℕ) (id : Option ℕ) (queue queue' : Option QueueView)
    (c b d : CallerView)
    → id ≡ None → c.id ≡ id → HangsUpBy id p Asked queue queue' c b → p.Shows now → d ≡ asked (p.starts now) now p.wait b
    → Talks p (talker c queue) silence (talker d queue') × Asked []
calls_by p Asked now (Some id) queue queue' c b d none same hung shows is = absurd (let no : ⊥ = cc in no)
calls_by p Asked now None queue queue' c b d none same (left, stays, nothing) shows is =
    let does : Does p (talker c queue) (Calls now) (talker d queue') = (shows, same, rw (is, left, stays) refl) in (
      talks_step p (talker c queue) (talker c queue) (talker d queue') silence (Calls now)
          (talks_none p (talker c queue)) does,
      nothing,
    )

no_id : (id : Option ℕ) → is_some id ≡ false → id ≡ None
no_id None none = refl
no_id (Some id) none = absurd (let no : ⊥ = cc in no)

-- it had no connection, and asked for one
calling : (p : Pace) (Asked : List Ask → Type 0) (now : ℕ) (queue queue' : Option QueueView) (c d : CallerView)
    → is_some c.id ≡ false → Connects p Asked now queue queue' c d
    → Talks p (talker c queue) silence (talker d queue') × Asked []
calling p Asked now queue queue' c d none (b, hung, shows, is) =
    calls_by p Asked now c.id queue queue' c b d (no_id c.id none) refl hung shows is

pub talks_called : (p : Pace) (Asked : List Ask → Type 0) (now : ℕ) (queue queue' : Option QueueView) (c d : CallerView)
    (result : Result (Unit {0}) NodeFault)
    → is_some c.id ≡ false → OnOk result (Connects p Asked now queue queue' c d)
    → OnOk result (Talks p (talker c queue) silence (talker d queue'))
talks_called p Asked now queue queue' c d result none connects =
    well_by result _ _ (λ h. (calling p Asked now queue queue' c d none h).0) connects

pub asks_called : (p : Pace) (Asked : List Ask → Type 0) (now : ℕ) (queue queue' : Option QueueView) (c d : CallerView)
    (result : Result (Unit {0}) NodeFault)
    → is_some c.id ≡ false → OnOk result (Connects p Asked now queue queue' c d) → OnOk result (Asked [])
asks_called p Asked now queue queue' c d result none connects =
    well_by result _ _ (λ h. (calling p Asked now queue queue' c d none h).1) connects

-- it read
pub talks_reading : (p : Pace) (c d : Talker) (got : Option (List ℕ)) → Does p c (Reads got) d
    → Talks p c (receiving got) d
talks_reading p c d None does = talks_step p c c d silence (Reads None) (talks_none p c) does
talks_reading p c d (Some bytes) does = talks_step p c c d silence (Reads (Some bytes)) (talks_none p c) does

-- it read, where the command was written
pub talks_behind : (p : Pace) (is_written : Bool) (got : Option (List ℕ)) (c d : CallerView) (queue : Option QueueView)
    → ReceivesBehind is_written got c d → Talks p (talker c queue) (receiving got) (talker d queue)
talks_behind p true got c d queue receives = talks_reading p (talker c queue) (talker d queue) got (receives, refl)
talks_behind p false got c d queue (none, same) = rw (none, same) (talks_none p (talker c queue))

-- it tried to write
pub talks_writing : (p : Pace) (c d : Talker) (item : ItemView) (now : ℕ) (taken : Bool)
    → Does p c (Writes item now taken) d → WritesAndTurns p (λ asks. asks ≡ []) 0 c item false taken d
talks_writing p c d item now true does =
    (λ e. refl, [], refl, talks_step p c c d silence (Writes item now true) (talks_none p c) does)
talks_writing p c d item now false does =
    (λ e. e, [], refl, talks_step p c c d silence (Writes item now false) (talks_none p c) does)

-- it tried to write what wasn't written yet
pub talks_writing_once : (p : Pace) (was : Bool) (item : ItemView) (now : ℕ) (taken : Bool) (c d : CallerView)
    (queue : Option QueueView) → p.Shows now → SendsOnce was item now taken c d
    → WritesAndTurns p (λ asks. asks ≡ []) 0 (talker c queue) item was taken (talker d queue)
talks_writing_once p true item now taken c d queue shown (is, same) =
    rw (is, same) (λ e. refl, [], refl, talks_none p (talker c queue))
talks_writing_once p false item now taken c d queue shown sends =
    talks_writing p (talker c queue) (talker d queue) item now taken (shown, sends, refl)

-- a turn behind a write
pub talks_turning : (p : Pace) (Asked : List Ask → Type 0) (c d e : Talker) (item : ItemView) (was is : Bool) (now : ℕ)
    → WritesAndTurns p (λ asks. asks ≡ []) 0 c item was is d → p.Shows now
    → TurnsAt Asked (p.Waits true) now d.queue e.queue (asked_again p now d.caller) e.caller
    → WritesAndTurns p Asked 1 c item was is e
talks_turning p Asked c d e item was is now (kept, asks, none, talk) shown turns =
    let (more, asked, exact) = asks_of Asked (p.Waits true) now d.queue e.queue _ e.caller turns in (
      kept,
      asks ++ more,
      subst Asked (ap (λ (l : List Ask). l ++ more) (sym none)) asked,
      talks_step p c d e _ (Turns now more) talk (shown, exact),
    )

module _ {S : Type 0} where
  -- what was written at some time
  pub talks_again : (p : Pace) (old mid new : AskedSince S Ask) (c d e : Talker) (item : ItemView) (was is : Bool)
      (turns : ℕ)
      → WritesAndTurns p (Asks old mid) turns c item false was d → WritesAndTurns p (Asks mid new) 1 d item was is e
      → WritesAndTurns p (Asks old new) (turns + 1) c item false is e
  talks_again p old mid new c d e item true true turns (kept, xs, asked, first) (again, ys, more, later) =
      (λ same. refl, xs ++ ys, asks_both old mid new xs ys asked more, talks_same p c e _ _ refl (talks_on p c d e _ _ first later))
  talks_again p old mid new c d e item true false turns first (again, ys, more, later) =
      absurd (let no : false ≡ true = again refl in let none : ⊥ = cc in none)
  talks_again p old mid new c d e item false is turns (kept, xs, asked, first) (again, ys, more, later) =
      (λ same. absurd (let no : ⊥ = cc in no), xs ++ ys, asks_both old mid new xs ys asked more, talks_on p c d e _ _ first later)

  -- it was tried again, and a turn followed
  pub talks_again_turning : (p : Pace) (old mid new : AskedSince S Ask) (c : Talker) (d : CallerView) (queue : Option QueueView)
      (written e : CallerView) (queue' : Option QueueView) (item : ItemView) (was is : Bool) (turns then now : ℕ)
      → WritesAndTurns p (Asks old mid) turns c item false was (talker d queue) → p.Shows then
      → SendsOnce was item then is d written → p.Shows now
      → TurnsAt (Asks mid new) (p.Waits true) now queue queue' (asked_again p now written) e
      → WritesAndTurns p (Asks old new) (turns + 1) c item false is (talker e queue')
  talks_again_turning p old mid new c d queue written e queue' item was is turns then now before shown sends shows turned =
      talks_again p old mid new c (talker d queue) (talker e queue') item was is turns before
      (talks_turning p (Asks mid new) (talker d queue) (talker written queue) (talker e queue') item was is now
      (talks_writing_once p was item then is d written queue shown sends) shows turned)

-- nothing was received behind it
pub talks_unreceived : (p : Pace) (Asked : List Ask → Type 0) (c d e : Talker) (item : ItemView) (was is : Bool) (turns : ℕ)
    → WritesAndTurns p Asked turns c item was is d → Talks p d silence e → WritesAndTurns p Asked turns c item was is e
talks_unreceived p Asked c d e item was is turns (kept, xs, asked, talk) later =
    (kept, xs, asked, talks_same p c e _ _ (later_none _) (talks_on p c d e _ silence talk later))

-- ---- one command, and the EOF

-- a reply was received behind the command
pub exchange_done : (p : Pace) (Asked : List Ask → Type 0) (c d e : Talker) (command reply : List ℕ) (is : Bool) (turns : ℕ)
    → is ≡ true → WritesAndTurns p Asked turns c (command_item command) false is d
    → Talks p d (receiving (Some reply)) e → Exchanges p Asked c command (Some reply) e
exchange_done p Asked c d e command reply true turns same (kept, xs, asked, talk) received
    = (_, talks_on p c d e _ _ talk received, subst Asked (sym (append-nil xs)) asked, (refl, refl))
exchange_done p Asked c d e command reply false turns same first received = absurd (let no : ⊥ = cc in no)

-- none was
pub exchange_none : (p : Pace) (Asked : List Ask → Type 0) (c d : Talker) (command : List ℕ) (is : Bool) (turns : ℕ)
    → WritesAndTurns p Asked turns c (command_item command) false is d
    → IsSpent p.Shows p.patience turns ⊎ (is_over d.caller.host d.caller.id ≡ true) → Exchanges p Asked c command None d
exchange_none p Asked c d command is turns (kept, xs, asked, talk) ends
    = (talk_by (newly_sent false is (command_item command)) [] turns xs, talk, asked, (is, refl, refl, ends))

over_none : (h : HostView) (id : Option ℕ) → is_some id ≡ false → is_over h id ≡ true
over_none h None none = refl
over_none h (Some id) none = absurd (let no : ⊥ = cc in no)

-- there is no connection
pub farewell_none : (p : Pace) (Asked : List Ask → Type 0) (c : CallerView) (queue : Option QueueView) → is_some c.id ≡ false
    → Asked [] → SendsFarewell p Asked (talker c queue) (talker c queue)
farewell_none p Asked c queue none nothing =
    (silence, talks_none p (talker c queue), nothing, record { is_written = false; sent = refl; received = refl; within = omega arith; ends = inl (inr (over_none c.host c.id none)) })
