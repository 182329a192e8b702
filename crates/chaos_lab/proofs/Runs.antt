-- Runs of the laboratory are runs of the plain machine.
use Rattle.std.proofs.Common.{◌≡◌, zero, suc, List, [], ◌∷◌, take, Option, Some, None, Result, Ok, Err, OnOk, OnErr, IfOk, refl, sym, ap, true, false, ◌∙◌, subst, inl, inr, ◌⊎◌, ⊎_elim, arith}
use Rattle.std.specs.List.{Contains}
use Rattle.chaos_lab.specs.declared.side.Side.{Side}
use Rattle.chaos_lab.specs.declared.event.Stepped.{Stepped as Answer}
use Rattle.chaos_lab.specs.declared.fault.LabFault.{LabFault}
use Rattle.chaos_lab.specs.declared.fault.LabFault.TheVariants as fault
use Rattle.chaos_lab.specs.Machine.{Machine, Event, Schedule, Step, Run}
use Rattle.chaos_lab.specs.Machine.Event.{CloseAt}
use Rattle.std.specs.Prelude.{slice_get}
use Rattle.std.proofs.lemmas.Bool.{cond-true, cond-false, cases_Bool}
use Rattle.chaos_lab.specs.declared.stamped.Stamped.{Stamped as Sent}
use Rattle.chaos_lab.specs.Laboratory.{LabView, Happening, Done, Happens, StopsWithin, happen, after_all, check, copy_fault, delivery_effect, is_fresh}
use Rattle.chaos_lab.specs.Laboratory.Happening.{WriteBy, ReadBy, AnnounceBy, TickOf, CloseBy, AcceptFrom, DeliverCopy}
use Rattle.chaos_lab.specs.Tied.{Ties, HasMachine, Stops, plain_event, plain_next, plain_run}
use Rattle.chaos_lab.specs.Headline.{Unclosed}
use Rattle.chaos_lab.proofs.OnSide.{Outcome, Refuses, Steps}
use Rattle.chaos_lab.proofs.LabTies.{Answered, event_ties, ok_or_refused}

-- the machine after these events
pub record Ran (m : Machine) (events : Schedule) (l : LabView) : Type 0 where
  pub machine : Machine
  pub run : Run m events machine
  pub ties : Ties machine l

run_first : (m : Machine) (l : LabView) (event : Happening) (events : List Happening) → Ties m l
    → ((n : Machine) (k : LabView) → Ties n k → Ran n (plain_run k events) (after_all k events))
    → Ran m (plain_run l (event ∷ events)) (after_all l (event ∷ events))
run_first m l event events t rest =
    let done = happen l event in
    by (event_ties m l event t) (ok_or_refused l event)
  where
    by : Outcome m (plain_event l event) l (happen l event)
        → ((s : Answer) × ((happen l event).answer ≡ Ok s))
        ⊎ ((why : LabFault) × ((happen l event).answer ≡ Err why) × ((happen l event).lab ≡ l))
        → Ran m (plain_run l (event ∷ events)) (after_all l (event ∷ events))
    by (Refuses why is) (inl s) = let no : Err why ≡ Ok s.0 = sym (ap (λ d. d.answer) is) ∙ s.1 in absurd (cc)
    by (Steps s) (inl a) =
        let more = rest s.machine (happen l event).lab s.ties in
        record {
          machine = more.machine;
          run =
              subst
              (λ r. Run m (plain_next r (plain_event l event) (plain_run (happen l event).lab events)) more.machine)
              (sym a.1) (s.machine, s.step, more.run);
          ties = more.ties;
        }
    by o (inr e) =
        let more = rest m (happen l event).lab (subst (Ties m) (sym e.2) t) in
        record {
          machine = more.machine;
          run =
              subst
              (λ r. Run m (plain_next r (plain_event l event) (plain_run (happen l event).lab events)) more.machine)
              (sym e.1) more.run;
          ties = more.ties;
        }

pub runs : (events : List Happening) (m : Machine) (l : LabView) → Ties m l
    → Ran m (plain_run l events) (after_all l events)
runs [] m l t = record { machine = m; run = refl; ties = t }
runs (event ∷ events) m l t = run_first m l event events t (runs events)

-- ---- invariants

pub keeps_machine : (l m : LabView) (event : Happening) (answer : Result Answer LabFault) → HasMachine l
    → Happens l event m answer → HasMachine m
keeps_machine l m event answer h (inl is) = subst HasMachine (sym is.0) (by (event_ties h.plain l event h.ties))
  where
    by : Outcome h.plain (plain_event l event) l (happen l event) → HasMachine (happen l event).lab
    by (Refuses why r) = subst HasMachine (sym (ap (λ d. d.lab) r)) h
    by (Steps s) = record { plain = s.machine; ties = s.ties }
keeps_machine l m event answer h (inr is) = subst HasMachine (sym is.1) h

pub after_machine : (l m : LabView) (events : List Happening) → HasMachine l → m ≡ after_all l events → HasMachine m
after_machine l m events h is =
    let r = runs events h.plain l h.ties in subst HasMachine (sym is) (record { plain = r.machine; ties = r.ties })

pub stops_machine : (l m : LabView) (events : List Happening) → HasMachine l → StopsWithin l events m → HasMachine m
stops_machine l m events h s = after_machine l m (take s.0 events) h s.4

-- an event that was taken is a step
pub step_of : (l m : LabView) (event : Happening) (answer : Result Answer LabFault) (s : Answer)
    → Happens l event m answer → answer ≡ Ok s → (w : Machine) → Ties w l
    → (v : Machine) × Step w (plain_event l event) v × Ties v m
step_of l m event answer s (inl is) ok w t = by (event_ties w l event t)
  where
    by : Outcome w (plain_event l event) l (happen l event) → (v : Machine) × Step w (plain_event l event) v × Ties v m
    by (Refuses why r) = let no : Err why ≡ Ok s = sym (ap (λ d. d.answer) r) ∙ sym is.1 ∙ ok in absurd (cc)
    by (Steps k) = (k.machine, k.step, subst (Ties k.machine) (sym is.0) k.ties)
step_of l m event answer s (inr is) ok w t = let no : Ok s ≡ Err fault.NoMemory = sym ok ∙ is.2 in absurd (cc)

pub run_of : (l m : LabView) (events : List Happening) → m ≡ after_all l events → (w : Machine) → Ties w l
    → (v : Machine) × Run w (plain_run l events) v × Ties v m
run_of l m events is w t = let r = runs events w l t in (r.machine, r.run, subst (Ties r.machine) (sym is) r.ties)

module _ {R E : Type 0} where
  pub run_machine : (l m : LabView) (events : List Happening) (r : Result R E) → HasMachine l
      → OnOk r (m ≡ after_all l events) → OnErr r (StopsWithin l events m) → HasMachine m
  run_machine l m events (Ok x) h all stops = after_machine l m events h all
  run_machine l m events (Err x) h all stops = stops_machine l m events h stops

  pub run_on : (l m : LabView) (events : List Happening) (r : Result R E) → OnOk r (m ≡ after_all l events)
      → OnOk r ((w : Machine) → Ties w l → (v : Machine) × Run w (plain_run l events) v × Ties v m)
  run_on l m events (Ok x) all = run_of l m events all
  run_on l m events (Err x) all = tt

  -- stopped when out of memory: the events before are a run
  pub stops_on : (l m : LabView) (events : List Happening) (r : Result R E) → OnErr r (StopsWithin l events m)
      → OnErr r (Stops l events m)
  stops_on l m events (Ok x) s = tt
  stops_on l m events (Err x) s =
      record { done = s.0; event = s.1; next = s.2; passed = s.3; after = s.4; machine = run_of l m (take s.0 events) s.4 }

pub step_on : (l m : LabView) (event : Happening) (r : Result Answer LabFault) → Happens l event m r
    → IfOk r (λ _. (w : Machine) → Ties w l → (v : Machine) × Step w (plain_event l event) v × Ties v m)
step_on l m event (Ok s) h = step_of l m event (Ok s) s h refl
step_on l m event (Err why) h = tt

-- ---- refusals

pub unchanged : (l m : LabView) (event : Happening) (r : Result Answer LabFault) → Happens l event m r → OnErr r (m ≡ l)
unchanged l m event (Ok s) h = tt
unchanged l m event (Err why) (inr h) = h.1
unchanged l m event (Err why) (inl h) = by (ok_or_refused l event)
  where
    by : Answered l (happen l event) → m ≡ l
    by (inl s) = let no : Err why ≡ Ok s.0 = h.1 ∙ s.1 in absurd (cc)
    by (inr e) = h.0 ∙ e.2

copy_checked : (l : LabView) (o : Option Sent) (why : LabFault) → copy_fault l o ≡ Some why
    → (delivery_effect l o).answer ≡ Err why
copy_checked l None why h = let same : fault.NoSuchCopy ≡ why = cc in ap Err same
copy_checked l (Some s) why h =
    ⊎_elim
    (λ (near : is_fresh l.a l.b s ≡ true). let no : None ≡ Some why = sym (cond-true _ _ _ near) ∙ h in absurd (cc))
    (λ (far : is_fresh l.a l.b s ≡ false).
    let is : Some fault.Stale ≡ Some why = sym (cond-false _ _ _ far) ∙ h in
    let same : fault.Stale ≡ why = cc in
    ap (λ (d : Done). d.answer) (cond-false _ _ _ far) ∙ ap Err same)
    (cases_Bool (is_fresh l.a l.b s))

happen_checked : (l : LabView) (event : Happening) (why : LabFault) → check l event ≡ Some why
    → (happen l event).answer ≡ Err why
happen_checked l (DeliverCopy n) why h = copy_checked l (slice_get l.copies n) why h
happen_checked l (WriteBy x op bytes) why h = absurd (cc)
happen_checked l (ReadBy x) why h = absurd (cc)
happen_checked l (AnnounceBy x window) why h = absurd (cc)
happen_checked l (TickOf x now) why h = absurd (cc)
happen_checked l (CloseBy x text) why h = absurd (cc)
happen_checked l (AcceptFrom start) why h = absurd (cc)

pub checked : (l m : LabView) (event : Happening) (r : Result Answer LabFault) → Happens l event m r → (why : LabFault)
    → check l event ≡ Some why → r ≡ Err why
checked l m event r (inl h) why is = h.1 ∙ happen_checked l event why is
checked l m event r (inr h) why is = let no : None ≡ Some why = sym h.0 ∙ is in absurd (cc)

-- ---- an end that its user doesn't close

contains_cons : {X : Type 0} → (x z : X) (xs : List X) → Contains (x ∷ xs) z → (x ≡ z) ⊎ Contains xs z
contains_cons x z xs (zero, l, e) = inl e
contains_cons x z xs (suc k, l, e) = inr (k, omega arith, e)

contains_nil : {X : Type 0} → (z : X) → Contains [] z → ⊥
contains_nil z (k, l, e) = absurd (omega arith)

closes_one : (x : Side) (l : LabView) (event : Happening) (events : List Happening) → Unclosed x (event ∷ events)
    → plain_event l event ≡ CloseAt x → ⊥
closes_one x l (CloseBy y text) events h is = h.0 (let same : y ≡ x = cc in same)
closes_one x l (WriteBy y op bytes) events h is = absurd (cc)
closes_one x l (ReadBy y) events h is = absurd (cc)
closes_one x l (AnnounceBy y window) events h is = absurd (cc)
closes_one x l (TickOf y now) events h is = absurd (cc)
closes_one x l (AcceptFrom start) events h is = absurd (cc)
closes_one x l (DeliverCopy n) events h is = absurd (cc)

unclosed_rest : (x : Side) (event : Happening) (events : List Happening) → Unclosed x (event ∷ events)
    → Unclosed x events
unclosed_rest x (CloseBy y text) events h = h.1
unclosed_rest x (WriteBy y op bytes) events h = h
unclosed_rest x (ReadBy y) events h = h
unclosed_rest x (AnnounceBy y window) events h = h
unclosed_rest x (TickOf y now) events h = h
unclosed_rest x (AcceptFrom start) events h = h
unclosed_rest x (DeliverCopy n) events h = h

closes_next : (r : Result Answer LabFault) (event : Event) (events : Schedule) (z : Event) → (event ≡ z → ⊥)
    → (Contains events z → ⊥) → Contains (plain_next r event events) z → ⊥
closes_next (Ok s) event events z n m h = ⊎_elim n m (contains_cons event z events h)
closes_next (Err why) event events z n m h = m h

pub unclosed : (x : Side) (events : List Happening) (l : LabView) → Unclosed x events
    → Contains (plain_run l events) (CloseAt x) → ⊥
unclosed x [] l u h = contains_nil (CloseAt x) h
unclosed x (event ∷ events) l u h =
    closes_next (happen l event).answer (plain_event l event) (plain_run (happen l event).lab events) (CloseAt x)
    (closes_one x l event events u) (unclosed x events (happen l event).lab (unclosed_rest x event events u)) h
