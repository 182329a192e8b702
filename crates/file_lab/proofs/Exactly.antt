-- An event is a function, but for running out of memory.
use Rattle.std.proofs.Common.{◌≡◌, ℕ, List, [], ◌∷◌, ◌++◌, Bool, true, false, Result, Ok, Err, refl, sym, ap, ◌∙◌, subst, inl, inr, arith}
use Rattle.std.specs.Prelude.{◌⊎◌, ◌||◌}
use Rattle.std.specs.List.{list_any}
use Rattle.std.proofs.lemmas.Bool.{false≢true, cond-true, cond-false}
use Rattle.chaos_packet.specs.Opcode.{op_data}
use Rattle.chaos_packet.specs.Count.{Rose}
use Rattle.chaos_file.specs.Apply.{Applies}
use Rattle.chaos_file.specs.Replies.{memory_change}
use Rattle.chaos_file.specs.Want.{is_want}
use Rattle.chaos_file.specs.declared.error.FileError.TheVariants as e
use Rattle.chaos_file.specs.ServeWork.{Work, NotOpen, Nothing, Full, LastItem, Command, work_of}
use Rattle.chaos_file.specs.declared.served.Served.{Served}
use Rattle.chaos_file.specs.declared.served.Served.TheVariants as told
use Rattle.chaos_lab.specs.declared.event.Stepped.{Stepped}
use Rattle.chaos_lab.specs.declared.fault.LabFault.{LabFault}
use Rattle.chaos_lab.specs.declared.fault.LabFault.TheVariants as fault
use Rattle.chaos_lab.specs.Laboratory.{LabView, Happening, Happens, happen, after_all}
use Rattle.chaos_lab.specs.Turn.{Turn, Rests, Reads, Replies, turn_events}
use Rattle.chaos_lab.specs.Turns.{TurnHappens}
use Rattle.file_lab.specs.Bodies.{data_bodies}
use Rattle.file_lab.specs.View.{FileLabView, replies_of_b, wrote_mem}
use Rattle.file_lab.specs.Serving.{ServesBy}
use Rattle.file_lab.specs.Events.{FileHappening, At, Serve, Serving, ServeHappens, LabHappens, service_of, is_by_server, lab_answer}
use Rattle.file_lab.specs.Exact.{serve_work, lab_done, refused_done, file_happen, IsExact, ServeWants, Wants}
use Rattle.file_lab.specs.declared.event.FileStepped.{FileStepped}
use Rattle.file_lab.specs.declared.event.FileStepped.TheVariants as stepped
use Rattle.file_lab.proofs.KeptSteps.{Laws, some_is, replied, one_body}

never : Rose 0 0 → ⊥
never (inl h) = omega arith
never (inr h) = omega arith

or_true : (b : Bool) → (b || true) ≡ true
or_true true = refl
or_true false = refl

-- the last reply is an out-of-memory one
any_last : (xs : List (List ℕ)) (x : List ℕ) → is_want x ≡ true → list_any is_want (xs ++ x ∷ []) ≡ true
any_last [] x is = ap (λ b. b || false) is
any_last (y ∷ xs) x is = ap (λ b. is_want y || b) (any_last xs x is) ∙ or_true (is_want y)

-- serving once did what is to be done, or had no memory for the command
abbrev Does : (l m : FileLabView) (served : Served) → Work → Type 0
Does l m served work =
    ((m ≡ (serve_work l work).view) × (Ok (stepped.Served served) ≡ (serve_work l work).answer))
    ⊎ ServeWants l m (Ok (stepped.Served served))

serving_is : Laws → (l m : FileLabView) (served : Served) → Serving l m served → Does l m served (work_of l.lab.b.conn)
serving_is laws l m served s = by (work_of l.lab.b.conn) refl s.serves
  where
    rested : (turn : Turn) → s.turn ≡ turn → service_of m ≡ service_of l
        → m ≡ record l { lab = after_all l.lab (turn_events turn) }
    rested turn is same =
        λ j.
        record { lab = (s.happens.after ∙ ap (λ t. after_all l.lab (turn_events t)) is) j; session = (same j).session; files = (same j).files }

    answers : {x y : Served} → x ≡ y
        → ◌≡◌ {A = Result FileStepped LabFault} (Ok (stepped.Served x)) (Ok (stepped.Served y))
    answers is = ap (λ o. Ok (stepped.Served o)) is

    replies : (body reply : List ℕ) → work_of l.lab.b.conn ≡ Command body
        → TurnHappens l.lab (Replies op_data reply) m.lab → served ≡ told.Replied
        → Applies (memory_change l.files m.files) l.files l.session m.session body reply
        → Does l m served (Command body)
    replies body reply front u is (inl step) =
        let files = some_is step.2 in
        inl
        ((λ j. record { lab = (u.after ∙ ap (λ t. after_all l.lab (turn_events (Replies op_data t))) step.0) j; session = step.1 j; files = files j }), answers is)
    replies body reply front u is (inr (inl fault)) = absurd (never fault.0)
    replies body reply front u is (inr (inr want)) =
        let r = replied l.lab op_data reply u.taken in
        let wrote : replies_of_b m ≡ replies_of_b l ++ reply ∷ [] =
        ap data_bodies (ap (λ k. k.b.written) u.after ∙ r.written)
        ∙ one_body l.lab.b.written (record { op = op_data; body = reply }) refl in
        let files = some_is want.2.1 in
        inr (record {
          body = body;
          front = front;
          may_grow = want.0;
          after =
              λ j.
              record { lab = (u.after ∙ ap (λ t. after_all l.lab (turn_events (Replies op_data t))) want.1) j; session = want.2.0 j; files = files j };
          answered = answers is;
          wrote =
              ap (list_any is_want) wrote
              ∙ any_last (replies_of_b l) reply (ap is_want want.1 ∙ laws.want body (Err e.NoMemory));
        })

    by : (work : Work) → work_of l.lab.b.conn ≡ work → ServesBy (service_of l) (service_of m) s.turn served work
        → Does l m served work
    by (NotOpen state) at x = inl (rested Rests x.0 x.1, answers x.2)
    by Nothing at x = inl (rested Rests x.0 x.1, answers x.2)
    by Full at x = inl (rested Rests x.0 x.1, answers x.2)
    by LastItem at x = inl (rested Reads x.0 x.1, answers x.2)
    by (Command body) at x =
        replies body x.0 at (subst (λ t. TurnHappens l.lab t m.lab) x.1 s.happens) x.2 x.3.applied.honest

pub serve_exact : Laws → (l m : FileLabView) (answer : Result FileStepped LabFault) → ServeHappens l m answer
    → IsExact l Serve m answer ⊎ ServeWants l m answer
serve_exact laws l m answer (inr h) = inl (inr h)
serve_exact laws l m answer (inl h) =
    subst (λ a. IsExact l Serve m a ⊎ ServeWants l m a) (sym h.2) (elim (serving_is laws l m h.0 h.1) [
      | inl x ↦ inl (inl x)
      | inr x ↦ inr x
    ])

-- where B wrote no out-of-memory reply, its server had enough
pub exact_unless : (l m : FileLabView) (event : FileHappening) (answer : Result FileStepped LabFault)
    → IsExact l event m answer ⊎ Wants l event m answer → wrote_mem m ≡ false → IsExact l event m answer
exact_unless l m event answer (inl h) none = h
exact_unless l m (At event) answer (inr h) none = absurd h
exact_unless l m Serve answer (inr h) none = absurd (false≢true (sym none ∙ h.wrote))

-- ---- the laboratory's events

-- what stands for an event that isn't B's server's
lab_is : (l : FileLabView) (event : Happening) → is_by_server event ≡ false
    → file_happen l (At event) ≡ lab_done l event
lab_is l event isnt = cond-false _ _ _ isnt

pub at_exact : (l m : FileLabView) (event : Happening) (answer : Result FileStepped LabFault)
    → is_by_server event ≡ false → LabHappens l event m answer → IsExact l (At event) m answer
at_exact l m event answer isnt h = by h.done h.answered h.lab
  where
    is : (done : Result Stepped LabFault) (view : LabView) → m.lab ≡ view → m ≡ record l { lab = view }
    is done view same = λ j. record { lab = same j; session = h.session j; files = h.files j }

    by : (done : Result Stepped LabFault) → answer ≡ lab_answer done → Happens l.lab event m.lab done
        → IsExact l (At event) m answer
    by done told (inl x) =
        let same = lab_is l event isnt in
        inl
        (is done (happen l.lab event).lab x.0 ∙ ap (λ d. d.view) (sym same), told ∙ ap lab_answer x.1 ∙ ap (λ d. d.answer) (sym same))
    by done told (inr x) = inr (is done l.lab x.1, told ∙ ap lab_answer x.2)

pub server_exact : (l m : FileLabView) (event : Happening) (answer : Result FileStepped LabFault)
    → is_by_server event ≡ true → m ≡ l → answer ≡ Err fault.ByServer → IsExact l (At event) m answer
server_exact l m event answer is same told =
    let done : file_happen l (At event) ≡ refused_done l fault.ByServer = cond-true _ _ _ is in
    inl (same ∙ ap (λ d. d.view) (sym done), told ∙ ap (λ d. d.answer) (sym done))
