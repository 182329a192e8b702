-- Events that are none of B's server, and neither a write nor a close, leave what B has written and read.
use Rattle.std.proofs.Common.{◌≡◌, ℕ, zero, suc, ◌+◌, ◌-◌, List, [], ◌∷◌, ◌++◌, length, false, sym, ap, ◌∙◌, subst, refl}
use Rattle.std.specs.Prelude.{is_none, nat_lt}
use Rattle.std.proofs.lemmas.Bool.{cond_both}
use Rattle.chaos_conn.specs.Calls.{front_of}
use Rattle.chaos_lab.specs.declared.side.Side.{Side}
use Rattle.chaos_lab.specs.declared.side.Side.TheVariants.{A, B}
use Rattle.chaos_lab.specs.Machine.{Machine, Reached, Resize, Read, Tick, Step}
use Rattle.chaos_lab.specs.Laboratory.{LabView, Happening, Done, lab_end, happen, after_all}
use Rattle.chaos_lab.specs.Laboratory.Happening.{WriteBy, ReadBy, AnnounceBy, TickOf, CloseBy, AcceptFrom, DeliverCopy}
use Rattle.chaos_lab.specs.Settling.{telling, told, again, reading, reading_on, coming, taking_in}
use Rattle.chaos_lab.specs.Tied.{HasMachine, plain_event}
use Rattle.chaos_lab.proofs.OnSide.{Outcome, Refuses, Steps}
use Rattle.chaos_lab.proofs.LabTies.{event_ties}
use Rattle.file_lab.specs.Events.{is_by_server}
use Rattle.file_lab.specs.Settling.{fetching, replying, b_hearing}
use Rattle.file_lab.proofs.QuietSteps.{PhaseLaws, Stays, at_a, at_b, comes_to, resize_stays, tick_stays}

abbrev pub IsQuiet : Happening → Type 0
IsQuiet (ReadBy A) = Unit {0}
IsQuiet (AnnounceBy x window) = Unit {0}
IsQuiet (TickOf x now) = Unit {0}
IsQuiet (DeliverCopy copy) = Unit {0}
IsQuiet _ = ⊥

abbrev pub AreQuiet : List Happening → Type 0
AreQuiet [] = Unit {0}
AreQuiet (event ∷ events) = IsQuiet event × AreQuiet events

pub quiet_served : (event : Happening) → IsQuiet event → is_by_server event ≡ false
quiet_served (ReadBy A) q = refl
quiet_served (AnnounceBy x window) q = refl
quiet_served (TickOf x now) q = refl
quiet_served (DeliverCopy copy) q = refl
quiet_served (WriteBy x op bytes) q = absurd q
quiet_served (ReadBy B) q = absurd q
quiet_served (CloseBy x text) q = absurd q
quiet_served (AcceptFrom start) q = absurd q

-- ---- the lists of events

pub quiet_both : (es fs : List Happening) → AreQuiet es → AreQuiet fs → AreQuiet (es ++ fs)
quiet_both [] fs q r = r
quiet_both (event ∷ es) fs q r = (q.0, quiet_both es fs q.1 r)

pub quiet_telling : (y : Side) (l : LabView) → AreQuiet (telling y l)
quiet_telling y l = (tt, (tt, tt))

pub quiet_reading : (l : LabView) → AreQuiet (reading A l)
quiet_reading l = cond_both (is_none (front_of l.a.conn)) [] (ReadBy A ∷ []) AreQuiet (λ _. tt) (λ _. (tt, tt))

quiet_reading_on : (k : ℕ) (l : LabView) → AreQuiet (reading_on A k l)
quiet_reading_on zero l = tt
quiet_reading_on (suc k) l =
    quiet_both (reading A l) (reading_on A k (after_all l (reading A l))) (quiet_reading l)
    (quiet_reading_on k (after_all l (reading A l)))

quiet_coming : (k copy : ℕ) (l : LabView) → AreQuiet (coming A copy k l)
quiet_coming zero copy l = tt
quiet_coming (suc k) copy l =
    let m : LabView = (happen l (DeliverCopy copy)).lab in
    (tt, quiet_both (reading A m) (coming A (copy + 1) k (after_all m (reading A m))) (quiet_reading m) (quiet_coming k (copy + 1) (after_all m (reading A m))))

quiet_taking : (first last : ℕ) (l : LabView) → AreQuiet (taking_in A first last l)
quiet_taking first last l =
    let times : ℕ = (lab_end l A).conn.config.recv_cap in
    let m : LabView = after_all l (reading_on A times l) in
    quiet_both (reading_on A times l) (coming A first (last - first) m) (quiet_reading_on times l)
    (quiet_coming (last - first) first m)

pub quiet_hearing : (l : LabView) → AreQuiet (b_hearing l)
quiet_hearing l =
    let m : LabView = told A l in
    let q : LabView = again B m in
    (tt, (tt, (tt, quiet_taking (length m.copies) (length q.copies) q)))

pub quiet_fetching : (copy : ℕ) (l : LabView) → AreQuiet (fetching copy l)
quiet_fetching copy l =
    cond_both (is_none (front_of l.b.conn)) (DeliverCopy copy ∷ []) [] AreQuiet (λ _. (tt, tt)) (λ _. tt)

pub quiet_replying : (wrote : ℕ) (l : LabView) → AreQuiet (replying wrote l)
quiet_replying wrote l =
    let copy : ℕ = length l.copies - 1 in
    cond_both (nat_lt wrote (length l.b.written)) (DeliverCopy copy ∷ reading A (happen l (DeliverCopy copy)).lab) []
    AreQuiet
    (λ _. (tt, quiet_reading (happen l (DeliverCopy copy)).lab))
    (λ _. tt)

-- ---- what B has written and read stays

-- m stands for a machine too
pub record QuietAfter (l m : LabView) : Type 0 where
  pub machine : HasMachine m
  pub read : m.b.read ≡ l.b.read
  pub written : m.b.written ≡ l.b.written

stays_by : PhaseLaws → (event : Happening) (w v : Machine) (l : LabView) → IsQuiet event → Reached w
    → Step w (plain_event l event) v → Stays w.b v.b
stays_by laws (ReadBy A) w v l q r s = at_a Read w v s
stays_by laws (AnnounceBy A window) w v l q r s = at_a (Resize window) w v s
stays_by laws (AnnounceBy B window) w v l q r s = at_b (Resize window) w v (resize_stays window w.a w.b) s
stays_by laws (TickOf A now) w v l q r s = at_a Tick w v s
stays_by laws (TickOf B now) w v l q r s = at_b Tick w v (tick_stays w.a w.b) s
stays_by laws (DeliverCopy n) w v l q r s = comes_to s.0.sender s.0 w v (laws.answers w r) s.3
stays_by laws (WriteBy x op bytes) w v l q r s = absurd q
stays_by laws (ReadBy B) w v l q r s = absurd q
stays_by laws (CloseBy x text) w v l q r s = absurd q
stays_by laws (AcceptFrom start) w v l q r s = absurd q

quiet_one : PhaseLaws → (l : LabView) (event : Happening) → IsQuiet event → HasMachine l
    → QuietAfter l (happen l event).lab
quiet_one laws l event q h = by (event_ties h.plain l event h.ties)
  where
    by : Outcome h.plain (plain_event l event) l (happen l event) → QuietAfter l (happen l event).lab
    by (Refuses why is) =
        let lab : (happen l event).lab ≡ l = ap (λ (d : Done). d.lab) is in
        record { machine = subst HasMachine (sym lab) h; read = ap (λ (k : LabView). k.b.read) lab; written = ap (λ (k : LabView). k.b.written) lab }
    by (Steps s) =
        let stays = stays_by laws event h.plain s.machine l q h.ties.tied.reached s.step in
        record {
          machine = record { plain = s.machine; ties = s.ties };
          read = s.ties.read_b ∙ stays.read ∙ sym h.ties.read_b;
          written = s.ties.written_b ∙ stays.written ∙ sym h.ties.written_b;
        }

pub quiet_all : PhaseLaws → (events : List Happening) (l : LabView) → AreQuiet events → HasMachine l
    → QuietAfter l (after_all l events)
quiet_all laws [] l q h = record { machine = h; read = refl; written = refl }
quiet_all laws (event ∷ events) l q h =
    let one = quiet_one laws l event q.0 h in
    let rest = quiet_all laws events (happen l event).lab q.1 one.machine in
    record { machine = rest.machine; read = rest.read ∙ one.read; written = rest.written ∙ one.written }
