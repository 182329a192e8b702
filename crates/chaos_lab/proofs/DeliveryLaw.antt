-- The clauses of the delivery law, from what holds in every reached machine.
use Rattle.std.proofs.Common.{◌≡◌, ℕ, ◌-◌, ◌<◌, ◌≤◌, length, true, Some, refl, sym, ap, ◌∙◌, subst, inl, ⊎_elim, arith}
use Rattle.std.specs.Prelude.{slice_get}
use Rattle.std.specs.FinSet.{contains}
use Rattle.std.proofs.lemmas.Bool.{MatchBool-at_true}
use Rattle.chaos_lab.specs.declared.side.Side.{Side}
use Rattle.chaos_lab.specs.declared.side.Side.TheVariants.{A, B}
use Rattle.chaos_packet.specs.Item.{ItemView}
use Rattle.chaos_lab.specs.Machine.{PlainEnd, Kind, Copy, Machine, Event, Schedule, other, end_of, FirstMissing, Comes, Moves, Step, Run, Reached}
use Rattle.chaos_lab.specs.Machine.Phase.{Open}
use Rattle.chaos_lab.specs.Machine.Kind.{Nth}
use Rattle.chaos_lab.specs.Machine.Event.{ReadAt, Deliver}
use Rattle.chaos_packet.specs.Begins.{Begins}
use Rattle.chaos_lab.specs.Law.{writer, reader, IsThere, DeliversInside, RunUnclosed, ReadsItem, ReadsNext}
use Rattle.chaos_lab.proofs.Directions.{Sound, missing_between, first_missing}
use Rattle.chaos_lab.proofs.Grows.{Grows, item_stays}
use Rattle.chaos_lab.proofs.Lists.{member_at}
use Rattle.chaos_lab.proofs.Copies.{KindOk, len_of}
use Rattle.chaos_lab.proofs.Machines.{copy_at, end_holds, end_later, run_goes, step_goes, reached_holds, reached_on, reached_run}
use Rattle.chaos_lab.proofs.Reading.{CanRead, becomes_same, deliver_stays, run_stays, read_at_reads}
use Rattle.chaos_lab.proofs.Arriving.{comes_there}

pub sound : (m : Machine) (x : Side) → Reached m → Sound (writer m x) (reader m x)
sound m x r = (end_holds m x (reached_holds m r)).writer

-- what each end of a reached machine goes on to by a run
pub grows : (m n : Machine) (x : Side) (events : Schedule) → Reached m → Run m events n
    → Grows (end_of m x) (end_of n x)
grows m n x events r run = end_later m n x (run_goes m events n (reached_holds m r) run).later

step_grows : (m n : Machine) (x : Side) (event : Event) → Reached m → Step m event n → Grows (end_of m x) (end_of n x)
step_grows m n x event r s = end_later m n x (step_goes m event n (reached_holds m r) s).later

-- ---- what holds at any time

pub beginning : (m : Machine) (x : Side) → Reached m → Begins (reader m x).read (writer m x).written
beginning m x r = (sound m x r).begins

pub acknowledged :
    (m : Machine) (x : Side) → Reached m →
    ((writer m x).acknowledged ≤ length (reader m x).read) × ((writer m x).acknowledged ≤ (writer m x).receipted)
acknowledged m x r = ((sound m x r).acked_read, (sound m x r).in_order)

pub receipted :
    (m : Machine) (x : Side) (f : ℕ) → Reached m → FirstMissing (reader m x) f →
    ((writer m x).receipted ≤ f) × (f ≤ length (writer m x).written)
receipted m x f r h = missing_between (writer m x) (reader m x) f (sound m x r) h

pub some_missing : (m : Machine) (x : Side) → Reached m → (f : ℕ) × FirstMissing (reader m x) f
some_missing m x r = first_missing (writer m x) (reader m x) (sound m x r)

pub room : (m : Machine) (x : Side) → Reached m
    → length (writer m x).written - (writer m x).acknowledged ≤ (writer m x).send_cap
room m x r = omega (arith, (sound m x r).room)

-- ---- what stays

pub arrivals_stay :
    (m n : Machine) (x : Side) (events : Schedule) (i : ℕ) → Reached m → Run m events n →
    contains (reader m x).arrived i ≡ true → contains (reader n x).arrived i ≡ true
arrivals_stay m n x events i r run h = (grows m n (other x) events r run).arrived i h

pub items_stay :
    (m n : Machine) (x : Side) (events : Schedule) → Reached m → Run m events n →
    Begins (writer m x).written (writer n x).written × Begins (reader m x).read (reader n x).read
items_stay m n x events r run = ((grows m n x events r run).written, (grows m n (other x) events r run).read)

-- ---- a delivery

-- the step of a copy that is there
moves_by : (m n : Machine) (x : Side) (i : ℕ) → (d : DeliversInside m x i n) → Moves (Comes d.copy) m (other x) n
moves_by m n x i d =
    let same : d.step.0 ≡ d.copy = let e = d.step.1 in let e' = d.sent in cc in
    let s : Moves (Comes d.copy) m (other d.copy.sender) n =
    subst (λ (c : Copy). Moves (Comes c) m (other c.sender) n) same d.step.3 in
    subst (λ (y : Side). Moves (Comes d.copy) m (other y) n) d.sender s

pub arrives : (m n : Machine) (x : Side) (i : ℕ) → Reached m → DeliversInside m x i n → IsThere (reader n x) i
arrives m n x i r d =
    let s = moves_by m n x i d in
    subst (λ (f : PlainEnd). IsThere f i) (sym (becomes_same m (other x) s.0 n s.2))
    (comes_there d.copy i (end_of m (other (other x))) (reader m x) s.0 d.kind d.open_end d.inside s.1)

-- ---- a read

other_other : (x : Side) → other (other x) ≡ x
other_other A = refl
other_other B = refl

-- the read of an end that can read
read_now :
    (m n : Machine) (x : Side) → Reached m → CanRead (reader m x).phase → Step m (ReadAt (other x)) n →
    ReadsNext (writer m x) (reader m x) (reader n x)
read_now m n x r may s = read_at_reads m n (other x) (writer m x) (ap (end_of m) (other_other x)) (sound m x r) may s

pub reads :
    (l m n : Machine) (x : Side) (events : Schedule) → Reached l → (reader l x).phase ≡ Open →
    RunUnclosed (other x) l events m → Step m (ReadAt (other x)) n → ReadsNext (writer m x) (reader m x) (reader n x)
reads l m n x events r is_open run s =
    read_now m n x (reached_run l events m r run.0) (run_stays l events m (other x) run.0 run.1 (inl is_open)) s

-- ---- an item that was delivered is read in its turn

-- it was written before it was delivered
was_written :
    (m n : Machine) (x : Side) (i : ℕ) → Reached m → DeliversInside m x i n →
    (item : ItemView) × (slice_get (writer m x).written i ≡ Some item)
was_written m n x i r d =
    let ok = copy_at m d.number d.copy (reached_holds m r) d.sent in
    let P : Kind → Type 0 = λ kind. KindOk kind (end_of m d.copy.sender) (len_of d.copy d.copy.sender) in
    let item : P (Nth i) = subst P d.kind ok.kind_ok in
    member_at (writer m x).written i (subst (λ (y : Side). i < length (end_of m y).written) d.sender item.0)

pub in_turn :
    (l m n o : Machine) (x : Side) (events : Schedule) (i : ℕ) → Reached l → DeliversInside l x i m →
    RunUnclosed (other x) m events n → length (reader n x).read ≡ i → Step n (ReadAt (other x)) o →
    (item : ItemView) × (slice_get (writer l x).written i ≡ Some item) × ReadsItem item (reader n x) (reader o x)
in_turn l m n o x events i r d run is_next s =
    let y = other x in
    let first = was_written l m x i r d in
    let rm = reached_on l (Deliver d.number) m r d.step in
    let rn = reached_run m events n rm run.0 in
    let grown = grows m n y events rm run.0 in
    let here : contains (reader n x).arrived i ≡ true =
    ⊎_elim (λ (t : i < length (reader m x).read). absurd (omega (arith, grown.read_more)))
    (λ (t : contains (reader m x).arrived i ≡ true). grown.arrived i t) (arrives l m x i r d) in
    let may = run_stays m events n y run.0 run.1 (deliver_stays l d.number m y d.step (inl d.open_end)) in
    let got =
    MatchBool-at_true {b = contains (reader n x).arrived (length (reader n x).read)} _ _
    (ap (contains (reader n x).arrived) is_next ∙ here) (read_now n o x rn may s) in
    let before =
    item_stays (writer l x) (writer m x) i first.0 (step_grows l m x (Deliver d.number) r d.step) first.1 in
    let after = item_stays (writer m x) (writer n x) i first.0 (grows m n x events rm run.0) before in
    let found : slice_get (writer n x).written i ≡ Some got.0 =
    ap (slice_get (writer n x).written) (sym is_next) ∙ got.1 in
    let same : got.0 ≡ first.0 = cc in
    (first.0, first.1, subst (λ (item : ItemView). ReadsItem item (reader n x) (reader o x)) same got.2)
