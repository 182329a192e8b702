-- Which ends can read, and what a read gives.
use Rattle.std.proofs.Common.{◌≡◌, ℕ, suc, [], ◌∷◌, length, Bool, true, false, Option, Some, None, refl, sym, ap, ◌∙◌, subst, inl, inr, ◌⊎◌, ⊎_elim, arith}
use Rattle.std.specs.Prelude.{slice_get}
use Rattle.std.specs.Bool.{MatchBool}
use Rattle.std.specs.FinSet.{contains, insert}
use Rattle.std.specs.List.{Contains}
use Rattle.std.proofs.lemmas.Bool.{cond_both, false≢true}
use Rattle.chaos_lab.specs.declared.side.Side.{Side}
use Rattle.chaos_lab.specs.declared.side.Side.TheVariants.{A, B}
use Rattle.chaos_packet.specs.Item.{ItemView}
use Rattle.chaos_lab.specs.Machine.{PlainEnd, Phase, Copy, Machine, Event, Schedule, other, end_of, hear, take_in, read_item, read_next, Row, Accept, Write, Read, Resize, Close, Tick, End, Comes, OrNothing, Becomes, Moves, Step, Run}
use Rattle.chaos_lab.specs.Machine.Phase.{Inactive, Open, Ended}
use Rattle.chaos_lab.specs.Machine.Event.{AcceptAt, WriteAt, ReadAt, ResizeAt, TickAt, CloseAt, Deliver}
use Rattle.chaos_lab.specs.Law.{ReadsNext}
use Rattle.chaos_lab.proofs.Lists.{member_at}
use Rattle.chaos_lab.proofs.Directions.{Sound}
use Rattle.chaos_lab.proofs.Ends.{hear_phase}

-- ---- the ends after a step

pub becomes_same : (m : Machine) (x : Side) (f : PlainEnd) (n : Machine) → Becomes m x f n → end_of n x ≡ f
becomes_same m A f n b = ap (λ (k : Machine). k.a) b.2
becomes_same m B f n b = ap (λ (k : Machine). k.b) b.2

-- ---- an end that can read goes on so until its own user closes it

abbrev pub CanRead : Phase → Type 0
CanRead phase = (phase ≡ Open) ⊎ (phase ≡ Ended)

read_item_phase : (next : Option ItemView) (e : PlainEnd) → (read_item next e).phase ≡ e.phase
read_item_phase None e = refl
read_item_phase (Some item) e = refl

take_in_phase : (i : ℕ) (e : PlainEnd) → (take_in i e).phase ≡ e.phase
take_in_phase i e = cond_both _ _ _ (λ (f : PlainEnd). f.phase ≡ e.phase) (λ _. refl) (λ _. refl)

write_stays : (item : ItemView) (p e f : PlainEnd) → Write item p e f → CanRead e.phase → CanRead f.phase
write_stays item p e f r may = subst (λ (g : PlainEnd). CanRead g.phase) (sym r.2) may

read_stays : (p e f : PlainEnd) → Read p e f → CanRead e.phase → CanRead f.phase
read_stays p e f r may =
    subst (λ (g : PlainEnd). CanRead g.phase) (sym r.2)
    (subst CanRead (sym (read_item_phase (slice_get p.written (length e.read)) e)) may)

resize_stays : (window : ℕ) (p e f : PlainEnd) → Resize window p e f → CanRead f.phase
resize_stays window p e f r = subst (λ (g : PlainEnd). CanRead g.phase) (sym r.2) (inl r.0)

accept_stays : (opn : ItemView) (p e f : PlainEnd) → Accept opn p e f → CanRead f.phase
accept_stays opn p e f r = subst (λ (g : PlainEnd). CanRead g.phase) (sym r.1) (inl refl)

end_stays : (p e f : PlainEnd) → End p e f → CanRead f.phase
end_stays p e f r = subst (λ (g : PlainEnd). CanRead g.phase) (sym r.1) (inr refl)

tick_stays : (p e f : PlainEnd) → Tick p e f → CanRead e.phase → CanRead f.phase
tick_stays p e f r may =
    ⊎_elim (end_stays p e f) (λ (t : f ≡ e). subst (λ (g : PlainEnd). CanRead g.phase) (sym t) may) r

comes_stays : (c : Copy) (p e f : PlainEnd) → Comes c p e f → CanRead e.phase → CanRead f.phase
comes_stays c p e f (inl r) may =
    let at : e.phase ≡ Inactive = r.1 in
    absurd (⊎_elim (λ (t : e.phase ≡ Open). cc) (λ (t : e.phase ≡ Ended). cc) may)
comes_stays c p e f (inr (inl r)) may =
    let opened : PlainEnd = record e { phase = Open; arrived = insert e.arrived 0 } in
    subst (λ (g : PlainEnd). CanRead g.phase) (sym r.2)
    (inl (hear_phase c.told (read_next p opened) ∙ read_item_phase (slice_get p.written (length e.read)) opened))
comes_stays c p e f (inr (inr (inl r))) may =
    subst (λ (g : PlainEnd). CanRead g.phase) (sym r.3)
    (inl (take_in_phase r.1 (hear c.told e) ∙ hear_phase c.told e ∙ r.0))
comes_stays c p e f (inr (inr (inr (inl r)))) may =
    subst (λ (g : PlainEnd). CanRead g.phase) (sym r.2) (inl (hear_phase c.told e ∙ r.0))
comes_stays c p e f (inr (inr (inr (inr r)))) may = end_stays p e f r.1

-- a step at y changes the end at x only where they are the same
becomes_stays :
    (m : Machine) (x y : Side) (f : PlainEnd) (n : Machine) → Becomes m y f n →
    (x ≡ y → CanRead (end_of m y).phase → CanRead f.phase) → CanRead (end_of m x).phase → CanRead (end_of n x).phase
becomes_stays m A A f n b keeps may = subst (λ (k : Machine). CanRead k.a.phase) (sym b.2) (keeps refl may)
becomes_stays m A B f n b keeps may = subst (λ (k : Machine). CanRead k.a.phase) (sym b.2) may
becomes_stays m B A f n b keeps may = subst (λ (k : Machine). CanRead k.b.phase) (sym b.2) may
becomes_stays m B B f n b keeps may = subst (λ (k : Machine). CanRead k.b.phase) (sym b.2) (keeps refl may)

moves_stays :
    (row : Row) (m : Machine) (x y : Side) (n : Machine) → Moves row m y n →
    (x ≡ y → (f : PlainEnd) → row (end_of m (other y)) (end_of m y) f → CanRead (end_of m y).phase → CanRead f.phase) →
    CanRead (end_of m x).phase → CanRead (end_of n x).phase
moves_stays row m x y n s keeps may =
    becomes_stays m x y s.0 n s.2
    (λ same may. ⊎_elim
    (λ (r : row (end_of m (other y)) (end_of m y) s.0). keeps same s.0 r may)
    (λ (r : ((g : PlainEnd) → row (end_of m (other y)) (end_of m y) g → ⊥) × (s.0 ≡ end_of m y)).
    subst (λ (g : PlainEnd). CanRead g.phase) (sym r.1) may)
    s.1)
    may

pub step_stays :
    (m : Machine) (event : Event) (n : Machine) (x : Side) → Step m event n → (event ≡ CloseAt x → ⊥) →
    CanRead (end_of m x).phase → CanRead (end_of n x).phase
step_stays m (AcceptAt y opn) n x s unclosed may =
    moves_stays (Accept opn) m x y n s (λ _ f r _. accept_stays opn (end_of m (other y)) (end_of m y) f r) may
step_stays m (WriteAt y item) n x s unclosed may =
    moves_stays (Write item) m x y n s (λ _ f r t. write_stays item (end_of m (other y)) (end_of m y) f r t) may
step_stays m (ReadAt y) n x s unclosed may =
    moves_stays Read m x y n s (λ _ f r t. read_stays (end_of m (other y)) (end_of m y) f r t) may
step_stays m (ResizeAt y window) n x s unclosed may =
    moves_stays (Resize window) m x y n s (λ _ f r _. resize_stays window (end_of m (other y)) (end_of m y) f r) may
step_stays m (TickAt y) n x s unclosed may =
    moves_stays Tick m x y n s (λ _ f r t. tick_stays (end_of m (other y)) (end_of m y) f r t) may
step_stays m (CloseAt y) n x s unclosed may =
    moves_stays Close m x y n s (λ same f r t. absurd (unclosed (ap CloseAt (sym same)))) may
step_stays m (Deliver k) n x s unclosed may =
    let y = other s.0.sender in
    moves_stays (Comes s.0) m x y n s.3 (λ _ f r t. comes_stays s.0 (end_of m (other y)) (end_of m y) f r t) may

pub deliver_stays :
    (m : Machine) (k : ℕ) (n : Machine) (x : Side) → Step m (Deliver k) n → CanRead (end_of m x).phase →
    CanRead (end_of n x).phase
deliver_stays m k n x s may = step_stays m (Deliver k) n x s (λ e. absurd (cc)) may

pub run_stays :
    (m : Machine) (events : Schedule) (n : Machine) (x : Side) → Run m events n → (Contains events (CloseAt x) → ⊥) →
    CanRead (end_of m x).phase → CanRead (end_of n x).phase
run_stays m [] n x r unclosed may = subst (λ (k : Machine). CanRead (end_of k x).phase) (sym r) may
run_stays m (event ∷ events) n x r unclosed may =
    run_stays r.0 events n x r.2
    (λ t. unclosed (suc t.0, omega (arith, t.1), t.2))
    (step_stays m event r.0 x r.1 (λ e. unclosed (0, omega arith, e)) may)

-- ---- a read

match_from : (b : Bool) (P Q : Type 0) → (b ≡ true → P) → (b ≡ false → Q) → MatchBool b P Q
match_from true P Q p q = p refl
match_from false P Q p q = q refl

-- e goes on to f by a read, or by nothing where it isn't allowed
pub or_nothing_reads : (p e f : PlainEnd) → Sound p e → CanRead e.phase → OrNothing Read p e f → ReadsNext p e f
or_nothing_reads p e f d may (inl r) =
    match_from (contains e.arrived (length e.read)) _ _
    (λ t.
    let next = member_at p.written (length e.read) (d.within (length e.read) t) in
    (next.0, next.1, ap (λ (g : PlainEnd). g.read) r.2 ∙ ap (λ (o : Option ItemView). (read_item o e).read) next.1))
    (λ t. absurd (false≢true (sym t ∙ r.1)))
or_nothing_reads p e f d may (inr r) =
    match_from (contains e.arrived (length e.read)) _ _
    (λ t. absurd (r.0 (read_next p e) (may, t, refl)))
    (λ t. ap (λ (g : PlainEnd). g.read) r.1)

-- the read of the end at y, with its peer p
pub read_at_reads :
    (m n : Machine) (y : Side) (p : PlainEnd) → end_of m (other y) ≡ p → Sound p (end_of m y)
    → CanRead (end_of m y).phase →
    Step m (ReadAt y) n → ReadsNext p (end_of m y) (end_of n y)
read_at_reads m n y p peer d may s =
    subst (ReadsNext p (end_of m y)) (sym (becomes_same m y s.0 n s.2))
    (or_nothing_reads p (end_of m y) s.0 d may (subst (λ q. OrNothing Read q (end_of m y) s.0) peer s.1))
