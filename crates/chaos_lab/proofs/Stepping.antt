-- The next event of settling.
use Rattle.std.proofs.Common.{◌≡◌, ℕ, zero, suc, List, [], ◌∷◌, ◌++◌, length, true, refl, sym, ap, ◌∙◌, subst, inl, inr, ◌⊎◌, arith}
use Rattle.std.specs.Prelude.{is_none}
use Rattle.std.proofs.lemmas.Bool.{cond-true}
use Rattle.chaos_conn.specs.Calls.{front_of}
use Rattle.chaos_lab.specs.declared.side.Side.{Side}
use Rattle.chaos_lab.specs.declared.side.Side.TheVariants.{A, B}
use Rattle.chaos_lab.specs.declared.settling.Settling.{Settling}
use Rattle.chaos_lab.specs.declared.settling.Place.TheVariants as place
use Rattle.chaos_lab.specs.Machine.{other}
use Rattle.chaos_lab.specs.Laboratory.{LabView, Happening, lab_end, happen, after_all}
use Rattle.chaos_lab.specs.Laboratory.Happening.{ReadBy, AnnounceBy, TickOf, DeliverCopy}
use Rattle.chaos_lab.specs.Settling.{resend_moment, reading, reading_on, bringing, taking, b_hearing, b_sending, both_taking}
use Rattle.chaos_lab.specs.SettlingLeft.{sent_to, then_on, tells, hears, sends, takes, next_taking, left_at, left}

-- ---- an end announces its window

-- what A had sent again ends there
abbrev pub IsTold : Side → ℕ → Settling → Settling → Type 0
IsTold A n s t = (t.of_a.from ≡ s.of_a.from) × (t.of_a.to ≡ n)
IsTold B n s t = Unit {0}

abbrev told_by : Side → LabView → Happening
told_by y l = AnnounceBy y (lab_end l y).conn.config.recv_cap

told_at : (y : Side) (s t : Settling) (l : LabView) → IsTold y (length l.copies) s t
    → tells y s l
    ≡ told_by y l ∷ DeliverCopy (length l.copies)
    ∷ hears y t (happen (happen l (told_by y l)).lab (DeliverCopy (length l.copies))).lab
told_at A s t l h =
    let m : LabView = (happen (happen l (told_by A l)).lab (DeliverCopy (length l.copies))).lab in
    λ i. told_by A l ∷ DeliverCopy (length l.copies) ∷ b_sending (sym h.0 i) (sym h.1 i) m
told_at B s t l h = refl

pub told : (y : Side) (s t : Settling) (l : LabView) (event : Happening) (copy : ℕ)
    → event ≡ AnnounceBy y (lab_end l y).conn.config.recv_cap → copy ≡ length l.copies → IsTold y copy s t
    → tells y s l ≡ event ∷ DeliverCopy copy ∷ hears y t (happen (happen l event).lab (DeliverCopy copy)).lab
told y s t l event copy is count h =
    let goes : Happening → ℕ → List Happening =
    λ e n. e ∷ DeliverCopy n ∷ hears y t (happen (happen l e).lab (DeliverCopy n)).lab in
    told_at y s t l (subst (λ n. IsTold y n s t) count h) ∙ (λ i. goes (sym is i) (sym count i))

-- the other end hears that, and sends again
pub hears_sends : (y x : Side) (s : Settling) (l : LabView) → x ≡ other y
    → hears y s l ≡ sends x (record s { place = place.Resend x }) l
hears_sends A x s l is = ap (λ z. sends z (record s { place = place.Resend z }) l) (sym is)
hears_sends B x s l is = ap (λ z. sends z (record s { place = place.Resend z }) l) (sym is)

-- ---- an end sends again

-- from here on, and the next place
abbrev pub IsResent : Side → ℕ → Settling → Settling → Type 0
IsResent A n s t = (t.place ≡ place.Tell A) × (t.of_a.from ≡ n)
IsResent B n s t = (t.place ≡ place.Take A) × (t.of_b.from ≡ n) × (t.of_a ≡ s.of_a)

resent_at : (x : Side) (s t : Settling) (l : LabView) → IsResent x (length l.copies) s t
    → sends x s l ≡ TickOf x (resend_moment x l) ∷ left t (happen l (TickOf x (resend_moment x l))).lab
resent_at A s t l h =
    let m : LabView = (happen l (TickOf A (resend_moment A l))).lab in
    ap (λ es. TickOf A (resend_moment A l) ∷ es) ((λ i. b_hearing (sym h.1 i) (length m.copies) m) ∙ sym (by t m h.0))
  where
    by : (t : Settling) (m : LabView) → t.place ≡ place.Tell A → left t m ≡ b_hearing t.of_a.from (length m.copies) m
    by t m is = ap (λ p. left (record t { place = p }) m) is
resent_at B s t l h =
    let m : LabView = (happen l (TickOf B (resend_moment B l))).lab in
    ap (λ es. TickOf B (resend_moment B l) ∷ es)
    ((λ i. both_taking (sym h.2 i).from (sym h.2 i).to (sym h.1 i) (length m.copies) m) ∙ sym (by t m h.0))
  where
    by : (t : Settling) (m : LabView) → t.place ≡ place.Take A
        → left t m ≡ both_taking t.of_a.from t.of_a.to t.of_b.from (length m.copies) m
    by t m is = ap (λ p. left (record t { place = p }) m) is

pub resent : (x : Side) (s t : Settling) (l : LabView) (moment first : ℕ) → moment ≡ resend_moment x l
    → first ≡ length l.copies → IsResent x first s t
    → sends x s l ≡ TickOf x moment ∷ left t (happen l (TickOf x moment)).lab
resent x s t l moment first is count h =
    let goes : ℕ → List Happening = λ n. TickOf x n ∷ left t (happen l (TickOf x n)).lab in
    resent_at x s t l (subst (λ n. IsResent x n s t) count h) ∙ ap goes (sym is)

-- ---- a user reads

pub none_read : (k : ℕ) (y : Side) (l : LabView) → (k ≡ 0) ⊎ (is_none (front_of (lab_end l y).conn) ≡ true)
    → reading_on y k l ≡ []
none_read zero y l h = refl
none_read (suc k) y l (inl h) = absurd (omega (arith, h))
none_read (suc k) y l (inr h) =
    let none : reading y l ≡ [] = cond-true (is_none (front_of (lab_end l y).conn)) [] (ReadBy y ∷ []) h in
    ap (λ es. es ++ reading_on y k (after_all l es)) none ∙ none_read k y l (inr h)

-- where nothing is there to be read, the copies come
pub read_none : (y : Side) (s : Settling) (k : ℕ) (l : LabView)
    → (k ≡ 0) ⊎ (is_none (front_of (lab_end l y).conn) ≡ true)
    → then_on y s (reading_on y k l ++ bringing y (sent_to y s).from (sent_to y s).to (after_all l (reading_on y k l)))
    l
    ≡ then_on y s (bringing y (sent_to y s).from (sent_to y s).to l) l
read_none y s k l h =
    ap (λ es. then_on y s (es ++ bringing y (sent_to y s).from (sent_to y s).to (after_all l es)) l) (none_read k y l h)

-- ---- an end hears that all came

pub heard : (y : Side) (s : Settling) (l : LabView) (copy : ℕ)
    → then_on y s (DeliverCopy copy ∷ []) l
    ≡ DeliverCopy copy ∷ left (record s { place = next_taking y }) (happen l (DeliverCopy copy)).lab
heard A s l copy = refl
heard B s l copy = refl

-- ---- what comes to an end

-- what B sent ends there
abbrev pub IsTaken : Side → ℕ → Settling → Settling → Type 0
IsTaken A n s t = (t.of_a ≡ s.of_a) × (t.of_b.from ≡ s.of_b.from) × (t.of_b.to ≡ n)
IsTaken B n s t = t ≡ s

pub takes_as : (y : Side) (s t : Settling) (l : LabView) (times : ℕ) → times ≡ (lab_end l y).conn.config.recv_cap
    → IsTaken y (length l.copies) s t → takes y s l ≡ left_at (place.Read y times) t l
takes_as A s t l times cap h =
    let both : ℕ → ℕ → ℕ → ℕ → List Happening = λ k from to n.
    let read = reading_on A k l in
    let home = read ++ bringing A from to (after_all l read) in
    home ++ taking B t.of_a.from t.of_a.to (after_all l home) in
    (λ i. both_taking (sym h.0 i).from (sym h.0 i).to s.of_b.from (length l.copies) l)
    ∙ (λ i. both (sym cap i) (sym h.1 i) (sym h.2 i) 0)
takes_as B s t l times cap h =
    let take : ℕ → Settling → List Happening =
    λ k r. let read = reading_on B k l in read ++ bringing B r.of_a.from r.of_a.to (after_all l read) in
    λ i. take (sym cap i) (sym h i)
