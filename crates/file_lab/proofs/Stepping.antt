-- The next event of settling.
use Rattle.std.proofs.Common.{◌≡◌, ℕ, zero, suc, ◌-◌, List, [], ◌∷◌, ◌++◌, length, true, false, refl, sym, ap, ◌∙◌, inl, inr, ◌⊎◌, arith}
use Rattle.std.specs.Prelude.{is_none}
use Rattle.std.proofs.lemmas.Bool.{cond-true, cond-false}
use Rattle.chaos_conn.specs.Calls.{front_of}
use Rattle.chaos_lab.specs.declared.side.Side.{Side}
use Rattle.chaos_lab.specs.declared.side.Side.TheVariants.{A, B}
use Rattle.chaos_lab.specs.Laboratory.{LabView, lab_end, happen, after_all}
use Rattle.chaos_lab.specs.Laboratory.Happening.{ReadBy, AnnounceBy, TickOf, DeliverCopy}
use Rattle.chaos_lab.specs.Settling.{telling, told, resend_moment, reading, reading_on, coming}
use Rattle.file_lab.specs.View.{FileLabView}
use Rattle.file_lab.specs.Events.{FileHappening, At}
use Rattle.file_lab.specs.Exact.{file_happen}
use Rattle.file_lab.specs.Settling.{then_on, fetching, asking, answering, serving}

-- ---- nothing is read

pub none_read : (k : ℕ) (y : Side) (l : LabView) → (k ≡ 0) ⊎ (is_none (front_of (lab_end l y).conn) ≡ true)
    → reading_on y k l ≡ []
none_read zero y l h = refl
none_read (suc k) y l (inl h) = absurd (omega (arith, h))
none_read (suc k) y l (inr h) =
    let none : reading y l ≡ [] = cond-true (is_none (front_of (lab_end l y).conn)) [] (ReadBy y ∷ []) h in
    ap (λ es. es ++ reading_on y k (after_all l es)) none ∙ none_read k y l (inr h)

-- so the copies come
pub read_none : (k from to : ℕ) (others : FileLabView → List FileHappening) (l : FileLabView)
    → (k ≡ 0) ⊎ (is_none (front_of (lab_end l.lab A).conn) ≡ true)
    → then_on (reading_on A k l.lab ++ coming A from (to - from) (after_all l.lab (reading_on A k l.lab))) others l
    ≡ then_on (coming A from (to - from) l.lab) others l
read_none k from to others l h =
    ap (λ es. then_on (es ++ coming A from (to - from) (after_all l.lab es)) others l) (none_read k A l.lab h)

-- ---- an end announces its window, or sends again

-- the rest of the events, in the laboratory as it is then
abbrev Rest : Type 0
Rest = FileLabView → List FileHappening

-- where the event is given by what it is
abbrev after_event : FileLabView → FileHappening → FileLabView
after_event l event = (file_happen l event).view

pub starts_as : (rest : Rest) (l : FileLabView) (event : FileHappening) (copy : ℕ)
    → event ≡ At (AnnounceBy B (lab_end l.lab B).conn.config.recv_cap) → copy ≡ length l.lab.copies
    → then_on (telling B l.lab ++ TickOf A (resend_moment A (told B l.lab)) ∷ []) rest l
    ≡ event
    ∷ then_on
    (DeliverCopy copy ∷ TickOf A (resend_moment A (happen (after_event l event).lab (DeliverCopy copy)).lab)
    ∷ [])
    rest (after_event l event)
starts_as rest l event copy is count =
    let goes : FileHappening → ℕ → List FileHappening =
    λ e n. e
    ∷ then_on
    (DeliverCopy n ∷ TickOf A (resend_moment A (happen (after_event l e).lab (DeliverCopy n)).lab) ∷ [])
    rest (after_event l e) in
    λ i. goes (sym is i) (sym count i)

pub hears_as : (rest : Rest) (l : FileLabView) (event : FileHappening) (copy : ℕ) → event ≡ At (DeliverCopy copy)
    → then_on (DeliverCopy copy ∷ TickOf A (resend_moment A (happen l.lab (DeliverCopy copy)).lab) ∷ []) rest l
    ≡ event ∷ then_on (TickOf A (resend_moment A (after_event l event).lab) ∷ []) rest (after_event l event)
hears_as rest l event copy is =
    let goes : FileHappening → List FileHappening =
    λ e. e ∷ then_on (TickOf A (resend_moment A (after_event l e).lab) ∷ []) rest (after_event l e) in
    λ i. goes (sym is i)

pub resends_as : (x : Side) (moment : ℕ) (rest : Rest) (l : FileLabView) (event : FileHappening)
    → event ≡ At (TickOf x moment) → then_on (TickOf x moment ∷ []) rest l ≡ event ∷ rest (after_event l event)
resends_as x moment rest l event is = λ i. sym is i ∷ rest (after_event l (sym is i))

pub tells_as : (y : Side) (rest : Rest) (l : FileLabView) (event : FileHappening) (copy : ℕ)
    → event ≡ At (AnnounceBy y (lab_end l.lab y).conn.config.recv_cap) → copy ≡ length l.lab.copies
    → then_on (telling y l.lab) rest l ≡ event ∷ then_on (DeliverCopy copy ∷ []) rest (after_event l event)
tells_as y rest l event copy is count =
    λ i. sym is i ∷ then_on (DeliverCopy (sym count i) ∷ []) rest (after_event l (sym is i))

-- ---- the next item

-- one of those that are left
serves_next : (before left less : ℕ) (l : FileLabView) → (left ≡ 0 → ⊥) → less ≡ left - 1
    → serving before left l ≡ then_on (asking (before - left) l.lab) (λ m. answering (λ k. serving before less k) m) l
serves_next before zero less l some is = absurd (some refl)
serves_next before (suc n) less l some is =
    let same : n ≡ less = omega (arith, is) in
    λ i. then_on (asking (before - suc n) l.lab) (λ m. answering (λ k. serving before (same i) k) m) l

-- it comes first
pub fetches_next : (before left less copy : ℕ) (l : FileLabView) → (left ≡ 0 → ⊥) → less ≡ left - 1
    → copy ≡ before - left → is_none (front_of (lab_end l.lab B).conn) ≡ true
    → serving before left l
    ≡ At (DeliverCopy copy)
    ∷ then_on (telling A (after_event l (At (DeliverCopy copy))).lab)
    (λ m. answering (λ k. serving before less k) m) (after_event l (At (DeliverCopy copy)))
fetches_next before left less copy l some is number waits =
    let fetch : fetching copy l.lab ≡ DeliverCopy copy ∷ [] =
    cond-true (is_none (front_of (lab_end l.lab B).conn)) (DeliverCopy copy ∷ []) [] waits in
    serves_next before left less l some is
    ∙ (λ i. then_on (asking (sym number i) l.lab) (λ m. answering (λ k. serving before less k) m) l)
    ∙ (λ i. then_on (fetch i ++ telling A (after_all l.lab (fetch i))) (λ m. answering (λ k. serving before less k) m)
    l)

-- it is in front
pub asks_next : (before left less : ℕ) (l : FileLabView) → (left ≡ 0 → ⊥) → less ≡ left - 1
    → is_none (front_of (lab_end l.lab B).conn) ≡ false
    → serving before left l ≡ then_on (telling A l.lab) (λ m. answering (λ k. serving before less k) m) l
asks_next before left less l some is front =
    let fetch : fetching (before - left) l.lab ≡ [] =
    cond-false (is_none (front_of (lab_end l.lab B).conn)) (DeliverCopy (before - left) ∷ []) [] front in
    serves_next before left less l some is
    ∙ (λ i. then_on (fetch i ++ telling A (after_all l.lab (fetch i))) (λ m. answering (λ k. serving before less k) m)
    l)
