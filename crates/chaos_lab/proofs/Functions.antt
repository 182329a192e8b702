-- The rows of the table as functions.
use Rattle.std.proofs.Common.{◌≡◌, ◌∙◌, ℕ, length, Bool, true, false, ◌&&◌, None, Option, refl, sym, ap, subst, inl, inr, ◌⊎◌, ⊎_elim}
use Rattle.std.specs.Prelude.{slice_get, if◌then◌else◌}
use Rattle.std.specs.FinSet.{contains}
use Rattle.std.proofs.lemmas.Bool.{false≢true}
use Rattle.chaos_packet.specs.Item.{ItemView}
use Rattle.chaos_lab.specs.declared.side.Side.{Side}
use Rattle.chaos_lab.specs.Machine.{PlainEnd, Phase, Kind, Told, Copy, Machine, Event, read_item, Read, Close, Tick, OrNothing, Comes, Step}
use Rattle.chaos_lab.specs.Machine.Phase.{Inactive, RfcSent, RfcReceived, Open, Ended, Closed}
use Rattle.chaos_lab.proofs.Directions.{Sound}
use Rattle.chaos_lab.proofs.Copies.{KindOk, ToldOk, TellsMet}
use Rattle.chaos_lab.proofs.Ends.{EndOk, EndHolds, EndStep}
use Rattle.chaos_lab.proofs.Rows.{or_nothing, row_comes}
use Rattle.chaos_lab.proofs.Total.{received, comes_received}
use Rattle.chaos_lab.proofs.Machines.{Holds, Later, step_goes}

abbrev pub next_item : PlainEnd → PlainEnd → Option ItemView
next_item peer e = slice_get peer.written (length e.read)

abbrev pub may_read : Phase → Bool
may_read Open = true
may_read Ended = true
may_read _ = false

-- what its user would read now
abbrev pub readable : PlainEnd → PlainEnd → Option ItemView
readable peer e = if may_read e.phase && contains e.arrived (length e.read) then next_item peer e else None

abbrev pub ended_phase : Phase → Phase
ended_phase RfcSent = Ended
ended_phase Open = Ended
ended_phase phase = phase

abbrev pub closed_phase : Phase → Phase
closed_phase Inactive = Inactive
closed_phase _ = Closed

-- ---- a copy

pub step_received :
    (phase : Phase) (kind : Kind) (told : Told) (x : Side) (e p : PlainEnd) (len_s len_r : ℕ) → e.phase ≡ phase
    → Sound e p → Sound p e →
    EndOk x e → KindOk kind p len_s → ToldOk told p e len_r → TellsMet kind told
    → EndStep x e p (received phase kind told p e)
step_received phase kind told x e p len_s len_r at ep pe o k t m =
    let c : Copy = record { sender = x; kind = kind; told = told; len_a = len_s; len_b = len_r } in
    let h : EndHolds x e p = record { writer = ep; reader = pe; ok = o } in
    subst (λ (ph : Phase). EndStep x e p (received ph kind told p e)) at
    (or_nothing (Comes c) x e p (received e.phase kind told p e) h
    (row_comes c x e p (received e.phase kind told p e) len_s len_r h (record { kind_ok = k; told_ok = t; met = m }))
    (comes_received c p e))

pub step_later : (m : Machine) (event : Event) (n : Machine) → Holds m → Step m event n → Later m n
step_later m event n h s = (step_goes m event n h s).later

pub step_holds : (m : Machine) (event : Event) (n : Machine) → Holds m → Step m event n → Holds n
step_holds m event n h s = (step_goes m event n h s).holds

-- ---- a read

no_read : (phase : Phase) → may_read phase ≡ false → (phase ≡ Open) ⊎ (phase ≡ Ended) → ⊥
no_read phase shut h =
    ⊎_elim (λ (t : phase ≡ Open). false≢true (sym shut ∙ ap may_read t))
    (λ (t : phase ≡ Ended). false≢true (sym shut ∙ ap may_read t)) h

may_of : (phase : Phase) → may_read phase ≡ true → (phase ≡ Open) ⊎ (phase ≡ Ended)
may_of Open h = inl refl
may_of Ended h = inr refl
may_of Inactive h = absurd (cc)
may_of RfcSent h = absurd (cc)
may_of RfcReceived h = absurd (cc)
may_of Closed h = absurd (cc)

read_by : (b c : Bool) (p e : PlainEnd) → may_read e.phase ≡ b → contains e.arrived (length e.read) ≡ c
    → OrNothing Read p e (read_item (if b && c then next_item p e else None) e)
read_by true true p e may here = inl (may_of e.phase may, here, refl)
read_by true false p e may here = inr (λ g r. false≢true (sym here ∙ r.1), refl)
read_by false c p e may here = inr (λ g r. no_read e.phase may r.0, refl)

pub read_row : (p e : PlainEnd) → OrNothing Read p e (read_item (readable p e) e)
read_row p e = read_by (may_read e.phase) (contains e.arrived (length e.read)) p e refl refl

-- ---- a close

close_by : (phase : Phase) (p e : PlainEnd) → e.phase ≡ phase
    → OrNothing Close p e (record e { phase = closed_phase phase })
close_by Inactive p e at = inr (λ g r. r.0 at, λ j. record e { phase = sym at j })
close_by RfcSent p e at = inl (λ t. let q : RfcSent ≡ Inactive = sym at ∙ t in absurd (cc), refl)
close_by RfcReceived p e at = inl (λ t. let q : RfcReceived ≡ Inactive = sym at ∙ t in absurd (cc), refl)
close_by Open p e at = inl (λ t. let q : Open ≡ Inactive = sym at ∙ t in absurd (cc), refl)
close_by Ended p e at = inl (λ t. let q : Ended ≡ Inactive = sym at ∙ t in absurd (cc), refl)
close_by Closed p e at = inl (λ t. let q : Closed ≡ Inactive = sym at ∙ t in absurd (cc), refl)

pub close_row : (p e : PlainEnd) → OrNothing Close p e (record e { phase = closed_phase e.phase })
close_row p e = close_by e.phase p e refl

-- ---- a tick

tick_by : (phase : Phase) (p e : PlainEnd) → e.phase ≡ phase
    → OrNothing Tick p e (record e { phase = ended_phase phase })
tick_by RfcSent p e at = inl (inl (inl at, refl))
tick_by Open p e at = inl (inl (inr at, refl))
tick_by Inactive p e at = inl (inr (λ j. record e { phase = sym at j }))
tick_by RfcReceived p e at = inl (inr (λ j. record e { phase = sym at j }))
tick_by Ended p e at = inl (inr (λ j. record e { phase = sym at j }))
tick_by Closed p e at = inl (inr (λ j. record e { phase = sym at j }))

pub tick_row : (p e : PlainEnd) → OrNothing Tick p e (record e { phase = ended_phase e.phase })
tick_row p e = tick_by e.phase p e refl
