-- What a step does to the items of an end.
use Rattle.std.proofs.Common.{◌≡◌, ℕ, zero, suc, ◌+◌, ◌<◌, ◌≤◌, List, [], ◌∷◌, ◌++◌, length, ◌&&◌, leb, ltb, Option, Some, None, refl, sym, ap, ◌∙◌, subst, ⊎_elim, ◌⊎◌, arith}
use Rattle.std.specs.Prelude.{slice_get}
use Rattle.std.specs.FinSet.{insert}
use Rattle.std.proofs.lemmas.Bool.{cond_both, cases_lt}
use Rattle.chaos_lab.specs.declared.side.Side.{Side}
use Rattle.chaos_lab.specs.declared.side.Side.TheVariants.{B}
use Rattle.chaos_lab.specs.Machine.{PlainEnd as Plain}
use Rattle.chaos_lab.specs.Machine.Phase.{Inactive, RfcSent, RfcReceived, Open, Ended, Closed}
use Rattle.chaos_lab.specs.Machine.Told.{Nothing, Acknowledges, Status}
use Rattle.chaos_lab.specs.Machine.Kind.{Nth, Sns, Sts, Cls}
use Rattle.chaos_lab.specs.Machine.{Phase, Kind, Told, hear, take_in, read_item}
use Rattle.chaos_lab.proofs.Functions.{next_item}
use Rattle.chaos_lab.proofs.Total.{received}
use Rattle.chaos_packet.specs.Item.{ItemView}
use Rattle.chaos_lab.specs.Shown.{HasItems, IsUsers, IsFirst}
use Rattle.chaos_lab.proofs.Known.{ComesLate}
use Rattle.chaos_lab.proofs.Calls.{last_item}
use Rattle.chaos_lab.proofs.TiedOn.{front_same}

-- ---- what a step does to the lists

heard_written : (told : Told) (e : Plain) → (hear told e).written ≡ e.written
heard_written Nothing e = refl
heard_written (Acknowledges r) e = refl
heard_written (Status r f w) e = refl

heard_cap : (told : Told) (e : Plain) → (hear told e).recv_cap ≡ e.recv_cap
heard_cap Nothing e = refl
heard_cap (Acknowledges r) e = refl
heard_cap (Status r f w) e = refl

abbrev Same : Plain → Plain → Type 0
Same e f = (f.written ≡ e.written) × (f.recv_cap ≡ e.recv_cap)

pub same_read : (o : Option ItemView) (e : Plain) → Same e (read_item o e)
same_read None e = (refl, refl)
same_read (Some item) e = (refl, refl)

same_took : (i : ℕ) (e f : Plain) → Same e f → Same e (take_in i f)
same_took i e f s =
    cond_both (leb (length f.read) i && ltb i (length f.read + f.announced)) (record f { arrived = insert f.arrived i })
    f (Same e) (λ _. s) (λ _. s)

same_heard : (told : Told) (e f : Plain) → Same e f → Same e (hear told f)
same_heard told e f s = (heard_written told f ∙ s.0, heard_cap told f ∙ s.1)

pub same_received : (phase : Phase) (kind : Kind) (told : Told) (p e : Plain) → Same e (received phase kind told p e)
same_received RfcSent (Nth zero) told p e =
    same_heard told e _ (same_read (next_item p e) (record e { phase = Open; arrived = insert e.arrived 0 }))
same_received Open (Nth i) told p e = same_took i e (hear told e) (same_heard told e e (refl, refl))
same_received Open Sns told p e = same_heard told e e (refl, refl)
same_received Open Sts told p e = same_heard told e e (refl, refl)
same_received Inactive (Nth zero) told p e = (refl, refl)
same_received RfcReceived Cls told p e = (refl, refl)
same_received Ended Cls told p e = (refl, refl)
same_received Closed Cls told p e = (refl, refl)
same_received _ _ told p e = (refl, refl)

pub same_items : (x : Side) (b' : ℕ) (e f : Plain) → Same e f → HasItems x b' e → HasItems x b' f
same_items x b' e f s its =
    record {
      first =
          λ item h. subst (λ c. IsFirst x b' c item) (sym s.1)
          (its.first item (ap (λ ws. slice_get ws 0) (sym s.0) ∙ h));
      users = λ i item h. its.users i item (ap (λ ws. slice_get ws (suc i)) (sym s.0) ∙ h);
    }

pub late_of : (kind : Kind) (e : Plain) → (kind ≡ Nth 0) ⊎ (1 ≤ length e.written) → ComesLate B kind e
late_of (Nth i) e h = tt
late_of Sns e h = tt
late_of Sts e h = tt
late_of Cls e h = ⊎_elim (λ (t : Cls ≡ Nth 0). absurd (cc)) (λ (t : 1 ≤ length e.written). t) h

-- ---- one more item of a user's

past_end : (xs : List ItemView) (x : ItemView) (i : ℕ) → length xs < i → slice_get (xs ++ x ∷ []) i ≡ None
past_end [] x zero h = absurd (omega arith)
past_end [] x (suc i) h = refl
past_end (y ∷ xs) x zero h = absurd (omega arith)
past_end (y ∷ xs) x (suc i) h = past_end xs x i (omega arith)

pub more_items : (x : Side) (b' : ℕ) (e : Plain) (item : ItemView) → 1 ≤ length e.written → IsUsers item
    → HasItems x b' e → HasItems x b' (record e { written = e.written ++ item ∷ [] })
more_items x b' e item some users its =
    record {
      first = λ y h. its.first y (front_same e.written (item ∷ []) 0 (omega arith) ∙ h);
      users = λ i y h.
          ⊎_elim
          (λ (t : suc i < length e.written). its.users i y (front_same e.written (item ∷ []) (suc i) t ∙ h))
          (λ (t : length e.written ≤ suc i).
          ⊎_elim
          (λ (u : length e.written < suc i). let none : None ≡ Some y = sym (past_end e.written item (suc i) u)
          ∙ h in absurd (cc))
          (λ (u : suc i ≤ length e.written).
          let same : length e.written ≡ suc i = omega arith in
          let is : Some item ≡ Some y =
          sym (last_item e.written item) ∙ ap (slice_get (e.written ++ item ∷ [])) same ∙ h in
          subst IsUsers (some_is is) users)
          (cases_lt (length e.written) (suc i)))
          (cases_lt (suc i) (length e.written));
    }
  where
    some_is : {y z : ItemView} → Some y ≡ Some z → y ≡ z
    some_is h = cc

-- ---- what it reads, and whether it is asked

pub same_heard_read : (told : Told) (e : Plain) → (hear told e).read ≡ e.read
same_heard_read Nothing e = refl
same_heard_read (Acknowledges r) e = refl
same_heard_read (Status r f w) e = refl

heard_phase : (told : Told) (e : Plain) → (hear told e).phase ≡ e.phase
heard_phase Nothing e = refl
heard_phase (Acknowledges r) e = refl
heard_phase (Status r f w) e = refl

took_read : (i : ℕ) (e : Plain) → (take_in i e).read ≡ e.read
took_read i e =
    cond_both (leb (length e.read) i && ltb i (length e.read + e.announced)) (record e { arrived = insert e.arrived i })
    e (λ (f : Plain). f.read ≡ e.read) (λ _. refl) (λ _. refl)

took_phase : (i : ℕ) (e : Plain) → (take_in i e).phase ≡ e.phase
took_phase i e =
    cond_both (leb (length e.read) i && ltb i (length e.read + e.announced)) (record e { arrived = insert e.arrived i })
    e (λ (f : Plain). f.phase ≡ e.phase) (λ _. refl) (λ _. refl)

-- only an OPN that opens the end is read
pub reads_by_opening : (phase : Phase) (kind : Kind) (told : Told) (p e : Plain) → (phase ≡ RfcSent → kind ≡ Nth 0 → ⊥)
    → (received phase kind told p e).read ≡ e.read
reads_by_opening RfcSent (Nth zero) told p e apart = absurd (apart refl refl)
reads_by_opening RfcSent Cls told p e apart = refl
reads_by_opening Open (Nth i) told p e apart = took_read i (hear told e) ∙ same_heard_read told e
reads_by_opening Open Sns told p e apart = same_heard_read told e
reads_by_opening Open Sts told p e apart = same_heard_read told e
reads_by_opening Open Cls told p e apart = refl
reads_by_opening Inactive (Nth zero) told p e apart = refl
reads_by_opening _ _ told p e apart = refl

-- both are new, or neither is
pub record SameNew (e f : Plain) : Type 0 where
  pub new : e.phase ≡ Inactive → f.phase ≡ Inactive
  pub old : f.phase ≡ Inactive → e.phase ≡ Inactive

pub same_phase : (e f : Plain) → f.phase ≡ e.phase → SameNew e f
same_phase e f is = record { new = λ t. is ∙ t; old = λ t. sym is ∙ t }

pub not_new : (e f : Plain) → (e.phase ≡ Inactive → ⊥) → (f.phase ≡ Inactive → ⊥) → SameNew e f
not_new e f n m = record { new = λ t. absurd (n t); old = λ t. absurd (m t) }

other_phase : (phase : Phase) → phase ≡ RfcSent → (phase ≡ Inactive → ⊥)
other_phase phase is t = let no : RfcSent ≡ Inactive = sym is ∙ t in absurd (cc)

open_phase : (phase : Phase) → phase ≡ Open → (phase ≡ Inactive → ⊥)
open_phase phase is t = let no : Open ≡ Inactive = sym is ∙ t in absurd (cc)

ended_not_new : Ended ≡ Inactive → ⊥
ended_not_new t = absurd (cc)

read_phase : (o : Option ItemView) (e : Plain) → (read_item o e).phase ≡ e.phase
read_phase None e = refl
read_phase (Some item) e = refl

pub new_by_request : (phase : Phase) (kind : Kind) (told : Told) (p e : Plain) → e.phase ≡ phase
    → (phase ≡ Inactive → kind ≡ Nth 0 → ⊥) → SameNew e (received phase kind told p e)
new_by_request Inactive (Nth zero) told p e at apart = absurd (apart refl refl)
new_by_request RfcSent (Nth zero) told p e at apart =
    not_new e _ (other_phase e.phase at)
    (open_phase _
    (heard_phase told _ ∙ read_phase (next_item p e) (record e { phase = Open; arrived = insert e.arrived 0 })))
new_by_request RfcSent Cls told p e at apart = not_new e _ (other_phase e.phase at) ended_not_new
new_by_request Open (Nth i) told p e at apart = same_phase e _ (took_phase i (hear told e) ∙ heard_phase told e)
new_by_request Open Sns told p e at apart = same_phase e _ (heard_phase told e)
new_by_request Open Sts told p e at apart = same_phase e _ (heard_phase told e)
new_by_request Open Cls told p e at apart = not_new e _ (open_phase e.phase at) ended_not_new
new_by_request _ _ told p e at apart = same_phase e e refl
