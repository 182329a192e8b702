-- What holds of a direction in every reached machine, and that each change of an end keeps it.
use Rattle.std.proofs.Common.{◌≡◌, ℕ, zero, suc, ◌+◌, ◌<◌, ◌≤◌, List, [], ◌∷◌, ◌++◌, length, true, false, Some, ap, sym, ◌∙◌, ◌⊎◌, ⊎_elim, arith}
use Rattle.std.specs.Prelude.{slice_get}
use Rattle.std.proofs.lemmas.Bool.{false≢true, false_from_ne_true, cases_Bool}
use Rattle.std.specs.Ordering.{nat_cmp}
use Rattle.std.specs.FinSet.{FinSet, contains, insert}
use Rattle.chaos_packet.specs.Item.{ItemView}
use Rattle.chaos_packet.specs.Begins.{Begins}
use Rattle.chaos_lab.specs.Machine.{PlainEnd, FirstMissing, hear}
use Rattle.chaos_lab.specs.Machine.Told.{Acknowledges, Status}
use Rattle.chaos_lab.proofs.Lists.{contains-insert_cases, contains-insert_keeps, length-one_more, begins_longer, begins_one_more}

-- over the fields of its two ends, so that a change of any other field needs no proof
pub record Direction
    (written : List ItemView) (acknowledged receipted window send_cap : ℕ) (read : List ItemView)
    (arrived : FinSet nat_cmp) (recv_cap : ℕ) : Type 0 where
  pub begins : Begins read written
  pub within : (i : ℕ) → contains arrived i ≡ true → i < length written
  pub inside : (i : ℕ) → contains arrived i ≡ true → i < length read + recv_cap
  pub front : (i : ℕ) → i < length read → contains arrived i ≡ true
  pub acked_read : acknowledged ≤ length read
  pub in_order : acknowledged ≤ receipted
  pub receipted_arrived : (i : ℕ) → i < receipted → contains arrived i ≡ true
  pub room : length written ≤ acknowledged + send_cap
  pub window_cap : window ≤ send_cap

-- the direction that e writes and p reads is sound
abbrev pub Sound : PlainEnd → PlainEnd → Type 0
Sound e p = Direction e.written e.acknowledged e.receipted e.window e.send_cap p.read p.arrived p.recv_cap

-- ---- the writer hears, and writes

pub sound_acknowledges : (e p : PlainEnd) (read : ℕ) → Sound e p → read ≤ length p.read
    → Sound (hear (Acknowledges read) e) p
sound_acknowledges e p read d le =
    record {
      begins = d.begins;
      within = d.within;
      inside = d.inside;
      front = d.front;
      acked_read = omega (arith, d.acked_read);
      in_order = omega (arith, d.in_order);
      receipted_arrived = λ i h.
          ⊎_elim (λ (t : i < e.receipted). d.receipted_arrived i t) (λ (t : i < read). d.front i (omega arith))
          (grind arith);
      room = omega (arith, d.room);
      window_cap = d.window_cap;
    }

pub sound_status :
    (e p : PlainEnd) (read receipt window : ℕ) → Sound e p → read ≤ length p.read →
    ((i : ℕ) → i < receipt → contains p.arrived i ≡ true) → Sound (hear (Status read receipt window) e) p
sound_status e p read receipt window d le all =
    record {
      begins = d.begins;
      within = d.within;
      inside = d.inside;
      front = d.front;
      acked_read = omega (arith, d.acked_read);
      in_order = omega (arith, d.in_order);
      receipted_arrived = λ i h.
          ⊎_elim
          (λ (t : i < e.receipted). d.receipted_arrived i t)
          (λ (t : (i < read) ⊎ (i < receipt)).
          ⊎_elim (λ (u : i < read). d.front i (omega arith)) (λ (u : i < receipt). all i u) t)
          (grind arith);
      room = omega (arith, d.room);
      window_cap = omega arith;
    }

pub sound_written :
    (e p : PlainEnd) (item : ItemView) → Sound e p → length e.written < e.acknowledged + e.send_cap →
    Sound (record e { written = e.written ++ item ∷ [] }) p
sound_written e p item d room =
    let longer = length-one_more e.written item in
    record {
      begins = begins_longer p.read e.written (item ∷ []) d.begins;
      within = λ i h. let w = d.within i h in omega arith;
      inside = d.inside;
      front = d.front;
      acked_read = d.acked_read;
      in_order = d.in_order;
      receipted_arrived = d.receipted_arrived;
      room = omega arith;
      window_cap = d.window_cap;
    }

-- ---- an item arrives, and is read

pub sound_arrived :
    (e p : PlainEnd) (i : ℕ) → Sound e p → i < length e.written → i < length p.read + p.recv_cap →
    Sound e (record p { arrived = insert p.arrived i })
sound_arrived e p i d within inside =
    record {
      begins = d.begins;
      within = λ j h. ⊎_elim (λ (t : j ≡ i). omega arith) (d.within j) (contains-insert_cases i p.arrived j h);
      inside = λ j h. ⊎_elim (λ (t : j ≡ i). omega arith) (d.inside j) (contains-insert_cases i p.arrived j h);
      front = λ j h. contains-insert_keeps i p.arrived j (d.front j h);
      acked_read = d.acked_read;
      in_order = d.in_order;
      receipted_arrived = λ j h. contains-insert_keeps i p.arrived j (d.receipted_arrived j h);
      room = d.room;
      window_cap = d.window_cap;
    }

pub sound_read :
    (e p : PlainEnd) (item : ItemView) → Sound e p → contains p.arrived (length p.read) ≡ true →
    slice_get e.written (length p.read) ≡ Some item → Sound e (record p { read = p.read ++ item ∷ [] })
sound_read e p item d here is =
    let longer = length-one_more p.read item in
    record {
      begins = begins_one_more p.read e.written item d.begins is;
      within = d.within;
      inside = λ i h. let w = d.inside i h in omega arith;
      front = λ i h.
          ⊎_elim (λ (t : i < length p.read). d.front i t) (λ (t : i ≡ length p.read). ap (contains p.arrived) t ∙ here)
          (grind arith);
      acked_read = omega (arith, d.acked_read);
      in_order = d.in_order;
      receipted_arrived = d.receipted_arrived;
      room = d.room;
      window_cap = d.window_cap;
    }

-- ---- the first index that is missing

-- the receipt reaches no further than it, and it no further than what was written
pub missing_between : (e p : PlainEnd) (f : ℕ) → Sound e p → FirstMissing p f
    → (e.receipted ≤ f) × (f ≤ length e.written)
missing_between e p f d h = (
  ⊎_elim
      (λ (t : f < e.receipted). absurd (false≢true (sym h.1 ∙ d.receipted_arrived f t)))
      (λ (t : e.receipted ≤ f). t)
      (grind arith),
  ⊎_elim
      (λ (t : length e.written < f). absurd (omega (arith, d.within (length e.written) (h.0 (length e.written) t))))
      (λ (t : f ≤ length e.written). t)
      (grind arith),
)

-- all that was read lies below it
pub missing_unread : (e p : PlainEnd) (f : ℕ) → Sound p e → FirstMissing e f → length e.read ≤ f
missing_unread e p f d h =
    ⊎_elim
    (λ (t : f < length e.read). absurd (false≢true (sym h.1 ∙ d.front f t)))
    (λ (t : length e.read ≤ f). t)
    (grind arith)

-- it is found by looking from n on, with so many indices left
missing_from :
    (e : PlainEnd) (limit : ℕ) → ((i : ℕ) → contains e.arrived i ≡ true → i < limit) → (left n : ℕ) → n + left ≡ limit →
    ((i : ℕ) → i < n → contains e.arrived i ≡ true) → (f : ℕ) × FirstMissing e f
missing_from e limit within zero n is below =
    (n, (below, false_from_ne_true (contains e.arrived n) (λ t. absurd (omega (arith, within n t)))))
missing_from e limit within (suc left) n is below =
    ⊎_elim
    (λ (t : contains e.arrived n ≡ true).
    missing_from e limit within left (suc n) (omega arith)
    (λ i h. ⊎_elim (λ (u : i < n). below i u) (λ (u : i ≡ n). ap (contains e.arrived) u ∙ t) (grind arith)))
    (λ (t : contains e.arrived n ≡ false). (n, (below, t)))
    (cases_Bool (contains e.arrived n))

pub first_missing : (e p : PlainEnd) → Sound e p → (f : ℕ) × FirstMissing p f
first_missing e p d =
    missing_from p (length e.written) d.within (length e.written) 0 (omega arith) (λ i h. absurd (omega arith))
