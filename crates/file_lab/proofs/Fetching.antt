-- The next item comes to B's server, and A's user tells its status, so that B may reply.
use Rattle.std.proofs.Common.{◌≡◌, ℕ, suc, ◌+◌, ◌-◌, ◌<◌, ◌≤◌, List, [], ◌∷◌, length, true, false, Some, None, sym, ap, ◌∙◌, subst, ⊎_elim, arith}
use Rattle.std.specs.Prelude.{is_none, slice_get}
use Rattle.std.specs.FinSet.{contains}
use Rattle.std.proofs.lemmas.Bool.{cond_both, cond-false, cases_lt, cases_Bool, false≢true}
use Rattle.chaos_conn.specs.Calls.{front_of}
use Rattle.chaos_lab.specs.declared.side.Side.TheVariants.{A, B}
use Rattle.chaos_lab.specs.Machine.{PlainEnd as Plain, Copy, Machine}
use Rattle.chaos_lab.specs.Machine.Kind.{Nth, Cls}
use Rattle.chaos_lab.specs.Law.{IsThere}
use Rattle.chaos_lab.specs.Shown.{there_at}
use Rattle.chaos_lab.specs.Laboratory.{LabView, Happening, happen, after_all}
use Rattle.chaos_lab.specs.Laboratory.Happening.{DeliverCopy}
use Rattle.chaos_lab.specs.Tied.{Ties}
use Rattle.chaos_lab.specs.Settling.{telling}
use Rattle.chaos_lab.proofs.Machines.{reached_holds, end_holds}
use Rattle.chaos_lab.proofs.RecvTie.{front_is}
use Rattle.chaos_lab.proofs.OnSide.{conn_at, first_at, read_at}
use Rattle.chaos_lab.proofs.Keeps.{Keeps, CopyAt}
use Rattle.chaos_lab.proofs.Helping.{copy_event, shows, same_count}
use Rattle.chaos_lab.proofs.Waiting.{waiting}
use Rattle.chaos_lab.proofs.Playing.{Plays, plays_none, plays_one, plays_both}
use Rattle.chaos_lab.proofs.OneWay.{AreOpen, stay_open, none_is, took_there, told_by}
use Rattle.file_lab.specs.Settling.{fetching, asking}
use Rattle.file_lab.proofs.QuietSteps.{PhaseLaws}
use Rattle.file_lab.proofs.QuietEvents.{AreQuiet, quiet_all, quiet_both, quiet_telling, quiet_fetching}

-- ---- what A sent again

-- Copy number k is of item i of A, and stays fresh while B writes so many items more.
pub record SavedCopy (n room k i : ℕ) (w : Machine) : Type 0 where
  pub late : n ≤ k
  pub copy : Copy
  pub there : slice_get w.copies k ≡ Some copy
  pub sender : copy.sender ≡ A
  pub kind : copy.kind ≡ Nth i
  pub fresh_a : length w.a.written < copy.len_a + 32640
  pub fresh_b : length w.b.written + room < copy.len_b + 32640

-- Copies of all items of A from some item on, the last just before this number. The items before it have arrived.
pub record Saved (n room before : ℕ) (w : Machine) : Type 0 where
  pub receipted : ℕ
  pub arrived : (i : ℕ) → i < receipted → contains w.b.arrived i ≡ true
  pub copies : (i : ℕ) → receipted ≤ i → i < length w.a.written
      → SavedCopy n room (before - (length w.a.written - i)) i w

pub saved_keeps : (n room before : ℕ) (w v : Machine) → Keeps w v → Saved n room before w → Saved n room before v
saved_keeps n room before w v k s =
    let a : length v.a.written ≡ length w.a.written = ap length (k.ends A).written in
    let b : length v.b.written ≡ length w.b.written = ap length (k.ends B).written in
    record {
      receipted = s.receipted;
      arrived = λ i h. (k.ends B).arrived i (s.arrived i h);
      copies = λ i low high.
          let c = s.copies i low (omega (arith, a, high)) in
          let place : before - (length w.a.written - i) ≡ before - (length v.a.written - i) = omega (arith, a) in
          record {
            late = omega (arith, c.late, place);
            copy = c.copy;
            there = ap (slice_get v.copies) (sym place) ∙ k.copies (before - (length w.a.written - i)) c.copy c.there;
            sender = c.sender;
            kind = c.kind;
            fresh_a = omega (arith, c.fresh_a, a);
            fresh_b = omega (arith, c.fresh_b, b);
          };
    }

-- ---- the next item is in front of B's server

-- the next item has arrived
abbrev pub HasNext : Machine → Type 0
HasNext w = contains w.b.arrived (length w.b.read) ≡ true

some_there : (p e : Plain) (i : ℕ) → is_none (there_at p e i) ≡ false → contains e.arrived i ≡ true
some_there p e i some =
    ⊎_elim
    (λ (u : contains e.arrived i ≡ true). u)
    (λ (u : contains e.arrived i ≡ false).
    let none : there_at p e i ≡ None = cond-false (contains e.arrived i) (slice_get p.written i) None u in
    absurd (false≢true (sym some ∙ ap is_none none)))
    (cases_Bool (contains e.arrived i))

pub record Fetched (n copy : ℕ) (w : Machine) (l : LabView) : Type 0 where
  pub machine : Machine
  pub plays : Plays n w l (fetching copy l) machine
  pub next : HasNext machine

fetched : PhaseLaws → (n room before unread : ℕ) (w : Machine) (l : LabView) → Ties w l → AreOpen w → 1 ≤ w.b.announced
    → Saved n room before w → length w.b.read + suc unread ≡ length w.a.written → Fetched n (before - suc unread) w l
fetched laws n room before unread w l t opens some saved count =
    let r = cond_both (is_none (front_of (conn_at l B))) (DeliverCopy (before - suc unread) ∷ []) [] Front waits here in
    record { machine = r.0; plays = r.1; next = r.2 }
  where
    Front : List Happening → Type 0
    Front events = (v : Machine) × Plays n w l events v × HasNext v

    here : is_none (front_of (conn_at l B)) ≡ false → Front []
    here h =
        let i : ℕ = length w.b.read in
        let e = end_holds w B (reached_holds w t.tied.reached) in
        let front : front_of (conn_at l B) ≡ there_at w.a w.b i =
        ap front_of (shows B w l t (opens B)).is ∙ front_is (first_at l A) w.a w.b e.ok.caps.2 in
        (w, plays_none n w l t, some_there w.a w.b i (ap is_none (sym front) ∙ h))

    waits : is_none (front_of (conn_at l B)) ≡ true → Front (DeliverCopy (before - suc unread) ∷ [])
    waits none =
        let number : ℕ = before - suc unread in
        let i : ℕ = length w.b.read in
        let missing : contains w.b.arrived i ≡ false =
        waiting B w l t (opens B) (none_is (front_of (conn_at l B)) none) in
        let low : saved.receipted ≤ i =
        ⊎_elim
        (λ (u : i < saved.receipted). absurd (false≢true (sym missing ∙ saved.arrived i u)))
        (λ (u : saved.receipted ≤ i). u)
        (cases_lt i saved.receipted) in
        let c = saved.copies i low (omega (arith, count)) in
        let place : before - (length w.a.written - i) ≡ number = omega (arith, count) in
        let at : CopyAt w A number c.copy =
        record { there = ap (slice_get w.copies) (sym place) ∙ c.there; sender = c.sender; fresh = (c.fresh_a, omega (arith, c.fresh_b)) } in
        let apart : c.copy.kind ≡ Cls → ⊥ = λ is. let no : Nth i ≡ Cls = sym c.kind ∙ is in absurd (cc) in
        let d = copy_event A w l number c.copy t at (opens B) apart in
        let v : Machine = d.machine in
        let m : LabView = (happen l (DeliverCopy number)).lab in
        let quiet = quiet_all laws (DeliverCopy number ∷ []) l (tt, tt) (record { plain = w; ties = t }) in
        let same : length v.b.read ≡ i = ap length (sym (read_at B v m d.ties) ∙ quiet.read ∙ read_at B w l t) in
        let there : IsThere v.b i =
        subst (λ (e : Plain). IsThere e i) (sym d.came.is)
        (took_there c.copy.kind i c.copy.told w.a w.b c.kind (omega arith) some) in (
          v,
          plays_one n w v l (DeliverCopy number) (omega (arith, c.late, place)) d.taken d.ties d.came.keeps,
          ⊎_elim
              (λ (u : i < length v.b.read). absurd (omega (arith, u, same)))
              (λ (u : contains v.b.arrived i ≡ true). ap (contains v.b.arrived) same ∙ u)
              there,
        )

-- ---- and A's user tells

pub record Asked (n copy : ℕ) (w : Machine) (l : LabView) : Type 0 where
  pub machine : Machine
  pub plays : Plays n w l (asking copy l) machine
  pub quiet : AreQuiet (asking copy l)
  pub read : length machine.b.read ≡ length w.b.read
  pub next : HasNext machine
  pub some : 1 ≤ machine.a.announced
  pub heard : length w.a.read ≤ machine.b.acknowledged
  pub room : 1 ≤ machine.b.window

pub asked : PhaseLaws → (n room before unread : ℕ) (w : Machine) (l : LabView) → Ties w l → AreOpen w
    → n ≤ length l.copies → 1 ≤ w.b.announced → Saved n room before w
    → length w.b.read + suc unread ≡ length w.a.written → Asked n (before - suc unread) w l
asked laws n room before unread w l t opens from some saved count =
    let copy : ℕ = before - suc unread in
    let f = fetched laws n room before unread w l t opens some saved count in
    let u : Machine = f.machine in
    let es : List Happening = fetching copy l in
    let m : LabView = after_all l es in
    let first : length l.copies ≡ length w.copies = same_count w l t in
    let mid : length m.copies ≡ length u.copies = same_count u m f.plays.ties in
    let h =
    told_by n B u m f.plays.ties (stay_open w u f.plays.keeps opens)
    (omega (arith, first, mid, f.plays.keeps.count, from)) in
    let v : Machine = h.machine in
    let quiet : AreQuiet (asking copy l) = quiet_both es (telling A m) (quiet_fetching copy l) (quiet_telling A m) in
    let plays = plays_both n w u v l es (telling A m) f.plays h.plays in
    let k : LabView = after_all l (asking copy l) in
    let stays = quiet_all laws (asking copy l) l quiet (record { plain = w; ties = t }) in
    let now = quiet_all laws es l (quiet_fetching copy l) (record { plain = w; ties = t }) in
    let same : length v.b.read ≡ length w.b.read =
    ap length (sym (read_at B v k plays.ties) ∙ stays.read ∙ read_at B w l t) in
    let before_it : length u.b.read ≡ length w.b.read =
    ap length (sym (read_at B u m f.plays.ties) ∙ now.read ∙ read_at B w l t) in
    record {
      machine = v;
      plays = plays;
      quiet = quiet;
      read = same;
      next = ap (contains v.b.arrived) (same ∙ sym before_it) ∙ (h.plays.keeps.ends B).arrived (length u.b.read) f.next;
      some = h.some;
      heard = omega (arith, (f.plays.keeps.ends A).read, h.heard);
      room = h.room;
    }
