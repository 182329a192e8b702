-- What holds in every reached machine, and that each step keeps it.
use Rattle.std.proofs.Common.{◌≡◌, ℕ, suc, ◌≤◌, List, [], ◌∷◌, ◌++◌, length, true, Some, refl, sym, ◌∙◌, subst, arith}
use Rattle.std.specs.Prelude.{slice_get}
use Rattle.std.specs.List.{All}
use Rattle.std.proofs.lemmas.Bool.{false≢true}
use Rattle.std.proofs.lemmas.List.Elements.{All-append, All-weaker, All-push, All-nil}
use Rattle.std.proofs.lemmas.Option.{slice_get_within, get_or_from_slice_get}
use Rattle.std.specs.Ordering.{nat_cmp}
use Rattle.std.specs.FinSet.{empty, contains, contains-empty}
use Rattle.chaos_lab.specs.declared.side.Side.{Side}
use Rattle.chaos_lab.specs.declared.side.Side.TheVariants.{A, B}
use Rattle.chaos_packet.specs.Item.{ItemView}
use Rattle.chaos_lab.specs.Machine.{PlainEnd, Phase, Copy, Machine, Event, Schedule, Caps, AreCaps, other, end_of, with_end, IsSent, Row, Accept, Write, Read, Resize, Close, Tick, Comes, Becomes, Moves, Step, Run, new_end, start, Reached}
use Rattle.chaos_lab.specs.Machine.Told.{Nothing}
use Rattle.chaos_lab.specs.Machine.Kind.{Nth}
use Rattle.chaos_lab.specs.Machine.Phase.{Inactive, RfcSent}
use Rattle.chaos_lab.specs.Machine.Event.{AcceptAt, WriteAt, ReadAt, ResizeAt, TickAt, CloseAt, Deliver}
use Rattle.chaos_lab.proofs.Directions.{Sound}
use Rattle.chaos_lab.proofs.Grows.{Grows, grows_same, grows_through}
use Rattle.chaos_lab.proofs.Copies.{CopyOk, IsCopyOk, len_of, copy_later}
use Rattle.chaos_lab.proofs.Ends.{EndOk, EndHolds, EndStep}
use Rattle.chaos_lab.proofs.Rows.{or_nothing, row_accept, row_write, row_read, row_resize, row_tick, row_close, row_comes}
use Rattle.chaos_lab.proofs.Sent.{copy_sent}

pub record Holds (m : Machine) : Type 0 where
  pub ab : Sound m.a m.b
  pub ba : Sound m.b m.a
  pub a : EndOk A m.a
  pub b : EndOk B m.b
  pub copies : All (IsCopyOk m) m.copies

-- both ends, seen from one side
pub end_holds : (m : Machine) (x : Side) → Holds m → EndHolds x (end_of m x) (end_of m (other x))
end_holds m A h = record { writer = h.ab; reader = h.ba; ok = h.a }
end_holds m B h = record { writer = h.ba; reader = h.ab; ok = h.b }

-- each end of m goes on to that of n
pub record Later (m n : Machine) : Type 0 where
  pub a : Grows m.a n.a
  pub b : Grows m.b n.b

pub end_later : (m n : Machine) (x : Side) → Later m n → Grows (end_of m x) (end_of n x)
end_later m n A l = l.a
end_later m n B l = l.b

later_same : (m : Machine) → Later m m
later_same m = record { a = grows_same m.a; b = grows_same m.b }

later_through : (l m n : Machine) → Later l m → Later m n → Later l n
later_through l m n h k = record { a = grows_through l.a m.a n.a h.a k.a; b = grows_through l.b m.b n.b h.b k.b }

-- ---- copies

copies_later : (m n : Machine) → Later m n → (c : Copy) → IsCopyOk m c → IsCopyOk n c
copies_later m n l c h = copy_later c _ _ _ _ _ _ (end_later m n c.sender l) (end_later m n (other c.sender) l) h

-- a copy of the end at x
copy_of :
    (m : Machine) (x : Side) (c : Copy) → c.sender ≡ x →
    CopyOk c (end_of m x) (end_of m (other x)) (len_of c x) (len_of c (other x)) → IsCopyOk m c
copy_of m x c is h =
    let P : Side → Type 0 = λ y. CopyOk c (end_of m y) (end_of m (other y)) (len_of c y) (len_of c (other y)) in
    subst P (sym is) h

stamped :
    (c : Copy) (e p : PlainEnd) (len_e len_p : ℕ) → len_e ≡ length e.written → len_p ≡ length p.written →
    CopyOk c e p (length e.written) (length p.written) → CopyOk c e p len_e len_p
stamped c e p len_e len_p same_e same_p h =
    subst (λ n. CopyOk c e p n len_p) (sym same_e) (subst (CopyOk c e p (length e.written)) (sym same_p) h)

-- what the end at x sends after its step
sent_ok :
    (m : Machine) (x : Side) (f : PlainEnd) (sent all : List Copy) → EndStep x (end_of m x) (end_of m (other x)) f →
    All (IsSent (with_end m x f) x) sent → All (IsCopyOk (record (with_end m x f) { copies = all })) sent
sent_ok m A f sent all s h =
    let n : Machine = record (with_end m A f) { copies = all } in
    All-weaker (IsSent (with_end m A f) A) (IsCopyOk n)
    (λ c k. copy_of n A c k.sender
    (stamped c f m.b c.len_a c.len_b k.len_a k.len_b (copy_sent c A f m.b s.after k.may k.tells)))
    sent h
sent_ok m B f sent all s h =
    let n : Machine = record (with_end m B f) { copies = all } in
    All-weaker (IsSent (with_end m B f) B) (IsCopyOk n)
    (λ c k. copy_of n B c k.sender
    (stamped c f m.a c.len_b c.len_a k.len_b k.len_a (copy_sent c B f m.a s.after k.may k.tells)))
    sent h

pub copy_at : (m : Machine) (k : ℕ) (c : Copy) → Holds m → slice_get m.copies k ≡ Some c → IsCopyOk m c
copy_at m k c h is =
    subst (IsCopyOk m) (get_or_from_slice_get m.copies k c c is) (h.copies k c (slice_get_within m.copies k c is))

-- ---- a step of one end

becomes_later : (m : Machine) (x : Side) (f : PlainEnd) (n : Machine) → Grows (end_of m x) f → Becomes m x f n
    → Later m n
becomes_later m A f n g b = subst (Later m) (sym b.2) (record { a = g; b = grows_same m.b })
becomes_later m B f n g b = subst (Later m) (sym b.2) (record { a = grows_same m.a; b = g })

becomes_holds :
    (m : Machine) (x : Side) (f : PlainEnd) (n : Machine) → Holds m → EndStep x (end_of m x) (end_of m (other x)) f →
    Becomes m x f n → Holds n
becomes_holds m A f n h s b =
    let all = m.copies ++ b.0 in
    let u : Machine = record (with_end m A f) { copies = all } in
    let later : Later m u = record { a = s.grows; b = grows_same m.b } in
    subst Holds (sym b.2)
    (record {
      ab = s.after.writer;
      ba = s.after.reader;
      a = s.after.ok;
      b = h.b;
      copies =
          All-append (IsCopyOk u) m.copies b.0
          (All-weaker (IsCopyOk m) (IsCopyOk u) (copies_later m u later) m.copies h.copies)
          (sent_ok m A f b.0 all s b.1);
    })
becomes_holds m B f n h s b =
    let all = m.copies ++ b.0 in
    let u : Machine = record (with_end m B f) { copies = all } in
    let later : Later m u = record { a = grows_same m.a; b = s.grows } in
    subst Holds (sym b.2)
    (record {
      ab = s.after.reader;
      ba = s.after.writer;
      a = h.a;
      b = s.after.ok;
      copies =
          All-append (IsCopyOk u) m.copies b.0
          (All-weaker (IsCopyOk m) (IsCopyOk u) (copies_later m u later) m.copies h.copies)
          (sent_ok m B f b.0 all s b.1);
    })

-- m goes on to n, and what holds goes on to hold
pub record Goes (m n : Machine) : Type 0 where
  pub holds : Holds n
  pub later : Later m n

moves_goes :
    (row : Row) (m : Machine) (x : Side) (n : Machine) → Holds m →
    ((f : PlainEnd) → row (end_of m (other x)) (end_of m x) f → EndStep x (end_of m x) (end_of m (other x)) f) →
    Moves row m x n → Goes m n
moves_goes row m x n h keeps s =
    let step = or_nothing row x (end_of m x) (end_of m (other x)) s.0 (end_holds m x h) (keeps s.0) s.1 in
    record { holds = becomes_holds m x s.0 n h step s.2; later = becomes_later m x s.0 n step.grows s.2 }

comes_goes :
    (c : Copy) (m : Machine) (sender : Side) (n : Machine) → Holds m →
    CopyOk c (end_of m sender) (end_of m (other sender)) (len_of c sender) (len_of c (other sender)) →
    Moves (Comes c) m (other sender) n → Goes m n
comes_goes c m A n h k s =
    moves_goes (Comes c) m B n h (λ f r. row_comes c B m.b m.a f c.len_a c.len_b (end_holds m B h) k r) s
comes_goes c m B n h k s =
    moves_goes (Comes c) m A n h (λ f r. row_comes c A m.a m.b f c.len_b c.len_a (end_holds m A h) k r) s

pub step_goes : (m : Machine) (event : Event) (n : Machine) → Holds m → Step m event n → Goes m n
step_goes m (AcceptAt x opn) n h s =
    moves_goes (Accept opn) m x n h (λ f r. row_accept opn x (end_of m x) (end_of m (other x)) f (end_holds m x h) r) s
step_goes m (WriteAt x item) n h s =
    moves_goes (Write item) m x n h (λ f r. row_write item x (end_of m x) (end_of m (other x)) f (end_holds m x h) r) s
step_goes m (ReadAt x) n h s =
    moves_goes Read m x n h (λ f r. row_read x (end_of m x) (end_of m (other x)) f (end_holds m x h) r) s
step_goes m (ResizeAt x window) n h s =
    moves_goes (Resize window) m x n h
    (λ f r. row_resize window x (end_of m x) (end_of m (other x)) f (end_holds m x h) r) s
step_goes m (TickAt x) n h s =
    moves_goes Tick m x n h (λ f r. row_tick x (end_of m x) (end_of m (other x)) f (end_holds m x h) r) s
step_goes m (CloseAt x) n h s =
    moves_goes Close m x n h (λ f r. row_close x (end_of m x) (end_of m (other x)) f (end_holds m x h) r) s
step_goes m (Deliver k) n h s = comes_goes s.0 m s.0.sender n h (copy_at m k s.0 h s.1) s.3

-- ---- runs

pub run_goes : (m : Machine) (events : Schedule) (n : Machine) → Holds m → Run m events n → Goes m n
run_goes m [] n h r = subst (Goes m) (sym r) (record { holds = h; later = later_same m })
run_goes m (event ∷ events) n h r =
    let first = step_goes m event r.0 h r.1 in
    let rest = run_goes r.0 events n first.holds r.2 in
    record { holds = rest.holds; later = later_through m r.0 n first.later rest.later }

none_arrived : (i : ℕ) → contains (empty {R = nat_cmp}) i ≡ true → ⊥
none_arrived i h = false≢true (sym (contains-empty nat_cmp i) ∙ h)

-- a direction in which nothing was read
start_sound :
    (w p : Phase) (written back : List ItemView) (a b : Caps) → length written ≤ a.send →
    Sound (new_end w written a) (new_end p back b)
start_sound w p written back a b room =
    record {
      begins = refl;
      within = λ i h. absurd (none_arrived i h);
      inside = λ i h. absurd (none_arrived i h);
      front = λ i h. absurd (omega arith);
      acked_read = omega arith;
      in_order = omega arith;
      receipted_arrived = λ i h. absurd (omega arith);
      room = omega arith;
      window_cap = omega arith;
    }

start_holds : (a b : Caps) (rfc : ItemView) → AreCaps a → AreCaps b → Holds (start a b rfc)
start_holds a b rfc ha hb =
    record {
      ab = start_sound RfcSent Inactive (rfc ∷ []) [] a b (omega (arith, ha.0));
      ba = start_sound Inactive RfcSent [] (rfc ∷ []) b a (omega arith);
      a =
          record { fits = ((refl, refl), none_arrived); answered = λ i h. absurd (none_arrived (suc i) h); calm = λ t. refl; announces = refl; caps = ha };
      b =
          record { fits = ((refl, refl), none_arrived); answered = λ i h. absurd (none_arrived (suc i) h); calm = λ t. refl; announces = refl; caps = hb };
      copies =
          All-push (IsCopyOk (start a b rfc)) []
          (record { sender = A; kind = Nth 0; told = Nothing; len_a = 1; len_b = 0 })
          (All-nil (IsCopyOk (start a b rfc)))
          (record { kind_ok = (omega arith, omega (arith, ha.0)); told_ok = tt; met = tt });
    }

pub reached_holds : (m : Machine) → Reached m → Holds m
reached_holds m r =
    (run_goes (start r.caps_a r.caps_b r.rfc) r.events m (start_holds r.caps_a r.caps_b r.rfc r.right_a r.right_b)
    r.run).holds

-- ---- a run goes on

run_on :
    (l : Machine) (events : Schedule) (m n : Machine) (event : Event) → Run l events m → Step m event n →
    Run l (events ++ event ∷ []) n
run_on l [] m n event r s = (n, subst (λ (k : Machine). Step k event n) r s, refl)
run_on l (e ∷ events) m n event r s = (r.0, r.1, run_on r.0 events m n event r.2 s)

pub reached_on : (m : Machine) (event : Event) (n : Machine) → Reached m → Step m event n → Reached n
reached_on m event n r s =
    record {
      caps_a = r.caps_a;
      caps_b = r.caps_b;
      right_a = r.right_a;
      right_b = r.right_b;
      rfc = r.rfc;
      events = r.events ++ event ∷ [];
      run = run_on (start r.caps_a r.caps_b r.rfc) r.events m n event r.run s;
    }

pub reached_run : (m : Machine) (events : Schedule) (n : Machine) → Reached m → Run m events n → Reached n
reached_run m [] n r run = subst Reached (sym run) r
reached_run m (event ∷ events) n r run = reached_run run.0 events n (reached_on m event run.0 r run.1) run.2
