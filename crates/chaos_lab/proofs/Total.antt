-- The table of steps as functions, so every event has a step, but for the delivery of a copy that isn't there or isn't
-- fresh.
use Rattle.std.proofs.Common.{◌≡◌, ◌≢◌, zero, ℕ, ◌-◌, ◌<◌, ◌≤◌, [], ◌∷◌, ◌++◌, length, true, false, refl, sym, ◌∙◌, subst, inl, inr, ◌⊎◌, ⊎_elim, arith}
use Rattle.std.specs.Prelude.{⊤}
use Rattle.std.specs.FinSet.{contains, insert}
use Rattle.std.proofs.lemmas.Bool.{cases_Bool, false≢true}
use Rattle.std.proofs.lemmas.List.Elements.{All-nil}
use Rattle.chaos_packet.specs.Item.{ItemView}
use Rattle.chaos_lab.specs.declared.side.Side.{Side}
use Rattle.chaos_lab.specs.Machine.{PlainEnd, Phase, Kind, Told, Copy, Machine, Event, other, end_of, with_end, IsSent, hear, take_in, read_next, Row, Accept, Write, Read, Resize, Close, Comes, Tick, OrNothing, Moves, Step}
use Rattle.chaos_lab.specs.Law.{CanHappen}
use Rattle.chaos_lab.specs.Machine.Phase.{Inactive, RfcSent, RfcReceived, Open, Ended, Closed}
use Rattle.chaos_lab.specs.Machine.Kind.{Nth, Sns, Sts, Cls}
use Rattle.chaos_lab.specs.Machine.Event.{AcceptAt, WriteAt, ReadAt, ResizeAt, TickAt, CloseAt, Deliver}

-- ---- a copy that comes

-- some row fits a copy of this kind at an end in this phase
abbrev pub Allows : Phase → Kind → Type 0
Allows Inactive (Nth zero) = ⊤
Allows RfcSent (Nth zero) = ⊤
Allows RfcSent Cls = ⊤
Allows Open kind = ⊤
Allows phase kind = ⊥

abbrev pub received : Phase → Kind → Told → PlainEnd → PlainEnd → PlainEnd
received Inactive (Nth zero) told peer e = record e { phase = RfcReceived; arrived = insert e.arrived 0 }
received RfcSent (Nth zero) told peer e =
    hear told (read_next peer (record e { phase = Open; arrived = insert e.arrived 0 }))
received RfcSent Cls told peer e = record e { phase = Ended }
received Open (Nth i) told peer e = take_in i (hear told e)
received Open Sns told peer e = hear told e
received Open Sts told peer e = hear told e
received Open Cls told peer e = record e { phase = Ended }
received _ _ told peer e = e

allows_at :
    (c : Copy) (e : PlainEnd) (phase : Phase) (kind : Kind) → e.phase ≡ phase → c.kind ≡ kind → Allows phase kind →
    Allows e.phase c.kind
allows_at c e phase kind at is h = subst (λ ph. Allows ph c.kind) (sym at) (subst (Allows phase) (sym is) h)

comes_allows : (c : Copy) (p e f : PlainEnd) → Comes c p e f → Allows e.phase c.kind
comes_allows c p e f (inl r) = allows_at c e Inactive (Nth 0) r.1 r.0 tt
comes_allows c p e f (inr (inl r)) = allows_at c e RfcSent (Nth 0) r.1 r.0 tt
comes_allows c p e f (inr (inr (inl r))) = allows_at c e Open (Nth r.1) r.0 r.2 tt
comes_allows c p e f (inr (inr (inr (inl r)))) = allows_at c e Open c.kind r.0 refl tt
comes_allows c p e f (inr (inr (inr (inr r)))) =
    ⊎_elim (λ (t : e.phase ≡ RfcSent). allows_at c e RfcSent Cls t r.0 tt)
    (λ (t : e.phase ≡ Open). allows_at c e Open Cls t r.0 tt) r.1.0

comes_nothing :
    (c : Copy) (p e : PlainEnd) (phase : Phase) (kind : Kind) → e.phase ≡ phase → c.kind ≡ kind
    → (Allows phase kind → ⊥) →
    OrNothing (Comes c) p e e
comes_nothing c p e phase kind at is none =
    inr (λ f r. none (subst (λ ph. Allows ph kind) at (subst (Allows e.phase) is (comes_allows c p e f r))), refl)

comes_at :
    (phase : Phase) (kind : Kind) (c : Copy) (p e : PlainEnd) → e.phase ≡ phase → c.kind ≡ kind →
    OrNothing (Comes c) p e (received phase kind c.told p e)
comes_at Inactive (Nth zero) c p e at is = inl (inl (is, at, refl))
comes_at RfcSent (Nth zero) c p e at is = inl (inr (inl (is, at, refl)))
comes_at RfcSent Cls c p e at is = inl (inr (inr (inr (inr (is, (inl at, refl))))))
comes_at Open (Nth i) c p e at is = inl (inr (inr (inl (at, i, is, refl))))
comes_at Open Sns c p e at is = inl (inr (inr (inr (inl (at, inl is, refl)))))
comes_at Open Sts c p e at is = inl (inr (inr (inr (inl (at, inr is, refl)))))
comes_at Open Cls c p e at is = inl (inr (inr (inr (inr (is, (inr at, refl))))))
comes_at phase kind c p e at is = comes_nothing c p e phase kind at is (λ t. t)

pub comes_received : (c : Copy) (p e : PlainEnd) → OrNothing (Comes c) p e (received e.phase c.kind c.told p e)
comes_received c p e = comes_at e.phase c.kind c p e refl refl

-- ---- the user's calls, and time

-- an end can go on by this row, or by nothing
abbrev pub GoesOn : Row → PlainEnd → PlainEnd → Type 0
GoesOn row p e = (f : PlainEnd) × OrNothing row p e f

goes_on : (row : Row) (p e : PlainEnd) → ((f : PlainEnd) × row p e f) ⊎ ((f : PlainEnd) → row p e f → ⊥)
    → GoesOn row p e
goes_on row p e (inl r) = (r.0, inl r.1)
goes_on row p e (inr none) = (e, inr (none, refl))

is_open : (phase : Phase) → (phase ≡ Open) ⊎ (phase ≢ Open)
is_open Open = inl refl
is_open _ = inr (λ t. absurd (cc))

is_ended : (phase : Phase) → (phase ≡ Ended) ⊎ (phase ≢ Ended)
is_ended Ended = inl refl
is_ended _ = inr (λ t. absurd (cc))

is_received : (phase : Phase) → (phase ≡ RfcReceived) ⊎ (phase ≢ RfcReceived)
is_received RfcReceived = inl refl
is_received _ = inr (λ t. absurd (cc))

is_inactive : (phase : Phase) → (phase ≡ Inactive) ⊎ (phase ≢ Inactive)
is_inactive Inactive = inl refl
is_inactive _ = inr (λ t. absurd (cc))

accept_goes_on : (opn : ItemView) (p e : PlainEnd) → GoesOn (Accept opn) p e
accept_goes_on opn p e =
    goes_on (Accept opn) p e
    (⊎_elim
    (λ (at : e.phase ≡ RfcReceived). inl
    (record (read_next p e) { phase = Open; written = e.written ++ opn ∷ [] }, (at, refl)))
    (λ (not : e.phase ≢ RfcReceived). inr (λ f r. not r.0))
    (is_received e.phase))

write_goes_on : (item : ItemView) (p e : PlainEnd) → GoesOn (Write item) p e
write_goes_on item p e =
    goes_on (Write item) p e
    (⊎_elim
    (λ (at : e.phase ≡ Open).
    ⊎_elim
    (λ (room : length e.written - e.acknowledged < e.window). inl
    (record e { written = e.written ++ item ∷ [] }, (at, room, refl)))
    (λ (full : e.window ≤ length e.written - e.acknowledged). inr (λ f r. let room = r.1 in omega arith))
    (grind arith))
    (λ (not : e.phase ≢ Open). inr (λ f r. not r.0))
    (is_open e.phase))

can_read : (phase : Phase) → ((phase ≡ Open) ⊎ (phase ≡ Ended)) ⊎ ((phase ≡ Open) ⊎ (phase ≡ Ended) → ⊥)
can_read phase =
    ⊎_elim
    (λ (t : phase ≡ Open). inl (inl t))
    (λ (no_open : phase ≢ Open).
    ⊎_elim
    (λ (t : phase ≡ Ended). inl (inr t))
    (λ (no_ended : phase ≢ Ended). inr (λ t. ⊎_elim no_open no_ended t))
    (is_ended phase))
    (is_open phase)

read_goes_on : (p e : PlainEnd) → GoesOn Read p e
read_goes_on p e =
    goes_on Read p e
    (⊎_elim
    (λ (may : (e.phase ≡ Open) ⊎ (e.phase ≡ Ended)).
    ⊎_elim
    (λ (here : contains e.arrived (length e.read) ≡ true). inl (read_next p e, (may, here, refl)))
    (λ (missing : contains e.arrived (length e.read) ≡ false). inr (λ f r. false≢true (sym missing ∙ r.1)))
    (cases_Bool (contains e.arrived (length e.read))))
    (λ (not : (e.phase ≡ Open) ⊎ (e.phase ≡ Ended) → ⊥). inr (λ f r. not r.0))
    (can_read e.phase))

resize_goes_on : (window : ℕ) (p e : PlainEnd) → GoesOn (Resize window) p e
resize_goes_on window p e =
    goes_on (Resize window) p e
    (⊎_elim
    (λ (at : e.phase ≡ Open).
    ⊎_elim
    (λ (most : window ≤ e.recv_cap). inl (record e { announced = window }, (at, most, refl)))
    (λ (more : e.recv_cap < window). inr (λ f r. let most = r.1 in omega arith))
    (grind arith))
    (λ (not : e.phase ≢ Open). inr (λ f r. not r.0))
    (is_open e.phase))

close_goes_on : (p e : PlainEnd) → GoesOn Close p e
close_goes_on p e =
    goes_on Close p e
    (⊎_elim
    (λ (new : e.phase ≡ Inactive). inr (λ f r. r.0 new))
    (λ (asked : e.phase ≢ Inactive). inl (record e { phase = Closed }, (asked, refl)))
    (is_inactive e.phase))

-- ---- steps

-- the end at x goes on by this row, and sends nothing
moves : (row : Row) (m : Machine) (x : Side) → GoesOn row (end_of m (other x)) (end_of m x)
    → (n : Machine) × Moves row m x n
moves row m x g =
    let f = g.0 in
    (record (with_end m x f) { copies = m.copies ++ [] }, (f, g.1, ([], All-nil (IsSent (with_end m x f) x), refl)))

-- each event that can happen has a step
pub step_exists : (m : Machine) (event : Event) → CanHappen m event → (n : Machine) × Step m event n
step_exists m (AcceptAt x opn) h = moves (Accept opn) m x (accept_goes_on opn (end_of m (other x)) (end_of m x))
step_exists m (WriteAt x item) h = moves (Write item) m x (write_goes_on item (end_of m (other x)) (end_of m x))
step_exists m (ReadAt x) h = moves Read m x (read_goes_on (end_of m (other x)) (end_of m x))
step_exists m (ResizeAt x window) h =
    moves (Resize window) m x (resize_goes_on window (end_of m (other x)) (end_of m x))
step_exists m (TickAt x) h = moves Tick m x (end_of m x, inl (inr refl))
step_exists m (CloseAt x) h = moves Close m x (close_goes_on (end_of m (other x)) (end_of m x))
step_exists m (Deliver k) h =
    let x = other h.0.sender in
    let e = end_of m x in
    let p = end_of m (other x) in
    let s = moves (Comes h.0) m x (received e.phase h.0.kind h.0.told p e, comes_received h.0 p e) in
    (s.0, (h.0, h.1, h.2, s.1))
