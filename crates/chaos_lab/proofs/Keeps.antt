-- What events keep that neither write nor close.
use Rattle.std.proofs.Common.{◌≡◌, ℕ, zero, suc, ◌+◌, ◌<◌, ◌≤◌, List, [], ◌∷◌, ◌++◌, length, true, ◌&&◌, leb, ltb, Option, Some, None, refl, sym, ap, ◌∙◌, subst, inl, inr, ⊎_elim, arith, length-append}
use Rattle.std.specs.Prelude.{slice_get}
use Rattle.std.specs.FinSet.{contains, insert}
use Rattle.std.proofs.lemmas.Bool.{cond_both, MatchBool-at_true}
use Rattle.chaos_packet.specs.Item.{ItemView}
use Rattle.chaos_lab.specs.declared.side.Side.{Side}
use Rattle.chaos_lab.specs.declared.side.Side.TheVariants.{A, B}
use Rattle.chaos_lab.specs.Machine.{PlainEnd as Plain, Kind, Told, Copy, Machine, other, end_of, with_end, hear, take_in, read_item, Comes, OrNothing, Read, Resize, Tick, Moves, Becomes, Fresh, Step, Reached}
use Rattle.chaos_lab.specs.Machine.Phase.{Inactive, RfcSent, Open, Ended}
use Rattle.chaos_lab.specs.Machine.Kind.{Nth, Sns, Sts, Cls}
use Rattle.chaos_lab.specs.Machine.Told.{Nothing, Acknowledges, Status}
use Rattle.chaos_lab.specs.Machine.Event.{ReadAt, ResizeAt, TickAt, Deliver}
use Rattle.chaos_lab.proofs.Lists.{contains-insert_keeps, length-one_more}
use Rattle.chaos_lab.proofs.Total.{received}
use Rattle.chaos_lab.proofs.Reading.{becomes_same, read_at_reads}
use Rattle.chaos_lab.proofs.Machines.{reached_holds, end_holds}

-- ---- an end

-- what it wrote stays; what was read, arrived and acknowledged only grows; it stays open, and its window stays more
-- than none
pub record EndKeeps (e f : Plain) : Type 0 where
  pub written : f.written ≡ e.written
  pub read : length e.read ≤ length f.read
  pub arrived : (i : ℕ) → contains e.arrived i ≡ true → contains f.arrived i ≡ true
  pub acknowledged : e.acknowledged ≤ f.acknowledged
  pub opened : e.phase ≡ Open → f.phase ≡ Open
  pub announces : 1 ≤ e.announced → 1 ≤ f.announced

pub end_same : (e : Plain) → EndKeeps e e
end_same e =
    record { written = refl; read = omega arith; arrived = λ i h. h; acknowledged = omega arith; opened = λ h. h; announces = λ h. h }

pub end_through : (e f g : Plain) → EndKeeps e f → EndKeeps f g → EndKeeps e g
end_through e f g h k =
    record {
      written = k.written ∙ h.written;
      read = omega (arith, h.read, k.read);
      arrived = λ i t. k.arrived i (h.arrived i t);
      acknowledged = omega (arith, h.acknowledged, k.acknowledged);
      opened = λ t. k.opened (h.opened t);
      announces = λ t. k.announces (h.announces t);
    }

heard_keeps : (told : Told) (e : Plain) → EndKeeps e (hear told e)
heard_keeps Nothing e = end_same e
heard_keeps (Acknowledges a) e =
    record { written = refl; read = omega arith; arrived = λ i h. h; acknowledged = omega arith; opened = λ h. h; announces = λ h. h }
heard_keeps (Status a r w) e =
    record { written = refl; read = omega arith; arrived = λ i h. h; acknowledged = omega arith; opened = λ h. h; announces = λ h. h }

took_keeps : (i : ℕ) (e : Plain) → EndKeeps e (take_in i e)
took_keeps i e =
    cond_both (leb (length e.read) i && ltb i (length e.read + e.announced)) (record e { arrived = insert e.arrived i })
    e (EndKeeps e)
    (λ _.
    record { written = refl; read = omega arith; arrived = contains-insert_keeps i e.arrived; acknowledged = omega arith; opened = λ h. h; announces = λ h. h })
    (λ _. end_same e)

received_keeps : (kind : Kind) (told : Told) (p e : Plain) → (kind ≡ Cls → ⊥) → EndKeeps e (received Open kind told p e)
received_keeps (Nth i) told p e apart =
    end_through e (hear told e) (take_in i (hear told e)) (heard_keeps told e) (took_keeps i (hear told e))
received_keeps Sns told p e apart = heard_keeps told e
received_keeps Sts told p e apart = heard_keeps told e
received_keeps Cls told p e apart = absurd (apart refl)

read_keeps : (o : Option ItemView) (e : Plain) → EndKeeps e (read_item o e)
read_keeps None e = end_same e
read_keeps (Some item) e =
    let longer = length-one_more e.read item in
    record { written = refl; read = omega arith; arrived = λ i h. h; acknowledged = omega arith; opened = λ h. h; announces = λ h. h }

-- ---- both ends, and the copies

pub record Keeps (w v : Machine) : Type 0 where
  pub ends : (x : Side) → EndKeeps (end_of w x) (end_of v x)
  pub copies : (k : ℕ) (c : Copy) → slice_get w.copies k ≡ Some c → slice_get v.copies k ≡ Some c
  pub count : length w.copies ≤ length v.copies

pub keeps_same : (w : Machine) → Keeps w w
keeps_same w = record { ends = λ x. end_same (end_of w x); copies = λ k c h. h; count = omega arith }

pub keeps_through : (u v w : Machine) → Keeps u v → Keeps v w → Keeps u w
keeps_through u v w h k =
    record { ends = λ x. end_through (end_of u x) (end_of v x) (end_of w x) (h.ends x) (k.ends x); copies = λ n c t. k.copies n c (h.copies n c t); count = omega (arith, h.count, k.count) }

module _ {X : Type 0} where
  pub front_stays : (xs ys : List X) (k : ℕ) (x : X) → slice_get xs k ≡ Some x → slice_get (xs ++ ys) k ≡ Some x
  front_stays [] ys k x h = absurd (cc)
  front_stays (z ∷ xs) ys zero x h = h
  front_stays (z ∷ xs) ys (suc k) x h = front_stays xs ys k x h

longer : {X : Type 0} → (xs ys : List X) → length xs ≤ length (xs ++ ys)
longer xs ys = let all = length-append xs ys in omega arith

becomes_keeps : (x : Side) (w : Machine) (f : Plain) (v : Machine) → EndKeeps (end_of w x) f → Becomes w x f v
    → Keeps w v
becomes_keeps A w f v k b =
    subst (Keeps w) (sym b.2)
    (record { ends = by; copies = λ n c h. front_stays w.copies b.0 n c h; count = longer w.copies b.0 })
  where
    by : (y : Side) → EndKeeps (end_of w y) (end_of (record (with_end w A f) { copies = w.copies ++ b.0 }) y)
    by A = k
    by B = end_same w.b
becomes_keeps B w f v k b =
    subst (Keeps w) (sym b.2)
    (record { ends = by; copies = λ n c h. front_stays w.copies b.0 n c h; count = longer w.copies b.0 })
  where
    by : (y : Side) → EndKeeps (end_of w y) (end_of (record (with_end w B f) { copies = w.copies ++ b.0 }) y)
    by A = end_same w.a
    by B = k

-- ---- a read

read_row_keeps : (p e f : Plain) → OrNothing Read p e f → EndKeeps e f
read_row_keeps p e f (inl r) = subst (EndKeeps e) (sym r.2) (read_keeps (slice_get p.written (length e.read)) e)
read_row_keeps p e f (inr r) = subst (EndKeeps e) (sym r.1) (end_same e)

pub read_goes : (y : Side) (w v : Machine) → Step w (ReadAt y) v → Keeps w v
read_goes y w v s = becomes_keeps y w s.0 v (read_row_keeps (end_of w (other y)) (end_of w y) s.0 s.1) s.2

-- the next item, which has arrived, is read
pub read_reads : (y : Side) (w v : Machine) → Reached w → (end_of w y).phase ≡ Open
    → contains (end_of w y).arrived (length (end_of w y).read) ≡ true → Step w (ReadAt y) v
    → length (end_of w y).read < length (end_of v y).read
read_reads y w v r at here s =
    let e : Plain = end_of w y in
    let reads = read_at_reads w v y (end_of w (other y)) refl (end_holds w y (reached_holds w r)).reader (inl at) s in
    let got = MatchBool-at_true {b = contains e.arrived (length e.read)} _ _ here reads in
    let longer : length (end_of v y).read ≡ suc (length e.read) = ap length got.2 ∙ length-one_more e.read got.0 in
    omega arith

-- ---- another window

resize_row_keeps : (window : ℕ) (p e f : Plain) → 1 ≤ window → OrNothing (Resize window) p e f → EndKeeps e f
resize_row_keeps window p e f some (inl r) =
    subst (EndKeeps e) (sym r.2)
    (record
    { written = refl; read = omega arith; arrived = λ i h. h; acknowledged = omega arith; opened = λ h. h; announces = λ _. some })
resize_row_keeps window p e f some (inr r) = subst (EndKeeps e) (sym r.1) (end_same e)

pub resize_goes : (y : Side) (window : ℕ) (w v : Machine) → 1 ≤ window → Step w (ResizeAt y window) v → Keeps w v
resize_goes y window w v some s =
    becomes_keeps y w s.0 v (resize_row_keeps window (end_of w (other y)) (end_of w y) s.0 some s.1) s.2

resize_row_is : (window : ℕ) (p e f : Plain) → e.phase ≡ Open → window ≤ e.recv_cap → OrNothing (Resize window) p e f
    → f.announced ≡ window
resize_row_is window p e f at fits (inl r) = ap (λ (g : Plain). g.announced) r.2
resize_row_is window p e f at fits (inr r) = absurd (r.0 (record e { announced = window }) (at, fits, refl))

pub resize_is : (y : Side) (window : ℕ) (w v : Machine) → (end_of w y).phase ≡ Open → window ≤ (end_of w y).recv_cap
    → Step w (ResizeAt y window) v → (end_of v y).announced ≡ window
resize_is y window w v at fits s =
    ap (λ (g : Plain). g.announced) (becomes_same w y s.0 v s.2)
    ∙ resize_row_is window (end_of w (other y)) (end_of w y) s.0 at fits s.1

-- ---- a tick that leaves the end open

tick_row_is : (p e f : Plain) → f.phase ≡ Open → OrNothing Tick p e f → f ≡ e
tick_row_is p e f at (inl (inl r)) = let no : Open ≡ Ended = sym at ∙ ap (λ (g : Plain). g.phase) r.1 in absurd (cc)
tick_row_is p e f at (inl (inr r)) = r
tick_row_is p e f at (inr r) = r.1

pub record Ticked (y : Side) (w v : Machine) : Type 0 where
  pub keeps : Keeps w v
  pub becomes : Becomes w y (end_of w y) v

pub tick_goes : (y : Side) (w v : Machine) → (end_of v y).phase ≡ Open → Step w (TickAt y) v → Ticked y w v
tick_goes y w v at s =
    let same : s.0 ≡ end_of w y =
    tick_row_is (end_of w (other y)) (end_of w y) s.0
    (ap (λ (g : Plain). g.phase) (sym (becomes_same w y s.0 v s.2)) ∙ at) s.1 in
    let b : Becomes w y (end_of w y) v = subst (λ (g : Plain). Becomes w y g v) same s.2 in
    record { keeps = becomes_keeps y w (end_of w y) v (end_same (end_of w y)) b; becomes = b }

-- ---- a copy

-- the machine has this copy of the end at x, and it is fresh
pub record CopyAt (w : Machine) (x : Side) (k : ℕ) (c : Copy) : Type 0 where
  pub there : slice_get w.copies k ≡ Some c
  pub sender : c.sender ≡ x
  pub fresh : Fresh w c

pub copy_keeps : (w v : Machine) (x : Side) (k : ℕ) (c : Copy) → Keeps w v → CopyAt w x k c → CopyAt v x k c
copy_keeps w v x k c s h =
    let a : length v.a.written ≡ length w.a.written = ap length (s.ends A).written in
    let b : length v.b.written ≡ length w.b.written = ap length (s.ends B).written in
    record { there = s.copies k c h.there; sender = h.sender; fresh = (omega (arith, h.fresh.0, a), omega (arith, h.fresh.1, b)) }

-- what comes to an open end
pub came_by : (kind : Kind) (c : Copy) (p e f : Plain) → c.kind ≡ kind → e.phase ≡ Open → OrNothing (Comes c) p e f
    → f ≡ received Open kind c.told p e
came_by kind c p e f is at (inl (inl r)) = let no : Open ≡ Inactive = sym at ∙ r.1 in absurd (cc)
came_by kind c p e f is at (inl (inr (inl r))) = let no : Open ≡ RfcSent = sym at ∙ r.1 in absurd (cc)
came_by kind c p e f is at (inl (inr (inr (inl r)))) = r.3 ∙ ap (λ k. received Open k c.told p e) (sym r.2 ∙ is)
came_by kind c p e f is at (inl (inr (inr (inr (inl r))))) =
    ⊎_elim (λ (t : c.kind ≡ Sns). r.2 ∙ ap (λ k. received Open k c.told p e) (sym t ∙ is))
    (λ (t : c.kind ≡ Sts). r.2 ∙ ap (λ k. received Open k c.told p e) (sym t ∙ is)) r.1
came_by kind c p e f is at (inl (inr (inr (inr (inr r))))) = r.1.1 ∙ ap (λ k. received Open k c.told p e) (sym r.0 ∙ is)
came_by (Nth i) c p e f is at (inr r) = absurd (r.0 _ (inr (inr (inl (at, i, is, refl)))))
came_by Sns c p e f is at (inr r) = absurd (r.0 _ (inr (inr (inr (inl (at, inl is, refl))))))
came_by Sts c p e f is at (inr r) = absurd (r.0 _ (inr (inr (inr (inl (at, inr is, refl))))))
came_by Cls c p e f is at (inr r) = absurd (r.0 _ (inr (inr (inr (inr (is, (inr at, refl)))))))

-- it goes on as the copy says
pub record Came (w : Machine) (x : Side) (kind : Kind) (told : Told) (v : Machine) : Type 0 where
  pub keeps : Keeps w v
  pub is : end_of v (other x) ≡ received Open kind told (end_of w (other (other x))) (end_of w (other x))

pub deliver_goes : (x : Side) (w v : Machine) (k : ℕ) (c : Copy) → CopyAt w x k c → (end_of w (other x)).phase ≡ Open
    → (c.kind ≡ Cls → ⊥) → Step w (Deliver k) v → Came w x c.kind c.told v
deliver_goes x w v k c h at apart s =
    let same : s.0 ≡ c = let e = s.1 in let e' = h.there in cc in
    let m : Moves (Comes c) w (other c.sender) v =
    subst (λ (d : Copy). Moves (Comes d) w (other d.sender) v) same s.3 in
    let n : Moves (Comes c) w (other x) v = subst (λ (y : Side). Moves (Comes c) w (other y) v) h.sender m in
    let p : Plain = end_of w (other (other x)) in
    let e : Plain = end_of w (other x) in
    let is : n.0 ≡ received Open c.kind c.told p e = came_by c.kind c p e n.0 refl at n.1 in
    record {
      keeps =
          becomes_keeps (other x) w n.0 v (subst (EndKeeps e) (sym is) (received_keeps c.kind c.told p e apart)) n.2;
      is = becomes_same w (other x) n.0 v n.2 ∙ is;
    }
