-- What holds of each copy that was ever sent. The law needs that its item was written and its counts are true. How far
-- both lie behind the copy's stamp serves the tie to 16-bit numbers: so a fresh copy's numbers are near enough to be
-- told apart.
use Rattle.std.proofs.Common.{◌≡◌, ℕ, suc, ◌+◌, ◌<◌, ◌≤◌, length, true, arith}
use Rattle.std.specs.Prelude.{⊤}
use Rattle.std.specs.FinSet.{contains}
use Rattle.chaos_lab.specs.declared.side.Side.{Side}
use Rattle.chaos_lab.specs.declared.side.Side.TheVariants.{A, B}
use Rattle.chaos_lab.specs.Machine.{PlainEnd, Kind, Told, Copy, Machine, other, end_of}
use Rattle.chaos_lab.specs.Machine.Kind.{Nth, Sns, Sts, Cls}
use Rattle.chaos_lab.specs.Machine.Told.{Nothing, Acknowledges, Status}
use Rattle.chaos_lab.proofs.Grows.{Grows}

-- the copy's item was written by its sender e, near the end of the len items that e had written when it was sent
abbrev pub KindOk : Kind → PlainEnd → ℕ → Type 0
KindOk (Nth i) e len = (i < length e.written) × (len ≤ i + e.send_cap)
KindOk _ e len = ⊤

-- its counts are true of its sender e, and near the end of the len items that the peer p had written when it was sent
abbrev pub ToldOk : Told → PlainEnd → PlainEnd → ℕ → Type 0
ToldOk Nothing e p len = ⊤
ToldOk (Acknowledges a) e p len = (a ≤ length e.read) × (len ≤ a + p.send_cap)
ToldOk (Status a r w) e p len =
    (a ≤ length e.read) × (len ≤ a + p.send_cap) × ((i : ℕ) → i < r → contains e.arrived i ≡ true)
    × (len ≤ r + p.send_cap)

-- an item after the first tells that its sender has read at least one
abbrev pub TellsMet : Kind → Told → Type 0
TellsMet (Nth (suc i)) (Acknowledges a) = 1 ≤ a
TellsMet (Nth (suc i)) told = ⊥
TellsMet kind told = ⊤

-- a copy from the end s to the end r, which had written so many items when it was sent
pub record CopyOk (c : Copy) (s r : PlainEnd) (len_s len_r : ℕ) : Type 0 where
  pub kind_ok : KindOk c.kind s len_s
  pub told_ok : ToldOk c.told s r len_r
  pub met : TellsMet c.kind c.told

-- how much the end at a side had written when it was sent
abbrev pub len_of : Copy → Side → ℕ
len_of c A = c.len_a
len_of c B = c.len_b

abbrev pub IsCopyOk : Machine → Copy → Type 0
IsCopyOk m c = CopyOk c (end_of m c.sender) (end_of m (other c.sender)) (len_of c c.sender) (len_of c (other c.sender))

-- ---- all this stays while both ends grow

kind_later : (kind : Kind) (s t : PlainEnd) (len : ℕ) → Grows s t → KindOk kind s len → KindOk kind t len
kind_later (Nth i) s t len g h = (omega (arith, g.written_more), omega (arith, g.send_cap))
kind_later Sns s t len g h = tt
kind_later Sts s t len g h = tt
kind_later Cls s t len g h = tt

pub told_later :
    (told : Told) (s t r q : PlainEnd) (len : ℕ) → Grows s t → Grows r q → ToldOk told s r len → ToldOk told t q len
told_later Nothing s t r q len g k h = tt
told_later (Acknowledges a) s t r q len g k h = (omega (arith, g.read_more), omega (arith, k.send_cap))
told_later (Status a receipt w) s t r q len g k h =
    (omega (arith, g.read_more), omega (arith, k.send_cap), λ i u. g.arrived i (h.2 i u), omega (arith, k.send_cap))

pub copy_later :
    (c : Copy) (s t r q : PlainEnd) (len_s len_r : ℕ) → Grows s t → Grows r q → CopyOk c s r len_s len_r →
    CopyOk c t q len_s len_r
copy_later c s t r q len_s len_r g k h =
    record { kind_ok = kind_later c.kind s t len_s g h.kind_ok; told_ok = told_later c.told s t r q len_r g k h.told_ok; met = h.met }
