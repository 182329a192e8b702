-- Words of the headline.
use Rattle.std.specs.Prelude.{◌≡◌, ◌≢◌, ℕ, ◌+◌, ◌<◌, ◌≤◌, List, [], ◌∷◌, ◌++◌, length, true, Some, Ok, slice_get, ⊤}
use Rattle.chaos_packet.specs.Item.{ItemView}
use Rattle.chaos_packet.specs.Number.{num}
use Rattle.chaos_packet.specs.Packet.{item_of}
use Rattle.chaos_conn.specs.declared.state.State.TheVariants.{Open}
use Rattle.chaos_conn.specs.declared.answers.ReadEnd.TheVariants.{Item}
use Rattle.chaos_lab.specs.declared.side.Side.{Side}
use Rattle.chaos_lab.specs.declared.side.Side.TheVariants.{A, B}
use Rattle.chaos_lab.specs.declared.stamped.Stamped.{Stamped}
use Rattle.chaos_lab.specs.declared.event.Stepped.TheVariants.{Read}
use Rattle.chaos_lab.specs.Machine.{other, greatest_window}
use Rattle.chaos_lab.specs.Laboratory.{LabView, Happening, lab_end, is_fresh, happen}
use Rattle.chaos_lab.specs.Laboratory.Happening.{WriteBy, ReadBy, AnnounceBy, TickOf, CloseBy, AcceptFrom, DeliverCopy}

-- how many items its sender had written, after the call that sent it
abbrev pub len_at : Side → Stamped → ℕ
len_at A s = s.len_a
len_at B s = s.len_b

-- A copy is of item i of its sender: it carries the item and its number, and its stamp is at most a window past it.
pub record IsCopyOf (l : LabView) (s : Stamped) (i : ℕ) : Type 0 where
  pub item : slice_get (lab_end l s.side).written i ≡ Some (item_of s.packet)
  pub number : s.packet.num ≡ num (lab_end l s.side).first i
  pub near : len_at s.side s ≤ i + greatest_window

-- A fresh copy of item i may come to the other end, which is open, inside the window that it announces.
pub record ComesInside (l : LabView) (copy : ℕ) (s : Stamped) (i : ℕ) : Type 0 where
  pub sent : slice_get l.copies copy ≡ Some s
  pub of_item : IsCopyOf l s i
  pub fresh : is_fresh l.a l.b s ≡ true
  pub open_end : (lab_end l (other s.side)).conn.state ≡ Open
  pub inside : i < length (lab_end l (other s.side)).read + (lab_end l (other s.side)).conn.recv.window

-- the user at x doesn't close its end in these events
abbrev pub Unclosed : Side → List Happening → Type 0
Unclosed x [] = ⊤
Unclosed x (CloseBy y text ∷ events) = (y ≢ x) × Unclosed x events
Unclosed x (WriteBy y op bytes ∷ events) = Unclosed x events
Unclosed x (ReadBy y ∷ events) = Unclosed x events
Unclosed x (AnnounceBy y window ∷ events) = Unclosed x events
Unclosed x (TickOf y now ∷ events) = Unclosed x events
Unclosed x (AcceptFrom start ∷ events) = Unclosed x events
Unclosed x (DeliverCopy copy ∷ events) = Unclosed x events

-- where item i is the next that the user at x reads, a read answers this item, and it joins what was read
abbrev pub ReadsInTurn : LabView → Side → ℕ → ItemView → Type 0
ReadsInTurn l x i item =
    let done = happen l (ReadBy x) in
    length (lab_end l x).read ≡ i →
    (done.answer ≡ Ok (Read (Item item))) × ((lab_end done.lab x).read ≡ (lab_end l x).read ++ item ∷ [])
