-- What an end has written and read, by its phase.
use Rattle.std.proofs.Common.{◌≡◌, ◌≤◌, [], length}
use Rattle.std.proofs.lemmas.List.{nil_from_length}
use Rattle.chaos_lab.specs.declared.side.Side.{Side}
use Rattle.chaos_lab.specs.declared.side.Side.TheVariants.{A, B}
use Rattle.chaos_lab.specs.Machine.{Machine, Reached}
use Rattle.chaos_lab.specs.Machine.Phase.{RfcSent, RfcReceived, Open}
use Rattle.chaos_lab.specs.Law.{writer}
use Rattle.chaos_lab.proofs.Ends.{IsNew, HasMet, fits_at}
use Rattle.chaos_lab.proofs.Machines.{reached_holds}

pub never_asks : (m : Machine) → Reached m → m.b.phase ≡ RfcSent → ⊥
never_asks m r is = fits_at B m.b RfcSent (reached_holds m r).b is

pub new_asked : (m : Machine) → Reached m → m.b.phase ≡ RfcReceived → (m.b.written ≡ []) × (m.b.read ≡ [])
new_asked m r is =
    let new : IsNew B m.b.written m.b.read = (fits_at B m.b RfcReceived (reached_holds m r).b is).0 in
    (nil_from_length m.b.written new.1, nil_from_length m.b.read new.0)

swapped : (m : Machine) (x : Side) → HasMet (writer m x).written (writer m x).read
    → (1 ≤ length (writer m x).written) × (1 ≤ length (writer m x).read)
swapped m x met = (met.1, met.0)

pub open_met : (m : Machine) (x : Side) → Reached m → (writer m x).phase ≡ Open
    → (1 ≤ length (writer m x).written) × (1 ≤ length (writer m x).read)
open_met m A r is = swapped m A (fits_at A m.a Open (reached_holds m r).a is)
open_met m B r is = swapped m B (fits_at B m.b Open (reached_holds m r).b is)
