-- What is left of settling at each of its places.
use Rattle.std.specs.Prelude.{List, [], ◌∷◌, ◌++◌, length}
use Rattle.chaos_lab.specs.declared.side.Side.{Side}
use Rattle.chaos_lab.specs.declared.side.Side.TheVariants.{A, B}
use Rattle.chaos_lab.specs.declared.settling.Burst.{Burst}
use Rattle.chaos_lab.specs.declared.settling.Settling.{Settling}
use Rattle.chaos_lab.specs.declared.settling.Place.{Place}
use Rattle.chaos_lab.specs.declared.settling.Place.TheVariants as place
use Rattle.chaos_lab.specs.Laboratory.{LabView, Happening, happen, after_all}
use Rattle.chaos_lab.specs.Laboratory.Happening.{DeliverCopy}
use Rattle.chaos_lab.specs.Settling.{telling, reading, reading_on, bringing, taking, both_taking, b_sending, b_hearing, a_sending, settling}

-- the copies that the other end sent again
abbrev pub sent_to : Side → Settling → Burst
sent_to A s = s.of_b
sent_to B s = s.of_a

-- behind what A takes, B takes
abbrev pub then_on : Side → Settling → List Happening → LabView → List Happening
then_on A s events l = events ++ taking B s.of_a.from s.of_a.to (after_all l events)
then_on B s events l = events

abbrev pub tells : Side → Settling → LabView → List Happening
tells B s l = settling l
tells A s l = b_hearing s.of_a.from (length l.copies) l

abbrev pub sends : Side → Settling → LabView → List Happening
sends A s l = a_sending l
sends B s l = b_sending s.of_a.from s.of_a.to l

abbrev pub hears : Side → Settling → LabView → List Happening
hears B s l = a_sending l
hears A s l = b_sending s.of_a.from s.of_a.to l

abbrev pub takes : Side → Settling → LabView → List Happening
takes A s l = both_taking s.of_a.from s.of_a.to s.of_b.from (length l.copies) l
takes B s l = taking B s.of_a.from s.of_a.to l

abbrev pub left_at : Place → Settling → LabView → List Happening
left_at (place.Tell y) s l = tells y s l
left_at (place.Hear y copy) s l = DeliverCopy copy ∷ hears y s (happen l (DeliverCopy copy)).lab
left_at (place.Resend x) s l = sends x s l
left_at (place.Take y) s l = takes y s l
left_at (place.Read y times) s l =
    let read = reading_on y times l in
    then_on y s (read ++ bringing y (sent_to y s).from (sent_to y s).to (after_all l read)) l
left_at (place.Come y copy) s l = then_on y s (bringing y copy (sent_to y s).to l) l
left_at (place.ReadCome y copy) s l =
    let read = reading y l in
    then_on y s (read ++ bringing y copy (sent_to y s).to (after_all l read)) l
left_at (place.TellAll y) s l = then_on y s (telling y l) l
left_at (place.HearAll y copy) s l = then_on y s (DeliverCopy copy ∷ []) l
left_at place.Over s l = []

-- B takes after A
abbrev pub next_taking : Side → Place
next_taking A = place.Take B
next_taking B = place.Over

-- the events that are left, in the laboratory as it is then
abbrev pub left : Settling → LabView → List Happening
left s l = left_at s.place s l
