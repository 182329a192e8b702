-- What is left of settling at each of its places.
use Rattle.std.specs.Prelude.{◌-◌, List, [], ◌∷◌, ◌++◌, length}
use Rattle.chaos_lab.specs.declared.side.Side.TheVariants.{A, B}
use Rattle.chaos_lab.specs.Laboratory.{happen, after_all}
use Rattle.chaos_lab.specs.Laboratory.Happening.{TickOf, DeliverCopy}
use Rattle.chaos_lab.specs.Settling.{telling, resend_moment, reading, reading_on, coming, taking_in}
use Rattle.file_lab.specs.declared.settling.FileSettling.{FileSettling}
use Rattle.file_lab.specs.declared.settling.Place.{Place}
use Rattle.file_lab.specs.declared.settling.Place.TheVariants as place
use Rattle.file_lab.specs.View.{FileLabView}
use Rattle.file_lab.specs.Events.{FileHappening}
use Rattle.file_lab.specs.Settling.{then_on, no_more, replying, answering, serving, b_sending, homing, file_settling}

-- the items that are left to be served
abbrev pub others : FileSettling → FileLabView → List FileHappening
others s l = serving s.before s.left l

-- and one more, which is in front of B's server
abbrev pub answers : FileSettling → FileLabView → List FileHappening
answers s l = answering (λ m. serving s.before s.left m) l

abbrev pub left_at : Place → FileSettling → FileLabView → List FileHappening
left_at place.Start s l = file_settling l
left_at (place.HearB copy) s l =
    then_on (DeliverCopy copy ∷ TickOf A (resend_moment A (happen l.lab (DeliverCopy copy)).lab) ∷ []) homing l
left_at place.ResendA s l = then_on (TickOf A (resend_moment A l.lab) ∷ []) homing l
left_at place.Home s l = homing l
left_at (place.HearA copy) s l =
    then_on (DeliverCopy copy ∷ b_sending (happen l.lab (DeliverCopy copy)).lab) (others s) l
left_at place.ResendB s l = then_on (b_sending l.lab) (others s) l
left_at place.Take s l = then_on (taking_in A s.from (length l.lab.copies) l.lab) (others s) l
left_at (place.Read times) s l =
    let read = reading_on A times l.lab in
    then_on (read ++ coming A s.from (s.to - s.from) (after_all l.lab read)) (others s) l
left_at (place.Come copy) s l = then_on (coming A copy (s.to - copy) l.lab) (others s) l
left_at (place.ReadCome copy) s l =
    let read = reading A l.lab in
    then_on (read ++ coming A copy (s.to - copy) (after_all l.lab read)) (others s) l
left_at place.Next s l = others s l
left_at place.Tell s l = then_on (telling A l.lab) (answers s) l
left_at (place.Told copy) s l = then_on (DeliverCopy copy ∷ []) (answers s) l
left_at place.Answer s l = answers s l
left_at place.Answered s l = then_on (replying s.wrote l.lab) (others s) l
left_at place.ReadReply s l = then_on (reading A l.lab) (others s) l
left_at (place.EndA copy) s l = then_on (DeliverCopy copy ∷ telling B (happen l.lab (DeliverCopy copy)).lab) no_more l
left_at place.EndTell s l = then_on (telling B l.lab) no_more l
left_at (place.EndB copy) s l = then_on (DeliverCopy copy ∷ []) no_more l
left_at place.Over s l = []

-- the events that are left, in the laboratory as it is then
abbrev pub left : FileSettling → FileLabView → List FileHappening
left s l = left_at s.place s l
