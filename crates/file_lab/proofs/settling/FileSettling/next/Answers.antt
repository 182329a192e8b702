use Rattle.std.proofs.Common.{rules, ◌≡◌, ap, ◌∙◌, ◌∷◌}
use Rattle.file_lab.specs.declared.settling.FileSettling.{FileSettling}
use Rattle.file_lab.specs.declared.settling.Place.TheVariants as place
use Rattle.file_lab.specs.Events.{file_event}
use Rattle.file_lab.specs.Exact.{file_happen}
use Rattle.file_lab.specs.Settling.{homing}
use Rattle.file_lab.specs.SettlingLeft.{left, left_at}
use Rattle.file_lab.proofs.Stepping.{hears_as}
use Rattle.file_lab.proofs.settling.FileSettling.next.Goals as goal

-- A hears, and goes on
pub returns-in-HearB-clause-some : goal.returns-in-HearB-clause-some
returns-in-HearB-clause-some c =
    let s : FileSettling = c.args.self.now in
    let t : FileSettling = record s { place = place.ResendA } in
    let at : s.place ≡ place.HearB c.in-HearB.copy = search rules in
    let new : t ≡ c.deliver.new.self = search rules in
    ap (λ p. left_at p s c.args.lab.now) at
    ∙ hears_as homing c.args.lab.now (file_event c.deliver.result) c.in-HearB.copy c.deliver.ensures.event
    ∙ ap (λ r. file_event c.deliver.result ∷ left r (file_happen c.args.lab.now (file_event c.deliver.result)).view) new
