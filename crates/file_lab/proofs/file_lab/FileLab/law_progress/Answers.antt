use Rattle.std.proofs.Common.{rules, ◌≡◌, subst}
use Rattle.chaos_conn.specs.View.{IsConn}
use Rattle.chaos_lab.specs.declared.side.Side.{Side}
use Rattle.chaos_lab.specs.Laboratory.{LabView, lab_end}
use Rattle.chaos_lab.specs.Tied.{HasMachine}
use Rattle.file_lab.specs.View.{FileLabView}
use Rattle.file_lab.specs.Kept.{IsServed, file_view}
use Rattle.file_lab.proofs.Walk.{Rests}
use Rattle.file_lab.proofs.Settles.{serves}
use Rattle.file_lab.proofs.file_lab.FileLab.law_progress.Goals as goal

-- B's server answered what it read, and the rest is served
pub returns : goal.returns
returns c can =
    let l : FileLabView = c.args.self.now in
    let lab : c.self.inside.lab ≡ l.lab = search rules in
    let view : file_view c.self.inside ≡ l = search rules in
    let served : IsServed l = subst IsServed view c.self.invariant.served in
    let machine : HasMachine l.lab = subst HasMachine lab c.law_headline.ensures.machine in
    let sound : (x : Side) → IsConn (lab_end l.lab x).conn =
    subst (λ (k : LabView). (x : Side) → IsConn (lab_end k x).conn) lab c.law_sound.ensures in
    let laws : Rests =
    record { phases = record { answers = c.law_phases.ensures.answers; asked = c.law_phases.ensures.asked }; go_on = c.law_replies.ensures.go_on; taken = c.law_reply_taken.ensures } in
    serves laws l machine sound can.lab (served can.memory)
