use Rattle.std.proofs.Common.{rules, ◌≡◌, subst}
use Rattle.chaos_packet.specs.Begins.{Begins}
use Rattle.chaos_lab.specs.declared.side.Side.{Side}
use Rattle.chaos_lab.specs.declared.side.Side.TheVariants.{A, B}
use Rattle.chaos_lab.specs.Machine.{other}
use Rattle.chaos_lab.specs.Laboratory.{LabView, lab_end}
use Rattle.file_lab.specs.View.{FileLabView}
use Rattle.file_lab.specs.Kept.{IsServed, file_view}
use Rattle.file_lab.proofs.RepliesLaw.{replies_begin}
use Rattle.file_lab.proofs.file_lab.FileLab.law_replies.Goals as goal

-- what each user reads begins what the other wrote, and B's server answered what it read
pub returns-clause-replies : goal.returns-clause-replies
returns-clause-replies c =
    let l : FileLabView = c.args.self.now in
    let lab : c.self.inside.lab ≡ l.lab = search rules in
    let begins =
    subst (λ (k : LabView). (x : Side) → Begins (lab_end k (other x)).read (lab_end k x).written) lab
    c.law_headline.ensures.beginning in
    let view : file_view c.self.inside ≡ l = search rules in
    let served : IsServed l = subst IsServed view c.self.invariant.served in
    replies_begin l c.law_replies.ensures.go_on (begins B) (begins A) served
