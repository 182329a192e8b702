use Rattle.std.proofs.Common.{◌∷◌, sym, ap, ◌∙◌}
use Rattle.chaos_lab.specs.declared.settling.Settling.{Settling}
use Rattle.chaos_lab.specs.Laboratory.{LabView, happen}
use Rattle.chaos_lab.specs.Laboratory.Happening.{DeliverCopy}
use Rattle.chaos_lab.specs.SettlingLeft.{left, left_at}
use Rattle.chaos_lab.proofs.Stepping.{hears_sends, heard}
use Rattle.chaos_lab.proofs.settling.Settling.next.Goals as goal

-- what is left at a place is what its own function says
pub returns-in-Tell-clause-some : goal.returns-in-Tell-clause-some
returns-in-Tell-clause-some c = ap (λ p. left_at p c.args.self.now c.args.lab.now) c.in-Tell.is ∙ c.tell.ensures

pub returns-in-Resend-clause-some : goal.returns-in-Resend-clause-some
returns-in-Resend-clause-some c = ap (λ p. left_at p c.args.self.now c.args.lab.now) c.in-Resend.is ∙ c.resend.ensures

pub returns-in-Take-clause-some : goal.returns-in-Take-clause-some
returns-in-Take-clause-some c = ap (λ p. left_at p c.args.self.now c.args.lab.now) c.in-Take.is ∙ c.take.ensures

pub returns-in-Read-clause-some : goal.returns-in-Read-clause-some
returns-in-Read-clause-some c = ap (λ p. left_at p c.args.self.now c.args.lab.now) c.in-Read.is ∙ c.read.ensures

pub returns-in-Come-clause-some : goal.returns-in-Come-clause-some
returns-in-Come-clause-some c = ap (λ p. left_at p c.args.self.now c.args.lab.now) c.in-Come.is ∙ c.come.ensures

pub returns-in-ReadCome-clause-some : goal.returns-in-ReadCome-clause-some
returns-in-ReadCome-clause-some c = ap (λ p. left_at p c.args.self.now c.args.lab.now) c.in-ReadCome.is ∙ c.read_come.ensures

pub returns-in-TellAll-clause-some : goal.returns-in-TellAll-clause-some
returns-in-TellAll-clause-some c = ap (λ p. left_at p c.args.self.now c.args.lab.now) c.in-TellAll.is ∙ c.tell_all.ensures

-- a copy comes, and then the next place
pub returns-in-Hear-clause-some : goal.returns-in-Hear-clause-some
returns-in-Hear-clause-some c =
    let s : Settling = c.args.self.now in
    let m : LabView = (happen c.args.lab.now (DeliverCopy c.in-Hear.copy)).lab in
    ap (λ p. left_at p s c.args.lab.now) c.in-Hear.is
    ∙ ap (λ es. DeliverCopy c.in-Hear.copy ∷ es) (hears_sends c.in-Hear.side c.other.result s m c.other.ensures)

pub returns-in-HearAll-clause-some : goal.returns-in-HearAll-clause-some
returns-in-HearAll-clause-some c =
    let s : Settling = c.args.self.now in
    let m : LabView = (happen c.args.lab.now (DeliverCopy c.in-HearAll.copy)).lab in
    ap (λ p. left_at p s c.args.lab.now) c.in-HearAll.is
    ∙ heard c.in-HearAll.side s c.args.lab.now c.in-HearAll.copy
    ∙ ap (λ p. DeliverCopy c.in-HearAll.copy ∷ left (record s { place = p }) m) (sym c.after_all_came-self.ensures)
