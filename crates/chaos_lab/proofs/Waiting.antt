-- What an open end whose user waits hasn't got.
use Rattle.std.proofs.Common.{◌≡◌, length, true, false, None, Some, sym, ap, ◌∙◌, ⊎_elim}
use Rattle.std.specs.FinSet.{contains}
use Rattle.std.proofs.lemmas.Bool.{cond-true, cases_Bool}
use Rattle.chaos_conn.specs.Calls.{front_of}
use Rattle.chaos_lab.specs.declared.side.Side.{Side}
use Rattle.chaos_lab.specs.Machine.{PlainEnd as Plain, Machine, other, end_of}
use Rattle.chaos_lab.specs.Machine.Phase.{Open}
use Rattle.chaos_lab.specs.Shown.{there_at}
use Rattle.chaos_lab.specs.Laboratory.{LabView}
use Rattle.chaos_lab.specs.Tied.{Ties}
use Rattle.chaos_lab.specs.Progress.{Waits}
use Rattle.chaos_lab.proofs.Lists.{member_at}
use Rattle.chaos_lab.proofs.Directions.{Sound}
use Rattle.chaos_lab.proofs.Machines.{reached_holds, end_holds}
use Rattle.chaos_lab.proofs.RecvTie.{front_is}
use Rattle.chaos_lab.proofs.OnSide.{conn_at, first_at}
use Rattle.chaos_lab.proofs.Helping.{shows}

not_there : (p e : Plain) → Sound p e → there_at p e (length e.read) ≡ None → contains e.arrived (length e.read) ≡ false
not_there p e d none =
    ⊎_elim
    (λ (u : contains e.arrived (length e.read) ≡ true).
    let item = member_at p.written (length e.read) (d.within (length e.read) u) in
    let some : None ≡ Some item.0 = sym none ∙ cond-true _ _ _ u ∙ item.1 in
    absurd (cc))
    (λ (u : contains e.arrived (length e.read) ≡ false). u)
    (cases_Bool (contains e.arrived (length e.read)))

pub waiting : (y : Side) (w : Machine) (l : LabView) → Ties w l → (end_of w y).phase ≡ Open → Waits l y
    → contains (end_of w y).arrived (length (end_of w y).read) ≡ false
waiting y w l t at waits =
    let e : Plain = end_of w y in
    let p : Plain = end_of w (other y) in
    let h = end_holds w y (reached_holds w t.tied.reached) in
    let front : front_of (conn_at l y) ≡ there_at p e (length e.read) =
    ap front_of (shows y w l t at).is ∙ front_is (first_at l (other y)) p e h.ok.caps.2 in
    not_there p e h.reader (sym front ∙ waits)
