-- An end at which sending again is due.
use Rattle.std.proofs.Common.{◌≡◌, ℕ, ◌-◌, ◌<◌, max, true, false, length, ap, ◌∙◌, arith}
use Rattle.std.proofs.lemmas.Bool.{cond-true, cond-false, lt-ltb, le-leb, lt-leb, and_from, and_right}
use Rattle.chaos_conn.specs.declared.time.Due.TheVariants as due
use Rattle.chaos_conn.specs.State.{awaits_peer}
use Rattle.chaos_conn.specs.Time.{is_down, is_resend_due, at_moment, ticked_by, act_tick}
use Rattle.chaos_conn.specs.View.{ConnView, IsConn}
use Rattle.chaos_lab.specs.Opening.{again_moment, SendsInTime}
use Rattle.chaos_lab.specs.Progress.{IsDue}

-- its tick sends again all that it keeps
pub resends_due : (v : ConnView) (now : ℕ) → IsConn v → IsDue v now
    → act_tick v now ≡ ticked_by due.Resend (at_moment v now)
resends_due v now c h =
    let u : ConnView = at_moment v now in
    let up : is_down u ≡ false =
    and_right _ _ (lt-leb v.config.down (max v.last now - v.heard) (omega (arith, h.later, h.heard, c.heard))) in
    let due : is_resend_due u ≡ true =
    and_from _ _ h.awaits
    (and_from _ _ (lt-ltb 0 (length v.send.kept) h.some)
    (le-leb v.config.retransmit (max v.last now - v.resent) (omega (arith, h.later, h.again)))) in
    ap (λ d. ticked_by d u) (cond-false _ _ _ up ∙ cond-true _ _ _ due)

-- which is so at that moment, where it comes in time
pub due_again : (v : ConnView) → awaits_peer v.state ≡ true → 0 < length v.send.kept → SendsInTime v
    → IsDue v (again_moment v)
due_again v awaits some time =
    record { awaits = awaits; some = some; later = omega arith; again = omega arith; heard = time.again }
