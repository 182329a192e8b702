use Rattle.std.proofs.Common.{ℕ, arith, [], sym, subst, ◌∙◌, ◌+◌, ◌≤◌, ◌≡◌, false, inl, inr, max}
use Rattle.file_copy.proofs.Talks.{received_next, received_none, nothing_more, on_err, since_still}
use Rattle.file_copy.specs.Pace.{most_of}
use Rattle.file_copy.specs.Talk.{Turned}
use Rattle.file_copy.specs.declared.pace.Pace.{Pace}
use Rattle.file_copy.proofs.Paced.{few_more, most_within, window_stays}
use Rattle.file_copy.proofs.Quiet.{quiet_unreceived, unheard_then, turned_more, late, latest, over_first, over_then}
use Rattle.file_copy.proofs.window.next_reply.Goals as goal
use Rattle.file_copy.proofs.window.next_reply.Goals.{then-is_over-via-then-is_over, then-is_over-via-else-is_over+then-is_gone, then-is_over-via-else-is_over+else-is_gone+then-is_late}

pub returns-then-receive_asked-clause-talk : goal.returns-then-receive_asked-clause-talk
returns-then-receive_asked-clause-talk g c = λ start replies h.
    received_next _ _ _ _ replies c.receive_asked.result c.receive_asked.new.reply.items
    (c.loop-turns.invariant.talk start replies h) c.receive_asked.ensures.talk c.if-receive_asked.true

pub returns-then-is_over-clause-talk : goal.returns-then-is_over-clause-talk
returns-then-is_over-clause-talk g c = λ start replies h.
    let none : c.receive_asked.result ≡ false = c.if-receive_asked.false in
    nothing_more _ _ _ replies
    (received_none _ _ _ _ replies c.receive_asked.result c.receive_asked.new.reply.items (c.loop-turns.invariant.talk start replies h)
    c.receive_asked.ensures.talk none)

pub loop-turns-preserved : goal.loop-turns-preserved
loop-turns-preserved g c =
    let none : c.receive_asked.result ≡ false = c.if-receive_asked.false in
    record {
      within = c.send_on.ensures.within;
      place = c.send_on.ensures.place ∙ c.loop-turns.invariant.place;
      few =
          subst
          (λ (n : ℕ). c.send_on.new.flight.sent ≤ max c.args.flight.now.sent (n + c.send_on.new.flight.pace.window))
          (sym c.send_on.ensures.place)
          (few_more c.args.flight.now.sent c.loop-turns.flight.sent c.send_on.new.flight.sent c.loop-turns.flight.received
          c.loop-turns.flight.pace.window (most_of c.send_on.new.flight.pace) c.send_on.new.flight.pace.window
          c.loop-turns.invariant.few c.send_on.ensures.few (most_within c.send_on.new.flight.pace)
          (subst (λ (p : Pace). c.loop-turns.flight.pace.window ≤ p.window) (sym c.send_on.ensures.pace)
          (window_stays _ _ _ c.loop-turns.flight.pace)));
      talk = λ start replies h. since_still _ _ _ _ replies (c.send_on.ensures.talk start replies
          (received_none _ _ _ _ replies c.receive_asked.result c.receive_asked.new.reply.items
          (c.loop-turns.invariant.talk start replies h) c.receive_asked.ensures.talk none)) c.turn.ensures.silent;
      quiet =
          unheard_then _ _ _ (unheard_then _ _ _
          (quiet_unreceived c.receive_asked.result c.receive_asked.new.reply.items _ _ _ none c.loop-turns.invariant.quiet
          c.receive_asked.ensures.talk) c.send_on.ensures.quiet) ([], c.turn.ensures.silent);
      unfailed =
          omega
          (arith, c.in_ok-turn.ensures.unfailed, c.send_on.ensures.unfailed, c.receive_asked.ensures.unfailed, c.loop-turns.invariant.unfailed);
      patient =
          c.turn.ensures.patient ∙ c.send_on.ensures.patient ∙ c.receive_asked.ensures.patient ∙ c.loop-turns.invariant.patient;
      turned = turned_more _ _ _ _ c.loop-turns.invariant.turned
          (subst (λ b. Turned 1 b (g.T.Talk.course c.turn.new.self).turns)
          (c.send_on.ensures.still ∙ c.receive_asked.ensures.still) c.turn.ensures.counted);
    }

pub returns-then-is_over-clause-waited : goal.returns-then-is_over-clause-waited
returns-then-is_over-clause-waited g c =
    let none : c.receive_asked.result ≡ false = c.if-receive_asked.false in (
      quiet_unreceived c.receive_asked.result c.receive_asked.new.reply.items _ _ _ none c.loop-turns.invariant.quiet
          c.receive_asked.ensures.talk,
      elim c.then-is_over.branch [
        | then-is_over-via-then-is_over w ↦ inl (over_first _ _ (sym c.is_over.ensures ∙ w.if-is_over.true))
        | then-is_over-via-else-is_over+then-is_gone w ↦ inl (over_then _ _ (sym w.is_gone.ensures ∙ w.if-is_gone.true))
        | then-is_over-via-else-is_over+else-is_gone+then-is_late w ↦ inr
            (late _ _ _ _ _ _ _ _ c.loop-turns.invariant.turned c.receive_asked.ensures.still c.moment-since.ensures
            (w.is_late.ensures.0 w.if-is_late.true))
      ],
    )

pub returns-clause-waited : goal.returns-clause-waited
returns-clause-waited g c =
    let all : c.loop-turns.turns ≡ 4294967295 = omega (arith, c.loop-turns-test.false, c.loop-turns.auto.turns-end) in
    (c.loop-turns.invariant.quiet, inr (latest _ _ _ _ _ _ c.loop-turns.invariant.turned all))

pub returns-clause-talk : goal.returns-clause-talk
returns-clause-talk g c =
    λ start replies h. nothing_more _ _ _ replies (c.loop-turns.invariant.talk start replies h)

pub returns-in_err-turn-clause-fault : goal.returns-in_err-turn-clause-fault
returns-in_err-turn-clause-fault g c = λ start replies h.
    let none : c.receive_asked.result ≡ false = c.if-receive_asked.false in
    on_err c.from_residual.result _ (since_still _ _ _ _ replies (c.send_on.ensures.talk start replies
    (received_none _ _ _ _ replies c.receive_asked.result c.receive_asked.new.reply.items
    (c.loop-turns.invariant.talk start replies h) c.receive_asked.ensures.talk none)) c.turn.ensures.silent)
