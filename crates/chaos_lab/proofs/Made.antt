-- A call that is refused or taken, at one of both ends.
use Rattle.std.proofs.Common.{◌≡◌, List, [], ◌++◌, length, map, Option, Some, None, Result, Ok, Err, refl, sym, ap, ◌∙◌, subst, inl}
use Rattle.chaos_packet.specs.Item.{ItemView}
use Rattle.chaos_packet.specs.Outbox.{OutboxView}
use Rattle.chaos_conn.specs.declared.fault.ConnFault.{ConnFault}
use Rattle.chaos_conn.specs.Act.{Call, act}
use Rattle.chaos_lab.specs.declared.side.Side.{Side}
use Rattle.chaos_lab.specs.declared.side.Side.TheVariants.{A, B}
use Rattle.chaos_lab.specs.declared.both_ends.BothEnds.{BothEnds}
use Rattle.chaos_lab.specs.declared.event.Stepped.{Stepped}
use Rattle.chaos_lab.specs.declared.fault.LabFault.{LabFault}
use Rattle.chaos_lab.specs.declared.fault.LabFault.TheVariants as fault
use Rattle.chaos_lab.specs.Laboratory.{EndView, LabView, Calls, asked_after, call_effect, clock_after, end_after, lab_end, refusal_of, stamp}
use Rattle.chaos_lab.specs.Inside.{end_view}
use Rattle.chaos_lab.specs.Makes.{made_by, Makes, MakesAt, read_at}

-- it changed nothing but the answer
pub record IsRefused (e : EndView) (call : Call) (new : EndView) (before after : OutboxView)
    (reply : Result Stepped LabFault) : Type 0 where
  pub why : ConnFault
  pub refusal : refusal_of (act e.conn call).answer ≡ Some why
  pub end : new ≡ e
  pub packets : after ≡ record before { packets = [] }
  pub answer : reply ≡ Err (fault.Refused why)

err_by : (o : Option ConnFault) (e : EndView) (call : Call) (f : LabFault) → (made_by e call o).answer ≡ Err f
    → (why : ConnFault) × (o ≡ Some why)
err_by None e call f h = absurd (cc)
err_by (Some why) e call f h = (why, refl)

pub makes_err : (e : EndView) (call : Call) (new : EndView) (before after : OutboxView)
    (reply : Result Stepped LabFault) (f : LabFault)
    → reply ≡ Err f → Makes e call new before after reply → IsRefused e call new before after reply
makes_err e call new before after reply f is m =
    let r = err_by (refusal_of (act e.conn call).answer) e call f (sym m.answer ∙ is) in
    record {
      why = r.0;
      refusal = r.1;
      end = m.end ∙ ap (λ o. (made_by e call o).end) r.1;
      packets = m.packets ∙ ap (λ o. record before { packets = (made_by e call o).packets }) r.1;
      answer = m.answer ∙ ap (λ o. (made_by e call o).answer) r.1;
    }

-- so at one of both ends
pub record AreSame (x : Side) (call : Call) (old new : BothEnds) (before after : OutboxView)
    (reply : Result Stepped LabFault) : Type 0 where
  pub a : end_view new.a ≡ end_view old.a
  pub b : end_view new.b ≡ end_view old.b
  pub packets : after ≡ record before { packets = [] }
  pub answer : (l : LabView) → l.a ≡ end_view old.a → l.b ≡ end_view old.b → Calls l x call l reply

pub makes_at_err : (x : Side) (call : Call) (old new : BothEnds) (before after : OutboxView)
    (reply : Result Stepped LabFault) (f : LabFault)
    → reply ≡ Err f → MakesAt x call old new before after reply → AreSame x call old new before after reply
makes_at_err A call old new before after reply f is m =
    let r = makes_err _ call _ before after reply f is m.0 in
    record {
      a = r.end;
      b = ap end_view m.1;
      packets = r.packets;
      answer =
          λ l a b. let o : refusal_of (act l.a.conn call).answer
          ≡ Some r.why = ap (λ e. refusal_of (act e.conn call).answer) a
          ∙ r.refusal in
          inl
          (ap (λ o. (call_effect l A call o).lab) (sym o), r.answer ∙ ap (λ o. (call_effect l A call o).answer) (sym o));
    }
makes_at_err B call old new before after reply f is m =
    let r = makes_err _ call _ before after reply f is m.0 in
    record {
      a = ap end_view m.1;
      b = r.end;
      packets = r.packets;
      answer =
          λ l a b. let o : refusal_of (act l.b.conn call).answer
          ≡ Some r.why = ap (λ e. refusal_of (act e.conn call).answer) b
          ∙ r.refusal in
          inl
          (ap (λ o. (call_effect l B call o).lab) (sym o), r.answer ∙ ap (λ o. (call_effect l B call o).answer) (sym o));
    }

ok_by : (o : Option ConnFault) (e : EndView) (call : Call) (s : Stepped) → (made_by e call o).answer ≡ Ok s → o ≡ None
ok_by None e call s h = refl
ok_by (Some why) e call s h = absurd (cc)

-- a call that was taken did this
record IsTaken (e : EndView) (call : Call) (new : EndView) (after : OutboxView) (s : Stepped) : Type 0 where
  none : refusal_of (act e.conn call).answer ≡ None
  end : new ≡ end_after e call
  packets : after.packets ≡ (act e.conn call).packets
  answer : Ok s ≡ (made_by e call None).answer

taken : (e : EndView) (call : Call) (new : EndView) (before after : OutboxView) (s : Stepped)
    → Makes e call new before after (Ok s) → IsTaken e call new after s
taken e call new before after s m =
    let none = ok_by (refusal_of (act e.conn call).answer) e call s (sym m.answer) in
    record {
      none = none;
      end = m.end ∙ ap (λ o. (made_by e call o).end) none;
      packets = ap (λ o. o.packets) m.packets ∙ ap (λ o. (made_by e call o).packets) none;
      answer = m.answer ∙ ap (λ o. (made_by e call o).answer) none;
    }

-- the laboratory after a call at one of these ends, with what was put out among the copies
abbrev pub lab_with : LabView → Side → Call → BothEnds → OutboxView → LabView
lab_with l x call ends out = record {
  a = end_view ends.a;
  b = end_view ends.b;
  copies =
      l.copies ++ map (stamp x (length ends.a.written.list.items) (length ends.b.written.list.items)) out.packets;
  asked = asked_after l.asked call;
  clock = clock_after l.clock call;
}

-- it is what the call makes of a laboratory
pub calls_taken : (x : Side) (call : Call) (old new : BothEnds) (before after : OutboxView)
    (s : List ItemView → Stepped) (l m : LabView)
    → MakesAt x call old new before after (Ok (s (read_at x new))) → l.a ≡ end_view old.a → l.b ≡ end_view old.b
    → m ≡ lab_with l x call new after → Calls l x call m (Ok (s (lab_end m x).read))
calls_taken A call old new before after s l m made a b is =
    let e : EndView = end_view new.a in
    let t = taken l.a call e before after (s e.read)
    (subst (λ d. Makes d call e before after (Ok (s e.read))) (sym a) made.0) in
    let other : end_view new.b ≡ l.b = ap end_view made.1 ∙ sym b in
    inl (
      is
          ∙ (λ j. record (lab_with l A call new after) {
            a = t.end j;
            b = other j;
            copies = l.copies ++ map (stamp A (length (t.end j).written) (length (other j).written)) (t.packets j);
          })
          ∙ ap (λ o. (call_effect l A call o).lab) (sym t.none),
      ap (λ k. Ok (s k.a.read)) is ∙ t.answer ∙ ap (λ o. (call_effect l A call o).answer) (sym t.none),
    )
calls_taken B call old new before after s l m made a b is =
    let e : EndView = end_view new.b in
    let t = taken l.b call e before after (s e.read)
    (subst (λ d. Makes d call e before after (Ok (s e.read))) (sym b) made.0) in
    let other : end_view new.a ≡ l.a = ap end_view made.1 ∙ sym a in
    inl (
      is
          ∙ (λ j. record (lab_with l B call new after) {
            a = other j;
            b = t.end j;
            copies = l.copies ++ map (stamp B (length (other j).written) (length (t.end j).written)) (t.packets j);
          })
          ∙ ap (λ o. (call_effect l B call o).lab) (sym t.none),
      ap (λ k. Ok (s k.b.read)) is ∙ t.answer ∙ ap (λ o. (call_effect l B call o).answer) (sym t.none),
    )
