use Rattle.std.proofs.Common.{arith, rules, ap, ◌∙◌, ◌+◌, ◌<◌, ◌≡◌, true, false}
use Rattle.file_copy.specs.Talk.{taken}
use Rattle.file_copy.specs.Ends.{put_sent, put_received}
use Rattle.file_copy.proofs.Talks.{received_at, wanted_asked}
use Rattle.file_copy.proofs.Begun.{sent_up_to}
use Rattle.file_copy.proofs.Ended.{unless, refused_wanted}
use Rattle.file_copy.proofs.Puts.{put_wanted, writes_not_done}
use Rattle.file_copy.proofs.Quiet.{unanswered_by}
use Rattle.file_copy.proofs.put.write_all.Goals as goal

pub loop-i-preserved : goal.loop-i-preserved
loop-i-preserved g c =
    let yes : c.is_wanted.result ≡ true = search rules in
    let is = c.is_wanted.ensures.0 yes in
    let h : (c.loop-i.flight.received < c.next_reply.new.flight.sent)
    × (c.next_reply.new.flight.received ≡ c.loop-i.flight.received + 1) =
    wanted_asked
    ((c.loop-i.flight.received < c.next_reply.new.flight.sent)
    × (c.next_reply.new.flight.received ≡ c.loop-i.flight.received + 1))
    (taken c.in_ok-came.came c.next_reply.new.reply.items) _ is c.in_ok-came.ensures.asked in
    record {
      sent = c.in_ok-came.ensures.within;
      asked = omega (arith, h.0, c.loop-i.invariant.place);
      unfailed = omega (arith, c.in_ok-came.ensures.unfailed, c.loop-i.invariant.unfailed);
      patient = c.next_reply.ensures.patient ∙ c.loop-i.invariant.patient;
      place = h.1 ∙ ap (λ n. n + 1) c.loop-i.invariant.place;
      talk = received_at _ _ _ (put_received c.args.first c.args.bytes.now) c.loop-i.i _ _ is
          (put_wanted c.args.first c.loop-i.i c.args.bytes.now _ _ c.write_wanted.ensures c.put_said.ensures.said)
          (c.in_ok-came.ensures.talk _ _ c.loop-i.invariant.talk);
    }

pub returns-in_err-came-clause-sent : goal.returns-in_err-came-clause-sent
returns-in_err-came-clause-sent g c =
    sent_up_to _ _ (put_sent c.args.first c.args.path.now c.args.bytes.now) c.next_reply.new.flight.sent
    (1 + c.chunk_count-count.result) _ _ c.next_reply.ensures.within (ap (λ n. 1 + n) c.chunk_count-count.ensures.value)
    (c.in_err-came.ensures.fault _ _ c.loop-i.invariant.talk)

pub returns-then-not-is_wanted-clause-sent : goal.returns-then-not-is_wanted-clause-sent
returns-then-not-is_wanted-clause-sent g c =
    sent_up_to _ _ (put_sent c.args.first c.args.path.now c.args.bytes.now) c.next_reply.new.flight.sent
    (1 + c.chunk_count-count.result) _ _ c.next_reply.ensures.within (ap (λ n. 1 + n) c.chunk_count-count.ensures.value)
    (c.in_ok-came.ensures.talk _ _ c.loop-i.invariant.talk)

pub returns-then-not-is_wanted-clause-ended : goal.returns-then-not-is_wanted-clause-ended
returns-then-not-is_wanted-clause-ended g c =
    let no : c.is_wanted.result ≡ false = search rules in
    let last = taken c.in_ok-came.came c.next_reply.new.reply.items in
    writes_not_done _ _ _ c.args.first c.loop-i.i c.args.bytes.now c.write_wanted.new.wanted.items last c.refusal.result
    (omega (arith, c.loop-i-test.true, c.chunk_count-count.ensures.value))
    (put_wanted c.args.first c.loop-i.i c.args.bytes.now _ _ c.write_wanted.ensures c.put_said.ensures.said)
    (c.in_ok-came.ensures.talk _ _ c.loop-i.invariant.talk)
    (unless c.refusal.result _
    (refused_wanted _ _ c.write_wanted.new.wanted.items last c.refusal.result c.is_wanted.result c.is_wanted.ensures no
    c.refusal.ensures))

pub returns-then-not-is_wanted-clause-waited : goal.returns-then-not-is_wanted-clause-waited
returns-then-not-is_wanted-clause-waited g c =
    unanswered_by (taken c.in_ok-came.came c.next_reply.new.reply.items) _ _ _ c.refusal.result _ _
    (unless c.refusal.result _ c.refusal.ensures) c.in_ok-came.ensures.waited (λ w. (c.loop-i.talk, w))

pub returns-clause-sent : goal.returns-clause-sent
returns-clause-sent g c =
    sent_up_to _ _ (put_sent c.args.first c.args.path.now c.args.bytes.now) c.loop-i.flight.sent
    (1 + c.chunk_count-count.result) _ _
    c.loop-i.invariant.sent (ap (λ n. 1 + n) c.chunk_count-count.ensures.value) c.loop-i.invariant.talk
