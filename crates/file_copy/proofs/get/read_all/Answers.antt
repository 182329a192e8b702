use Rattle.std.proofs.Common.{rules, arith, ap, sym, subst, ◌∙◌, ◌+◌, ◌++◌, ◌-◌, ◌*◌, ◌<◌, ◌≤◌, ◌≡◌, [], ◌∷◌, true, false, Some, length, length-append}
use Rattle.std.specs.Prelude.{min}
use Rattle.std.specs.Fmt.{decimal}
use Rattle.chaos_file.specs.declared.limits.TheConstants.{MAX_CHUNK}
use Rattle.chaos_file.specs.Answer.{AtEnd}
use Rattle.file_copy.specs.Copy.{upto, reply_of, chunk_count}
use Rattle.file_copy.specs.Talk.{received_in, Since, taken}
use Rattle.file_copy.specs.Row.{file_handle}
use Rattle.file_copy.specs.Ends.{IsGiven, close_received, get_sent, read_received}
use Rattle.file_copy.proofs.Talks.{wanted_asked}
use Rattle.file_copy.proofs.Joined.{from_copied}
use Rattle.file_copy.proofs.Growing.{grows}
use Rattle.file_copy.proofs.Ended.{unless, unwanted, refused_wanted}
use Rattle.file_copy.proofs.Gets.{all_received, at_end, close_not_done, end_not_done, piece_not_done, reads_sent_up_to}
use Rattle.file_copy.proofs.Quiet.{unanswered_by}
use Rattle.file_copy.proofs.get.read_all.Goals as goal

pub loop-i-preserved : goal.loop-i-preserved
loop-i-preserved g c =
    let yes : c.in_ok-is_given.is_given ≡ true = search rules in
    let p = c.in_ok-is_given.ensures.done yes in
    let below : MAX_CHUNK * c.loop-i.i < c.args.len =
    omega (arith, c.chunk_count-count.ensures.value, c.loop-i-test.true) in
    let old : length c.loop-i.bytes.items ≡ MAX_CHUNK * c.loop-i.i = c.loop-i.invariant.size ∙ omega arith in
    let size : length p.0 ≡ min (c.args.len - MAX_CHUNK * c.loop-i.i) MAX_CHUNK = p.1 ∙ c.min-size.ensures in
    let h : (c.loop-i.flight.received < c.next_reply.new.flight.sent)
    × (c.next_reply.new.flight.received ≡ c.loop-i.flight.received + 1) =
    wanted_asked
    ((c.loop-i.flight.received < c.next_reply.new.flight.sent)
    × (c.next_reply.new.flight.received ≡ c.loop-i.flight.received + 1))
    (taken c.in_ok-came.came c.next_reply.new.reply.items) _ p.3 c.in_ok-came.ensures.asked in
    record {
      sent = c.in_ok-came.ensures.within;
      asked = omega (arith, h.0, c.loop-i.invariant.place);
      unfailed = omega (arith, c.in_ok-came.ensures.unfailed, c.loop-i.invariant.unfailed);
      patient = c.next_reply.ensures.patient ∙ c.loop-i.invariant.patient;
      place = h.1 ∙ ap (λ n. n + 1) c.loop-i.invariant.place;
      size = ap length p.2 ∙ length-append c.loop-i.bytes.items p.0 ∙ omega arith;
      talk =
          subst
          (λ b. Since (g.T.Talk.talked c.args.talk.now) (g.T.Talk.talked c.next_reply.new.talk)
          (upto (get_sent c.args.first c.chunk_count-count.result) c.next_reply.new.flight.sent)
          (upto (read_received c.args.first b) (c.loop-i.i + 1)))
          (sym p.2)
          (grows _ _ (upto (get_sent c.args.first c.chunk_count-count.result) c.next_reply.new.flight.sent) c.args.first c.loop-i.i
          c.loop-i.bytes.items p.0 _ old (omega arith) (omega arith) p.3
          (c.in_ok-came.ensures.talk _ _ c.loop-i.invariant.talk));
    }

pub returns-clause-done : goal.returns-clause-done
returns-clause-done g c =
    let yes : c.is_wanted.result ≡ true = search rules in
    let is = c.is_wanted.ensures.0 yes in
    let n : c.loop-i.i ≡ c.chunk_count-count.result = search rules in
    let k : c.chunk_count-count.result ≡ chunk_count c.args.len = c.chunk_count-count.ensures.value in
    let all : min (MAX_CHUNK * c.loop-i.i) c.args.len ≡ c.args.len = omega arith in
    let size : length c.loop-i.bytes.items ≡ c.args.len = c.loop-i.invariant.size ∙ all in
    let ended = at_end _ _ (upto (get_sent c.args.first c.chunk_count-count.result) c.next_reply-2.new.flight.sent) c.args.first
    c.args.len c.chunk_count-count.result c.loop-i.i c.loop-i.bytes.items _ _ c.loop-i.invariant.size n is c.write_wanted.ensures
    (c.in_ok-came-2.ensures.talk _ _ c.loop-i.invariant.talk) in
    let before : (c.loop-i.flight.received < c.next_reply-2.new.flight.sent)
    × (c.next_reply-2.new.flight.received ≡ c.loop-i.flight.received + 1) =
    wanted_asked
    ((c.loop-i.flight.received < c.next_reply-2.new.flight.sent)
    × (c.next_reply-2.new.flight.received ≡ c.loop-i.flight.received + 1))
    (taken c.in_ok-came-2.came c.next_reply-2.new.reply.items) _ is c.in_ok-came-2.ensures.asked in
    from_copied c.settled.result _
    ((length c.loop-i.bytes.items ≡ c.args.len)
    × Since (g.T.Talk.talked c.args.talk.now) (g.T.Talk.talked c.next_reply-3.new.talk)
    (upto (get_sent c.args.first (chunk_count c.args.len)) (2 + chunk_count c.args.len))
    (upto (read_received c.args.first c.loop-i.bytes.items) (1 + chunk_count c.args.len)
    ++ close_received c.args.first c.args.len ∷ []))
    c.settled.ensures.done (λ e.
    let h : (c.next_reply-2.new.flight.received < c.next_reply-3.new.flight.sent)
    × (c.next_reply-3.new.flight.received ≡ c.next_reply-2.new.flight.received + 1) =
    wanted_asked
    ((c.next_reply-2.new.flight.received < c.next_reply-3.new.flight.sent)
    × (c.next_reply-3.new.flight.received ≡ c.next_reply-2.new.flight.received + 1))
    (taken c.in_ok-came-3.came c.next_reply-3.new.reply.items) _ e c.in_ok-came-3.ensures.asked in
    let asked : 1 + c.chunk_count-count.result < c.next_reply-3.new.flight.sent =
    omega (arith, h.0, before.1, c.loop-i.invariant.place, n) in
    let within : c.next_reply-3.new.flight.sent ≤ 2 + c.chunk_count-count.result = c.in_ok-came-3.ensures.within in
    let sent : c.next_reply-3.new.flight.sent ≡ 2 + c.chunk_count-count.result = omega (arith, asked, within) in (
      size,
      all_received _ _ c.args.first c.args.len c.chunk_count-count.result c.next_reply-3.new.flight.sent
          c.loop-i.bytes.items _ _ k sent e c.write_wanted-2.ensures
          (c.in_ok-came-3.ensures.talk _ _ ended),
    ))

pub returns-in_err-came-clause-sent : goal.returns-in_err-came-clause-sent
returns-in_err-came-clause-sent g c =
    reads_sent_up_to _ _ c.args.first c.next_reply.new.flight.sent c.chunk_count-count.result (chunk_count c.args.len) _
    c.chunk_count-count.ensures.value c.next_reply.ensures.within (c.in_err-came.ensures.fault _ _ c.loop-i.invariant.talk)

pub returns-in_err-is_given-clause-sent : goal.returns-in_err-is_given-clause-sent
returns-in_err-is_given-clause-sent g c =
    reads_sent_up_to _ _ c.args.first c.next_reply.new.flight.sent c.chunk_count-count.result (chunk_count c.args.len) _
    c.chunk_count-count.ensures.value c.next_reply.ensures.within (c.in_ok-came.ensures.talk _ _ c.loop-i.invariant.talk)

pub returns-then-not-is_given-clause-sent : goal.returns-then-not-is_given-clause-sent
returns-then-not-is_given-clause-sent g c =
    reads_sent_up_to _ _ c.args.first c.next_reply.new.flight.sent c.chunk_count-count.result (chunk_count c.args.len) _
    c.chunk_count-count.ensures.value c.next_reply.ensures.within (c.in_ok-came.ensures.talk _ _ c.loop-i.invariant.talk)

pub returns-then-not-is_given-clause-ended : goal.returns-then-not-is_given-clause-ended
returns-then-not-is_given-clause-ended g c =
    let no : c.in_ok-is_given.is_given ≡ false = search rules in
    let k = c.in_ok-is_given.ensures.left no in
    let last = taken c.in_ok-came.came c.next_reply.new.reply.items in
    piece_not_done _ _ _ c.args.first c.args.len c.loop-i.i c.min-size.result c.loop-i.bytes.items
    c.take_piece.new.bytes.items last c.refusal.result
    (omega (arith, c.loop-i-test.true, c.chunk_count-count.ensures.value)) c.min-size.ensures
    (c.in_ok-came.ensures.talk _ _ c.loop-i.invariant.talk)
    (unless c.refusal.result _
    (k.0, unwanted _ _ (λ _. ⊥) (IsGiven (decimal (c.args.first + c.loop-i.i)) file_handle c.min-size.result) last c.refusal.result k.1 c.refusal.ensures))

pub returns-then-not-is_given-clause-waited : goal.returns-then-not-is_given-clause-waited
returns-then-not-is_given-clause-waited g c =
    unanswered_by (taken c.in_ok-came.came c.next_reply.new.reply.items) _ _ _ c.refusal.result _ _
    (unless c.refusal.result _ c.refusal.ensures) c.in_ok-came.ensures.waited (λ w. (c.loop-i.talk, w))

pub returns-in_err-came-2-clause-sent : goal.returns-in_err-came-2-clause-sent
returns-in_err-came-2-clause-sent g c =
    reads_sent_up_to _ _ c.args.first c.next_reply-2.new.flight.sent c.chunk_count-count.result (chunk_count c.args.len) _
    c.chunk_count-count.ensures.value c.next_reply-2.ensures.within (c.in_err-came-2.ensures.fault _ _ c.loop-i.invariant.talk)

pub returns-then-not-is_wanted-clause-sent : goal.returns-then-not-is_wanted-clause-sent
returns-then-not-is_wanted-clause-sent g c =
    reads_sent_up_to _ _ c.args.first c.next_reply-2.new.flight.sent c.chunk_count-count.result (chunk_count c.args.len) _
    c.chunk_count-count.ensures.value c.next_reply-2.ensures.within (c.in_ok-came-2.ensures.talk _ _ c.loop-i.invariant.talk)

pub returns-then-not-is_wanted-clause-ended : goal.returns-then-not-is_wanted-clause-ended
returns-then-not-is_wanted-clause-ended g c =
    let no : c.is_wanted.result ≡ false = search rules in
    let n : c.loop-i.i ≡ c.chunk_count-count.result = search rules in
    let last = taken c.in_ok-came-2.came c.next_reply-2.new.reply.items in
    end_not_done _ _ _ c.args.first c.args.len c.chunk_count-count.result c.loop-i.bytes.items
    c.write_wanted.new.wanted.items last c.refusal-then-not-is_wanted.result c.chunk_count-count.ensures.value c.write_wanted.ensures
    (subst
    (λ m. Since (g.T.Talk.talked c.args.talk.now) (g.T.Talk.talked c.next_reply-2.new.talk)
    (upto (get_sent c.args.first c.chunk_count-count.result) c.next_reply-2.new.flight.sent)
    (upto (read_received c.args.first c.loop-i.bytes.items) m
    ++ received_in (taken c.in_ok-came-2.came c.next_reply-2.new.reply.items)))
    n
    (c.in_ok-came-2.ensures.talk _ _ c.loop-i.invariant.talk))
    (unless c.refusal-then-not-is_wanted.result _
    (refused_wanted _ _ c.write_wanted.new.wanted.items last c.refusal-then-not-is_wanted.result c.is_wanted.result c.is_wanted.ensures no
    c.refusal-then-not-is_wanted.ensures))

pub returns-then-not-is_wanted-clause-waited : goal.returns-then-not-is_wanted-clause-waited
returns-then-not-is_wanted-clause-waited g c =
    unanswered_by (taken c.in_ok-came-2.came c.next_reply-2.new.reply.items) _ _ _ c.refusal-then-not-is_wanted.result _ _
    (unless c.refusal-then-not-is_wanted.result _ c.refusal-then-not-is_wanted.ensures) c.in_ok-came-2.ensures.waited (λ w. (c.loop-i.talk, w))

pub returns-in_err-came-3-clause-sent : goal.returns-in_err-came-3-clause-sent
returns-in_err-came-3-clause-sent g c =
    let yes : c.is_wanted.result ≡ true = search rules in
    let is = c.is_wanted.ensures.0 yes in
    let n : c.loop-i.i ≡ c.chunk_count-count.result = search rules in
    reads_sent_up_to _ _ c.args.first c.next_reply-3.new.flight.sent c.chunk_count-count.result (chunk_count c.args.len) _
    c.chunk_count-count.ensures.value c.next_reply-3.ensures.within (c.in_err-came-3.ensures.fault _ _
    (at_end _ _ (upto (get_sent c.args.first c.chunk_count-count.result) c.next_reply-2.new.flight.sent) c.args.first
    c.args.len c.chunk_count-count.result c.loop-i.i c.loop-i.bytes.items _ _ c.loop-i.invariant.size n is c.write_wanted.ensures
    (c.in_ok-came-2.ensures.talk _ _ c.loop-i.invariant.talk)))

pub returns-clause-sent : goal.returns-clause-sent
returns-clause-sent g c =
    let yes : c.is_wanted.result ≡ true = search rules in
    let is = c.is_wanted.ensures.0 yes in
    let n : c.loop-i.i ≡ c.chunk_count-count.result = search rules in
    reads_sent_up_to _ _ c.args.first c.next_reply-3.new.flight.sent c.chunk_count-count.result (chunk_count c.args.len) _
    c.chunk_count-count.ensures.value c.next_reply-3.ensures.within (c.in_ok-came-3.ensures.talk _ _
    (at_end _ _ (upto (get_sent c.args.first c.chunk_count-count.result) c.next_reply-2.new.flight.sent) c.args.first
    c.args.len c.chunk_count-count.result c.loop-i.i c.loop-i.bytes.items _ _ c.loop-i.invariant.size n is c.write_wanted.ensures
    (c.in_ok-came-2.ensures.talk _ _ c.loop-i.invariant.talk)))

pub returns-clause-ended : goal.returns-clause-ended
returns-clause-ended g c =
    let yes : c.is_wanted.result ≡ true = search rules in
    let is = c.is_wanted.ensures.0 yes in
    let n : c.loop-i.i ≡ c.chunk_count-count.result = search rules in
    close_not_done _ _ _ c.args.first c.args.len c.chunk_count-count.result c.loop-i.bytes.items _ _ c.settled.result
    c.chunk_count-count.ensures.value c.write_wanted-2.ensures (c.in_ok-came-3.ensures.talk _ _
    (at_end _ _ (upto (get_sent c.args.first c.chunk_count-count.result) c.next_reply-2.new.flight.sent) c.args.first
    c.args.len c.chunk_count-count.result c.loop-i.i c.loop-i.bytes.items _ _ c.loop-i.invariant.size n is c.write_wanted.ensures
    (c.in_ok-came-2.ensures.talk _ _ c.loop-i.invariant.talk))) c.settled.ensures.ended

pub returns-clause-waited : goal.returns-clause-waited
returns-clause-waited g c =
    unanswered_by (taken c.in_ok-came-3.came c.next_reply-3.new.reply.items) _ _ _ c.settled.result _ _ c.settled.ensures.ended
    c.in_ok-came-3.ensures.waited (λ w. (c.next_reply-2.new.talk, w))
