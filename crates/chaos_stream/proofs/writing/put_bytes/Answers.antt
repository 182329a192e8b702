use Rattle.std.proofs.Common.{◌≡◌, take, drop, length, ap, sym, ◌∙◌, arith}
use Rattle.std.proofs.lemmas.List.{length-take, length-drop, take_rest}
use Rattle.chaos_packet.specs.declared.limits.TheConstants.{MAX_DATA}
use Rattle.chaos_stream.proofs.Putting.{put_turn, put_ended, is_put_ended, puts_ended}
use Rattle.chaos_stream.proofs.writing.put_bytes.Goals as goal

pub loop-taken-preserved : goal.loop-taken-preserved
loop-taken-preserved c =
    let l = c.loop-taken in
    let bytes = c.args.bytes.now in
    let cut : c.first_cut-cut.result.now ≡ take MAX_DATA (drop l.taken bytes) =
    c.first_cut-cut.ensures ∙ ap (λ r. take MAX_DATA r) (take_rest bytes l.taken) in
    let count = ap (λ r. length r) cut in
    record {
      within = omega (arith, count, length-take MAX_DATA (drop l.taken bytes), length-drop l.taken bytes);
      all =
          put_turn l.conn l.out c.args.now l.taken bytes _ c.first_cut-cut.result.now c.write.new.self c.write.new.out
          cut c.write.ensures.view c.write.ensures.packets (omega arith) (sym c.if-can_put.ensures) l.invariant.all;
    }

pub returns-else-can_put-clause-exact : goal.returns-else-can_put-clause-exact
returns-else-can_put-clause-exact c =
    let l = c.loop-taken in
    let e =
    put_ended l.conn l.out c.args.now l.taken c.args.bytes.now _ (λ _. sym c.if-can_put.ensures) l.invariant.all in
    puts_ended c.args.conn.now c.args.out.now c.args.bytes.now c.args.now l.conn l.out l.taken e

pub returns-else-can_put-clause-sent : goal.returns-else-can_put-clause-sent
returns-else-can_put-clause-sent c =
    let l = c.loop-taken in
    let e =
    put_ended l.conn l.out c.args.now l.taken c.args.bytes.now _ (λ _. sym c.if-can_put.ensures) l.invariant.all in
    (is_put_ended c.args.conn.now c.args.out.now c.args.bytes.now c.args.now l.conn l.out l.taken e).sent

pub returns-after-loop-taken-clause-exact : goal.returns-after-loop-taken-clause-exact
returns-after-loop-taken-clause-exact c =
    let l = c.loop-taken in
    let e =
    put_ended l.conn l.out c.args.now l.taken c.args.bytes.now _
    (λ less. absurd (omega (arith, less, c.loop-taken-test.false))) l.invariant.all in
    puts_ended c.args.conn.now c.args.out.now c.args.bytes.now c.args.now l.conn l.out l.taken e

pub returns-after-loop-taken-clause-sent : goal.returns-after-loop-taken-clause-sent
returns-after-loop-taken-clause-sent c =
    let l = c.loop-taken in
    let e =
    put_ended l.conn l.out c.args.now l.taken c.args.bytes.now _
    (λ less. absurd (omega (arith, less, c.loop-taken-test.false))) l.invariant.all in
    (is_put_ended c.args.conn.now c.args.out.now c.args.bytes.now c.args.now l.conn l.out l.taken e).sent
