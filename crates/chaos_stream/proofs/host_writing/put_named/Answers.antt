use Rattle.std.proofs.Common.{◌≡◌, take, drop, length, ap, sym, ◌∙◌, arith}
use Rattle.std.proofs.lemmas.List.{length-take, length-drop, take_rest}
use Rattle.chaos_packet.specs.declared.limits.TheConstants.{MAX_DATA}
use Rattle.chaos_stream.proofs.HostPutting.{midway_first, midway_next, midway_last}
use Rattle.chaos_stream.proofs.host_writing.put_named.Goals as goal

pub loop-taken-init : goal.loop-taken-init
loop-taken-init c = record {
  within = omega arith;
  midway = λ slot there. midway_first c.args.host.now c.args.out.now c.args.bytes.now c.args.now c.args.id slot there;
}

pub loop-taken-preserved : goal.loop-taken-preserved
loop-taken-preserved c =
    let l = c.loop-taken in
    let bytes = c.args.bytes.now in
    let cut : c.first_cut-cut.result.now ≡ take MAX_DATA (drop l.taken bytes) =
    c.first_cut-cut.ensures ∙ ap (λ r. take MAX_DATA r) (take_rest bytes l.taken) in
    let count = ap (λ r. length r) cut in
    record {
      within = omega (arith, count, length-take MAX_DATA (drop l.taken bytes), length-drop l.taken bytes);
      midway =
          λ slot there. midway_next c.args.host.now c.args.out.now bytes c.args.now c.args.id slot there l.host l.out
          l.taken c.first_cut-cut.result.now c.write.new.self c.write.new.out
          cut c.write.ensures.view c.write.ensures.packets c.loop-taken-test.true (sym c.if-can_put.ensures.value)
          (l.invariant.midway slot there);
    }

pub returns-else-can_put-clause-does : goal.returns-else-can_put-clause-does
returns-else-can_put-clause-does c slot there =
    let l = c.loop-taken in
    midway_last c.args.host.now c.args.out.now c.args.bytes.now c.args.now c.args.id slot there l.host l.out l.taken
    (λ _. sym c.if-can_put.ensures.value) (l.invariant.midway slot there)

pub returns-after-loop-taken-clause-does : goal.returns-after-loop-taken-clause-does
returns-after-loop-taken-clause-does c slot there =
    let l = c.loop-taken in
    midway_last c.args.host.now c.args.out.now c.args.bytes.now c.args.now c.args.id slot there l.host l.out l.taken
    (λ less. absurd (omega (arith, less, c.loop-taken-test.false))) (l.invariant.midway slot there)
