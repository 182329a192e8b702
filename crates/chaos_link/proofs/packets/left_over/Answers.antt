use Rattle.std.proofs.Common.{◌≡◌, ◌+◌, ◌-◌, ◌*◌, ◌/◌, ◌<◌, ◌∙◌, ap, sym, arith, drop, refl}
use Rattle.chaos_link.specs.Datagram.{words_of}
use Rattle.chaos_link.specs.Packets.{packets_len, packets_fault}
use Rattle.chaos_link.proofs.Several.{fault_goes_on, len_goes_on, fault_here}
use Rattle.chaos_link.proofs.packets.left_over.Goals as goal

pub loop-k-init : goal.loop-k-init
loop-k-init c =
    let all : c.args.number - 0 ≡ c.args.number = omega arith in
    rw all (record { fault = refl; over = omega arith })

pub loop-k-preserved : goal.loop-k-preserved
loop-k-preserved c =
    let left = c.args.number - c.loop-k.k in
    let next : left - 1 ≡ c.args.number - (c.loop-k.k + 1) = omega arith in
    let some : 0 < left = omega arith in
    let rest = c.loop-k.rest.now in
    let after : drop (2 * (8 + (c.in-Ok.count + 1) / 2)) rest ≡ c.split_at.result.1.now =
    sym (c.split_at.ensures.back ∙ ap (λ n. drop n rest) c.packet_bytes.ensures) in
    let fewer : packets_len left (words_of rest)
    ≡ 8 + (c.in-Ok.count + 1) / 2
    + packets_len (c.args.number - (c.loop-k.k + 1)) (words_of c.split_at.result.1.now) =
    len_goes_on left c.in-Ok.count rest some c.in-Ok.ensures.count
    ∙ ap (λ bs. 8 + (c.in-Ok.count + 1) / 2 + packets_len (left - 1) (words_of bs)) after
    ∙ ap (λ n. 8 + (c.in-Ok.count + 1) / 2 + packets_len n (words_of c.split_at.result.1.now)) next in
    record {
      fault =
          c.loop-k.invariant.fault
          ∙ fault_goes_on left (c.loop-k.k + 1) c.in-Ok.count rest some c.in-Ok.ensures.count c.in-Ok.ensures.fault
          ∙ ap (λ bs. packets_fault (left - 1) (c.loop-k.k + 1 + 1) (words_of bs)) after
          ∙ ap (λ n. packets_fault n (c.loop-k.k + 1 + 1) (words_of c.split_at.result.1.now)) next;
      over = omega (arith, c.loop-k.invariant.over, fewer, c.split_at.ensures.back_len, c.packet_bytes.ensures);
    }

pub returns-in-Err-clause-fault : goal.returns-in-Err-clause-fault
returns-in-Err-clause-fault c =
    c.loop-k.invariant.fault
    ∙ fault_here (c.args.number - c.loop-k.k) (c.loop-k.k + 1) (words_of c.loop-k.rest.now) c.in-Err.fault
    (omega arith) c.in-Err.ensures.fault

pub returns-clause-fault : goal.returns-clause-fault
returns-clause-fault c =
    let none : c.args.number - c.loop-k.k ≡ 0 = omega arith in
    c.loop-k.invariant.fault ∙ ap (λ n. packets_fault n (c.loop-k.k + 1) (words_of c.loop-k.rest.now)) none

pub returns-clause-over : goal.returns-clause-over
returns-clause-over c =
    let none : c.args.number - c.loop-k.k ≡ 0 = omega arith in
    let nothing : packets_len (c.args.number - c.loop-k.k) (words_of c.loop-k.rest.now) ≡ 0 =
    ap (λ n. packets_len n (words_of c.loop-k.rest.now)) none in
    omega (arith, c.loop-k.invariant.over, nothing)
