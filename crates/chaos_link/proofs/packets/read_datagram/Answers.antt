use Rattle.std.proofs.Common.{◌≡◌, ◌+◌, ◌≤◌, ◌++◌, ◌∷◌, [], ◌∙◌, List, length, drop, slice_get, ap, ap₂, sym, arith, Ok, None, length-drop, length-append}
use Rattle.chaos_packet.specs.Packet.{PacketView}
use Rattle.chaos_link.proofs.Either.{carried_read_all, read_carried_all, none_carried_as, all_taken, one_taken, none_taken, same_lists, ok}
use Rattle.chaos_link.proofs.packets.read_datagram.Goals.{in-Some, in_default}
use Rattle.chaos_link.proofs.packets.read_datagram.Goals as goal

pub returns-in_err-left-clause-only : goal.returns-in_err-left-clause-only
returns-in_err-left-clause-only c packets carried =
    none_carried_as _ _ packets c.args.bytes.now _ (sym c.in_err-left.ensures.exact) carried

pub returns-clause-exact : goal.returns-clause-exact
returns-clause-exact c =
    all_taken c.args.bytes.now c.loop-turn.packets.items c.loop-turn.left c.loop-turn.invariant.read
    (omega (arith, c.loop-turn.invariant.few, c.loop-turn-test.false))

pub returns-clause-carried : goal.returns-clause-carried
returns-clause-carried c =
    carried_read_all (Ok c.loop-turn.packets.items) c.args.bytes.now (λ i. omega (arith, c.type_inv.bytes i))
    (sym (returns-clause-exact c))

pub returns-clause-only : goal.returns-clause-only
returns-clause-only c packets carried =
    let same =
    same_lists c.loop-turn.packets.items packets
    (sym (returns-clause-exact c) ∙ read_carried_all packets c.args.bytes.now carried) in
    ap (λ (xs : List PacketView). Ok (record { items = xs })) same

pub loop-turn-preserved : goal.loop-turn-preserved
loop-turn-preserved c =
    let left = c.loop-turn.left in
    let items = c.loop-turn.packets.items in
    let rest : c.next.new.self ≡ drop 1 left = c.next.ensures.rest in
    let fewer : length c.next.new.self + (c.loop-turn._turn + 1) ≤ 8 =
    omega (arith, ap length rest, length-drop 1 left, c.loop-turn.invariant.few, c.loop-turn-test.true) in
    elim c.match-next.branch [
      | in-Some w ↦
          let pushed : c.match-next.packets.items ≡ items ++ w.in-Some.packet ∷ [] =
          ap (λ v. v.items) w.packets-is ∙ w.push.ensures.items in
          record {
            read =
                c.loop-turn.invariant.read
                ∙ ap ok
                (one_taken items left w.in-Some.packet w.in-Some.ensures.packet
                ∙ ap₂ (λ xs ys. xs ++ ys) (sym pushed) (sym rest));
            taken =
                omega
                (arith, ap length pushed, length-append items (w.in-Some.packet ∷ []), c.loop-turn.invariant.taken);
            few = fewer;
          }
      | in_default w ↦
          let none : None ≡ slice_get left 0 = w.in_default.ensures.packet in
          let same : c.match-next.packets.items ≡ items = ap (λ v. v.items) w.packets-is in
          record {
            read =
                c.loop-turn.invariant.read
                ∙ ap ok (ap₂ (λ xs ys. xs ++ ys) (sym same) (none_taken left none ∙ sym rest));
            taken = omega (arith, ap length same, c.loop-turn.invariant.taken);
            few = fewer;
          }
    ]
