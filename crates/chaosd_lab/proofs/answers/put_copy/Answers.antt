use Rattle.std.proofs.Common.{rules, ◌≡◌, ◌∙◌, ◌++◌, [], ◌∷◌, codes, ap, Result, Ok, Err}
use Rattle.std.specs.Prelude.{OnOk}
use Rattle.std.specs.Fmt.{decimal}
use Rattle.chaosd_lab.specs.Answers.{copy_line, op_name}
use Rattle.chaosd_lab.proofs.Copies.{line_put}
use Rattle.chaosd_lab.proofs.answers.put_copy.Goals as goal

on_ok : {X E : Type 0} (r : Result X E) (P Q : Type 0) → (P → Q) → OnOk r P → OnOk r Q
on_ok (Ok x) P Q f p = f p
on_ok (Err e) P Q f p = tt

-- the parts are the line
pub returns : goal.returns
returns c =
    let copy = c.args.copy.now in
    let op : c.op.result ≡ copy.packet.op = search rules in
    let num : c.put_pair.inside.0 ≡ copy.packet.num = search rules in
    let ack : c.put_pair-2.inside.0 ≡ copy.packet.ack = search rules in
    on_ok c.put_pair-3.result
    (c.put_pair-3.new.out
    ≡ c.put_op_and_num.new.out ++ decimal c.put_pair.inside.0 ++ codes " ack " ++ decimal c.put_pair-2.inside.0 ++ 10 ∷ [])
    (c.put_pair-3.new.out ≡ c.args.out.now ++ copy_line c.args.place copy)
    (λ e. e
    ∙ (λ j. c.put_op_and_num.new.out ++ decimal (num j) ++ codes " ack " ++ decimal (ack j) ++ 10 ∷ [])
    ∙ line_put c.args.out.now c.put.new.self c.put_decimal.new.out c.put_sender.new.out c.put_op_and_num.new.out
    c.args.place copy c.in_ok-put.ensures.taken c.in_ok-put_decimal.ensures c.in_ok-put_sender.ensures
    (c.in_ok-put_op_and_num.ensures ∙ ap (λ o. c.put_sender.new.out ++ op_name o ++ codes " num ") op))
    c.put_pair-3.ensures
