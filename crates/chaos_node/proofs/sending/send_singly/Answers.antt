use Rattle.std.proofs.Common.{sym, ◌∙◌}
use Rattle.chaos_node.proofs.Queue.{none_empty, none_goes_each, none_lent, none_read_each, none_told_each, packets_of_each, some_told_each, told}
use Rattle.chaos_node.proofs.sending.send_singly.Goals as goal

pub returns-then-is_none-clause-sends : goal.returns-then-is_none-clause-sends
returns-then-is_none-clause-sends g c =
    let none = none_goes_each c.args.out.now
    (sym c.front.ensures ∙ none_lent c.front.result c.is_none.result c.is_none.ensures c.if-is_none.true)
    c.args.carriage (told (g.L.Link.queue c.args.link.now) (g.L.Link.asked c.args.link.now)) in
    record {
      sends = none.sends;
      asks = none.asks;
      read =
          none_read_each c.args.out.now
          (sym c.front.ensures ∙ none_lent c.front.result c.is_none.result c.is_none.ensures c.if-is_none.true)
          c.args.carriage;
    }

pub returns-then-is_none-clause-empty : goal.returns-then-is_none-clause-empty
returns-then-is_none-clause-empty g c =
    none_empty c.args.out.now
    (sym c.front.ensures ∙ none_lent c.front.result c.is_none.result c.is_none.ensures c.if-is_none.true)

pub returns-clause-sends : goal.returns-clause-sends
returns-clause-sends g c =
    record {
      sends = c.send_each.ensures.sends;
      asks = c.send_each.ensures.asks;
      read = c.send_each.ensures.read ∙ sym (packets_of_each c.args.out.now.packets);
    }

pub returns-then-is_none-clause-told : goal.returns-then-is_none-clause-told
returns-then-is_none-clause-told g c =
    none_told_each c.args.out.now
    (sym c.front.ensures ∙ none_lent c.front.result c.is_none.result c.is_none.ensures c.if-is_none.true)

pub returns-clause-told : goal.returns-clause-told
returns-clause-told g c =
    some_told_each c.args.out.now.packets c.front.result c.is_none.result c.is_none.ensures c.if-is_none.false
    c.front.ensures
