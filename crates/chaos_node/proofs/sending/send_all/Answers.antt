use Rattle.std.proofs.Common.{sym, ◌∙◌}
use Rattle.chaos_link.specs.declared.carriage.Carriage.TheVariants.{Two}
use Rattle.chaos_node.proofs.Queue.{each_sent, lot_sent, none_empty, none_goes, none_lent, none_read, told}
use Rattle.chaos_node.proofs.sending.send_all.Goals as goal

pub returns-then-is_none-clause-sends : goal.returns-then-is_none-clause-sends
returns-then-is_none-clause-sends g c =
    let none = none_goes c.args.out.now
    (sym c.front.ensures ∙ none_lent c.front.result c.is_none.result c.is_none.ensures c.if-is_none.true)
    c.args.carriage (told (g.L.Link.queue c.args.link.now) (g.L.Link.asked c.args.link.now)) in
    record {
      sends = none.sends;
      asks = none.asks;
      read =
          none_read c.args.out.now
          (sym c.front.ensures ∙ none_lent c.front.result c.is_none.result c.is_none.ensures c.if-is_none.true)
          c.args.carriage;
    }

pub returns-then-is_none-clause-empty : goal.returns-then-is_none-clause-empty
returns-then-is_none-clause-empty g c =
    none_empty c.args.out.now
    (sym c.front.ensures ∙ none_lent c.front.result c.is_none.result c.is_none.ensures c.if-is_none.true)

pub returns-in-One-clause-sends : goal.returns-in-One-clause-sends
returns-in-One-clause-sends g c =
    let queue = g.L.Link.queue in
    rw c.in-One.is
    (each_sent (queue c.args.link.now) (queue c.send_each.new.link) c.args.out.now.packets c.send_each.ensures.sends
    c.send_each.ensures.asks c.send_each.ensures.read)

pub returns-in-Two-clause-sends : goal.returns-in-Two-clause-sends
returns-in-Two-clause-sends g c =
    let queue = g.L.Link.queue in
    rw c.in-Two.is
    (lot_sent Two (queue c.args.link.now) (queue c.send_loads.new.link) c.args.out.now.packets c.send_loads.ensures.sends
    c.send_loads.ensures.asks c.send_loads.ensures.read)
