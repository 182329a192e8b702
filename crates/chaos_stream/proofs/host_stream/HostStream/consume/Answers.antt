use Rattle.std.proofs.Common.{◌+◌, ◌∙◌, sym, refl}
use Rattle.chaos_stream.specs.Shown.{sight_of}
use Rattle.chaos_stream.proofs.HostLooks.{consumed_item, consumed_bytes}
use Rattle.chaos_stream.proofs.host_stream.HostStream.consume.Goals as goal

pub returns-then-is_used_up : goal.returns-then-is_used_up
returns-then-is_used_up c =
    let s = c.self.inside in
    let sight = sight_of c.in_ok-peek.field-0 in
    let used = sym c.is_used_up.ensures ∙ c.if-is_used_up.true in
    let shown = rw (← c.self.view_is) at c.in_ok-peek.ensures.shown in
    rw (← c.self.view_is)
    (consumed_item c.args.host.now (record { id = s.id; place = s.place }) (record { id = s.id; place = 0 })
    c.args.count sight c.args.out.now
    c.read_done-done.new.self c.read_done-done.new.out _ used refl c.read_done-done.ensures shown)

pub returns-else-is_used_up : goal.returns-else-is_used_up
returns-else-is_used_up c =
    let s = c.self.inside in
    let sight = sight_of c.in_ok-peek.field-0 in
    let used = sym c.is_used_up.ensures ∙ c.if-is_used_up.false in
    let shown = rw (← c.self.view_is) at c.in_ok-peek.ensures.shown in
    rw (← c.self.view_is)
    (consumed_bytes c.args.host.now (record { id = s.id; place = s.place })
    (record { id = s.id; place = s.place + c.args.count }) c.args.count sight c.args.out.now used refl shown)
