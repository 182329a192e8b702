use Rattle.std.proofs.Common.{◌∙◌, ap}
use Rattle.chaos_host.specs.Slot.{named_slot}
use Rattle.chaos_stream.specs.Reading.{peek_of}
use Rattle.chaos_stream.specs.Shown.{sight_of}
use Rattle.chaos_stream.specs.HostReading.{sight_from}
use Rattle.chaos_stream.proofs.HostLooks.{peek_found}
use Rattle.chaos_stream.proofs.host_stream.HostStream.peek.Goals as goal

pub returns-clause-shown : goal.returns-clause-shown
returns-clause-shown c =
    let conn = c.in_ok-conn.field-0.now in
    let s = c.self.inside in
    let whole = c.peek-whole.ensures.shown ∙ ap (λ place. peek_of conn place) c.new.ensures in
    let shown = c.shown_from.ensures ∙ ap (λ sight. sight_from sight s.place) whole in
    rw (← c.self.view_is)
    (peek_found (named_slot c.args.host.now.slots s.id) conn s.place (sight_of c.shown_from.result)
    c.in_ok-conn.ensures shown)
