use Rattle.chaos_file.specs.Store.{change}
use Rattle.chaos_host.specs.Acted.{HostDoes}
use Rattle.chaos_host.specs.Slot.{named_slot, place_of}
use Rattle.chaos_file.proofs.ServeSlots.{reported_so}
use Rattle.chaos_file.proofs.serve_at_host.serve_one.Goals as goal

pub returns : goal.returns
returns g c =
    let done = c.serve_and_report in
    reported_so (change g.S.Store.contents g.S.Store.may_give g.S.Store.count c.args.store.now done.new.store)
    c.args.session.now done.new.self done.new.made
    (λ acted. HostDoes c.args.host.now 2 acted done.new.host c.args.out.now done.new.out done.result)
    c.args.host.now (place_of c.args.id) c.args.now (named_slot c.args.host.now.slots c.args.id) done.ensures
