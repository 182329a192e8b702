use Rattle.std.proofs.Common.{rules}
use Rattle.chaos_file.specs.Store.{change}
use Rattle.chaos_host.specs.Acted.{HostDoes}
use Rattle.chaos_file.specs.ServeAnswer.{IsReported, IsUnreported}
use Rattle.chaos_file.specs.declared.served.Served.TheVariants as served
use Rattle.chaos_file.proofs.ServeSlots.{serves_one}
use Rattle.chaos_file.proofs.Twice.{answered_so}
use Rattle.chaos_file.proofs.session.Session.serve_and_report.Goals as goal

pub returns-in-NotOpen : goal.returns-in-NotOpen
returns-in-NotOpen g c =
    let store = change g.S.Store.contents g.S.Store.may_give g.S.Store.count c.args.store.now c.args.store.now in
    serves_one (IsReported store c.args.self.now c.args.self.now c.clear.new.made)
    (IsUnreported store c.args.self.now c.args.self.now c.clear.new.made)
    (λ acted. HostDoes c.args.host.now 2 acted c.args.host.now c.args.out.now c.args.out.now (served.Ended c.in-NotOpen.state)) c.args.host.now
    c.args.id c.args.at.now.moment (search (rules, c.clear.ensures))

pub returns-in-Nothing : goal.returns-in-Nothing
returns-in-Nothing g c =
    let store = change g.S.Store.contents g.S.Store.may_give g.S.Store.count c.args.store.now c.args.store.now in
    serves_one (IsReported store c.args.self.now c.args.self.now c.clear.new.made)
    (IsUnreported store c.args.self.now c.args.self.now c.clear.new.made)
    (λ acted. HostDoes c.args.host.now 2 acted c.args.host.now c.args.out.now c.args.out.now served.Idle) c.args.host.now
    c.args.id c.args.at.now.moment (search (rules, c.clear.ensures))

pub returns-in-Full : goal.returns-in-Full
returns-in-Full g c =
    let store = change g.S.Store.contents g.S.Store.may_give g.S.Store.count c.args.store.now c.args.store.now in
    serves_one (IsReported store c.args.self.now c.args.self.now c.clear.new.made)
    (IsUnreported store c.args.self.now c.args.self.now c.clear.new.made)
    (λ acted. HostDoes c.args.host.now 2 acted c.args.host.now c.args.out.now c.args.out.now served.NoRoom) c.args.host.now
    c.args.id c.args.at.now.moment (search (rules, c.clear.ensures))

pub returns-in-Command : goal.returns-in-Command
returns-in-Command g c =
    let store = change g.S.Store.contents g.S.Store.may_give g.S.Store.count c.args.store.now c.apply_into.new.store in
    let read = c.read_done-command in
    let wrote = c.write-number in
    let answered =
    answered_so c.args.host.now read.new.self wrote.new.self c.args.id c.as_slice.result.now c.args.at.now.moment
    c.args.out.now read.new.out wrote.new.out _ _ read.ensures wrote.ensures in
    serves_one (IsReported store c.args.self.now c.apply_into.new.self c.apply_into.new.made)
    (IsUnreported store c.args.self.now c.apply_into.new.self c.apply_into.new.made)
    (λ acted. HostDoes c.args.host.now 2 acted wrote.new.self c.args.out.now wrote.new.out served.Replied)
    c.args.host.now c.args.id c.args.at.now.moment (search (rules, answered))
