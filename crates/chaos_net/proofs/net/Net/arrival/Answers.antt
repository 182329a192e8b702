use Rattle.std.proofs.Common.{rules, ◌≡◌, Some}
use Rattle.std.specs.Prelude.{slice_get}
use Rattle.std.proofs.lemmas.Option.{gets}
use Rattle.chaos_net.proofs.Sides.{sent_there, tested}
use Rattle.chaos_net.proofs.net.Net.arrival.Goals as goal

pub returns-then-not-may_come-clause-fault : goal.returns-then-not-may_come-clause-fault
returns-then-not-may_come-clause-fault c =
    let there : slice_get c.at.result.now.sent.items c.args.number ≡ Some c.in-Some.kept.now = search (rules, gets) in
    tested c.self.inside c.args.side c.self.view_is c.at-2.ensures c.may_come.ensures c.if-not-may_come.true
    (sent_there c.self.inside c.args.side c.args.number c.self.view_is c.other.ensures c.at.ensures there)

pub returns-clause-kept : goal.returns-clause-kept
returns-clause-kept c =
    let there : slice_get c.at.result.now.sent.items c.args.number ≡ Some c.in-Some.kept.now = search (rules, gets) in
    sent_there c.self.inside c.args.side c.args.number c.self.view_is c.other.ensures c.at.ensures there

pub returns-clause-may : goal.returns-clause-may
returns-clause-may c =
    let there : slice_get c.at.result.now.sent.items c.args.number ≡ Some c.in-Some.kept.now = search (rules, gets) in
    tested c.self.inside c.args.side c.self.view_is c.at-2.ensures c.may_come.ensures c.if-not-may_come.false
    (sent_there c.self.inside c.args.side c.args.number c.self.view_is c.other.ensures c.at.ensures there)
