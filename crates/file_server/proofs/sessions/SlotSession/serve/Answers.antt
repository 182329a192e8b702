use Rattle.std.proofs.Common.{◌≡◌, ap, ◌∙◌, rules}
use Rattle.chaos_file.specs.Store.{change}
use Rattle.file_server.specs.Logged.{logged_made, report_use}
use Rattle.file_server.specs.Serve.{serving_after}
use Rattle.file_server.specs.Sessions.{Serving, serving_of}
use Rattle.file_server.proofs.Logged.{logged_so}
use Rattle.file_server.proofs.Relation.{kept_so}
use Rattle.file_server.proofs.sessions.SlotSession.serve.Goals as goal
use Rattle.file_server.proofs.sessions.SlotSession.serve.Goals.{then-ne, else-ne, in-Eof, in-Replied, in_default, in-Some, in_default-made}

pub returns : goal.returns
returns g c =
    let store = change g.S.Store.contents g.S.Store.may_give g.S.Store.count c.args.store.now c.serve_and_report-served.new.store in
    let done = c.serve_and_report-served in
    let entries = g.G.Log.logged c.args.log.now in
    let entries' = g.G.Log.logged c.match-made.log in
    let found : c.if-ne.self ≡ serving_of c.args.id c.args.at.now.moment c.args.self.now =
    elim c.if-ne.branch [ then-ne w ↦ search rules | else-ne w ↦ search rules ] in
    let turned = c.self-2.view_is ∙ found in
    let logged : entries' ≡ logged_made c.peer_of-peer.result _ done.new.made entries =
    elim c.match-made.branch [ in-Some w ↦ search rules | in_default-made w ↦ search rules ] in
    logged_so store entries entries' c.peer_of-peer.result _ done.new.made c.args.at.now.moment c.args.id
    (serving_of c.args.id c.args.at.now.moment c.args.self.now) _ c.args.host.now done.new.host c.args.out.now
    done.new.out c.peer_of-peer.ensures logged
    (kept_so (report_use store done.new.made)
    (serving_of c.args.id c.args.at.now.moment c.args.self.now) _ done.new.self
    c.args.host.now c.args.id c.args.at.now.moment done.new.host c.args.out.now done.new.out done.result
    (elim c.match-served.branch [ in-Eof w ↦ search rules | in-Replied w ↦ search rules | in_default w ↦ search rules ]
    ∙ ap (λ (s : Serving). serving_after s done.new.self done.result) turned)
    (rw (← c.deref_mut-session.ensures.value ∙ ap (λ (s : Serving). s.session) turned) done.ensures))
