use Rattle.std.proofs.Common.{sym, ◌∙◌}
use Rattle.chaos_link.specs.Link.{Send}
use Rattle.chaos_link.proofs.Asked.{fuse_blows, fuse_passes}
use Rattle.chaos_link.proofs.fuse.FuseLinkLink.send.Goals as goal

pub returns-then-blows-clause-asked : goal.returns-then-blows-clause-asked
returns-then-blows-clause-asked g c =
    fuse_blows g.L.Link.asked c.args.self.now (Send (record { to = c.args.to_address; bytes = c.args.bytes.now }))
    c.blows.new.self (sym c.blows.ensures.told ∙ c.if-blows.true) (cc)

pub returns-clause-asked : goal.returns-clause-asked
returns-clause-asked g c =
    fuse_passes g.L.Link.asked c.args.self.now (Send (record { to = c.args.to_address; bytes = c.args.bytes.now }))
    c.blows.result _ c.blows.new.self c.send.new.self c.blows.ensures.told c.if-blows.false c.blows.ensures.fuse
    c.self.view_is c.send.ensures.asked
