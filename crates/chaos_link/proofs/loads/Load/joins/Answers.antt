use Rattle.std.proofs.Common.{◌≡◌, ◌∙◌, ap}
use Rattle.chaos_link.specs.Loads.{joins, load_in}
use Rattle.chaos_link.proofs.Built.{in_bytes}
use Rattle.chaos_link.proofs.loads.Load.joins.Goals as goal

pub returns : goal.returns
returns c =
    let s = c.self.inside in
    let p = c.args.packet.now in
    let to : p.dst ≡ s.to = cc (ap (λ q. q.dst) c.packet.view_is) in
    in_bytes (load_in s.end s.bytes) p s.to s.end c.bytes_of.result s.bytes c.self.invariant c.bytes_of.ensures.bytes to
    (λ eight. c.if-from-eq-MAX_PACKETS.false (c.from.ensures ∙ eight))
    ∙ ap (λ load. joins load p) c.self.view_is
