use Rattle.std.proofs.Common.{◌≡◌, ◌∙◌, ◌++◌, true, length, take, drop, replicate, ap, ap₂, refl, sym}
use Rattle.std.proofs.lemmas.List.{take_at}
use Rattle.chaos_chudp.specs.Chudp.{chudp_form}
use Rattle.chaos_chudp.proofs.Asked.{form_sent, none_sent}
use Rattle.chaos_chudp.proofs.link.ChudpLinkLink.send.Goals as goal

pub returns-then-not-is_plain-clause-asked : goal.returns-then-not-is_plain-clause-asked
returns-then-not-is_plain-clause-asked g c =
    none_sent g.L.Link.asked c.args.self.now c.args.to_address c.args.bytes.now
    (λ sound. let yes : c.is_plain.result ≡ true = c.is_plain.ensures.plain.1 sound in cc (yes, c.if-not-is_plain.true))

pub returns-clause-asked : goal.returns-clause-asked
returns-clause-asked g c =
    let bytes = c.args.bytes.now in
    let rest = drop (length bytes) (replicate 514 0) in
    rw (sym c.self.view_is)
    (form_sent g.L.Link.asked (record { inner = c.self.inside.inner; me = c.self.inside.me; hops = c.self.inside.hops })
    (record { inner = c.send.new.self; me = c.self.inside.me; hops = c.self.inside.hops }) refl refl
    c.args.to_address bytes _ (c.is_plain.ensures.plain.0 c.if-not-is_plain.false)
    (c.close-end.ensures.bytes
    ∙ ap₂ (λ h bs. chudp_form h c.self.inside.me bs) c.next-hop.ensures
    (ap (λ l. take (length bytes) (l ++ rest)) c.copy_from_slice.ensures.after ∙ take_at bytes rest (length bytes) refl))
    c.send.ensures.asked)
