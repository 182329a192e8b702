use Rattle.std.proofs.Common.{◌∙◌, ap, arith, sym}
use Rattle.chaos_chudp.specs.Chudp.{chudp_form}
use Rattle.chaos_chudp.proofs.Carried.{canonical_only, form_carries, form_canonical, read_carried}
use Rattle.chaos_chudp.proofs.write.write_chudp.Goals as goal

pub returns-clause-exact : goal.returns-clause-exact
returns-clause-exact c =
    c.close.ensures.bytes ∙ ap (chudp_form c.args.to c.args.me) c.write_datagram-end.ensures.exact

pub returns-clause-carried : goal.returns-clause-carried
returns-clause-carried c =
    rw c.close.ensures.bytes
    (form_carries c.args.packet.now c.args.to c.args.me _ (omega (arith, c.ranges.to.fits)) (omega (arith, c.ranges.me.fits))
    c.length_of-bytes.ensures.small c.write_datagram-end.ensures.carried)

pub returns-clause-canonical : goal.returns-clause-canonical
returns-clause-canonical c =
    rw c.close.ensures.bytes
    (form_canonical c.args.packet.now c.args.to c.args.me _ (omega (arith, c.ranges.to.fits)) (omega (arith, c.ranges.me.fits))
    c.length_of-bytes.ensures.small c.write_datagram-end.ensures.carried c.write_datagram-end.ensures.canonical)

pub returns-clause-only : goal.returns-clause-only
returns-clause-only c bs carried canonical =
    canonical_only c.args.packet.now c.args.to c.args.me bs carried canonical ∙ sym (returns-clause-exact c)

pub returns-clause-read : goal.returns-clause-read
returns-clause-read c = read_carried c.args.packet.now c.args.to c.args.me _ (returns-clause-carried c)
