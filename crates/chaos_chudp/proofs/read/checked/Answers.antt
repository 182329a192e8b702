use Rattle.std.proofs.Common.{◌≡◌, ◌-◌, length, take, drop, refl}
use Rattle.chaos_chudp.specs.Chudp.{chudp_fault, fault_between}
use Rattle.chaos_chudp.proofs.Carried.{bad_sum, at_words}
use Rattle.chaos_chudp.proofs.read.checked.Goals as goal

pub returns-then-checksum_of-ne0-clause-fault : goal.returns-then-checksum_of-ne0-clause-fault
returns-then-checksum_of-ne0-clause-fault c =
    bad_sum c.args.bytes.now _ c.if-bytes-gt-LINK_ROOM.false c.if-bytes-ne1.false c.if-bytes-ne1-2.false
    c.if-bytes.false c.if-bytes-eq1.false c.checksum_of.ensures c.if-checksum_of-ne0.true

pub returns-clause-fault : goal.returns-clause-fault
returns-clause-fault c =
    let words : chudp_fault c.args.bytes.now ≡ fault_between (take (length c.args.bytes.now - 6 - 4) (drop 4 c.args.bytes.now)) =
    at_words c.args.bytes.now _ _ c.if-bytes-gt-LINK_ROOM.false c.if-bytes-ne1.false c.if-bytes-ne1-2.false
    c.if-bytes.false c.if-bytes-eq1.false c.checksum_of.ensures c.if-checksum_of-ne0.false refl in
    rw words c.words_checked.ensures.fault
