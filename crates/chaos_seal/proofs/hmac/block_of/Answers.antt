use Rattle.std.proofs.Common.{◌≡◌, ◌++◌, take, map, replicate, bit_xor, ap, arith}
use Rattle.std.proofs.lemmas.List.{take_all, map_more}
use Rattle.chaos_seal.proofs.Bytes.{padded_in}
use Rattle.chaos_seal.proofs.hmac.block_of.Goals as goal

pub loop-i-preserved : goal.loop-i-preserved
loop-i-preserved c =
    rw (map_more (bit_xor c.args.pad) c.args.key.now c.loop-i.i 0 (omega (arith, c.loop-i-test.true, c.told-key)))
    (c.update.ensures _ c.loop-i.invariant)

pub returns : goal.returns
returns c =
    let all : take c.loop-i.i c.args.key.now ≡ c.args.key.now =
    take_all c.loop-i.i c.args.key.now (omega (arith, c.loop-i-test.false, c.told-key)) in
    rw (padded_in c.args.pad c.args.key.now, ← ap (λ l. map (bit_xor c.args.pad) l ++ replicate 32 c.args.pad) all)
    (c.update-2.ensures _ c.loop-i.invariant)
