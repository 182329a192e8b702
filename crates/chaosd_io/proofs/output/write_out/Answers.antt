use Rattle.std.proofs.Common.{◌≤◌, ◌-◌, length-take, ◌++◌, length, take, drop, sym, ap, subst, ◌∙◌, arith}
use lib.Seq.{take-add, take-take}
use Rattle.std.specs.Io.KnownBytes.{Appends}
use Rattle.std.proofs.KnownBytes.{Appends-trans}
use Rattle.chaosd_io.proofs.Writes.{further}
use Rattle.chaosd_io.proofs.output.write_out.Goals as goal

pub loop-count-preserved : goal.loop-count-preserved
loop-count-preserved g c =
    let count = c.loop-count.count in
    let more = c.in-Ok.more in
    let bytes = c.args.bytes.now in
    let fits : more ≤ length bytes - count =
    omega (arith, c.in-Ok.ensures.some, length-take (length bytes - count) (drop count bytes)) in
    let joined =
    ap (λ l. take count bytes ++ l) (take-take more (length bytes - count) (drop count bytes) fits)
    ∙ sym (take-add count more bytes) in
    record {
      within = omega arith;
      written =
          subst (Appends _ _) joined (Appends-trans _ _ _ _ _ c.loop-count.invariant.written c.in-Ok.ensures.taken);
      goes_on =
          further _ _ _ _ _ (λ e is. absurd cc) c.loop-count.invariant.goes_on c.in-Ok.ensures.interrupted;
    }

pub returns-in-Err-clause-interrupted : goal.returns-in-Err-clause-interrupted
returns-in-Err-clause-interrupted g c =
    further _ _ _ _ _ (λ e is. cc) c.loop-count.invariant.goes_on c.in-Err.ensures.interrupted
