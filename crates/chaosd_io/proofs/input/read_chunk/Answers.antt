use Rattle.std.proofs.Common.{◌≡◌, ◌∙◌, arith}
use Rattle.std.proofs.KnownBytes.{Keeps-refl, Keeps-trans}
use Rattle.std.specs.IoError.{error_kind}
use Rattle.std.specs.declared.io.ErrorKind.TheVariants.{Interrupted}
use Rattle.chaosd_io.proofs.Interruptions.{all_left, one_counted, answered, too_many, failed}
use Rattle.chaosd_io.proofs.input.read_chunk.Goals as goal

pub loop-interruptions-init : goal.loop-interruptions-init
loop-interruptions-init g c = (Keeps-refl _, omega arith, all_left _ _)

pub returns-in-Ok-clause-interrupted : goal.returns-in-Ok-clause-interrupted
returns-in-Ok-clause-interrupted g c =
    answered _ _ _ _ _ _ _ c.in-Ok.is c.read_once.ensures.told c.loop-interruptions.invariant.2
    c.loop-interruptions-test.true

pub loop-interruptions-preserved : goal.loop-interruptions-preserved
loop-interruptions-preserved g c =
    (Keeps-trans _ _ _ c.loop-interruptions.invariant.0 c.in-Err.ensures.bytes, omega (arith, c.loop-interruptions.invariant.1), one_counted _ _ _ _ _ _ _ c.in-Err.is c.read_once.ensures.told c.loop-interruptions.invariant.2)

pub returns-after-loop-interruptions-clause-interrupted : goal.returns-after-loop-interruptions-clause-interrupted
returns-after-loop-interruptions-clause-interrupted g c =
    too_many _ _ _ _ c.loop-interruptions.invariant.2 (omega (arith, c.loop-interruptions-test.false))

pub returns-then-ne-clause-interrupted : goal.returns-then-ne-clause-interrupted
returns-then-ne-clause-interrupted g c =
    failed _ _ _ _ _ _ _ c.in-Err.is other c.read_once.ensures.told c.loop-interruptions.invariant.2
  where
    other : error_kind c.in-Err.error ≡ Interrupted → ⊥
    other same =
        let kind : c.kind.result ≡ Interrupted = c.kind.ensures ∙ same in
        let told = rw kind at c.ne.ensures in
        absurd (cc)
