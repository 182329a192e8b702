use Rattle.std.proofs.Common.{◌∙◌, ◌++◌, ap, arith, refl, take}
use Rattle.chaos_seal.proofs.Parts.{put_together}
use Rattle.chaos_seal.proofs.form.write_sealed.Goals as goal

pub returns-clause-sealed : goal.returns-clause-sealed
returns-clause-sealed c =
    put_together c.args.key.now c.args.head c.args.payload.now _ _ _ _ _ _ _ _ _ _
    (record { to = omega arith; from = omega arith; session = omega arith; peer = omega arith; counter = omega arith })
    refl c.put-at.ensures.bytes
    (c.put-at-2.ensures.bytes ∙ ap (λ l. take c.put-at.result c.put-at.new.room ++ l) c.to_be_bytes.ensures)
    (c.put-at-3.ensures.bytes ∙ ap (λ l. take c.put-at-2.result c.put-at-2.new.room ++ l) c.to_be_bytes-2.ensures)
    (c.put-at-4.ensures.bytes ∙ ap (λ l. take c.put-at-3.result c.put-at-3.new.room ++ l) c.to_be_bytes-3.ensures)
    (c.put-at-5.ensures.bytes ∙ ap (λ l. take c.put-at-4.result c.put-at-4.new.room ++ l) c.to_be_bytes-4.ensures)
    (c.put-at-6.ensures.bytes ∙ ap (λ l. take c.put-at-5.result c.put-at-5.new.room ++ l) c.to_be_bytes-5.ensures)
    c.put-at-7.ensures.bytes c.tag-tag.ensures c.put.ensures.bytes
