use Rattle.std.proofs.Common.{sym, ◌∙◌}
use Rattle.chaosd_call.proofs.Contacts.{no_fault}
use Rattle.chaosd_call.proofs.client.contact_of.Goals as goal

pub unreachable-requires : goal.unreachable-requires
unreachable-requires c =
    let well = no_fault c.args.name.now c.requires in
    let bad = rw (c.as_bytes.ensures.value, well) at (sym c.in-Err.is ∙ c.new.ensures) in
    cc
