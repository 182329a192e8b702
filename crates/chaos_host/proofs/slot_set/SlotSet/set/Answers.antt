use Rattle.std.proofs.Common.{refl, arith}
use Rattle.chaos_host.proofs.SlotSet.{set_here, set_other}
use Rattle.chaos_host.proofs.slot_set.SlotSet.set.Goals as goal

pub returns-clause-here : goal.returns-clause-here
returns-clause-here c =
    set_here c.args.self.now.words c.args.place _ c.args.is_in (omega arith) c.with_bit.ensures.here

pub returns-clause-others : goal.returns-clause-others
returns-clause-others c other apart =
    set_other c.args.self.now.words c.args.place _ _ other (omega arith) refl c.with_bit.ensures.others apart
