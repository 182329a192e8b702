use Rattle.chaos_node.proofs.passing.+pass_slots.Given as goal

-- fewer slots are left
abbrev pub decreases-pass_slots : goal.decreases-pass_slots
decreases-pass_slots l = l.slots
