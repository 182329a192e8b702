use Rattle.chaos_link.proofs.Carried.{all_below}
use Rattle.chaos_chudp.proofs.Carried.{form_carries}
use Rattle.chaos_chudp.proofs.write.law_form.Goals as goal

pub returns : goal.returns
returns c p to from bs t f small carried = form_carries p to from bs t f (all_below bs small) carried
