use Rattle.std.proofs.Common.{◌≡◌, Option, Some, None, refl, ap, ◌∙◌}
use Rattle.std.specs.Prelude.{is_some, is_ok}
use Rattle.chaos_conn.specs.View.{ConnView}
use Rattle.chaos_host.specs.declared.slot.Slot.{Slot}
use Rattle.chaos_host.specs.Slot.{named_slot}
use Rattle.chaos_host.specs.View.{look_slot}
use Rattle.chaos_net.proofs.ending.is_named.Goals as goal

look_there : (o : Option Slot) → is_ok (look_slot (λ (conn : ConnView). conn.state) o) ≡ is_some o
look_there None = refl
look_there (Some slot) = refl

pub returns : goal.returns
returns c = c.is_ok.ensures.value ∙ ap is_ok c.state.ensures ∙ look_there (named_slot c.args.host.now.slots c.args.id)
