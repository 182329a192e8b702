use Rattle.file_net.proofs.Events.{serving_is_event}
use Rattle.file_net.proofs.law.law_serving.Goals as goal

pub returns : goal.returns
returns g c = serving_is_event g.S.Store.contents g.S.Store.may_give g.S.Store.count
