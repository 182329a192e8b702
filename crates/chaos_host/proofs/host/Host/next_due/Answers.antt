use Rattle.chaos_host.proofs.NextDue.{tells}
use Rattle.chaos_host.proofs.host.Host.next_due.Goals as goal

pub returns : goal.returns
returns c now fits =
    let told = rw c.deref.ensures.value at (c.next_of.ensures now fits) in
    rw (← c.self.view_is) (tells _ now c.next_of.result told)
