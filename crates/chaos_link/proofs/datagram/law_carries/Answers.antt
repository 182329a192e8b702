use Rattle.std.proofs.Common.{Ok, sym}
use Rattle.chaos_link.proofs.Carried.{read_carried, carried_read, all_below}
use Rattle.chaos_link.proofs.datagram.law_carries.Goals as goal

pub returns : goal.returns
returns c p bs small = (λ read. carried_read (Ok p) bs (all_below bs small) (sym read), read_carried p bs)
