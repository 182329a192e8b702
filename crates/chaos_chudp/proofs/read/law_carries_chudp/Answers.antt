use Rattle.std.proofs.Common.{Ok, sym}
use Rattle.chaos_link.proofs.Carried.{all_below}
use Rattle.chaos_chudp.specs.Chudp.{sum_in}
use Rattle.chaos_chudp.proofs.Carried.{carried_read, one_delivery, read_carried}
use Rattle.chaos_chudp.proofs.read.law_carries_chudp.Goals as goal

pub returns-clause-decided : goal.returns-clause-decided
returns-clause-decided c p to from bs small = (
  λ read.
      carried_read (Ok (record { packet = p; to = to; from = from; sum = sum_in bs })) bs (all_below bs small) (sym read),
  read_carried p to from bs,
)

pub returns-clause-one : goal.returns-clause-one
returns-clause-one c = one_delivery
