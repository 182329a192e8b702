use Rattle.std.proofs.Common.{Ok, sym}
use Rattle.chaos_link.proofs.Carried.{all_below}
use Rattle.chaos_link.proofs.Either.{read_carried_all, carried_read_all, one_list}
use Rattle.chaos_link.proofs.packets.law_carries2.Goals as goal

pub returns-clause-decided : goal.returns-clause-decided
returns-clause-decided c ps bs small =
    (λ read. carried_read_all (Ok ps) bs (all_below bs small) (sym read), read_carried_all ps bs)

pub returns-clause-one : goal.returns-clause-one
returns-clause-one c = one_list
