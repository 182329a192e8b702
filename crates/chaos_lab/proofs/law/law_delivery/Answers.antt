use Rattle.chaos_lab.proofs.DeliveryLaw.{beginning, acknowledged, receipted, some_missing, room, arrives, arrivals_stay, items_stay, reads, in_turn}
use Rattle.chaos_lab.proofs.Total.{step_exists}
use Rattle.chaos_lab.proofs.law.law_delivery.Goals as goal

pub returns-clause-beginning : goal.returns-clause-beginning
returns-clause-beginning c = beginning

pub returns-clause-acknowledged : goal.returns-clause-acknowledged
returns-clause-acknowledged c = acknowledged

pub returns-clause-receipted : goal.returns-clause-receipted
returns-clause-receipted c = receipted

pub returns-clause-first_missing : goal.returns-clause-first_missing
returns-clause-first_missing c = some_missing

pub returns-clause-room : goal.returns-clause-room
returns-clause-room c = room

pub returns-clause-arrives : goal.returns-clause-arrives
returns-clause-arrives c = arrives

pub returns-clause-arrivals_stay : goal.returns-clause-arrivals_stay
returns-clause-arrivals_stay c = arrivals_stay

pub returns-clause-items_stay : goal.returns-clause-items_stay
returns-clause-items_stay c = items_stay

pub returns-clause-reads : goal.returns-clause-reads
returns-clause-reads c = reads

pub returns-clause-in_turn : goal.returns-clause-in_turn
returns-clause-in_turn c = in_turn

pub returns-clause-happens : goal.returns-clause-happens
returns-clause-happens c = step_exists
