use Rattle.chaosd_show.proofs.Laws.{reported_as_carried, reported_as_carried2, refused_by_fault, reported_as_delivered, refused_by_chudp_fault}
use Rattle.chaosd_show.proofs.law.law_report.Goals as goal

pub returns-clause-one : goal.returns-clause-one
returns-clause-one c = reported_as_carried c.law_carries.ensures

pub returns-clause-several : goal.returns-clause-several
returns-clause-several c = reported_as_carried2 c.law_carries2.ensures.decided

pub returns-clause-refused : goal.returns-clause-refused
returns-clause-refused c = refused_by_fault

pub returns-clause-delivered : goal.returns-clause-delivered
returns-clause-delivered c = reported_as_delivered c.law_carries_chudp.ensures.decided

pub returns-clause-refused_chudp : goal.returns-clause-refused_chudp
returns-clause-refused_chudp c = refused_by_chudp_fault
