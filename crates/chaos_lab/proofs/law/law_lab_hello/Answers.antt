use Rattle.chaos_lab.proofs.LabHello.{lab_can_settle, labs_can_open, report_comes}
use Rattle.chaos_lab.proofs.LabRounds.{rounds_come}
use Rattle.chaos_lab.proofs.law.law_lab_hello.Goals as goal

pub returns-clause-opening : goal.returns-clause-opening
returns-clause-opening c = labs_can_open

pub returns-clause-progress : goal.returns-clause-progress
returns-clause-progress c = lab_can_settle

pub returns-clause-rounds : goal.returns-clause-rounds
returns-clause-rounds c = rounds_come

pub returns-clause-reports : goal.returns-clause-reports
returns-clause-reports c = report_comes
