use Rattle.chaosd_show.proofs.entry.put_fault.Goals as goal

pub returns-in-BadNumber : goal.returns-in-BadNumber
returns-in-BadNumber c = rw c.in-BadNumber.is c.put_line-in-BadNumber.ensures
