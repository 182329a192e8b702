-- Over a clock the moments that are read are those that it shows.
use Rattle.chaos_node.proofs.Reading.{shown_again, shown_more}
use Rattle.chaos_node.proofs.moments.ClockMomentsMoments.next.Goals as goal

pub returns-in-Ok-clause-reads : goal.returns-in-Ok-clause-reads
returns-in-Ok-clause-reads g c = record {
  goes = λ first earlier h. (
    h.0,
    h.1,
    shown_more g.C.ReadableClock.shows c.args.self.now.clock.now first.clock.now c.args.self.now.epoch first.epoch first.last
        c.args.self.now.last c.in-Ok.moment earlier h.0 h.1 h.2 c.in-Ok.ensures.moment,
  );
}

pub returns-in-Err-clause-reads : goal.returns-in-Err-clause-reads
returns-in-Err-clause-reads g c = record {
  goes = λ first earlier h. (
    h.0,
    h.1,
    shown_again (g.C.ReadableClock.shows first.clock.now) first.epoch first.last c.args.self.now.last earlier h.2,
  );
}
