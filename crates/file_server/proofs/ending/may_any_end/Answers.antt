use Rattle.std.proofs.Common.{◌<◌, length, add-one, arith}
use Rattle.file_server.proofs.Free.{ends_to}
use Rattle.file_server.proofs.Idle.{ends_nothing_at}
use Rattle.file_server.proofs.ending.may_any_end.Goals as goal

pub slots-preserved : goal.slots-preserved
slots-preserved c =
    let next = c.in-Some.ensures.next in
    let within : c.in-Some.place < length c.args.host.now.slots = next.within in
    record {
      within = omega (arith, within);
      none =
          rw (add-one c.in-Some.place) (
            ends_to c.args.silence c.args.now c.args.sessions.now c.args.host.now c.slots.from c.in-Some.place next.behind
                next.free c.slots.invariant.none,
            ends_nothing_at c.args.silence c.args.now c.args.sessions.now c.args.host.now c.in-Some.place c.in-Some.field-0-1
                c.in-Some.conn.now c.in-Some.ensures.index c.in-Some.ensures.named
                (c.may_end.ensures.on c.if-may_end.false) (c.may_end.ensures.lives c.if-may_end.false),
          );
    }

pub returns : goal.returns
returns c none =
    ends_to c.args.silence c.args.now c.args.sessions.now c.args.host.now c.slots.from (length c.args.host.now.slots)
    c.slots.invariant.within (λ k behind below. c.in_default.ensures.next k behind) c.slots.invariant.none
