use Rattle.std.proofs.Common.{◌∙◌, ap, arith, length-take, length-take-le, take}
use Rattle.chaos_seal.proofs.Answered.{hello_long, opened_so, payload_long}
use Rattle.chaos_seal.proofs.Changed.{keeps_sealing, others_same, refused_same}
use Rattle.chaos_seal.proofs.seals.Seals.open.Goals as goal

pub lift-requires-clause-long : goal.lift-requires-clause-long
lift-requires-clause-long c =
    let (long, is) =
    payload_long c.args.self.now c.take-opened.new.self (take c.args.count c.args.buffer.now) c.in-Payload.field-0
    (rw c.in-Payload.is at c.take-opened.ensures) in
    omega (arith, long, length-take c.args.count c.args.buffer.now)

pub returns-in-Payload-clause-only : goal.returns-in-Payload-clause-only
returns-in-Payload-clause-only c p h payload comes =
    opened_so c.args.self.now c.take-opened.new.self (take c.args.count c.args.buffer.now) p h payload c.take-opened.result comes
    c.take-opened.ensures

pub returns-in-Payload-clause-payload : goal.returns-in-Payload-clause-payload
returns-in-Payload-clause-payload c n payload =
    let (long, is) =
    payload_long c.args.self.now c.take-opened.new.self (take c.args.count c.args.buffer.now) n
    (rw payload at c.take-opened.ensures) in
    ap (λ m. take m c.lift.new.buffer) is ∙ c.lift.ensures

pub returns-in_default-clause-only : goal.returns-in_default-clause-only
returns-in_default-clause-only c p h payload comes =
    opened_so c.args.self.now c.take-opened.new.self (take c.args.count c.args.buffer.now) p h payload c.take-opened.result comes
    c.take-opened.ensures

pub returns-in_default-clause-longer : goal.returns-in_default-clause-longer
returns-in_default-clause-longer c to session asks =
    let longer =
    hello_long c.args.self.now c.take-opened.new.self (take c.args.count c.args.buffer.now) to session
    (rw asks at c.take-opened.ensures) in
    omega (arith, longer, length-take c.args.count c.args.buffer.now)

pub returns-in-Payload-clause-refused : goal.returns-in-Payload-clause-refused
returns-in-Payload-clause-refused c fault refused other =
    refused_same c.args.self.now c.take-opened.new.self (take c.args.count c.args.buffer.now) fault
    (rw refused at c.take-opened.ensures) other

pub returns-in-Payload-clause-others : goal.returns-in-Payload-clause-others
returns-in-Payload-clause-others c address other =
    others_same c.args.self.now c.take-opened.new.self (take c.args.count c.args.buffer.now) c.take-opened.result address
    c.take-opened.ensures other

pub returns-in-Payload-clause-keeps : goal.returns-in-Payload-clause-keeps
returns-in-Payload-clause-keeps c =
    keeps_sealing c.args.self.now c.take-opened.new.self (take c.args.count c.args.buffer.now) c.take-opened.result
    c.take-opened.ensures

pub returns-in_default-clause-refused : goal.returns-in_default-clause-refused
returns-in_default-clause-refused c fault refused other =
    refused_same c.args.self.now c.take-opened.new.self (take c.args.count c.args.buffer.now) fault
    (rw refused at c.take-opened.ensures) other

pub returns-in_default-clause-others : goal.returns-in_default-clause-others
returns-in_default-clause-others c address other =
    others_same c.args.self.now c.take-opened.new.self (take c.args.count c.args.buffer.now) c.take-opened.result address
    c.take-opened.ensures other

pub returns-in_default-clause-keeps : goal.returns-in_default-clause-keeps
returns-in_default-clause-keeps c =
    keeps_sealing c.args.self.now c.take-opened.new.self (take c.args.count c.args.buffer.now) c.take-opened.result
    c.take-opened.ensures

pub returns-in-Payload-clause-shorter : goal.returns-in-Payload-clause-shorter
returns-in-Payload-clause-shorter c n payload =
    let (long, is) =
    payload_long c.args.self.now c.take-opened.new.self (take c.args.count c.args.buffer.now) n
    (rw payload at c.take-opened.ensures) in
    omega (arith, long, length-take-le c.args.count c.args.buffer.now (omega (arith, c.requires, c.told-buffer)))
