use Rattle.std.proofs.Common.{◌∙◌, rules, sym}
use Rattle.chaos_link.proofs.Carried.{read_carried}
use Rattle.chaos_link.proofs.Canon.{carried_spelling, canonical_spelling, canonical_only}
use Rattle.chaos_link.proofs.encode.write_datagram.Goals as goal

pub returns-clause-exact : goal.returns-clause-exact
returns-clause-exact c = search rules

pub returns-clause-carried : goal.returns-clause-carried
returns-clause-carried c = rw (returns-clause-exact c) (carried_spelling c.args.packet.now c.put_packet.ensures.spelled)

pub returns-clause-canonical : goal.returns-clause-canonical
returns-clause-canonical c =
    rw (returns-clause-exact c) (canonical_spelling c.args.packet.now c.put_packet.ensures.zero)

pub returns-clause-only : goal.returns-clause-only
returns-clause-only c bs carried canonical =
    canonical_only c.args.packet.now bs carried canonical ∙ sym (returns-clause-exact c)

pub returns-clause-read : goal.returns-clause-read
returns-clause-read c = read_carried c.args.packet.now _ (returns-clause-carried c)
