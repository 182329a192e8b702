use Rattle.std.proofs.Common.{arith, ap, [], ◌+◌, ◌≡◌}
use Rattle.chaos_file.specs.Views.{command_view}
use Rattle.file_copy.specs.Row.{request_command}
use Rattle.file_copy.specs.Talk.{since_none}
use Rattle.file_copy.proofs.Talks.{asked_one}
use Rattle.file_copy.proofs.Begun.{asked_or_not}
use Rattle.file_copy.proofs.Ended.{received_ok}
use Rattle.file_copy.proofs.Quiet.{known}
use Rattle.file_copy.proofs.window.ask_telling.Goals as goal

pub returns-clause-received : goal.returns-clause-received
returns-clause-received g c =
    let e : c.args.tid + 0 ≡ c.args.tid = omega arith in
    asked_one _ _ _ _ _ (request_command (command_view c.args.command) c.args.tid) c.next_reply-came.new.reply.items
    c.next_reply-came.result
    (ap (request_command (command_view c.args.command)) e)
    (rw (c.new-flight.ensures.received) at c.next_reply-came.ensures.asked) c.next_reply-came.ensures.within
    ((rw (c.new-flight.ensures.sent) at c.next_reply-came.ensures.talk) c.args.talk.now [] (since_none _))

pub returns-clause-sent : goal.returns-clause-sent
returns-clause-sent g c =
    let e : c.args.tid + 0 ≡ c.args.tid = omega arith in
    asked_or_not _ _ _ _ (request_command (command_view c.args.command) c.args.tid) c.next_reply-came.new.reply.items
    c.next_reply-came.result
    (ap (request_command (command_view c.args.command)) e)
    c.next_reply-came.ensures.within
    ((rw (c.new-flight.ensures.sent) at c.next_reply-came.ensures.talk) c.args.talk.now [] (since_none _))
    ((rw (c.new-flight.ensures.sent) at c.next_reply-came.ensures.fault) c.args.talk.now [] (since_none _))

pub returns-clause-all : goal.returns-clause-all
returns-clause-all g c =
    received_ok _ _ _ c.next_reply-came.new.reply.items c.next_reply-came.result
    ((rw (c.new-flight.ensures.sent) at c.next_reply-came.ensures.talk) c.args.talk.now [] (since_none _))

pub returns-clause-known : goal.returns-clause-known
returns-clause-known g c =
    let e : c.args.tid + 0 ≡ c.args.tid = omega arith in
    known _ _ _ c.next_reply-came.new.flight.sent _ (request_command (command_view c.args.command) c.args.tid)
    c.next_reply-came.new.reply.items c.next_reply-came.result (ap (request_command (command_view c.args.command)) e)
    c.next_reply-came.ensures.within (λ h. grind (arith, h)) (λ h. grind (arith, h))
    ((rw (c.new-flight.ensures.sent) at c.next_reply-came.ensures.talk) c.args.talk.now [] (since_none _))
