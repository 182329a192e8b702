use Rattle.std.proofs.Common.{rules, refl, ◌≡◌, None, ◌≤◌, [], ◌∷◌}
use Rattle.std.specs.Fmt.{decimal}
use Rattle.chaos_file.specs.declared.limits.TheConstants.{MAX_FILE}
use Rattle.chaos_file.specs.Command.{OpenRead}
use Rattle.chaos_file.specs.Spelling.{spelling_of}
use Rattle.file_copy.specs.Talk.{Since, taken}
use Rattle.file_copy.specs.Row.{file_handle}
use Rattle.file_copy.proofs.Gets.{get_done, get_not_opened, get_not_read, get_reading, no_length}
use Rattle.file_copy.proofs.Joined.{done_then}
use Rattle.file_copy.proofs.Talks.{wanted_received}
use Rattle.file_copy.proofs.Ended.{unless, unless_done}
use Rattle.file_copy.proofs.get.get_file.Goals as goal

pub returns-in_default-clause-ended : goal.returns-in_default-clause-ended
returns-in_default-clause-ended g c =
    let none : c.opened_length.result ≡ None = search rules in
    get_not_opened _ _ c.args.first _ _ _ c.refusal.result
    (no_length c.opened_length.result _ _ c.opened_length.ensures.all none) c.in_ok-came.ensures.all
    (unless c.refusal.result _ c.refusal.ensures)

pub returns-clause-done : goal.returns-clause-done
returns-clause-done g c =
    done_then c.read_all.result _ _ (λ p. get_done _ (g.T.Talk.talked c.ask_one.new.talk) _ c.args.first c.in-Some.len
    c.args.path.now c.read_all.new.bytes.items p.0
    (wanted_received
    (λ x. Since (g.T.Talk.talked c.args.talk.now) (g.T.Talk.talked c.ask_one.new.talk)
    (spelling_of (decimal c.args.first) file_handle (OpenRead c.args.path.now) ∷ []) (x ∷ []))
    (taken c.in_ok-came.came c.ask_one.new.reply.items) _ _ c.in-Some.ensures.is.1 refl c.in_ok-came.ensures.received) p.1)
    c.read_all.ensures.done

pub returns-clause-ended : goal.returns-clause-ended
returns-clause-ended g c =
    let fits : c.in-Some.len ≤ MAX_FILE = search rules in
    unless_done c.read_all.result _ _ (λ end h. get_not_read _ (g.T.Talk.talked c.ask_one.new.talk) _ c.args.first c.in-Some.len
    c.read_all.new.bytes.items _ end fits
    (wanted_received
    (λ x. Since (g.T.Talk.talked c.args.talk.now) (g.T.Talk.talked c.ask_one.new.talk)
    (spelling_of (decimal c.args.first) file_handle (OpenRead c.args.path.now) ∷ []) (x ∷ []))
    (taken c.in_ok-came.came c.ask_one.new.reply.items) _ _ c.in-Some.ensures.is.1 refl c.in_ok-came.ensures.received) h)
    c.read_all.ensures.ended

pub returns-clause-begun : goal.returns-clause-begun
returns-clause-begun g c =
    let fits : c.in-Some.len ≤ MAX_FILE = search rules in
    get_reading _ _ _ c.args.first c.in-Some.len c.args.path.now _ fits
    (wanted_received
    (λ x. Since (g.T.Talk.talked c.args.talk.now) (g.T.Talk.talked c.ask_one.new.talk)
    (spelling_of (decimal c.args.first) file_handle (OpenRead c.args.path.now) ∷ []) (x ∷ []))
    (taken c.in_ok-came.came c.ask_one.new.reply.items) _ _ c.in-Some.ensures.is.1 refl c.in_ok-came.ensures.received)
    c.read_all.ensures.sent
