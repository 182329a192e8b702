-- A text may be cut before and behind a blank, which is ASCII.
use Rattle.std.proofs.lemmas.Str.{IsCharBoundary-after_ascii, IsCharBoundary-before_ascii}
use Rattle.chaosd_hosts.proofs.Cut.{blank_at}
use Rattle.chaosd_hosts.proofs.fields.cut_at_blank.Goals as goal

pub range-requires-clause-end_boundary : goal.range-requires-clause-end_boundary
range-requires-clause-end_boundary c =
    let at = blank_at c.args.text.now c.in-Some.at c.in-Some.ensures in
    IsCharBoundary-before_ascii c.args.text.now c.in-Some.at at.0 at.1

pub range_from-requires : goal.range_from-requires
range_from-requires c =
    let at = blank_at c.args.text.now c.in-Some.at c.in-Some.ensures in
    λ _. IsCharBoundary-after_ascii c.args.text.now c.in-Some.at c.utf8.text at.0 at.1
