use Rattle.std.proofs.Common.{◌∙◌, ◌++◌, ap, sym}
use Rattle.chaosd_show.specs.Entry.{entry_text, is_refusal}
use Rattle.chaosd_show.proofs.Steps.{put_behind}
use Rattle.chaosd_show.proofs.Versions.{refused_at}
use Rattle.chaosd_show.proofs.entry.put_of_another_version.Goals as goal

pub returns-in_ok-put_fault-in-Err-clause-text : goal.returns-in_ok-put_fault-in-Err-clause-text
unfolding entry_text
returns-in_ok-put_fault-in-Err-clause-text g c =
    put_behind _ _ _ _
    (c.in_ok-put_fault-in-Err.ensures
    ∙ ap (λ e. c.args.out.now ++ entry_text c.args.view e)
    (sym (refused_at c.args.bytes.now c.in-Err.fault c.in-Err.ensures.fault)))

pub returns-in_ok-put_fault-in-Err-clause-refused : goal.returns-in_ok-put_fault-in-Err-clause-refused
returns-in_ok-put_fault-in-Err-clause-refused g c =
    ap is_refusal (sym (refused_at c.args.bytes.now c.in-Err.fault c.in-Err.ensures.fault))
