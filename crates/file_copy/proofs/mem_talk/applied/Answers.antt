use Rattle.std.proofs.Common.{◌≡◌, Some, Err, sym, ◌∙◌}
use Rattle.std.proofs.lemmas.Slice.Eq.{bytes_eq-Decides}
use Rattle.chaos_file.specs.declared.error.FileError.TheVariants as e
use Rattle.chaos_file.specs.Answer.{reply_to}
use Rattle.chaos_file.specs.Grammar.{parse_of}
use Rattle.file_copy.proofs.mem_talk.applied.Goals as goal

pub returns-then-eq : goal.returns-then-eq
returns-then-eq c =
    let want : c.apply-reply.result.items ≡ reply_to (parse_of c.args.command.now) (Err e.NoMemory) =
    sym c.as_slice.ensures.value
    ∙ (bytes_eq-Decides c.as_slice.result.now c.as_slice-2.result.now).0 (sym c.eq.ensures ∙ c.if-eq.true)
    ∙ c.as_slice-2.ensures.value ∙ c.want_of.ensures in
    let files : Some c.apply-reply.new.store ≡ Some c.args.store.now =
    c.apply-reply.ensures.kept_files e.NoMemory want in
    (cc, c.apply-reply.ensures.kept e.NoMemory want)
