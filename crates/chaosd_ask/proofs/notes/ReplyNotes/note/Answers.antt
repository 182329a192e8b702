use Rattle.std.proofs.Common.{◌∙◌, sym, ap}
use Rattle.std.specs.Prelude.{option_map}
use Rattle.chaos_file.specs.Reply.{reply_view}
use Rattle.chaosd_ask.proofs.Noted.{handle_short}
use Rattle.chaosd_ask.proofs.notes.ReplyNotes.note.Goals as goal

pub note_said-requires : goal.note_said-requires
note_said-requires c =
    handle_short c.args.reply.now (reply_view c.in-Some.field-0)
    (sym c.read_reply.ensures ∙ ap (option_map reply_view) c.in-Some.is)
