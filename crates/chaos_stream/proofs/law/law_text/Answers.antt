use Rattle.chaos_stream.proofs.TextLaw.{text_begins, text_and_part_begin, looks_follow_text}
use Rattle.chaos_stream.proofs.law.law_text.Goals as goal

pub returns-clause-items : goal.returns-clause-items
returns-clause-items c = text_begins

pub returns-clause-part : goal.returns-clause-part
returns-clause-part c = text_and_part_begin

pub returns-clause-looks : goal.returns-clause-looks
returns-clause-looks c = looks_follow_text
