use Rattle.file_copy.proofs.Texts.{text_back, text_lost}
use Rattle.file_copy.proofs.text.law_text.Goals as goal

pub returns-clause-back : goal.returns-clause-back
returns-clause-back c = text_back

pub returns-clause-lost : goal.returns-clause-lost
returns-clause-lost c = text_lost
