use Rattle.file_copy.specs.Copy.{upto}
use Rattle.file_copy.specs.Talk.{Since}
use Rattle.file_copy.specs.Row.{row_command}
use Rattle.file_copy.proofs.window.send_on.Goals as goal

pub returns-clause-talk : goal.returns-clause-talk
returns-clause-talk g c = λ start replies h.
    c.send_more-flight.ensures.talk start replies h
