use Rattle.std.proofs.Common.{◌∙◌, sym}
use Rattle.file_client.proofs.Talking.{asks_called, talks_called}
use Rattle.file_client.proofs.client.Client.call.Goals as goal

pub returns-clause-talk : goal.returns-clause-talk
returns-clause-talk g c =
    talks_called _ _ _ _ _ _ _ c.connect.result (sym c.has_connection.ensures ∙ c.if-has_connection.false)
    c.connect.ensures.well

pub returns-clause-asked : goal.returns-clause-asked
returns-clause-asked g c =
    asks_called _ _ _ _ _ _ _ c.connect.result (sym c.has_connection.ensures ∙ c.if-has_connection.false)
    c.connect.ensures.well
