use Rattle.file_net.proofs.Users.{users_are_told}
use Rattle.file_net.proofs.law.law_users.Goals as goal

pub returns : goal.returns
returns c = users_are_told
