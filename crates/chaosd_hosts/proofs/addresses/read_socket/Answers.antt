-- std's parser reads by std's reader.
use Rattle.std.proofs.Common.{◌∙◌}
use Rattle.chaosd_hosts.proofs.Texts.{socket_parsed}
use Rattle.chaosd_hosts.proofs.addresses.read_socket.Goals as goal

pub returns : goal.returns
returns c = c.ok.ensures.value ∙ socket_parsed c.args.text.now c.parse.result c.parse.ensures.value
