-- Whom `ask` asks, and how.
use Rattle.std.specs.Prelude.{◌≡◌, ℕ, if◌then◌else◌, is_some}
use Rattle.chaos_link.specs.Peers.{PeersView, socket_of}
use Rattle.chaos_conn.specs.declared.limits.TheConstants.{USUAL_WINDOW}
use Rattle.chaosd_ask.specs.declared.limits.TheConstants.{NOBODY}
use Rattle.chaosd_call.specs.Config.{config_by}
use Rattle.chaosd_line.specs.Framings.{carriage_of}
use Rattle.chaosd_line.specs.declared.ends.AskEnds.{AskEnds}
use Rattle.chaosd_line.specs.declared.line.Ask.{Ask}
use Rattle.file_client.specs.declared.route.Route.{Route}

-- the host that `ask` asks: this one where it is a peer or there is a bridge, else one that nobody has
abbrev pub asked_host : ℕ → PeersView → ℕ
asked_host to peers = if is_some (socket_of to peers) then to else NOBODY

-- From the host of an `ask` to the host that it asks, for the line's contact, by its carriage. The time to send again is the
-- line's, or the least time where the line gives none.
pub record IsAskedBy (line : Ask) (ends : AskEnds) (route : Route) : Type 0 where
  pub me : route.me ≡ ends.address
  pub to : route.to ≡ asked_host ends.to ends.peers
  pub contact : route.contact ≡ line.contact.now
  pub carriage : route.carriage ≡ carriage_of line.framing
  pub config : route.config ≡ config_by USUAL_WINDOW line.retransmit
