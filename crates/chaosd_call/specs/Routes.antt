-- How a line's client calls its server.
use Rattle.std.specs.Prelude.{◌≡◌, None}
use Rattle.chaosd_call.specs.Config.{config_by}
use Rattle.chaosd_line.specs.Framings.{carriage_of}
use Rattle.chaosd_line.specs.declared.ends.Ends.{Ends}
use Rattle.chaosd_line.specs.declared.line.Calling.{Calling}
use Rattle.file_client.specs.declared.route.Route.{Route}

-- From the one end of a call to the other, for the line's contact, by the line's carriage and windows. When what is kept is sent
-- again is measured.
pub record IsRouteOf (calling : Calling) (ends : Ends) (route : Route) : Type 0 where
  pub me : route.me ≡ ends.address
  pub to : route.to ≡ ends.server.address
  pub contact : route.contact ≡ calling.contact.now
  pub carriage : route.carriage ≡ carriage_of calling.framing
  pub config : route.config ≡ config_by calling.window None
