-- What a server's turn works on.
use Rattle.std.specs.Prelude.{List, length}
use Rattle.chaos_host.specs.View.{HostView}
use Rattle.file_server.specs.Sessions.{Serving}
use Rattle.file_server.specs.Slots.{given_back}

-- a server of FILE: a host, a session for each of its slots, and a store
pub record Server (S : Type 0) : Type 0 where
  pub host : HostView
  pub sessions : List Serving
  pub store : S

module _ {S : Type 0} where
  abbrev pub server : HostView → List Serving → S → Server S
  server h sessions store = record { host = h; sessions = sessions; store = store }

  -- the files of each slot without a connection were given back
  abbrev pub after_giving_back : Server S → Server S
  after_giving_back s = record s { sessions = given_back s.host (length s.host.slots) s.sessions }

  abbrev pub with_host : Server S → HostView → Server S
  with_host s h = record s { host = h }
