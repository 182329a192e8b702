-- What contracts see of one end of a connection.
use Rattle.std.specs.Prelude.{◌≡◌, ℕ, ◌*◌, ◌≤◌, max, Bool, false, Option, None}
use Rattle.chaos_window.specs.Send.{SendView, clear_send}
use Rattle.chaos_window.specs.Receive.{ReceiveView, clear_receive}
use Rattle.chaos_conn.specs.declared.state.State.{State}
use Rattle.chaos_conn.specs.declared.state.State.TheVariants.{Inactive}
use Rattle.chaos_conn.specs.declared.state.End.{End}
use Rattle.chaos_conn.specs.Config.{ConfigView}

-- The state; both ends, and whether the peer's index is known; whether this end made the request, and the request's
-- number; the configuration; the moments of the last call, of the last packet heard, of the last sending again and of
-- the last probe; how many items were read since the peer was told; and both windows.
pub record ConnView : Type 0 where
  pub state : State
  pub me : End
  pub peer : ℕ
  pub peer_index : Option ℕ
  pub asked : Bool
  pub request : ℕ
  pub config : ConfigView
  pub last : ℕ
  pub heard : ℕ
  pub resent : ℕ
  pub probed : ℕ
  pub untold : ℕ
  pub send : SendView
  pub recv : ReceiveView

-- no address and no index
abbrev pub no_end : End
no_end = record { address = 0; index = 0 }

-- a new connection
abbrev pub new_conn : ConfigView → ConnView
new_conn config = record {
  state = Inactive;
  me = no_end;
  peer = 0;
  peer_index = None;
  asked = false;
  request = 0;
  config = config;
  last = 0;
  heard = 0;
  resent = 0;
  probed = 0;
  untold = 0;
  send = clear_send config.send_cap;
  recv = clear_receive config.recv_cap;
}

-- the moment that a call at a moment counts as: moments never go back
abbrev pub moment : ConnView → ℕ → ℕ
moment v now = max v.last now

-- with the peer heard at a moment
abbrev pub heard_at : ConnView → ℕ → ConnView
heard_at v now = record v { last = moment v now; heard = moment v now }

-- What holds of every connection.
pub record IsConn (v : ConnView) : Type 0 where
  pub send_cap : v.send.cap ≡ v.config.send_cap
  pub recv_cap : v.recv.cap ≡ v.config.recv_cap
  pub told : 3 * v.untold ≤ v.config.recv_cap
  pub heard : v.heard ≤ v.last
  pub resent : v.resent ≤ v.last
  pub probed : v.probed ≤ v.last
