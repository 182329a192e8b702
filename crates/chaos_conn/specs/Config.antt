-- What contracts see of a configuration.
use Rattle.std.specs.Prelude.{ℕ, ◌≤◌, Bool, ◌&&◌, nat_le, if◌then◌else◌, Result, Ok, Err}
use Rattle.chaos_window.specs.declared.limits.TheConstants.{MAX_WINDOW}
use Rattle.chaos_conn.specs.declared.fault.ConfigFault.{ConfigFault}
use Rattle.chaos_conn.specs.declared.fault.ConfigFault.TheVariants.{BadSendCap, BadRecvCap, BadTime}

-- The greatest window in each direction, in packets. And times, in milliseconds: after how long kept packets are sent
-- again, after how long a silent peer is probed, and after how long it counts as down.
pub record ConfigView : Type 0 where
  pub send_cap : ℕ
  pub recv_cap : ℕ
  pub retransmit : ℕ
  pub probe : ℕ
  pub down : ℕ

-- the configuration of these parts
abbrev pub config_view : ℕ → ℕ → ℕ → ℕ → ℕ → ConfigView
config_view send_cap recv_cap retransmit probe down = record {
  send_cap = send_cap;
  recv_cap = recv_cap;
  retransmit = retransmit;
  probe = probe;
  down = down;
}

-- a window has from 1 to MAX_WINDOW packets
abbrev pub is_window : ℕ → Bool
is_window cap = nat_le 1 cap && nat_le cap MAX_WINDOW

-- no time is zero
abbrev pub has_times : ConfigView → Bool
has_times c = nat_le 1 c.retransmit && (nat_le 1 c.probe && nat_le 1 c.down)

-- a configuration, or the first of its faults
abbrev pub checked_config : ConfigView → Result ConfigView ConfigFault
checked_config c = if is_window c.send_cap
    then (if is_window c.recv_cap
    then (if has_times c then Ok c else Err BadTime)
    else Err BadRecvCap)
    else Err BadSendCap

-- the usual configuration
abbrev pub usual_config : ConfigView
usual_config = record { send_cap = 13; recv_cap = 13; retransmit = 500; probe = 10000; down = 90000 }

-- the usual configuration with both windows of so many packets, where a window can have as many
abbrev pub config_with : ℕ → ConfigView
config_with window =
    if is_window window then record usual_config { send_cap = window; recv_cap = window } else usual_config

-- What holds of every configuration.
pub record IsConfig (c : ConfigView) : Type 0 where
  pub some_send : 1 ≤ c.send_cap
  pub send_fits : c.send_cap ≤ MAX_WINDOW
  pub some_recv : 1 ≤ c.recv_cap
  pub recv_fits : c.recv_cap ≤ MAX_WINDOW
  pub some_retransmit : 1 ≤ c.retransmit
  pub some_probe : 1 ≤ c.probe
  pub some_down : 1 ≤ c.down
