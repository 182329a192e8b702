-- How the connections of a line are set.
use Rattle.std.specs.Prelude.{ℕ, Option, None, Some, Result, Ok, Err, unwrap_or}
use Rattle.chaos_conn.specs.Config.{ConfigView, checked_config, usual_config}
use Rattle.chaos_conn.specs.declared.fault.ConfigFault.{ConfigFault}
use Rattle.chaos_node.specs.declared.limits.TheConstants.{LEAST_INTERVAL}
use Rattle.chaos_node.specs.declared.timer.Interval.{Interval}
use Rattle.chaos_node.specs.declared.timer.Interval.TheVariants.{Fixed, Measured}

-- the usual configuration stands for one that can't be
abbrev pub or_usual : Result ConfigView ConfigFault → ConfigView
or_usual (Ok config) = config
or_usual (Err fault) = usual_config

-- Kept items are sent again after so many milliseconds, or after the time that the measured round trips call for.
abbrev pub interval_by : Option ℕ → Interval
interval_by None = Measured
interval_by (Some millis) = Fixed millis

-- Both windows have so many packets. These are sent again after so many milliseconds, or after the least of the measured times. The
-- other times are the usual ones.
abbrev pub config_by : ℕ → Option ℕ → ConfigView
config_by window retransmit = or_usual
    (checked_config
    (record usual_config { send_cap = window; recv_cap = window; retransmit = unwrap_or retransmit LEAST_INTERVAL }))
