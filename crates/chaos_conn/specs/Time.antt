-- What is due at a moment.
use Rattle.std.specs.Prelude.{ℕ, ◌-◌, max, Bool, ◌&&◌, nat_lt, nat_le, if◌then◌else◌, List, [], ◌∷◌, length}
use Rattle.std.specs.List.{list_any}
use Rattle.chaos_packet.specs.Item.{ItemView}
use Rattle.chaos_packet.specs.Opcode.{kind_of}
use Rattle.chaos_conn.specs.declared.state.State.TheVariants as st
use Rattle.chaos_conn.specs.declared.time.Due.{Due}
use Rattle.chaos_conn.specs.declared.time.Due.TheVariants as due
use Rattle.chaos_conn.specs.declared.answers.Ticked.{Ticked}
use Rattle.chaos_conn.specs.declared.answers.Ticked.TheVariants as ticked
use Rattle.chaos_conn.specs.State.{awaits_peer, is_open}
use Rattle.chaos_conn.specs.View.{ConnView, moment}
use Rattle.chaos_conn.specs.Acted.{Acted, quietly}
use Rattle.chaos_conn.specs.Sending.{carries_ack, sns_of, all_kept}

-- the peer was not heard for so long that it counts as down
abbrev pub is_down : ConnView → Bool
is_down v = awaits_peer v.state && nat_le v.config.down (v.last - v.heard)

-- items are kept, and were not sent again for so long that they are now
abbrev pub is_resend_due : ConnView → Bool
is_resend_due v =
    awaits_peer v.state && (nat_lt 0 (length v.send.kept) && nat_le v.config.retransmit (v.last - v.resent))

-- the peer was neither heard nor probed for so long that it is probed now
abbrev pub is_probe_due : ConnView → Bool
is_probe_due v = is_open v.state && nat_le v.config.probe (v.last - max v.heard v.probed)

-- what is due at an end's last moment: the first of these
abbrev pub due_of : ConnView → Due
due_of v = if is_down v then due.HostDown
    else (if is_resend_due v then due.Resend
    else (if is_probe_due v then due.Probe
    else due.Nothing))

-- the items tell what was read, where one of them carries the acknowledgement
abbrev pub tells : List ItemView → Bool
tells items = list_any (λ item. carries_ack (kind_of item.op)) items

-- what a tick at which this is due makes of an end
abbrev pub ticked_by : Due → ConnView → Acted Ticked
ticked_by due.HostDown v = quietly (record v { state = st.HostDown }) ticked.Down
ticked_by due.Resend v = record {
  view = record v { resent = v.last; untold = if tells v.send.kept then 0 else v.untold };
  packets = all_kept v;
  answer = ticked.Resent (length v.send.kept);
}
ticked_by due.Probe v = record {
  view = record v { probed = v.last; untold = 0 };
  packets = sns_of v ∷ [];
  answer = ticked.Probed;
}
ticked_by due.Nothing v = quietly v ticked.Quiet

-- an end at a moment
abbrev pub at_moment : ConnView → ℕ → ConnView
at_moment v now = record v { last = moment v now }

abbrev pub act_tick : ConnView → ℕ → Acted Ticked
act_tick v now = ticked_by (due_of (at_moment v now)) (at_moment v now)
