-- Which connections opened and ended between the looks at a server.
use Rattle.std.specs.Prelude.{ℕ, zero, suc, ◌==◌, Bool, true, false, if◌then◌else◌, List, [], ◌∷◌, ◌++◌, Option, Some, None, option_map, Result, Ok, Err, slice_get, slice_index_or, slice_set}
use Rattle.std.specs.declared.net.socket_addr.SocketAddrV4.{SocketAddrV4}
use Rattle.chaos_file.specs.declared.change.Change.{Change}
use Rattle.chaos_link.specs.declared.report.LinkReport.{LinkReport}
use Rattle.chaos_link.specs.declared.socket_fault.SocketFault.{SocketFault}
use Rattle.chaos_conn.specs.Calls.{keeps_opn, peer_of}
use Rattle.chaos_conn.specs.View.{ConnView}
use Rattle.chaos_conn.specs.declared.state.End.{End}
use Rattle.chaos_conn.specs.declared.state.State.{State}
use Rattle.chaos_conn.specs.declared.state.State.TheVariants as state
use Rattle.chaos_host.specs.declared.fault.CallFault.{CallFault}
use Rattle.chaos_host.specs.View.{HostView, host_look, id_at}
use Rattle.chaos_node.specs.declared.timer.RetransmitTimer.{RetransmitTimer}
use Rattle.file_server.specs.Sessions.{Serving, serving_at}
use Rattle.file_server.specs.declared.log.Ending.{Ending}
use Rattle.file_server.specs.declared.log.Ending.TheVariants.{Done, HostDown, Unacknowledged, Closed}
use Rattle.file_server.specs.declared.watch.Seen.{Seen}

-- What a log has: the peer of a connection that opened. Of a connection that ended, also the name that its user gave, how
-- often kept items were sent again, and why it ended. Of a connection whose command changed a file or was refused, that name and the change. The host whose
-- datagram came, and from which UDP address; and which call of a socket failed, and why.
pub data Event : Type 0 where
  Opened : (peer : End) → Event
  Ended : (peer : End) → (login : Option (List ℕ)) → (resent : ℕ) → (ending : Ending) → Event
  Changed : (peer : End) → (login : Option (List ℕ)) → (change : Change) → Event
  Heard : (address : ℕ) → (from : SocketAddrV4) → Event
  Failed : (fault : SocketFault) → Event

abbrev pub logged_with : Event → Option (List Event) → Option (List Event)
logged_with event logged = option_map (λ events. events ++ event ∷ []) logged

abbrev pub logged_opened : End → Option (List Event) → Option (List Event)
logged_opened peer logged = logged_with (Opened peer) logged

abbrev pub logged_ended : End → Option (List ℕ) → ℕ → Ending → Option (List Event) → Option (List Event)
logged_ended peer login resent ending logged = logged_with (Ended peer login resent ending) logged

abbrev pub logged_changed : End → Option (List ℕ) → Change → Option (List Event) → Option (List Event)
logged_changed peer login change logged = logged_with (Changed peer login change) logged

-- ---- what a link reports

abbrev pub heard_from : ℕ → Option SocketAddrV4 → List Event
heard_from address None = []
heard_from address (Some from) = Heard address from ∷ []

-- a datagram of this host came, where it is known from where
abbrev pub logged_heard : ℕ → LinkReport → Option (List Event) → Option (List Event)
logged_heard address report logged = option_map (λ events. events ++ heard_from address report.source) logged

abbrev pub failed_by : Option SocketFault → List Event
failed_by None = []
failed_by (Some fault) = Failed fault ∷ []

-- a turn is over, in which a call of the link's socket failed, or none
abbrev pub logged_turned : LinkReport → Option (List Event) → Option (List Event)
logged_turned report logged = option_map (λ events. events ++ failed_by report.fault) logged

-- ---- one look

abbrev pub end_in : Option (ℕ × Option ℕ) → End
end_in (Some (address, Some index)) = record { address = address; index = index }
end_in (Some (address, None)) = record { address = address; index = 0 }
end_in None = record { address = 0; index = 0 }

abbrev pub end_told : Result (Option (ℕ × Option ℕ)) CallFault → End
end_told (Ok peer) = end_in peer
end_told (Err _) = record { address = 0; index = 0 }

-- the peer of the connection with an own index
abbrev pub peer_at : HostView → ℕ → End
peer_at h id = end_told (host_look h id (λ conn. peer_of conn))

abbrev pub is_down : Result State CallFault → Bool
is_down (Ok state.HostDown) = true
is_down _ = false

abbrev pub is_unacknowledged : Result ConnView CallFault → Bool
is_unacknowledged (Ok conn) = keeps_opn conn
is_unacknowledged (Err _) = false

-- the connection with an own index
abbrev pub seen_of : HostView → ℕ → Seen
seen_of h id = record {
  id = id;
  peer = peer_at h id;
  is_down = is_down (host_look h id (λ conn. conn.state));
  is_unacknowledged = is_unacknowledged (host_look h id (λ conn. conn));
}

abbrev pub seen_at : HostView → ℕ → Option Seen
seen_at h place = option_map (seen_of h) (id_at h place)

-- ---- what a look adds to the log, beside the look before

-- its host down in the look before, an EOF that was served, a peer that had acknowledged nothing by the look before, or else
-- its peer's doing
abbrev pub ending_of : Bool → Bool → Bool → Ending
ending_of true eof unacknowledged = HostDown
ending_of false true unacknowledged = Done
ending_of false false true = Unacknowledged
ending_of false false false = Closed

abbrev pub ending_in : Seen → Serving → Ending
ending_in was serving = ending_of was.is_down serving.eof was.is_unacknowledged

-- how often the timer of this connection saw that kept items were sent again
abbrev pub resent_of : ℕ → ℕ → Option ℕ → ℕ
resent_of id count None = 0
resent_of id count (Some seen) = if seen == id then count else 0

abbrev pub resent_by : ℕ → Option RetransmitTimer → ℕ
resent_by id None = 0
resent_by id (Some t) = resent_of id t.retransmissions t.id

abbrev pub after_end : Option Seen → Serving → Option RetransmitTimer → Option (List Event) → Option (List Event)
after_end None serving timer logged = logged
after_end (Some was) serving timer logged =
    logged_ended was.peer serving.session.name (resent_by was.id timer) (ending_in was serving) logged

abbrev pub after_opening : Option Seen → Option (List Event) → Option (List Event)
after_opening None logged = logged
after_opening (Some there) logged = logged_opened there.peer logged

abbrev pub is_same : Option Seen → Option Seen → Bool
is_same None None = true
is_same (Some was) (Some there) = was.id == there.id
is_same _ _ = false

abbrev pub after_change : Option Seen → Option Seen → Serving → Option RetransmitTimer → Option (List Event)
    → Option (List Event)
after_change was there serving timer logged =
    if is_same was there then logged else after_opening there (after_end was serving timer logged)

-- ---- a look at each slot

-- what was seen in each slot, and what was logged
pub record Watched : Type 0 where
  pub seen : List (Option Seen)
  pub logged : Option (List Event)

abbrev pub watched : List (Option Seen) → Option (List Event) → Watched
watched seen logged = record { seen = seen; logged = logged }

abbrev pub watched_at : List RetransmitTimer → HostView → List Serving → ℕ → Watched → Watched
watched_at ts h sessions place w = record {
  seen = slice_set w.seen place (seen_at h place);
  logged =
      after_change (slice_index_or w.seen place None) (seen_at h place) (serving_at sessions place) (slice_get ts place)
      w.logged;
}

-- the first so many slots, in rising order
abbrev pub watched_slots : List RetransmitTimer → HostView → List Serving → ℕ → Watched → Watched
watched_slots ts h sessions zero w = w
watched_slots ts h sessions (suc n) w = watched_at ts h sessions n (watched_slots ts h sessions n w)
