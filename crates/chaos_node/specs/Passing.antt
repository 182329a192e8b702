-- Indices that are used up before a host makes its first turn.
use Rattle.std.specs.Prelude.{zero, suc, ℕ, [], length, codes, Ok, Err}
use Rattle.chaos_conn.specs.Act.{Close}
use Rattle.chaos_host.specs.Acted.{HostActed}
use Rattle.chaos_host.specs.Calls.{host_end}
use Rattle.chaos_host.specs.Connect.{ConnectAnswer, host_connect}
use Rattle.chaos_host.specs.View.{HostView}

-- the lowest free slot has a connection, which is asked for
abbrev pub asked_for : ℕ → HostView → HostActed ConnectAnswer
asked_for to h = host_connect h to (codes "NONE") 0 0

-- that connection is given up
abbrev pub given_up : ConnectAnswer → HostView → HostView
given_up (Ok id) h = (host_end h id (Close [])).view
given_up (Err fault) h = h

-- So many slots used up an index: a connection of each was asked for, and then each was given up, the last first.
abbrev pub pass_slots : ℕ → ℕ → HostView → HostView
pass_slots to zero h = h
pass_slots to (suc slots) h = given_up (asked_for to h).answer (pass_slots to slots (asked_for to h).view)

-- each slot of the host used up so many indices
abbrev pub after_passing : ℕ → ℕ → HostView → HostView
after_passing to zero h = h
after_passing to (suc count) h = pass_slots to (length h.slots) (after_passing to count h)
