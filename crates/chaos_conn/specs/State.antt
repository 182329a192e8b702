-- What the states of a connection have in common.
use Rattle.std.specs.Prelude.{Bool, true, false}
use Rattle.chaos_conn.specs.declared.state.State.{State}
use Rattle.chaos_conn.specs.declared.state.State.TheVariants.{Inactive, RfcSent, RfcReceived, Open, Answered, ClsReceived, LosReceived, HostDown, Forwarded}

-- an attempt or a connection came to its end, and its user has not closed it yet
abbrev pub is_ended : State → Bool
is_ended Answered = true
is_ended ClsReceived = true
is_ended LosReceived = true
is_ended HostDown = true
is_ended Forwarded = true
is_ended _ = false

-- the end asked, was asked, or is open: packets are for it
abbrev pub is_live : State → Bool
is_live RfcSent = true
is_live RfcReceived = true
is_live Open = true
is_live _ = false

-- the end asked or was asked, and is not open yet
abbrev pub is_opening : State → Bool
is_opening RfcSent = true
is_opening RfcReceived = true
is_opening _ = false

abbrev pub is_inactive : State → Bool
is_inactive Inactive = true
is_inactive _ = false

abbrev pub is_requested : State → Bool
is_requested RfcReceived = true
is_requested _ = false

abbrev pub is_open : State → Bool
is_open Open = true
is_open _ = false

-- the end waits for packets of its peer: it asked, or it is open
abbrev pub awaits_peer : State → Bool
awaits_peer RfcSent = true
awaits_peer Open = true
awaits_peer _ = false

-- a close at this end is told to the peer by a CLS
abbrev pub tells_close : State → Bool
tells_close RfcReceived = true
tells_close Open = true
tells_close _ = false
