-- Short runs, in which every packet is fresh.
use Rattle.std.specs.Prelude.{◌≤◌, List, length, ⊤}
use Rattle.std.specs.List.{AllByRecursion}
use Rattle.chaos_lab.specs.declared.side.Side.TheVariants.{A, B}
use Rattle.chaos_net.specs.Net.{Net, NetEvent, IsNew, IsOwn, Reached, after_events}
use Rattle.chaos_net.specs.Net.NetEvent.{At, Arrives}

-- an event as users, clocks and the network make it, and no word of freshness
abbrev pub IsAnyAge : NetEvent → Type 0
IsAnyAge (At x event) = IsOwn event
IsAnyAge (Arrives x number now) = ⊤

-- Whatever at most 256 events make of two new hosts is reached: each packet that comes is fresh. So the law holds of
-- such a run with no premise on the age of packets.
abbrev pub ShortLaw : Type 0
ShortLaw =
    (start : Net) (events : List NetEvent) → IsNew (start A) → IsNew (start B) → length events ≤ 256
    → AllByRecursion IsAnyAge events → Reached (after_events start events)
