-- The other phases of a server's turn.
use Rattle.std.proofs.Common.{ℕ, Bool, true, false, List, [], length, map, Option, Some, None, Ok, Err, refl, subst, if◌then◌else◌}
use Rattle.chaos_conn.specs.Act.{Accept, Close}
use Rattle.chaos_host.specs.Calls.{host_end}
use Rattle.chaos_host.specs.Deeds.HostEvent.{Calls, Ends, Releases}
use Rattle.chaos_host.specs.Deliver.{host_deliver}
use Rattle.chaos_host.specs.Slot.{named_slot}
use Rattle.chaos_host.specs.View.{id_at}
use Rattle.chaos_lab.specs.declared.side.Side.{Side}
use Rattle.chaos_net.specs.Net.{Net, after_events, happens}
use Rattle.chaos_net.specs.Net.NetEvent.{At, Arrives}
use Rattle.chaos_node.specs.Arrive.{Arrival, deliver_effect}
use Rattle.chaos_node.specs.Phase.{and_then, effect_of, no_effect_on, over_slots}
use Rattle.chaos_node.specs.Timer.{tick_by}
use Rattle.chaos_net.specs.Come.{ComeFrom, ComeFresh}
use Rattle.chaos_net.specs.MadeTurns.{IsMade, Makes}
use Rattle.chaos_net.proofs.Made.{both_made, copy_made, none_made, own_made, then_made}
use Rattle.chaos_net.proofs.SystemComing.{MadeOfEach, packets_made, slots_made, timed_ticks_made}
use Rattle.file_server.specs.Arrive.{accept_by, arrive_at_server, greet, request_in}
use Rattle.file_server.specs.Sessions.{Serving, serving_at}
use Rattle.file_server.specs.Slots.{Options, close_at, close_by, close_for, end_phases, is_late, is_over_in, release_at, release_by}
use Rattle.file_end_to_end.specs.Turns.{accepts, accepts_upon}

-- ---- what came

accepted : (n : Net) (x : Side) (start now : ℕ) (o : Option ℕ)
    → IsMade n (after_events n (map (At x) (accepts start now o))) x (accept_by (n x).host start now o)
accepted n x start now None = none_made n x
accepted n x start now (Some id) = own_made n x (Calls id (Accept start now)) refl

greeted : (x : Side) (start now : ℕ) → MadeOfEach (accepts_upon start now) (greet start now) x now
greeted x start now n k p q there is can =
    let h = (n x).host in
    let o = request_in p (host_deliver h p now).answer in
    let m = happens n (Arrives x k now) in
    let one = copy_made n x k now p q there is can in
    let l = after_events m (map (At x) (accepts start now o)) in
    let two : IsMade m l x (accept_by (host_deliver h p now).view start now o) =
    subst (λ g. IsMade m l x (accept_by g start now o)) one.host (accepted m x start now o) in
    both_made n m l x (deliver_effect now p h) (accept_by (host_deliver h p now).view start now o) one two

pub arrived : (n : Net) (x : Side) (numbers : List ℕ) (came : Arrival) (start now : ℕ) → ComeFrom n x numbers came
    → ComeFresh (accepts_upon start now) n x now numbers came
    → Makes n x (arrive_at_server came start now (n x).host)
arrived n x numbers None start now from fresh = (n, none_made n x)
arrived n x numbers (Some (Err fault)) start now from fresh = (n, none_made n x)
arrived n x numbers (Some (Ok packets)) start now from fresh =
    packets_made (accepts_upon start now) (greet start now) x now (greeted x start now) n numbers packets from fresh

-- ---- the end of a turn

closed_if : (n : Net) (x : Side) (id : ℕ) (over : Bool)
    → Makes n x (if over then effect_of (host_end (n x).host id (Close [])) else no_effect_on (n x).host)
closed_if n x id true = (happens n (At x (Ends id (Close []))), own_made n x (Ends id (Close [])) refl)
closed_if n x id false = (n, none_made n x)

closed_by : (n : Net) (x : Side) (eof late : Bool) (o : Option ℕ) → Makes n x (close_by eof late (n x).host o)
closed_by n x eof late None = (n, none_made n x)
closed_by n x eof late (Some id) = closed_if n x id (is_over_in eof late (named_slot (n x).host.slots id))

closed : (n : Net) (x : Side) (silence : Option ℕ) (now : ℕ) (serving : Serving) (o : Option ℕ)
    → Makes n x (close_for silence now serving (n x).host o)
closed n x silence now serving o = closed_by n x serving.eof (is_late silence serving.since now) o

released : (n : Net) (x : Side) (o : Option ℕ) → Makes n x (release_by (n x).host o)
released n x None = (n, none_made n x)
released n x (Some id) = (happens n (At x (Releases id)), own_made n x (Releases id) tt)

pub ended : (n : Net) (x : Side) (options : Options) (sessions : List Serving) (now : ℕ)
    → Makes n x (end_phases options sessions now (n x).host)
ended n x options sessions now =
    let h = (n x).host in
    let size = length h.slots in
    then_made n x (and_then (over_slots (close_at options.silence now sessions) size h) (over_slots release_at size))
    (over_slots (tick_by options.timers now) size)
    (then_made n x (over_slots (close_at options.silence now sessions) size h) (over_slots release_at size)
    (slots_made x (close_at options.silence now sessions)
    (λ place m. closed m x options.silence now (serving_at sessions place) (id_at (m x).host place)) size n)
    (λ m still. slots_made x release_at (λ place k. released k x (id_at (k x).host place)) size m))
    (λ m still. timed_ticks_made options.timers x now size m)
