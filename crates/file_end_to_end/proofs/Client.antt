-- A client's turn is a run of events of the net, at A.
use Rattle.std.proofs.Common.{◌≡◌, ℕ, List, [], ◌∷◌, length, Some, None, Ok, Err, refl, sym, ap, subst}
use Rattle.std.specs.Prelude.{⊤}
use Rattle.std.specs.List.{AllByRecursion}
use Rattle.chaos_packet.specs.Packet.{PacketView}
use Rattle.chaos_host.specs.Deeds.HostEvent.{Ticks}
use Rattle.chaos_lab.specs.declared.side.Side.TheVariants.{A, B}
use Rattle.chaos_net.specs.Net.NetEvent.{At, Arrives}
use Rattle.chaos_node.specs.Arrive.{Arrival, arrive_at_client, deliver_effect}
use Rattle.chaos_node.specs.Phase.{over_packets, over_slots}
use Rattle.chaos_node.specs.Timer.{tick_by}
use Rattle.chaos_node.specs.Turn.{client_phases}
use Rattle.chaos_node.specs.declared.timer.RetransmitTimer.{RetransmitTimer}
use Rattle.chaos_net.specs.Come.{AreFresh, AreSent, ComeFrom, ComeFresh, nothing_upon}
use Rattle.file_net.specs.FileNet.{FileNet, FileEvent, Nets, Serves, FileRun, file_happens}
use Rattle.file_end_to_end.proofs.Led.{IsLed, Leads, none_led, timed_led, copy_led, both_led, then_led, slots_led}

-- an event of the net
abbrev pub IsOfNet : FileEvent → Type 0
IsOfNet (Nets event) = ⊤
IsOfNet (Serves id now way) = ⊥

-- an event of a turn of A's host, which serves nothing: a packet comes, or a slot is ticked
abbrev pub IsTurning : FileEvent → Type 0
IsTurning (Nets (Arrives A number now)) = ⊤
IsTurning (Nets (At A (Ticks place now))) = ⊤
IsTurning event = ⊥

packets_led : (f : FileNet) (now : ℕ) (ks : List ℕ) (ps : List PacketView) → AreSent (f.net B).sent ks ps
    → AreFresh nothing_upon f.net A now ks ps → Leads IsTurning A f (over_packets (deliver_effect now) ps (f.net A).host)
packets_led f now [] [] sent fresh = (f, none_led IsTurning A f)
packets_led f now [] (p ∷ ps) sent fresh = absurd sent
packets_led f now (k ∷ ks) [] sent fresh = absurd sent
packets_led f now (k ∷ ks) (p ∷ ps) sent fresh =
    let h = (deliver_effect now p (f.net A).host).host in
    let g : FileNet = file_happens f (Nets (Arrives A k now)) in
    let one = copy_led IsTurning A f k now p sent.0.0 sent.0.1 sent.0.2 fresh.0 tt in
    let still : AreSent (g.net B).sent ks ps = subst (λ st. AreSent st.sent ks ps) (sym one.far) sent.1 in
    let more = packets_led g now ks ps still fresh.1 in
    let there : IsLed IsTurning A g more.0 (over_packets (deliver_effect now) ps h) =
    subst (λ v. IsLed IsTurning A g more.0 (over_packets (deliver_effect now) ps v)) one.host more.1 in
    (more.0, both_led IsTurning A f g more.0 (deliver_effect now p (f.net A).host) (over_packets (deliver_effect now) ps h) one there)

client_arrived : (f : FileNet) (numbers : List ℕ) (came : Arrival) (now : ℕ) → ComeFrom f.net A numbers came
    → ComeFresh nothing_upon f.net A now numbers came → Leads IsTurning A f (arrive_at_client came now (f.net A).host)
client_arrived f numbers None now from fresh = (f, none_led IsTurning A f)
client_arrived f numbers (Some (Err fault)) now from fresh = (f, none_led IsTurning A f)
client_arrived f numbers (Some (Ok packets)) now from fresh = packets_led f now numbers packets from fresh

pub client_led : (f : FileNet) (timers : List RetransmitTimer) (numbers : List ℕ) (came : Arrival) (now : ℕ)
    → ComeFrom f.net A numbers came → ComeFresh nothing_upon f.net A now numbers came
    → Leads IsTurning A f (client_phases timers came now (f.net A).host)
client_led f timers numbers came now from fresh =
    then_led IsTurning A f (arrive_at_client came now (f.net A).host)
    (over_slots (tick_by timers now) (length (f.net A).host.slots)) (client_arrived f numbers came now from fresh)
    (λ g. slots_led IsTurning A (tick_by timers now)
    (λ place k. timed_led IsTurning A k timers now place refl tt) (length (f.net A).host.slots) g)

-- nothing is served
pub net_service : (events : List FileEvent) (f g : FileNet) → FileRun f events g → AllByRecursion IsOfNet events
    → g.service ≡ f.service
net_service [] f g is all = ap (λ z. z.service) is
net_service (Nets event ∷ events) f g r all = net_service events (file_happens f (Nets event)) g r.1 all.1
net_service (Serves id now way ∷ events) f g r all = absurd all.0

of_net : (event : FileEvent) → IsTurning event → IsOfNet event
of_net (Nets event) kind = tt
of_net (Serves id now way) kind = absurd kind

pub turning_of_net : (events : List FileEvent) → AllByRecursion IsTurning events → AllByRecursion IsOfNet events
turning_of_net [] all = tt
turning_of_net (event ∷ events) all = (of_net event all.0, turning_of_net events all.1)
