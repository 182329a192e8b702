-- Packets that come, and phases over packets and slots.
use Rattle.std.proofs.Common.{◌≡◌, ℕ, zero, suc, Bool, true, false, if◌then◌else◌, List, [], ◌∷◌, Some, sym, ◌∙◌, subst, append-nil}
use Rattle.std.specs.Prelude.{slice_get}
use Rattle.chaos_packet.specs.Packet.{PacketView}
use Rattle.chaos_host.specs.View.{HostView}
use Rattle.chaos_host.specs.Deeds.HostEvent.{Ticks}
use Rattle.chaos_host.specs.Tick.{host_tick}
use Rattle.chaos_lab.specs.declared.side.Side.{Side}
use Rattle.chaos_lab.specs.Machine.{other}
use Rattle.chaos_net.specs.Net.{Sent, Net, CanHappen, after_events, happens}
use Rattle.chaos_net.specs.Net.NetEvent.{At, Arrives}
use Rattle.chaos_node.specs.Link.{singly}
use Rattle.chaos_node.specs.Phase.{Effect, no_effect_on, over_packets, over_slots}
use Rattle.chaos_node.specs.Slots.{tick_at}
use Rattle.chaos_node.specs.Timer.{holds_at, tick_by}
use Rattle.chaos_node.specs.declared.timer.RetransmitTimer.{RetransmitTimer}
use Rattle.chaos_net.specs.Come.{Upon, AreFresh, AreSent, coming}
use Rattle.chaos_net.specs.MadeTurns.{IsMade, Makes}
use Rattle.chaos_node.proofs.Queue.{packets_of_each}
use Rattle.chaos_net.proofs.Made.{both_made, effect_at, made_in, none_made, own_made, then_made}

-- What a phase makes of each packet that comes is a run.
abbrev pub MadeOfEach : Upon → (PacketView → HostView → Effect) → Side → ℕ → Type 0
MadeOfEach upon phase x now =
    (n : Net) (k : ℕ) (p : PacketView) (q : Sent) → slice_get (n (other x)).sent k ≡ Some q → q.packet ≡ p
    → CanHappen n (Arrives x k now) → IsMade n (after_events n (coming upon n x now k p)) x (phase p (n x).host)

module _ (upon : Upon) (phase : PacketView → HostView → Effect) (x : Side) (now : ℕ)
    (each : MadeOfEach upon phase x now) where
  pub packets_made : (n : Net) (ks : List ℕ) (ps : List PacketView) → AreSent (n (other x)).sent ks ps
      → AreFresh upon n x now ks ps → Makes n x (over_packets phase ps (n x).host)
  packets_made n [] [] sent fresh = (n, none_made n x)
  packets_made n [] (p ∷ ps) sent fresh = absurd sent
  packets_made n (k ∷ ks) [] sent fresh = absurd sent
  packets_made n (k ∷ ks) (p ∷ ps) sent fresh =
      let h = (phase p (n x).host).host in
      let m = after_events n (coming upon n x now k p) in
      let one = each n k p sent.0.0 sent.0.1 sent.0.2 fresh.0 in
      let still : AreSent (m (other x)).sent ks ps = subst (λ st. AreSent st.sent ks ps) (sym one.far) sent.1 in
      let more = packets_made m ks ps still fresh.1 in
      let there : IsMade m more.0 x (over_packets phase ps h) =
      subst (λ g. IsMade m more.0 x (over_packets phase ps g)) one.host more.1 in
      (more.0, both_made n m more.0 x (phase p (n x).host) (over_packets phase ps h) one there)

-- what a phase makes of each slot is a run, and so it is with all
module _ (x : Side) (phase : ℕ → HostView → Effect) (each : (place : ℕ) (n : Net) → Makes n x (phase place (n x).host))
  where
    pub slots_made : (size : ℕ) (n : Net) → Makes n x (over_slots phase size (n x).host)
    slots_made zero n = (n, none_made n x)
    slots_made (suc size) n =
        then_made n x (over_slots phase size (n x).host) (phase size) (slots_made size n) (λ m still. each size m)

-- a tick, which sends each packet alone
pub tick_made : (x : Side) (now place : ℕ) (n : Net)
    → IsMade n (happens n (At x (Ticks place now))) x (tick_at now place (n x).host)
tick_made x now place n =
    let packets = (host_tick (n x).host place now).packets in
    made_in n (happens n (At x (Ticks place now))) x (effect_at (n x).host (Ticks place now)) (singly packets)
    (packets_of_each packets ∙ sym (append-nil packets)) (own_made n x (Ticks place now) tt)

-- A timer holds the tick back, and no event happens. Or it doesn't, and the slot is ticked.
timed_tick_made : (timers : List RetransmitTimer) (x : Side) (now place : ℕ) (n : Net)
    → Makes n x (tick_by timers now place (n x).host)
timed_tick_made timers x now place n =
    elim (holds_at timers now place (n x).host)
    as (λ (held : Bool). Makes n x (if held then no_effect_on (n x).host else tick_at now place (n x).host))
    [ true ↦ (n, none_made n x) | false ↦ (happens n (At x (Ticks place now)), tick_made x now place n) ]

pub timed_ticks_made : (timers : List RetransmitTimer) (x : Side) (now size : ℕ) (n : Net)
    → Makes n x (over_slots (tick_by timers now) size (n x).host)
timed_ticks_made timers x now size n = slots_made x (tick_by timers now) (timed_tick_made timers x now) size n

-- without timers each slot is ticked
pub ticks_made : (x : Side) (now size : ℕ) (n : Net) → Makes n x (over_slots (tick_at now) size (n x).host)
ticks_made x now size n = timed_ticks_made [] x now size n
