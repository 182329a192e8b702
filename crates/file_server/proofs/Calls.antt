-- A call of a host, whose packets are sent at once.
use Rattle.std.proofs.Common.{◌≡◌, ℕ, Option, subst, Bool, List, [], ◌∷◌, ap, sym, ◌∙◌}
use Rattle.chaos_packet.specs.Packet.{PacketView}
use Rattle.chaos_packet.specs.Outbox.{OutboxView}
use Rattle.chaos_host.specs.Acted.{HostActed, HostDoes}
use Rattle.chaos_host.specs.View.{HostView}
use Rattle.chaos_link.specs.declared.carriage.Carriage.{Carriage}
use Rattle.chaos_link.specs.Link.{Ask, QueueView}
use Rattle.chaos_node.specs.Link.{SendsLots, has_packets}
use Rattle.chaos_node.specs.Phase.{DoesPhase, effect_of}
use Rattle.chaos_node.specs.Station.{station}
use Rattle.chaos_node.proofs.Phase.{put_into_empty}

-- such a call is a phase
pub call_sent : {A : Type 0} {asked : List Ask → Type 0} (carriage : Carriage) (acted : HostActed A) (h m : HostView)
    (before after : Option QueueView) (out mid rest : OutboxView) (answer : A) (sent : Bool)
    → HostDoes h 1 acted m out mid answer → out.packets ≡ []
    → SendsLots asked carriage before (mid.packets ∷ []) after → rest ≡ record { packets = []; cap = mid.cap }
    → sent ≡ has_packets (mid.packets ∷ [])
    → DoesPhase asked carriage (effect_of acted) (station h before out) (station m after rest) sent
call_sent {A} {asked} carriage acted h m before after out mid rest answer sent does empty sends none told =
    let lot : mid.packets ≡ acted.packets =
    ap (λ (o : OutboxView). o.packets) does.packets ∙ put_into_empty out acted.packets empty in
    let cap : mid.cap ≡ out.cap = ap (λ (o : OutboxView). o.cap) does.packets in
    let same : record { packets = []; cap = out.cap } ≡ out =
    ap (λ (ps : List PacketView). record { packets = ps; cap = out.cap }) (sym empty) in
    record {
      host = does.view;
      sends = subst (λ (ps : List PacketView). SendsLots asked carriage before (ps ∷ []) after) lot sends;
      outbox = none ∙ ap (λ (n : ℕ). record { packets = []; cap = n }) cap ∙ same;
      told = told ∙ ap (λ (ps : List PacketView). has_packets (ps ∷ [])) lot;
      config = does.config;
      size = does.size;
    }
