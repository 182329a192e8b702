-- One phase after another.
use Rattle.std.proofs.Common.{◌≡◌, subst, Bool, true, if◌then◌else◌, List, [], ◌++◌, ap, sym, ◌∙◌}
use Rattle.chaos_packet.specs.Packet.{PacketView}
use Rattle.chaos_packet.specs.Outbox.{OutboxView, with_put}
use Rattle.chaos_host.specs.View.{HostView}
use Rattle.chaos_link.specs.declared.carriage.Carriage.{Carriage}
use Rattle.chaos_link.specs.Link.{Ask, AskedSince, Asks}
use Rattle.chaos_node.specs.Link.{SendsLots, has_packets}
use Rattle.chaos_node.specs.Phase.{Effect, DoesPhase, and_then}
use Rattle.chaos_node.specs.Station.{Station}
use Rattle.chaos_node.proofs.Queue.{sends_both, has_both}

-- what waits where packets are put into an empty outbox
pub put_into_empty : (out : OutboxView) (xs : List PacketView) → out.packets ≡ [] → (with_put out xs).packets ≡ xs
put_into_empty out xs e = ap (λ (ps : List PacketView). ps ++ xs) e

-- a phase, and another after it
pub one_after : {L : Type 0} {aa ab ac : AskedSince L Ask} (carriage : Carriage) (a b c : Station HostView) (first : Effect) (next : HostView → Effect)
    (sent more all : Bool)
    → DoesPhase (Asks aa ab) carriage first a b sent → DoesPhase (Asks ab ac) carriage (next b.node) b c more
    → all ≡ (if more then true else sent) → DoesPhase (Asks aa ac) carriage (and_then first next) a c all
one_after {L} {aa} {ab} {ac} carriage a b c first next sent more all one two e =
    let here : next b.node ≡ next first.host = ap next one.host in
    let out = (next first.host).lots in
    let late : SendsLots (Asks ab ac) carriage b.queue out c.queue =
    subst (λ (x : Effect). SendsLots (Asks ab ac) carriage b.queue x.lots c.queue) here two.sends in
    record {
      host = two.host ∙ ap (λ (x : Effect). x.host) here;
      sends = sends_both carriage a.queue b.queue c.queue first.lots out one.sends late;
      outbox = two.outbox ∙ one.outbox;
      told = e ∙ (ap (λ (t : Bool). if t then true else sent) (two.told ∙ ap (λ (x : Effect). has_packets x.lots) here)
          ∙ (ap (λ (t : Bool). if has_packets out then true else t) one.told ∙ sym (has_both first.lots out)));
      config = two.config ∙ one.config;
      size = two.size ∙ one.size;
    }
