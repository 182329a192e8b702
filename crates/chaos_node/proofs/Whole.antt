-- A whole turn of its parts, over a link.
use Rattle.std.proofs.Common.{◌≡◌, Bool, true, if◌then◌else◌, List, [], ◌∷◌, ◌++◌, Option, Some, None, IfSome, is_some, refl, ap, sym, ◌∙◌, subst}
use Rattle.chaos_packet.specs.Packet.{PacketView}
use Rattle.chaos_link.specs.declared.carriage.Carriage.{Carriage}
use Rattle.chaos_link.specs.Link.{Ask, AskedSince, Asks, QueueView}
use Rattle.chaos_node.specs.Arrive.{Arrival, Receives, arrival_from}
use Rattle.chaos_node.specs.Link.{Sends, SendsLots, datagrams_of, has_packets, sent_by, sent_into}
use Rattle.chaos_node.specs.Station.{Station}
use Rattle.chaos_node.specs.Begin.{Begins}
use Rattle.chaos_node.specs.Turn.{GoesOver, has_work, queue_after}
use Rattle.chaos_node.specs.End.{TellsWork}
use Rattle.chaos_node.proofs.Queue.{lots_read, turn_asks_more}
use Rattle.chaos_node.specs.declared.end.TurnEnd.{TurnEnd}

pub has_before : (xs ys : List (List PacketView))
    → has_packets (xs ++ ys) ≡ (if has_packets xs then true else has_packets ys)
has_before [] ys = refl
has_before ([] ∷ xs) ys = has_before xs ys
has_before ((p ∷ ps) ∷ xs) ys = refl

pub has_all : (xs ys zs : List (List PacketView))
    → has_packets (xs ++ (ys ++ zs))
    ≡ (if has_packets xs then true else (if has_packets ys then true else has_packets zs))
has_all xs ys zs = has_before xs (ys ++ zs) ∙ ap (λ (t : Bool). if has_packets xs then true else t) (has_before ys zs)

-- ---- over a link

-- after a begin the lots of the turn were sent
pub queue_so : (carriage : Carriage) (q0 q1 q2 : Option QueueView) (waiting : List PacketView)
    (lots : List (List PacketView)) (came : Arrival)
    → IfSome q0 (λ queue. Receives came q1 (sent_into queue (datagrams_of carriage waiting)))
    → Sends q1 (sent_by carriage lots) q2
    → IfSome q0
    (λ queue. (came ≡ arrival_from (sent_into queue (datagrams_of carriage waiting)))
    × (q2 ≡ Some (queue_after carriage queue waiting lots)))
queue_so carriage None q1 q2 waiting lots came receives last = tt
queue_so carriage (Some queue) q1 q2 waiting lots came receives last =
    (receives.0, subst (λ (q : Option QueueView). Sends q (sent_by carriage lots) q2) receives.1 last)

-- whether there was work is told of the begin and of what was sent then
pub work_so : (worked sent : Bool) (waiting : List PacketView) (lots : List (List PacketView)) (came : Arrival)
    → worked ≡ (if is_some came then true else has_packets (waiting ∷ [])) → sent ≡ has_packets lots
    → (if worked then true else sent) ≡ has_work waiting came lots
work_so worked sent waiting lots None one two =
    ap (λ (t : Bool). if t then true else sent) one
    ∙ (ap (λ (t : Bool). if has_packets (waiting ∷ []) then true else t) two ∙ sym (has_before (waiting ∷ []) lots))
work_so worked sent waiting lots (Some read) one two = ap (λ (t : Bool). if t then true else sent) one

-- a turn that began so, and in which these lots were sent
pub goes_over : {N L : Type 0} {a b c : AskedSince L Ask} {may_wait : Bool} (carriage : Carriage) (before after : Station N) (q1 : Option QueueView) (lots : List (List PacketView))
    (came : Arrival) (worked sent : Bool) (result : TurnEnd)
    → Begins (Asks a b) may_wait carriage before.outbox.packets before.queue q1 came worked → SendsLots (Asks b c) carriage q1 lots after.queue
    → sent ≡ has_packets lots
    → TellsWork (if worked then true else sent) result → GoesOver (Asks a c) may_wait carriage came lots before after result
goes_over {N} {L} {a} {b} {c} {may_wait} carriage before after q1 lots came worked sent result first last e told = record {
  queue = queue_so carriage before.queue q1 after.queue before.outbox.packets lots came first.queue last.sends;
  asks = turn_asks_more a b c carriage may_wait before.outbox.packets [] lots first.asks last.asks;
  read = lots_read carriage (before.outbox.packets ∷ []) lots first.read last.read;
  work =
      subst (λ (t : Bool). TellsWork t result) (work_so worked sent before.outbox.packets lots came first.work e) told;
}
