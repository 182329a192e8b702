-- One event, and one run after another.
use Rattle.std.proofs.Common.{◌≡◌, ℕ, List, [], ◌∷◌, ◌++◌, map, Option, Some, None, refl, sym, ap, ◌∙◌, subst, append_assoc, append-nil}
use Rattle.std.specs.Prelude.{slice_get}
use Rattle.chaos_packet.specs.Packet.{PacketView}
use Rattle.chaos_host.specs.View.{HostView}
use Rattle.chaos_host.specs.Deeds.{HostEvent, host_made, deed_of}
use Rattle.chaos_host.specs.Deeds.HostEvent.{Comes}
use Rattle.chaos_link.specs.Loads.{packets_of}
use Rattle.chaos_lab.specs.declared.side.Side.{Side}
use Rattle.chaos_lab.specs.declared.side.Side.TheVariants.{A, B}
use Rattle.chaos_lab.specs.Machine.{other}
use Rattle.chaos_net.specs.Net.{Name, Sent, Net, NetEvent, IsOwn, CanHappen, Run, sender, lengths_of, moved, with_station, sent_by, after_event, arrives, happens}
use Rattle.chaos_net.specs.Net.NetEvent.{At, Arrives}
use Rattle.chaos_node.specs.Phase.{Effect, and_then, no_effect_on}
use Rattle.chaos_net.specs.MadeTurns.{IsMade, Makes, packets_sent}

-- ---- runs

pub run_through : (es fs : List NetEvent) (n m k : Net) → Run n es m → Run m fs k → Run n (es ++ fs) k
run_through [] fs n m k first next = subst (λ u. Run u fs k) first next
run_through (e ∷ es) fs n m k first next = (first.0, run_through es fs (happens n e) m k first.1 next)

pub packets_both : (xs ys : List (List PacketView)) → packets_of (xs ++ ys) ≡ packets_of xs ++ packets_of ys
packets_both [] ys = refl
packets_both (x ∷ xs) ys =
    ap (λ ps. x ++ ps) (packets_both xs ys) ∙ sym (append_assoc x (packets_of xs) (packets_of ys))

-- ---- one run after another

pub none_made : (n : Net) (x : Side) → IsMade n n x (no_effect_on (n x).host)
none_made n x = record { events = []; run = refl; host = refl; sent = sym (append-nil (packets_sent (n x))); far = refl }

pub both_made : (n m k : Net) (x : Side) (e f : Effect) → IsMade n m x e → IsMade m k x f
    → IsMade n k x (record { host = f.host; lots = e.lots ++ f.lots })
both_made n m k x e f one two = record {
  events = one.events ++ two.events;
  run = run_through one.events two.events n m k one.run two.run;
  host = two.host;
  sent =
      two.sent
      ∙ (ap (λ (ps : List PacketView). ps ++ packets_of f.lots) one.sent
      ∙ (append_assoc (packets_sent (n x)) (packets_of e.lots) (packets_of f.lots)
      ∙ ap (λ (ps : List PacketView). packets_sent (n x) ++ ps) (sym (packets_both e.lots f.lots))));
  far = two.far ∙ one.far;
}

-- a phase, and another after it
pub then_made : (n : Net) (x : Side) (first : Effect) (next : HostView → Effect) → Makes n x first
    → ((m : Net) → m (other x) ≡ n (other x) → Makes m x (next (m x).host)) → Makes n x (and_then first next)
then_made n x first next one two =
    let m = one.0 in
    let last = two m one.1.far in
    let there : IsMade m last.0 x (next first.host) =
    subst (λ h. IsMade m last.0 x (next h)) one.1.host last.1 in
    (last.0, both_made n m last.0 x first (next first.host) one.1 there)

-- the same packets in other lots
pub made_in : (n m : Net) (x : Side) (e : Effect) (lots : List (List PacketView)) → packets_of lots ≡ packets_of e.lots → IsMade n m x e
    → IsMade n m x (record { host = e.host; lots = lots })
made_in n m x e lots same made = record {
  events = made.events;
  run = made.run;
  host = made.host;
  sent = made.sent ∙ ap (λ (ps : List PacketView). packets_sent (n x) ++ ps) (sym same);
  far = made.far;
}

-- ---- one event

sent_packets : (by : Option Name) (lengths : Side → Name → ℕ) (ps : List PacketView)
    → map (λ (q : Sent). q.packet) (map (sent_by by lengths) ps) ≡ ps
sent_packets by lengths [] = refl
sent_packets by lengths (p ∷ ps) = ap (λ qs. p ∷ qs) (sent_packets by lengths ps)

map_both : (qs rs : List Sent) → map (λ (q : Sent). q.packet) (qs ++ rs)
    ≡ map (λ (q : Sent). q.packet) qs ++ map (λ (q : Sent). q.packet) rs
map_both [] rs = refl
map_both (q ∷ qs) rs = ap (λ ps. q.packet ∷ ps) (map_both qs rs)

-- what goes out joins what was sent
out : (qs : List Sent) (by : Option Name) (lengths : Side → Name → ℕ) (ps : List PacketView)
    → map (λ (q : Sent). q.packet) (qs ++ map (sent_by by lengths) ps)
    ≡ map (λ (q : Sent). q.packet) qs ++ (ps ++ [])
out qs by lengths ps =
    map_both qs (map (sent_by by lengths) ps)
    ∙ ap (λ (rs : List PacketView). map (λ (q : Sent). q.packet) qs ++ rs)
    (sent_packets by lengths ps ∙ sym (append-nil ps))

-- the effect of an event of a host
abbrev pub effect_at : HostView → HostEvent → Effect
effect_at h event = record { host = (host_made h event).view; lots = (host_made h event).packets ∷ [] }

record IsAfter (n : Net) (x : Side) (event : HostEvent) (m : Net) : Type 0 where
  host : (m x).host ≡ (host_made (n x).host event).view
  sent : packets_sent (m x) ≡ packets_sent (n x) ++ ((host_made (n x).host event).packets ++ [])
  far : m (other x) ≡ n (other x)

is_after : (n : Net) (x : Side) (event : HostEvent) (from : Option Name) → IsAfter n x event (after_event n x event from)
is_after n A event from = record {
  host = refl;
  sent =
      out (n A).sent (sender (n A) (deed_of (n A).host event)) (lengths_of (with_station n A (moved (n A) event from)))
      (host_made (n A).host event).packets;
  far = refl;
}
is_after n B event from = record {
  host = refl;
  sent =
      out (n B).sent (sender (n B) (deed_of (n B).host event)) (lengths_of (with_station n B (moved (n B) event from)))
      (host_made (n B).host event).packets;
  far = refl;
}

-- an event of the host's own
pub own_made : (n : Net) (x : Side) (event : HostEvent) → IsOwn event
    → IsMade n (happens n (At x event)) x (effect_at (n x).host event)
own_made n x event own =
    let r = is_after n x event None in
    record { events = At x event ∷ []; run = (own, refl); host = r.host; sent = r.sent; far = r.far }

-- a packet that was sent comes
pub copy_made : (n : Net) (x : Side) (k now : ℕ) (p : PacketView) (q : Sent) → slice_get (n (other x)).sent k ≡ Some q
    → q.packet ≡ p → CanHappen n (Arrives x k now)
    → IsMade n (happens n (Arrives x k now)) x (effect_at (n x).host (Comes p now))
copy_made n x k now p q there is can =
    let r : IsAfter n x (Comes p now) (after_event n x (Comes q.packet now) q.by) =
    subst (λ (one : PacketView). IsAfter n x (Comes one now) (after_event n x (Comes q.packet now) q.by)) is
    (is_after n x (Comes q.packet now) q.by) in
    let there_it : IsAfter n x (Comes p now) (happens n (Arrives x k now)) =
    subst (λ (o : Option Sent). IsAfter n x (Comes p now) (arrives n x now o)) (sym there) r in
    record {
      events = Arrives x k now ∷ [];
      run = (can, refl);
      host = there_it.host;
      sent = there_it.sent;
      far = there_it.far;
    }
