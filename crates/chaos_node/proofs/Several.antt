-- A phase over packets, while they are taken one after the other.
use Rattle.std.proofs.Common.{◌≡◌, ℕ, Bool, true, false, if◌then◌else◌, List, [], ◌∷◌, drop, slice_get, Option, Some, refl, ap, ◌∙◌, append_assoc}
use Rattle.chaos_packet.specs.Packet.{PacketView}
use Rattle.chaos_host.specs.View.{HostView}
use Rattle.chaos_host.specs.Deliver.{host_deliver}
use Rattle.chaos_host.specs.declared.answers.HostDelivered.{HostDelivered}
use Rattle.chaos_link.specs.declared.carriage.Carriage.{Carriage}
use Rattle.chaos_link.specs.Link.{Ask, AskedSince, Asks}
use Rattle.chaos_node.specs.Arrive.{told_after}
use Rattle.chaos_node.specs.Phase.{Effect, DoesPhase, and_then, no_effect_on, over_packets}
use Rattle.chaos_node.specs.Station.{Station}
use Rattle.chaos_node.proofs.Phase.{one_after}
use Rattle.chaos_node.proofs.Queue.{lots_nothing, first_and_rest}

-- Of these packets some were taken, and the others are left: what was done and what is left make the whole.
pub record TakenSoFar (asked : List Ask → Type 0) (carriage : Carriage) (phase : PacketView → HostView → Effect) (all rest : List PacketView)
    (a b : Station HostView) (sent : Bool) : Type 0 where
  pub done : Effect
  pub does : DoesPhase asked carriage done a b sent
  pub whole : and_then done (over_packets phase rest) ≡ over_packets phase all a.node

module _ (carriage : Carriage) (phase : PacketView → HostView → Effect) where
  none_before : (ps : List PacketView) (h : HostView)
      → and_then (no_effect_on h) (over_packets phase ps) ≡ over_packets phase ps h
  none_before [] h = refl
  none_before (p ∷ ps) h = refl

  pub none_taken : {L : Type 0} {aa : AskedSince L Ask} (ps : List PacketView) (a : Station HostView)
      → TakenSoFar (Asks aa aa) carriage phase ps ps a a false
  none_taken ps a = record {
    done = no_effect_on a.node;
    does =
        record { host = refl; sends = lots_nothing carriage a.queue; outbox = refl; told = refl; config = refl; size = refl };
    whole = none_before ps a.node;
  }

  -- the next packet is taken
  pub one_more_taken : {L : Type 0} {aa ab ac : AskedSince L Ask} (all rest : List PacketView) (p : PacketView) (a b c : Station HostView) (sent more now : Bool)
      → TakenSoFar (Asks aa ab) carriage phase all rest a b sent → slice_get rest 0 ≡ Some p
      → DoesPhase (Asks ab ac) carriage (phase p b.node) b c more → now ≡ (if more then true else sent)
      → TakenSoFar (Asks aa ac) carriage phase all (drop 1 rest) a c now
  one_more_taken all rest p a b c sent more now so first one e =
      let left = over_packets phase (drop 1 rest) in
      let after = phase p so.done.host in
      let last = left after.host in
      let joined : and_then (and_then so.done (phase p)) left ≡ and_then so.done (over_packets phase (p ∷ drop 1 rest))
      =
      ap (λ (lots : List (List PacketView)). record { host = last.host; lots = lots })
      (append_assoc so.done.lots after.lots last.lots) in
      record {
        done = and_then so.done (phase p);
        does = one_after carriage a b c so.done (phase p) sent more now so.does one e;
        whole =
            joined
            ∙ (ap (λ (ps : List PacketView). and_then so.done (over_packets phase ps)) (first_and_rest rest p first)
            ∙ so.whole);
      }

-- ---- whether packets went out, where a loop asks one phase first

pub either_true : (more sent : Bool) → more ≡ true → more ≡ (if more then true else sent)
either_true true sent e = refl
either_true false sent e = absurd (cc)

pub either_false : (more sent : Bool) → more ≡ false → sent ≡ (if more then true else sent)
either_false true sent e = absurd (cc)
either_false false sent e = refl

-- ---- what is told of the last packet

-- the next packet was delivered, and what became of it was told
pub told_more : (told told' : Option HostDelivered) (rest rest' : List PacketView) (p : PacketView) (now : ℕ)
    (h h' : HostView)
    → slice_get rest 0 ≡ Some p → rest' ≡ drop 1 rest → told' ≡ Some (host_deliver h p now).answer
    → h' ≡ (host_deliver h p now).view
    → told_after told' rest' now h' ≡ told_after told rest now h
told_more told told' rest rest' p now h h' first left one two =
    let acted = host_deliver h p now in
    ap (λ (t : Option HostDelivered). told_after t rest' now h') one
    ∙ (ap (λ (ps : List PacketView). told_after (Some acted.answer) ps now h') left
    ∙ (ap (λ (x : HostView). told_after (Some acted.answer) (drop 1 rest) now x) two
    ∙ ap (λ (ps : List PacketView). told_after told ps now h) (first_and_rest rest p first)))
