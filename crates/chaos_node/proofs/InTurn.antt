-- Phases of a turn that has begun, one after another.
use Rattle.std.proofs.Common.{◌≡◌, ℕ, Bool, true, false, if◌then◌else◌, List, drop, length, slice_get, Some, refl, ap, ◌∙◌, subst}
use Rattle.chaos_packet.specs.Packet.{PacketView}
use Rattle.chaos_packet.specs.Outbox.{OutboxView}
use Rattle.chaos_host.specs.View.{HostView}
use Rattle.chaos_link.specs.declared.carriage.Carriage.{Carriage}
use Rattle.chaos_link.specs.Link.{Asks}
use Rattle.chaos_link.specs.declared.link.Link.{Ghosts}
use Rattle.chaos_node.specs.InTurn.{IsSameTurn, TurnDoes, station_of}
use Rattle.chaos_node.specs.Phase.{DoesPhase, Effect, and_then, over_slots}
use Rattle.chaos_node.specs.declared.turn.Turn.{Turn}
use Rattle.chaos_node.proofs.Phase.{one_after}
use Rattle.chaos_node.proofs.Queue.{or_false}
use Rattle.chaos_node.proofs.Several.{TakenSoFar, none_taken, one_more_taken}

module _ {L : Type 0} {G : Ghosts L} where
  -- a phase of the turn at its moment and by its carriage, as they were when the turn began
  pub still : (a b c : Turn L G) (effect : ℕ → Effect) (sent : Bool) → IsSameTurn a b → TurnDoes b c (effect b.now) sent
      → DoesPhase (Asks (G.asked b.link.now) (G.asked c.link.now)) a.carriage (effect a.now) (station_of b) (station_of c)
      sent
  still a b c effect sent same one =
      subst
      (λ (k : Carriage). DoesPhase (Asks (G.asked b.link.now) (G.asked c.link.now)) k (effect a.now) (station_of b)
      (station_of c) sent) same.3
      (subst
      (λ (n : ℕ). DoesPhase (Asks (G.asked b.link.now) (G.asked c.link.now)) b.carriage (effect n) (station_of b)
      (station_of c) sent) same.4 one.0)

  pub same_twice : (a b c : Turn L G) → IsSameTurn a b → IsSameTurn b c → IsSameTurn a c
  same_twice a b c one two = (two.0 ∙ one.0, two.1 ∙ one.1, two.2 ∙ one.2, two.3 ∙ one.3, two.4 ∙ one.4)

  -- a phase, and another after it
  pub then_does : (a b c : Turn L G) (first : Effect) (next : ℕ → HostView → Effect) (sent more all : Bool)
      → TurnDoes a b first sent → TurnDoes b c (next b.now b.host.now) more → all ≡ (if more then true else sent)
      → TurnDoes a c (and_then first (next a.now)) all
  then_does a b c first next sent more all one two e = (
    one_after a.carriage (station_of a) (station_of b) (station_of c) first (next a.now) sent more all one.0
        (still a b c (λ (now : ℕ). next now b.host.now) more one.1 two) e,
    same_twice a b c one.1 two.1,
  )

  -- a phase, and then one over all slots, whose number stayed
  pub then_all_slots : (a b c : Turn L G) (first : Effect) (next : ℕ → ℕ → HostView → Effect) (sent more all : Bool)
      → TurnDoes a b first sent
      → TurnDoes b c (over_slots (next b.now) (length b.host.now.slots) b.host.now) more
      → all ≡ (if more then true else sent)
      → TurnDoes a c (and_then first (over_slots (next a.now) (length a.host.now.slots))) all
  then_all_slots a b c first next sent more all one two e =
      then_does a b c first (λ (now : ℕ). over_slots (next now) (length a.host.now.slots)) sent more all one
      (subst (λ (n : ℕ). TurnDoes b c (over_slots (next b.now) n b.host.now) more) one.0.size two) e

  -- the same, and nothing more
  pub then_slots_alone : (a b c : Turn L G) (first : Effect) (next : ℕ → ℕ → HostView → Effect) (sent more all : Bool)
      → TurnDoes a b first sent
      → TurnDoes b c (over_slots (next b.now) (length b.host.now.slots) b.host.now) more
      → all ≡ (if more then true else (if sent then true else false))
      → TurnDoes a c (and_then first (over_slots (next a.now) (length a.host.now.slots))) all
  then_slots_alone a b c first next sent more all one two e =
      then_all_slots a b c first next sent more all one two
      (e ∙ ap (λ (t : Bool). if more then true else t) (or_false sent))

  -- ---- packets, while they are taken one after the other

  -- Of these packets some were taken in the turn, and the others are left.
  abbrev pub TurnTakes : (PacketView → HostView → Effect) → List PacketView → List PacketView → Turn L G → Turn L G
      → Bool → Type 0
  TurnTakes phase all rest a b sent =
      TakenSoFar (Asks (G.asked a.link.now) (G.asked b.link.now)) a.carriage phase all rest (station_of a) (station_of b)
      sent
      × IsSameTurn a b

  pub takes_none : (phase : PacketView → HostView → Effect) (ps : List PacketView) (a : Turn L G)
      → TurnTakes phase ps ps a a false
  takes_none phase ps a = (none_taken a.carriage phase ps (station_of a), (refl, refl, refl, refl, refl))

  pub takes_more : (phase : ℕ → PacketView → HostView → Effect) (all rest left : List PacketView) (p : PacketView)
      (a b c : Turn L G) (sent more now : Bool)
      → TurnTakes (phase a.now) all rest a b sent → slice_get rest 0 ≡ Some p → left ≡ drop 1 rest
      → TurnDoes b c (phase b.now p b.host.now) more → now ≡ (if more then true else sent)
      → TurnTakes (phase a.now) all left a c now
  takes_more phase all rest left p a b c sent more now so first e one told =
      rw e (
        one_more_taken a.carriage (phase a.now) all rest p (station_of a) (station_of b) (station_of c) sent more now so.0
            first (still a b c (λ (n : ℕ). phase n p b.host.now) more so.1 one) told,
        same_twice a b c so.1 one.1,
      )

-- ---- a turn that is over

-- what holds of the host, the link and the outbox of a turn holds of them when the turn is over
pub left_as : {L : Type 0} {G : Ghosts L} (P : HostView → L → OutboxView → Type 0) (turn : Turn L G) (host : HostView)
    (link : L) (out : OutboxView)
    → turn.host.now ≡ host → turn.link.now ≡ link → turn.out.now ≡ out → P turn.host.now turn.link.now turn.out.now
    → P host link out
left_as P turn host link out e e' e'' holds =
    subst (λ (o : OutboxView). P host link o) e''
    (subst (λ l. P host l turn.out.now) e' (subst (λ (h : HostView). P h turn.link.now turn.out.now) e holds))
