-- What a turn of a node makes of the sealed machine: each packet of a datagram that was sealed is heard, and each slot is
-- ticked whose timer doesn't hold the tick back.
use Rattle.std.proofs.Common.{◌≡◌, ℕ, zero, suc, ◌+◌, ◌<◌, ◌≤◌, Bool, true, false, if◌then◌else◌, List, [], ◌∷◌, ◌++◌, length, Option, Some, None, Ok, Err, refl, sym, ◌∙◌, subst, inl, inr, ◌⊎◌, arith}
use Rattle.std.specs.Prelude.{slice_get}
use Rattle.std.specs.List.{AllByRecursion}
use Rattle.chaos_packet.specs.Packet.{PacketView}
use Rattle.chaos_host.specs.View.{HostView}
use Rattle.chaos_host.specs.Deeds.HostEvent.{Ticks}
use Rattle.chaos_lab.specs.declared.side.Side.{Side}
use Rattle.chaos_lab.specs.declared.side.Side.TheVariants.{A, B}
use Rattle.chaos_lab.specs.Machine.{other}
use Rattle.chaos_net.specs.Come.{AreSent}
use Rattle.chaos_net.specs.MadeTurns.{IsMade}
use Rattle.chaos_net.specs.TurnHalves.{node_turns}
use Rattle.chaos_net.proofs.Made.{none_made, both_made, copy_made}
use Rattle.chaos_net.proofs.SystemComing.{tick_made}
use Rattle.chaos_node.specs.Arrive.{Arrival, arrive_at_client, deliver_effect}
use Rattle.chaos_node.specs.Halves.{tick_all}
use Rattle.chaos_node.specs.Phase.{Effect, and_then, no_effect_on, over_packets, over_slots}
use Rattle.chaos_node.specs.Slots.{tick_at}
use Rattle.chaos_node.specs.Timer.{holds_at, tick_by}
use Rattle.chaos_node.specs.Turn.{client_phases}
use Rattle.chaos_node.specs.declared.timer.RetransmitTimer.{RetransmitTimer}
use Rattle.chaos_sealed_net.specs.SealedNet.{Datagram, SealedNet, MayHear, hears, seal_window, sealed_after}
use Rattle.chaos_sealed_net.specs.SealedNet.SealedEvent.{Does, Hears}
use Rattle.chaos_sealed_net.specs.SealedNodes.{AreNear}
use Rattle.chaos_sealed_net.proofs.Fresh.{Holding, holding_after, can_arrive, hears_no_more}

-- ---- an effect

-- The effect is made, nothing is sealed, and x has heard no counter above this one.
pub record IsMadeSealed (s r : SealedNet) (x : Side) (most : ℕ) (effect : Effect) : Type 0 where
  pub holding : Holding r
  pub made : IsMade s.net r.net x effect
  pub datagrams : r.datagrams ≡ s.datagrams
  pub own : r.newest x ≤ most
  pub far : r.newest (other x) ≡ s.newest (other x)

abbrev pub MakesSealed : SealedNet → Side → ℕ → Effect → Type 0
MakesSealed s x most effect = (r : SealedNet) × IsMadeSealed s r x most effect

module _ (x : Side) (most : ℕ) where
  none_sealed : (s : SealedNet) → Holding s → s.newest x ≤ most
      → MakesSealed s x most (no_effect_on (s.net x).host)
  none_sealed s h own =
      (s, record { holding = h; made = none_made s.net x; datagrams = refl; own = own; far = refl })

  both_sealed : (s r u : SealedNet) (e f : Effect) → IsMadeSealed s r x most e → IsMadeSealed r u x most f
      → IsMadeSealed s u x most (record { host = f.host; lots = e.lots ++ f.lots })
  both_sealed s r u e f one two = record {
    holding = two.holding;
    made = both_made s.net r.net u.net x e f one.made two.made;
    datagrams = two.datagrams ∙ one.datagrams;
    own = two.own;
    far = two.far ∙ one.far;
  }

  then_sealed : (s : SealedNet) (first : Effect) (next : HostView → Effect) → MakesSealed s x most first
      → ((r : SealedNet) → Holding r → r.newest x ≤ most → MakesSealed r x most (next (r.net x).host))
      → MakesSealed s x most (and_then first next)
  then_sealed s first next one two =
      let r : SealedNet = one.0 in
      let last = two r one.1.holding one.1.own in
      let there : IsMadeSealed r last.0 x most (next first.host) =
      subst (λ h. IsMadeSealed r last.0 x most (next h)) one.1.made.host last.1 in
      (last.0, both_sealed s r last.0 first (next first.host) one.1 there)

  -- ---- ticks

  tick_sealed : (now place : ℕ) (s : SealedNet) → Holding s → s.newest x ≤ most
      → MakesSealed s x most (tick_at now place (s.net x).host)
  tick_sealed now place s h own = (
    sealed_after s (Does x (Ticks place now)),
    record {
      holding = holding_after s h (Does x (Ticks place now)) tt;
      made = tick_made x now place s.net;
      datagrams = refl;
      own = own;
      far = refl;
    },
  )

  -- a timer may hold the tick back
  timed_tick_sealed : (timers : List RetransmitTimer) (now place : ℕ) (s : SealedNet) → Holding s → s.newest x ≤ most
      → MakesSealed s x most (tick_by timers now place (s.net x).host)
  timed_tick_sealed timers now place s h own =
      elim (holds_at timers now place (s.net x).host)
      as (λ (held : Bool). MakesSealed s x most (if held then no_effect_on (s.net x).host else tick_at now place (s.net x).host))
      [ true ↦ none_sealed s h own | false ↦ tick_sealed now place s h own ]

  pub ticks_sealed : (timers : List RetransmitTimer) (now size : ℕ) (s : SealedNet) → Holding s → s.newest x ≤ most
      → MakesSealed s x most (over_slots (tick_by timers now) size (s.net x).host)
  ticks_sealed timers now zero s h own = none_sealed s h own
  ticks_sealed timers now (suc size) s h own =
      then_sealed s (over_slots (tick_by timers now) size (s.net x).host) (tick_by timers now size)
      (ticks_sealed timers now size s h own) (λ r k newest. timed_tick_sealed timers now size r k newest)

  -- ---- packets

  -- the numbers are of packets of this datagram
  abbrev pub AreWithin : Datagram → List ℕ → Type 0
  AreWithin d ks = AllByRecursion (λ k. (d.first ≤ k) × (k ≤ d.last)) ks

  hears_far : (newest : Side → ℕ) (y : Side) (o : Option Datagram) → hears newest y o (other y) ≡ newest (other y)
  hears_far newest y None = refl
  hears_far newest A (Some d) = refl
  hears_far newest B (Some d) = refl

  packets_sealed : (now place : ℕ) (d : Datagram) → d.counter ≤ most → (ks : List ℕ) (ps : List PacketView)
      (s : SealedNet) → Holding s → s.newest x ≤ most → slice_get (s.datagrams (other x)) place ≡ Some d
      → s.newest x < d.counter + seal_window → AreWithin d ks → AreSent (s.net (other x)).sent ks ps
      → AreNear s.net x now ks ps → MakesSealed s x most (over_packets (deliver_effect now) ps (s.net x).host)
  packets_sealed now place d few [] [] s h own there inside within sent near = none_sealed s h own
  packets_sealed now place d few [] (p ∷ ps) s h own there inside within sent near = absurd sent
  packets_sealed now place d few (k ∷ ks) [] s h own there inside within sent near = absurd sent
  packets_sealed now place d few (k ∷ ks) (p ∷ ps) s h own there inside within sent near =
      let r : SealedNet = sealed_after s (Hears x place k now) in
      let may : MayHear s x place k = record {
        datagram = d;
        there = there;
        first = within.0.0;
        last = within.0.1;
        inside = inside;
        near = near.0;
      } in
      let heard : (c : ℕ) → s.newest x < c → d.counter < c → r.newest x < c =
      λ c less below. subst (λ o. hears s.newest x o x < c) (sym there) (hears_no_more s.newest x d c less below) in
      let some = heard (most + 1) (omega (arith, own)) (omega (arith, few)) in
      let one : IsMadeSealed s r x most (deliver_effect now p (s.net x).host) = record {
        holding = holding_after s h (Hears x place k now) may;
        made = copy_made s.net x k now p sent.0.0 sent.0.1 sent.0.2 (can_arrive s h x place k now may);
        datagrams = refl;
        own = omega (arith, some);
        far = hears_far s.newest x (slice_get (s.datagrams (other x)) place);
      } in
      let still : AreSent (r.net (other x)).sent ks ps =
      subst (λ st. AreSent st.sent ks ps) (sym one.made.far) sent.1 in
      let more =
      packets_sealed now place d few ks ps r one.holding one.own there
      (heard (d.counter + seal_window) inside (omega arith)) within.1 still near.1 in
      let host = (deliver_effect now p (s.net x).host).host in
      let next : IsMadeSealed r more.0 x most (over_packets (deliver_effect now) ps host) =
      subst (λ g. IsMadeSealed r more.0 x most (over_packets (deliver_effect now) ps g)) one.made.host more.1 in
      (more.0, both_sealed s r more.0 (deliver_effect now p (s.net x).host) (over_packets (deliver_effect now) ps host) one next)

  -- ---- a turn

  -- no packet comes, or packets of a datagram in the window, each near
  pub record AreInDatagram (s : SealedNet) (now : ℕ) (ks : List ℕ) (ps : List PacketView) : Type 0 where
    pub place : ℕ
    pub datagram : Datagram
    pub few : datagram.counter ≤ most
    pub there : slice_get (s.datagrams (other x)) place ≡ Some datagram
    pub inside : s.newest x < datagram.counter + seal_window
    pub within : AreWithin datagram ks
    pub sent : AreSent (s.net (other x)).sent ks ps
    pub near : AreNear s.net x now ks ps

  abbrev pub ComeSealed : SealedNet → ℕ → List ℕ → Arrival → Type 0
  ComeSealed s now ks (Some (Ok ps)) = (ps ≡ []) ⊎ AreInDatagram s now ks ps
  ComeSealed s now ks came = Unit {0}

  arrived_sealed : (s : SealedNet) (now : ℕ) (ks : List ℕ) (came : Arrival) → Holding s → s.newest x ≤ most
      → ComeSealed s now ks came → MakesSealed s x most (arrive_at_client came now (s.net x).host)
  arrived_sealed s now ks None h own c = none_sealed s h own
  arrived_sealed s now ks (Some (Err fault)) h own c = none_sealed s h own
  arrived_sealed s now ks (Some (Ok ps)) h own (inl none) =
      subst (λ qs. MakesSealed s x most (over_packets (deliver_effect now) qs (s.net x).host)) (sym none)
      (none_sealed s h own)
  arrived_sealed s now ks (Some (Ok ps)) h own (inr c) =
      packets_sealed now c.place c.datagram c.few ks ps s h own c.there c.inside c.within c.sent c.near

  pub turn_sealed : (s : SealedNet) (ks : List ℕ) (came : Arrival) (start now : ℕ) (before after : HostView)
      (lots : List (List PacketView)) → (s.net x).host ≡ before → Holding s → s.newest x ≤ most
      → ComeSealed s now ks came → node_turns came start now before after lots
      → MakesSealed s x most (record { host = after; lots = lots })
  turn_sealed s ks came start now before after lots is h own c (inl turn) =
      subst (MakesSealed s x most) (λ j. record { host = sym turn.1 j; lots = sym turn.2 j })
      (subst (λ g. MakesSealed s x most (client_phases turn.0 came now g)) is
      (then_sealed s (arrive_at_client came now (s.net x).host)
      (over_slots (tick_by turn.0 now) (length (s.net x).host.slots)) (arrived_sealed s now ks came h own c)
      (λ r k newest. ticks_sealed turn.0 now (length (s.net x).host.slots) r k newest)))
  turn_sealed s ks came start now before after lots is h own c (inr (inl half)) =
      subst (MakesSealed s x most) (λ j. record { host = sym half.0 j; lots = sym half.1 j })
      (subst (λ g. MakesSealed s x most (arrive_at_client came now g)) is (arrived_sealed s now ks came h own c))
  turn_sealed s ks came start now before after lots is h own c (inr (inr half)) =
      subst (MakesSealed s x most) (λ j. record { host = sym half.1 j; lots = sym half.2 j })
      (subst (λ g. MakesSealed s x most (tick_all now g)) is (ticks_sealed [] now (length (s.net x).host.slots) s h own))
