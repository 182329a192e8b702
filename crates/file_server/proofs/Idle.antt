-- Phases that do nothing.
use Rattle.std.proofs.Common.{Bool, if◌then◌else◌, zero, suc, length, ◌≡◌, ℕ, false, List, [], ◌∷◌, Option, Some, None, Ok, refl, ap, sym, ◌∙◌}
use Rattle.chaos_packet.specs.Packet.{PacketView}
use Rattle.chaos_conn.specs.Act.{Close}
use Rattle.chaos_conn.specs.State.{is_ended}
use Rattle.chaos_conn.specs.View.{ConnView}
use Rattle.chaos_host.specs.Calls.{host_end, release_slot}
use Rattle.chaos_host.specs.Slot.{named_slot}
use Rattle.chaos_host.specs.View.{HostView, host_look, id_at, look_slot}
use Rattle.chaos_host.specs.declared.slot.Slot.{Slot}
use Rattle.chaos_link.specs.Link.{Ask, AskedSince, Asks}
use Rattle.chaos_link.specs.Loads.{packets_of}
use Rattle.chaos_link.specs.declared.link.Link.{Ghosts}
use Rattle.chaos_link.specs.declared.carriage.Carriage.{Carriage}
use Rattle.chaos_link.specs.declared.carriage.Carriage.TheVariants.{One, Two}
use Rattle.chaos_link.proofs.Asked.{asks_none}
use Rattle.chaos_node.specs.Link.{has_packets, read_all, sent_by}
use Rattle.chaos_node.specs.InTurn.{TurnDoes, station_of}
use Rattle.chaos_node.specs.Phase.{DoesPhase, Effect, and_then, effect_of, no_effect_on, over_slots}
use Rattle.chaos_node.specs.Station.{Station}
use Rattle.chaos_node.specs.Timer.{tick_by}
use Rattle.chaos_node.specs.declared.turn.Turn.{Turn}
use Rattle.chaos_node.proofs.InTurn.{then_all_slots, then_does}
use Rattle.chaos_node.proofs.Queue.{or_false, sends_nothing}
use Rattle.file_server.specs.Sessions.{Serving, serving_at}
use Rattle.file_server.specs.Slots.{EndsNothing, EndsNothingAt, IsIdle, Options, close_at, end_phases, is_late, is_over, is_over_in, release_at}

none_sent : (carriage : Carriage) (lots : List (List PacketView)) → has_packets lots ≡ false → sent_by carriage lots ≡ []
none_sent carriage [] e = refl
none_sent One ([] ∷ lots) e = none_sent One lots e
none_sent Two ([] ∷ lots) e = none_sent Two lots e
none_sent carriage ((p ∷ ps) ∷ lots) e = absurd (cc)

no_packets : (lots : List (List PacketView)) → has_packets lots ≡ false → packets_of lots ≡ []
no_packets [] e = refl
no_packets ([] ∷ lots) e = no_packets lots e
no_packets ((p ∷ ps) ∷ lots) e = absurd (cc)

pub idle : {L : Type 0} {asked : AskedSince L Ask} (carriage : Carriage) (s : Station HostView) (effect : Effect)
    → IsIdle effect s.node → DoesPhase (Asks asked asked) carriage effect s s false
idle {L} {asked} carriage s effect is =
    let none : sent_by carriage effect.lots ≡ [] = none_sent carriage effect.lots is.1 in
    record {
      host = sym is.0;
      sends = record {
        sends = rw none (sends_nothing s.queue);
        asks = rw none (asks_none asked);
        read = ap read_all none ∙ sym (no_packets effect.lots is.1);
      };
      outbox = refl;
      told = sym is.1;
      config = refl;
      size = refl;
    }

-- ---- a connection that hasn't ended isn't released

release_nothing : (h : HostView) (id : ℕ) (found : Option Slot) (conn : ConnView) → look_slot (λ c. c) found ≡ Ok conn
    → is_ended conn.state ≡ false → IsIdle (effect_of (release_slot h id found)) h
release_nothing h id None conn shows not = absurd (cc)
release_nothing h id (Some slot) conn shows not =
    let same : slot.conn ≡ conn = cc in
    let on : is_ended slot.conn.state ≡ false = rw same not in
    rw on (refl, refl)

pub goes_on : {L : Type 0} {asked : AskedSince L Ask} (carriage : Carriage) (s : Station HostView) (place id : ℕ)
    (conn : ConnView)
    → id_at s.node place ≡ Some id → host_look s.node id (λ c. c) ≡ Ok conn → is_ended conn.state ≡ false
    → DoesPhase (Asks asked asked) carriage (release_at place s.node) s s false
goes_on carriage s place id conn there shows on =
    idle carriage s (release_at place s.node)
    (rw there (release_nothing s.node id (named_slot s.node.slots id) conn shows on))

-- ---- a connection that isn't over isn't closed

close_nothing : (eof late : Bool) (h : HostView) (id : ℕ) (found : Option Slot) (conn : ConnView)
    → look_slot (λ c. c) found ≡ Ok conn → is_over eof late conn ≡ false
    → IsIdle (if is_over_in eof late found then effect_of (host_end h id (Close [])) else no_effect_on h) h
close_nothing eof late h id None conn shows not = absurd (cc)
close_nothing eof late h id (Some slot) conn shows not =
    let same : slot.conn ≡ conn = cc in
    let on : is_over eof late slot.conn ≡ false = rw same not in
    rw on (refl, refl)

-- what serving a slot left, and its connection, end nothing there
pub ends_nothing_at : (silence : Option ℕ) (now : ℕ) (sessions : List Serving) (h : HostView) (place id : ℕ)
    (conn : ConnView)
    → id_at h place ≡ Some id → host_look h id (λ c. c) ≡ Ok conn
    → is_over (serving_at sessions place).eof (is_late silence (serving_at sessions place).since now) conn ≡ false
    → is_ended conn.state ≡ false → EndsNothingAt silence now sessions h place
ends_nothing_at silence now sessions h place id conn there shows on lives =
    let serving = serving_at sessions place in (
      rw there
          (close_nothing serving.eof (is_late silence serving.since now) h id (named_slot h.slots id) conn shows on),
      rw there (release_nothing h id (named_slot h.slots id) conn shows lives),
    )

-- ---- a turn in which nothing ends

module _ {L : Type 0} {G : Ghosts L} where
  idle_turn : (a : Turn L G) (effect : Effect) → IsIdle effect a.host.now → TurnDoes a a effect false
  idle_turn a effect is = (idle a.carriage (station_of a) effect is, (refl, refl, refl, refl, refl))

  closes_nothing : (silence : Option ℕ) (sessions : List Serving) (a : Turn L G) (n : ℕ)
      → EndsNothing silence a.now sessions a.host.now n
      → TurnDoes a a (over_slots (close_at silence a.now sessions) n a.host.now) false
  closes_nothing silence sessions a zero none = idle_turn a (no_effect_on a.host.now) (refl, refl)
  closes_nothing silence sessions a (suc n) none =
      then_does a a a (over_slots (close_at silence a.now sessions) n a.host.now)
      (λ (now : ℕ). close_at silence now sessions n) false false false (closes_nothing silence sessions a n none.0)
      (idle_turn a (close_at silence a.now sessions n a.host.now) none.1.0) refl

  releases_nothing : (silence : Option ℕ) (sessions : List Serving) (a : Turn L G) (n : ℕ)
      → EndsNothing silence a.now sessions a.host.now n → TurnDoes a a (over_slots release_at n a.host.now) false
  releases_nothing silence sessions a zero none = idle_turn a (no_effect_on a.host.now) (refl, refl)
  releases_nothing silence sessions a (suc n) none =
      then_does a a a (over_slots release_at n a.host.now) (λ (now : ℕ). release_at n) false false false
      (releases_nothing silence sessions a n none.0) (idle_turn a (release_at n a.host.now) none.1.1) refl

  -- the ticks alone are the last phases
  pub ticks_alone : (options : Options) (sessions : List Serving) (a b : Turn L G) (sent : Bool)
      → EndsNothing options.silence a.now sessions a.host.now (length a.host.now.slots)
      → TurnDoes a b (over_slots (tick_by options.timers a.now) (length a.host.now.slots) a.host.now) sent
      → TurnDoes a b (end_phases options sessions a.now a.host.now) sent
  ticks_alone options sessions a b sent none ticked =
      let slots = length a.host.now.slots in
      let first = over_slots (close_at options.silence a.now sessions) slots a.host.now in
      then_all_slots a a b (and_then first (over_slots release_at slots)) (tick_by options.timers) false sent sent
      (then_all_slots a a a first (λ (now : ℕ). release_at) false false false
      (closes_nothing options.silence sessions a slots none) (releases_nothing options.silence sessions a slots none) refl)
      ticked (sym (or_false sent))
