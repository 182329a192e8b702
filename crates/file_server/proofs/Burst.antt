-- A slot that is served once or in a burst, of its parts.
use Rattle.std.proofs.Common.{◌≡◌, ◌⊎◌, ◌≤◌, ◌<◌, ℕ, suc, Bool, false, List, [], ◌∷◌, ◌++◌, Option, Some, length, inl, inr, refl, ap, sym, ◌∙◌, subst, append_assoc, arith}
use Rattle.std.proofs.lemmas.List.{append-nil}
use Rattle.chaos_packet.specs.Outbox.{OutboxView}
use Rattle.chaos_packet.specs.Packet.{PacketView}
use Rattle.chaos_file.specs.ServeCalls.{can_serve}
use Rattle.chaos_host.specs.View.{HostView, id_at}
use Rattle.chaos_link.specs.Link.{Ask, QueueView}
use Rattle.chaos_link.specs.declared.carriage.Carriage.{Carriage}
use Rattle.chaos_node.specs.Link.{SendsLots, has_packets}
use Rattle.chaos_node.specs.Station.{station}
use Rattle.chaos_node.proofs.Phase.{put_into_empty}
use Rattle.file_server.specs.Serve.{IsBurstOver, ServerDoes, ServesModeBy, ServesSlotBy, ServesTimesBy, Uses}
use Rattle.file_server.specs.Server.{Server}
use Rattle.file_server.specs.declared.limits.TheConstants.{BURST}
use Rattle.file_server.specs.declared.serve_mode.ServeMode.{ServeMode}
use Rattle.file_server.specs.declared.serve_mode.ServeMode.TheVariants.{Burst, Once}
use Rattle.file_server.proofs.Relation.{Placed}

-- Serving that goes on by this mode has made no command yet, or is a burst with room for more.
pub record GoesOn (mode : ServeMode) (times : ℕ) (packets : List PacketView) : Type 0 where
  pub few : times < BURST
  pub room : length packets ≤ BURST
  pub burst : (times ≡ 0) ⊎ (mode ≡ Burst)

-- Serving by this mode has come to its end.
abbrev pub HasEnded : ServeMode → HostView → ℕ → ℕ → List PacketView → Type 0
HasEnded Once h id times packets = times ≡ 1
HasEnded Burst h id times packets = (1 ≤ times) × (times ≤ BURST) × IsBurstOver h id times packets

-- why serving doesn't go on
abbrev pub IsStopped : ServeMode → HostView → ℕ → ℕ → ℕ → Type 0
IsStopped mode h id times put = (mode ≡ Once) ⊎ ((can_serve h id ≡ false) ⊎ ((BURST ≤ times) ⊎ (BURST < put)))

pub ended_so : (mode : ServeMode) (h : HostView) (id before times put : ℕ) (packets : List PacketView)
    → times ≡ suc before → before < BURST → (before ≡ 0) ⊎ (mode ≡ Burst) → put ≡ length packets
    → IsStopped mode h id times put → HasEnded mode h id times packets
ended_so Once h id before times put packets next few (inl none) is why = next ∙ ap suc none
ended_so Once h id before times put packets next few (inr burst) is why = absurd (cc)
ended_so Burst h id before times put packets next few was is (inl once) = absurd (cc)
ended_so Burst h id before times put packets next few was is (inr (inl none)) =
    (omega (arith, next), omega (arith, next, few), inl none)
ended_so Burst h id before times put packets next few was is (inr (inr (inl all))) =
    (omega (arith, next), omega (arith, next, few), inr (inl (omega (arith, next, few, all))))
ended_so Burst h id before times put packets next few was is (inr (inr (inr many))) =
    (omega (arith, next), omega (arith, next, few), inr (inr (omega (arith, is, many))))

module _ {S : Type 0} (uses : Uses S) where
  -- The connection at a place was served so many times, and what was put out stands behind what waited.
  pub record ServedSo (now place id times : ℕ) (s t : Server S) (before after : OutboxView) : Type 0 where
    pub packets : List PacketView
    pub serves : ServesTimesBy uses now place id times s t packets
    pub put : after ≡ record before { packets = before.packets ++ packets }
    pub config : t.host.config ≡ s.host.config
    pub size : length t.host.slots ≡ length s.host.slots
    pub count : length t.sessions ≡ length s.sessions

  pub none_so : (now place id : ℕ) (s t : Server S) (out : OutboxView) → t ≡ s → ServedSo now place id 0 s t out out
  none_so now place id s t out same = record {
    packets = [];
    serves = (same, refl);
    put = ap (λ (ps : List PacketView). record out { packets = ps }) (sym (append-nil out.packets));
    config = ap (λ (x : Server S). x.host.config) same;
    size = ap (λ (x : Server S). length x.host.slots) same;
    count = ap (λ (x : Server S). length x.sessions) same;
  }

  pub next_so : (now place id times : ℕ) (s m t : Server S) (before between after : OutboxView)
      → ServedSo now place id times s m before between → Placed uses now place id m t between after
      → ServedSo now place id (suc times) s t before after
  next_so now place id times s m t before between after first last = record {
    packets = first.packets ++ last.packets;
    serves = (m, first.packets, last.packets, first.serves, last.serves, refl);
    put =
        last.put
        ∙ (ap (λ (o : OutboxView). record o { packets = o.packets ++ last.packets }) first.put
        ∙ ap (λ (ps : List PacketView). record before { packets = ps })
        (append_assoc before.packets first.packets last.packets));
    config = last.config ∙ first.config;
    size = last.size ∙ first.size;
    count = last.count ∙ first.count;
  }

  mode_so : (mode : ServeMode) (now place id times : ℕ) (s t : Server S) (packets : List PacketView)
      → ServesTimesBy uses now place id times s t packets → HasEnded mode t.host id times packets
      → ServesModeBy uses mode now place (Some id) s t (packets ∷ [])
  mode_so Once now place id times s t packets serves ended =
      let one : ServesTimesBy uses now place id 1 s t packets =
      subst (λ (k : ℕ). ServesTimesBy uses now place id k s t packets) ended serves in
      let first : packets ≡ one.2 = one.5 ∙ ap (λ (ps : List PacketView). ps ++ one.2) one.3.1 in
      subst (λ (ps : List PacketView). ServesModeBy uses Once now place (Some id) s t (ps ∷ [])) (sym first)
      (subst (λ (x : Server S). ServesModeBy uses Once now place (Some id) x t (one.2 ∷ [])) one.3.0 one.4)
  mode_so Burst now place id times s t packets serves ended = record {
    times = times;
    packets = packets;
    some = ended.0;
    few = ended.1;
    serves = serves;
    ends = ended.2;
    out = refl;
  }

  -- a slot was served, and what was put out went into the link
  pub slot_so : {asked : List Ask → Type 0} (carriage : Carriage) (mode : ServeMode) (now place id times : ℕ)
      (s t : Server S) (before after rest : OutboxView) (queue queue' : Option QueueView) (sent : Bool)
      → id_at s.host place ≡ Some id → before.packets ≡ [] → ServedSo now place id times s t before after
      → HasEnded mode t.host id times after.packets
      → SendsLots asked carriage queue (after.packets ∷ []) queue' → rest ≡ record { packets = []; cap = after.cap }
      → sent ≡ has_packets (after.packets ∷ [])
      → ServerDoes asked carriage (ServesSlotBy uses mode now place) (station s queue before) (station t queue' rest) sent
  slot_so carriage mode now place id times s t before after rest queue queue' sent there empty done ended sends over told =
      let same : after.packets ≡ done.packets =
      ap (λ (o : OutboxView). o.packets) done.put ∙ put_into_empty before done.packets empty in
      record {
        lots = after.packets ∷ [];
        done =
            subst (λ (o : Option ℕ). ServesModeBy uses mode now place o s t (after.packets ∷ [])) (sym there)
            (mode_so mode now place id times s t after.packets
            (subst (λ (ps : List PacketView). ServesTimesBy uses now place id times s t ps) (sym same) done.serves) ended);
        sends = sends;
        outbox =
            over
            ∙ (ap (λ (o : OutboxView). record { packets = []; cap = o.cap }) done.put
            ∙ ap (λ (ps : List PacketView). record { packets = ps; cap = before.cap }) (sym empty));
        told = told;
        config = done.config;
        size = done.size;
        count = done.count;
      }
