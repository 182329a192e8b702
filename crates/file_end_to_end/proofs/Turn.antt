-- A server's turn is a run of file events.
use Rattle.std.proofs.Common.{◌≡◌, ℕ, ◌<◌, List, [], ◌∷◌, ◌++◌, length, Option, Some, sym, ap, ◌∙◌, subst, append_assoc, arith}
use Rattle.std.specs.Prelude.{⊤}
use Rattle.std.specs.List.{AllByRecursion}
use Rattle.chaos_packet.specs.Packet.{PacketView}
use Rattle.chaos_file.specs.Store.{Files, change}
use Rattle.chaos_host.specs.View.{HostView}
use Rattle.chaos_link.specs.Loads.{packets_of}
use Rattle.chaos_lab.specs.declared.side.Side.TheVariants.{A, B}
use Rattle.chaos_net.specs.Net.{index_of, present}
use Rattle.chaos_net.proofs.Network.{reached_is_played}
use Rattle.chaos_node.specs.Arrive.{Arrival}
use Rattle.chaos_node.specs.Phase.{Effect}
use Rattle.chaos_net.specs.Come.{ComeFrom, ComeFresh}
use Rattle.chaos_net.specs.MadeTurns.{packets_sent}
use Rattle.file_server.specs.Arrive.{arrive_at_server}
use Rattle.file_server.specs.Server.{Server, with_host}
use Rattle.file_server.specs.Sessions.{Serving, serving_at}
use Rattle.file_server.specs.Slots.{Options, end_phases, given_back}
use Rattle.file_server.specs.Turn.{IsTurn}
use Rattle.file_server.specs.declared.serve_mode.ServeMode.{ServeMode}
use Rattle.file_end_to_end.specs.Turns.{accepts_upon}
use Rattle.file_net.specs.FileNet.{FileNet, FileEvent, Nets, Serves, FileRun, file_happens}
use Rattle.file_net.proofs.Kept.{IsSound, event_keeps, run_keeps, reached_is_sound}
use Rattle.file_end_to_end.specs.Server.{name_at, IsOld, IsServer, TurnIsRun, ServerTurnsAreFileRuns}
use Rattle.file_end_to_end.proofs.Led.{IsArriving, IsEnding, IsLed, Leads, Grows, arrived, ended, ended_grows, both_led}
use Rattle.file_end_to_end.proofs.Slots.{id_used, given_size, given_used, given_id}
use Rattle.file_end_to_end.proofs.Steady.{arrivals_steady, arrivals_service, endings_keep, serves_steady}
use Rattle.file_end_to_end.proofs.Serve.{IsServing, IsAt, kept_ready, steady_ready, slots_served}

-- any event
abbrev Any : FileEvent → Type 0
Any event = ⊤

all_any : (events : List FileEvent) → AllByRecursion Any events
all_any [] = tt
all_any (event ∷ events) = (tt, all_any events)

-- events of any kind
any_led : (P : FileEvent → Type 0) (f g : FileNet) (e : Effect) → IsLed P B f g e → IsLed Any B f g e
any_led P f g e led = record {
  events = led.events;
  run = led.run;
  kinds = all_any led.events;
  host = led.host;
  sent = led.sent;
  far = led.far;
}

-- serving leaves the turns
serving_turns : (m : Files) (events : List FileEvent) (f g : FileNet) → IsSound m f → FileRun f events g
    → AllByRecursion IsServing events → (p : ℕ) → (g.net B).turn p ≡ (f.net B).turn p
serving_turns m [] f g h is all p = ap (λ (z : FileNet). (z.net B).turn p) is
serving_turns m (Serves id now way ∷ events) f g h r all p =
    serving_turns m events (file_happens f (Serves id now way)) g (event_keeps m f (Serves id now way) r.0 h) r.1 all.1 p
    ∙ (serves_steady f id now way h.reached).turns p
serving_turns m (Nets event ∷ events) f g h r all p = absurd all.0

module _ {S : Type 0} (contents : S → Option Files) (may_give : S → List ℕ → ℕ → List ℕ → Type 0) (count : S → ℕ) where
  pub turn_is_run : (mode : ServeMode) (options : Options) (m : Files) (f : FileNet) (numbers : List ℕ) (came : Arrival) (start now : ℕ) (s t : Server S)
      (lots : List (List PacketView)) → IsSound m f → IsServer contents s f → ComeFrom f.net B numbers came
      → ComeFresh (accepts_upon start now) f.net B now numbers came
      → IsTurn (change contents may_give count) mode options came start now s t lots
      → (g : FileNet) × TurnIsRun contents f g t lots × Grows (λ p. 3) f g
  turn_is_run mode options m f numbers came start now s t lots h server from fresh turn =
      -- what came
      let arrival : Effect = arrive_at_server came start now s.host in
      let first : Leads IsArriving B f arrival =
      subst (λ v. Leads IsArriving B f (arrive_at_server came start now v)) server.host
      (arrived f numbers came start now from fresh) in
      let f1 : FileNet = first.0 in
      let h1 = run_keeps m first.1.events f f1 first.1.run h in
      let steady = arrivals_steady m first.1.events f f1 h first.1.run first.1.kinds in
      let service = arrivals_service first.1.events f f1 first.1.run first.1.kinds in
      let s1 : Server S = with_host s arrival.host in
      let size1 : length arrival.host.slots ≡ length s.host.slots =
      ap (λ (v : HostView). length v.slots) (sym first.1.host) ∙ steady.size
      ∙ ap (λ (v : HostView). length v.slots) server.host in
      let at1 : IsAt contents s1 f1 0 = record {
        host = first.1.host;
        files = server.files ∙ ap (λ v. Some v.files) (sym service);
        count = server.count ∙ sym size1;
        ready = λ p within.
            steady_ready f.net f1.net steady f.service.session f1.service.session p (serving_at s.sessions p)
            (ap (λ v. v.session (name_at (f.net B).turn p)) service)
            (kept_ready m f h p (serving_at s.sessions p) (server.slots p (subst (λ n. p < n) size1 within)));
        kept = λ p few within. absurd (omega (arith, few));
      } in
      -- each slot is served
      let size = length s.host.slots in
      let served : Server S = turn.served in
      let two =
      slots_served contents may_give count m now mode size f1 s1 served turn.replies h1 (omega (arith, size1)) at1 turn.serves in
      let f2 : FileNet = two.net in
      let h2 = run_keeps m two.led.events f1 f2 two.led.run h1 in
      let size2 : length served.host.slots ≡ length s.host.slots = two.size ∙ size1 in
      -- the end
      let end : Effect = end_phases options served.sessions now served.host in
      let few = ((reached_is_played f2.net h2.reached) B).station.host.table.few in
      let last : (g : FileNet) × IsLed IsEnding B f2 g end × Grows (λ p. 3) f2 g =
      subst (λ v. (g : FileNet) × IsLed IsEnding B f2 g (end_phases options served.sessions now v) × Grows (λ p. 3) f2 g) two.at.host
      (let e = ended f2 options served.sessions now in (e.0, e.1, ended_grows f2 options served.sessions now few)) in
      let g : FileNet = last.0 in
      let h3 = run_keeps m last.1.events f2 g last.1.run h2 in
      let keeps = endings_keep m last.1.events f2 g h2 last.1.run last.1.kinds in
      let size3 : length end.host.slots ≡ length served.host.slots =
      ap (λ (v : HostView). length v.slots) (sym last.1.host) ∙ keeps.size
      ∙ ap (λ (v : HostView). length v.slots) two.at.host in
      let left : List Serving = given_back end.host (length end.host.slots) served.sessions in
      let all =
      both_led Any B f f2 g (record { host = served.host; lots = arrival.lots ++ turn.replies }) end
      (both_led Any B f f1 f2 arrival (record { host = served.host; lots = turn.replies }) (any_led IsArriving f f1 arrival first.1)
      (any_led IsServing f1 f2 (record { host = served.host; lots = turn.replies }) two.led))
      (any_led IsEnding f2 g end last.1) in
      let station = ((reached_is_played g.net h3.reached) B).station in
      let is_server : IsServer contents (record served { host = end.host; sessions = left }) g = record {
        host = last.1.host;
        files = two.at.files ∙ ap (λ v. Some v.files) (sym keeps.service);
        count = given_size end.host (length end.host.slots) served.sessions ∙ two.at.count ∙ sym size3;
        slots = λ p within.
            let inside : p < length (g.net B).host.slots =
            subst (λ (v : HostView). p < length v.slots) (sym last.1.host) within in
            let was = keeps.kept p (serving_at served.sessions p)
            (two.at.kept p (omega (arith, within, size3, size2)) (omega (arith, within, size3))) in
            let there = two.at.count in
            record {
              used = λ st is.
                  let id = id_used (g.net B) (g.net A) station p inside st is in
                  let same =
                  given_used end.host (length end.host.slots) served.sessions p (index_of (present (g.net B) p))
                  (ap (λ v. Rattle.chaos_host.specs.View.id_at v p) (sym last.1.host) ∙ id) in
                  let u = was.used st is in
                  (ap (λ (z : Serving). z.id) same ∙ u.0, ap (λ (z : Serving). z.session) same ∙ u.1);
              free = λ none.
                  subst (IsOld (g.net B).turn p)
                  (sym (given_id end.host (length end.host.slots) served.sessions p (omega (arith, within, size3, there))))
                  (was.free none);
            };
      } in (
        g,
        record {
          events = all.events;
          run = all.run;
          server = subst (λ (u : Server S). IsServer contents u g) (sym turn.ended) is_server;
          sent =
              all.sent
              ∙ ap (λ (ps : List PacketView). packets_sent (f.net B) ++ ps)
              (ap packets_of (append_assoc arrival.lots turn.replies end.lots ∙ sym turn.out));
          far = all.far;
        },
        λ p.
            let one = steady.turns p in
            let same = serving_turns m two.led.events f1 f2 h1 two.led.run two.led.kinds p in
            let most = last.2 p in
            omega (arith, one, same, most),
      )

  pub server_turns_are_file_runs : ServerTurnsAreFileRuns contents may_give count
  server_turns_are_file_runs m f numbers came start now s t lots reached server from fresh turn =
      let r = turn_is_run turn.0 turn.1 m f numbers came start now s t lots (reached_is_sound m f reached) server from fresh turn.2 in
      (r.0, r.1)
