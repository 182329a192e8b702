-- A log that gets what each served command changed; and the same turns without the log.
use Rattle.std.proofs.Common.{◌≡◌, zero, suc, ℕ, Bool, List, [], ◌∷◌, Option, Some, None, ap, ◌∙◌}
use Rattle.chaos_packet.specs.Outbox.{OutboxView}
use Rattle.chaos_packet.specs.Packet.{PacketView}
use Rattle.chaos_file.specs.Session.{SessionView}
use Rattle.chaos_file.specs.Store.{StoreChange}
use Rattle.chaos_file.specs.declared.change.Change.{Change}
use Rattle.chaos_conn.specs.declared.state.End.{End}
use Rattle.chaos_host.specs.Acted.{HostActed}
use Rattle.chaos_host.specs.Slot.{named_slot, place_of}
use Rattle.chaos_host.specs.View.{HostView, id_at}
use Rattle.chaos_link.specs.Link.{Ask}
use Rattle.chaos_link.specs.declared.carriage.Carriage.{Carriage}
use Rattle.chaos_link.specs.declared.report.LinkReport.{LinkReport}
use Rattle.chaos_file.specs.ServeAnswer.{IsAnswered, IsUnused}
use Rattle.chaos_file.specs.ServeHost.{DoesWorkInSlotBy}
use Rattle.chaos_file.specs.declared.served.Served.{Served}
use Rattle.chaos_file.proofs.ServeSlots as slots
use Rattle.chaos_node.specs.Arrive.{Arrival}
use Rattle.chaos_node.specs.Station.{Station, station}
use Rattle.chaos_node.specs.declared.end.TurnEnd.{TurnEnd}
use Rattle.file_server.specs.Arrive.{arrive_at_server}
use Rattle.file_server.specs.Logged.{Logged, LogsTurn, after_arrival, logged_made, logged_use, logged_uses, report_use}
use Rattle.file_server.specs.Serve.{IsServedAt, ServesMode, ServesModeBy, ServesPlace, ServesPlaceBy, ServesSlots, ServesSlotsBy, ServesTimes, ServesTimesBy, SessionServesBy, SlotDoes, serving_after}
use Rattle.file_server.specs.Server.{Server, server, with_host}
use Rattle.file_server.specs.Sessions.{Serving, serving_at, serving_of}
use Rattle.file_server.specs.Slots.{Options}
use Rattle.file_server.specs.Turn.{IsTurn, IsTurnBy, RunsTurn, RunsTurnBy}
use Rattle.file_server.specs.Watch.{Event, peer_at}
use Rattle.file_server.specs.declared.serve_mode.ServeMode.{ServeMode}
use Rattle.file_server.specs.declared.serve_mode.ServeMode.TheVariants.{Burst, Once}
use Rattle.file_server.proofs.Relation.{in_found, serves_so}

-- a slot's session is left as the session that served
left_so : (answered : List ℕ → List ℕ → Type 0) (unused : Type 0) (serving left : Serving) (t : SessionView)
    (old new : HostView) (before after : OutboxView) (id now : ℕ)
    → DoesWorkInSlotBy answered unused (λ acted. SlotDoes (serving_after serving t acted.answer) left old acted new before after) old (place_of id) now (named_slot old.slots id)
    → left.session ≡ t
left_so answered unused serving left t old new before after id now done =
    let found =
    in_found answered unused (λ acted. SlotDoes (serving_after serving t acted.answer) left old acted new before after) old
    (place_of id) now (named_slot old.slots id) done in
    ap (λ (s : Serving). s.session) found.2.session

-- what was reported of a command was logged
pub logged_so : (store : StoreChange) (entries entries' : Option (List Event)) (found peer : End) (made : Option Change)
    (now id : ℕ) (serving left : Serving) (old new : HostView) (before after : OutboxView)
    → found ≡ peer → entries' ≡ logged_made found left.session.name made entries
    → SessionServesBy (report_use store made) now id serving (λ s acted. SlotDoes s left old acted new before after) old
    → SessionServesBy (logged_use store entries entries' peer) now id serving
    (λ s acted. SlotDoes s left old acted new before after) old
logged_so store entries entries' found peer made now id serving left old new before after is e done =
    let t = done.0 in
    let u = report_use store made serving.session t in
    let v = logged_use store entries entries' peer serving.session t in
    let same : left.session ≡ t = left_so u.answered u.unused serving left t old new before after id now done.1 in
    let logged : entries' ≡ logged_made peer t.name made entries =
    e ∙ (ap (λ (p : End). logged_made p left.session.name made entries) is
    ∙ ap (λ (s : SessionView). logged_made peer s.name made entries) same) in (
      t,
      slots.slot_so u.answered v.answered u.unused v.unused (λ command reply both. (made, both, logged))
          (λ both. (both.0, logged ∙ ap (λ (m : Option Change). logged_made peer t.name m entries) both.1))
          (λ acted. SlotDoes (serving_after serving t acted.answer) left old acted new before after) old (place_of id) now
          (named_slot old.slots id) done.1,
    )

-- ---- without the log

abbrev pub plain : {S : Type 0} → Server (Logged S) → Server S
plain s = server s.host s.sessions s.store.0

module _ {S : Type 0} (changes : S → S → StoreChange) where
  place_plain : (now place : ℕ) (found : Option ℕ) (s t : Server (Logged S)) (lots : List (List PacketView))
      → ServesPlaceBy (logged_uses changes) now place found s t lots
      → ServesPlace changes now place found (plain s) (plain t) lots
  place_plain now place None s t lots done = (ap plain done.0, done.1)
  place_plain now place (Some id) s t lots done =
      let serving = serving_of id now (serving_at s.sessions place) in
      let u = logged_use (changes s.store.0 t.store.0) s.store.1 t.store.1 (peer_at s.host id) serving.session done.0 in
      let does : HostActed Served → Type 0 =
      λ acted. IsServedAt place s t lots (serving_after serving done.0 acted.answer) acted in
      let does' : HostActed Served → Type 0 =
      λ acted. IsServedAt place (plain s) (plain t) lots (serving_after serving done.0 acted.answer) acted in (
        done.0,
        slots.slot_so u.answered (IsAnswered (changes s.store.0 t.store.0) serving.session done.0) u.unused
            (IsUnused (changes s.store.0 t.store.0) serving.session done.0) (λ command reply all. all.1.0)
            (λ all. all.0) does' s.host (place_of id) now (named_slot s.host.slots id)
            (serves_so u.answered u.unused does does' s.host (place_of id) now (named_slot s.host.slots id)
            (λ acted is. record { host = is.host; sessions = is.sessions; out = is.out }) done.1),
      )

  times_plain : (now place id times : ℕ) (s t : Server (Logged S)) (packets : List PacketView)
      → ServesTimesBy (logged_uses changes) now place id times s t packets
      → ServesTimes changes now place id times (plain s) (plain t) packets
  times_plain now place id zero s t packets done = (ap plain done.0, done.1)
  times_plain now place id (suc times) s t packets done = (
    plain done.0,
    done.1,
    done.2,
    times_plain now place id times s done.0 done.1 done.3,
    place_plain now place (Some id) done.0 t (done.2 ∷ []) done.4,
    done.5,
  )

  mode_plain : (mode : ServeMode) (now place : ℕ) (found : Option ℕ) (s t : Server (Logged S))
      (lots : List (List PacketView))
      → ServesModeBy (logged_uses changes) mode now place found s t lots
      → ServesMode changes mode now place found (plain s) (plain t) lots
  mode_plain Once now place found s t lots done = place_plain now place found s t lots done
  mode_plain Burst now place None s t lots done = (ap plain done.0, done.1)
  mode_plain Burst now place (Some id) s t lots done = record {
    times = done.times;
    packets = done.packets;
    some = done.some;
    few = done.few;
    serves = times_plain now place id done.times s t done.packets done.serves;
    ends = done.ends;
    out = done.out;
  }

  slots_plain : (mode : ServeMode) (now n : ℕ) (s t : Server (Logged S)) (lots : List (List PacketView))
      → ServesSlotsBy (logged_uses changes) mode now n s t lots → ServesSlots changes mode now n (plain s) (plain t) lots
  slots_plain mode now zero s t lots done = (ap plain done.0, done.1)
  slots_plain mode now (suc n) s t lots done = (
    plain done.0,
    done.1,
    done.2,
    slots_plain mode now n s done.0 done.1 done.3,
    mode_plain mode now n (id_at done.0.host n) done.0 t done.2 done.4,
    done.5,
  )

  turn_plain : (mode : ServeMode) (options : Options) (came : Arrival) (start now : ℕ) (s t : Server (Logged S))
      (lots : List (List PacketView))
      → IsTurnBy (logged_uses changes) mode options came start now s t lots
      → IsTurn changes mode options came start now (plain s) (plain t) lots
  turn_plain mode options came start now s t lots is = record {
    served = plain is.served;
    replies = is.replies;
    serves =
        slots_plain mode now _ (with_host s (arrive_at_server came start now s.host).host) is.served is.replies is.serves;
    ended = ap plain is.ended;
    out = is.out;
  }

  pub runs_plain : (mode : ServeMode) (options : Options) (asked : List Ask → Type 0) (waits : Bool) (carriage : Carriage) (start now : ℕ)
      (before after : Station (Server (Logged S))) (result : TurnEnd)
      → RunsTurnBy (logged_uses changes) mode options asked waits carriage start now before after result
      → RunsTurn changes mode options asked waits carriage start now
      (station (plain before.node) before.queue before.outbox) (station (plain after.node) after.queue after.outbox)
      result
  runs_plain mode options asked waits carriage start now before after result is = record {
    came = is.came;
    lots = is.lots;
    turn = turn_plain mode options is.came start now before.node after.node is.lots is.turn;
    link = record { queue = is.link.queue; asks = is.link.asks; read = is.link.read; work = is.link.work };
  }

  pub logs_plain : (mode : ServeMode) (options : Options) (reported : List Ask → LinkReport → Type 0) (asked : List Ask → Type 0) (waits : Bool) (carriage : Carriage) (start now : ℕ)
      (before after : Station (Server (Logged S))) (result : TurnEnd)
      → LogsTurn changes mode options reported asked waits carriage start now before after result
      → RunsTurn changes mode options asked waits carriage start now
      (station (plain before.node) before.queue before.outbox) (station (plain after.node) after.queue after.outbox)
      result
  logs_plain mode options reported asked waits carriage start now before after result is = record {
    came = is.came;
    lots = is.lots;
    turn =
        turn_plain mode options is.came start now (after_arrival is.came is.report before.node) after.node is.lots is.turn;
    link = record { queue = is.link.queue; asks = is.link.asks; read = is.link.read; work = is.link.work };
  }
