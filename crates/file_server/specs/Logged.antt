-- What a server logs of the datagram that comes and of the commands that are served.
use Rattle.std.specs.Prelude.{◌≡◌, ◌==◌, ℕ, List, [], Bool, if◌then◌else◌, Option, Some, None, Ok, option_map, slice_get}
use Rattle.chaos_packet.specs.Packet.{PacketView}
use Rattle.chaos_file.specs.Session.{SessionView}
use Rattle.chaos_file.specs.Store.{StoreChange}
use Rattle.chaos_file.specs.declared.change.Change.{Change}
use Rattle.chaos_file.specs.ServeAnswer.{IsReported, IsUnreported, IsUnused}
use Rattle.chaos_link.specs.Link.{Ask}
use Rattle.chaos_link.specs.declared.carriage.Carriage.{Carriage}
use Rattle.chaos_conn.specs.declared.state.End.{End}
use Rattle.chaos_link.specs.declared.report.LinkReport.{LinkReport}
use Rattle.chaos_node.specs.Arrive.{Arrival}
use Rattle.chaos_node.specs.Link.{turn_asks}
use Rattle.chaos_node.specs.Station.{Station}
use Rattle.chaos_node.specs.Turn.{GoesOver}
use Rattle.chaos_node.specs.declared.end.TurnEnd.{TurnEnd}
use Rattle.file_server.specs.Serve.{Use, Uses}
use Rattle.file_server.specs.Server.{Server}
use Rattle.file_server.specs.Slots.{Options}
use Rattle.file_server.specs.Turn.{IsTurnBy}
use Rattle.file_server.specs.declared.serve_mode.ServeMode.{ServeMode}
use Rattle.file_server.specs.Watch.{Event, logged_changed, logged_heard, peer_at}

-- a store beside what its server's log has so far
abbrev pub Logged : Type 0 → Type 0
Logged S = S × Option (List Event)

-- a command of this peer's user changed this, or nothing
abbrev pub logged_made : End → Option (List ℕ) → Option Change → Option (List Event) → Option (List Event)
logged_made peer login None logged = logged
logged_made peer login (Some change) logged = logged_changed peer login change logged

-- A command of a connection: what the command changed is logged, with the connection's peer and the name that its user
-- gave. Where no command is given, nothing is logged.
abbrev pub logged_use : StoreChange → Option (List Event) → Option (List Event) → End → SessionView → SessionView → Use
logged_use store logged logged' peer s t = record {
  answered = λ command reply. (made : Option Change) × IsReported store s t made command reply
      × (logged' ≡ logged_made peer t.name made logged);
  unused = IsUnused store s t × (logged' ≡ logged);
}

-- The same where it is known what the command changed.
abbrev pub report_use : StoreChange → Option Change → SessionView → SessionView → Use
report_use store made s t = record { answered = IsReported store s t made; unused = IsUnreported store s t made }

abbrev pub logged_uses : {S : Type 0} → (S → S → StoreChange) → Uses (Logged S)
logged_uses changes before after h id = logged_use (changes before.0 after.0) before.1 after.1 (peer_at h id)

-- ---- what came

-- a datagram of the host with this address came, unless the address is no host's
abbrev pub logged_host : Option ℕ → LinkReport → Option (List Event) → Option (List Event)
logged_host None report logged = logged
logged_host (Some address) report logged = if address == 0 then logged else logged_heard address report logged

-- of a datagram that carries packets, the host of its first packet is logged
abbrev pub logged_arrival : Arrival → LinkReport → Option (List Event) → Option (List Event)
logged_arrival (Some (Ok packets)) report logged = logged_host (option_map (λ p. p.src) (slice_get packets 0)) report logged
logged_arrival _ report logged = logged

abbrev pub after_arrival : {S : Type 0} → Arrival → LinkReport → Server (Logged S) → Server (Logged S)
after_arrival came report s = record s { store = (s.store.0, logged_arrival came report s.store.1) }

-- Of a link that was asked just this, the log reads this report.
abbrev pub IsReadOf : {L : Type 0} → (L → LinkReport) → (L → List Ask → Type 0) → List Ask → LinkReport → Type 0
IsReadOf {L} reads asked asks report = (link : L) × asked link asks × (report ≡ reads link)

-- A whole turn of a server at its link, as `RunsTurn` has it. The report is that of the link after the link was asked to
-- send what waited and then once to receive, by `reported`. First it was logged which host's datagram came, and from
-- where by the link's report. Then it was logged what each command that was served changed, in the order in which they were
-- served: with the peer of the connection whose command it was.
pub record LogsTurn {S : Type 0} (changes : S → S → StoreChange) (mode : ServeMode) (options : Options)
    (reported : List Ask → LinkReport → Type 0) (asked : List Ask → Type 0)
    (waits : Bool) (carriage : Carriage) (start now : ℕ) (before after : Station (Server (Logged S)))
    (result : TurnEnd) : Type 0 where
  pub came : Arrival
  pub report : LinkReport
  pub read : reported (turn_asks carriage waits before.outbox.packets []) report
  pub lots : List (List PacketView)
  pub turn : IsTurnBy (logged_uses changes) mode options came start now (after_arrival came report before.node) after.node lots
  pub link : GoesOver asked waits carriage came lots before after result
