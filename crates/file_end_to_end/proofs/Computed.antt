-- A turn of the server, computed: each slot is served by FILE's definition, and no timer holds a tick back.
use Rattle.std.proofs.Common.{ℕ, zero, suc, List, [], ◌∷◌, ◌++◌, length, Option, Some, None, refl}
use Rattle.std.specs.Prelude.{⊤, slice_set}
use Rattle.chaos_packet.specs.Packet.{PacketView}
use Rattle.chaos_conn.specs.Acted.{quietly}
use Rattle.chaos_file.specs.Session.{SessionView}
use Rattle.chaos_file.specs.Step.{Stepped}
use Rattle.chaos_file.specs.Store.{Files, change}
use Rattle.chaos_host.specs.Acted.{HostActed, no_effect}
use Rattle.chaos_host.specs.Slot.{named_slot, place_of}
use Rattle.chaos_host.specs.View.{id_at}
use Rattle.chaos_host.specs.declared.slot.Slot.{Slot}
use Rattle.chaos_file.specs.ServeAnswer.{IsAnswered}
use Rattle.chaos_file.specs.ServeHost.{DoesWorkInSlot, in_slot}
use Rattle.chaos_file.specs.Serve.{DoesWork, after_eof, after_reply}
use Rattle.chaos_file.specs.ServeWork.{Work, NotOpen, Nothing, Full, LastItem, Command, work_of}
use Rattle.chaos_file.specs.declared.served.Served.{Served}
use Rattle.chaos_file.specs.declared.served.Served.TheVariants as told
use Rattle.chaos_node.specs.Arrive.{Arrival}
use Rattle.chaos_node.specs.Phase.{Effect}
use Rattle.file_server.specs.Arrive.{arrive_at_server}
use Rattle.file_server.specs.Serve.{IsServedAt, ServesPlace, ServesSlots, serving_after}
use Rattle.file_server.specs.Server.{Server, after_giving_back, with_host}
use Rattle.file_server.specs.Sessions.{Serving, serving_at, serving_of}
use Rattle.file_server.specs.Service.{service_options}
use Rattle.file_server.specs.Slots.{end_phases}
use Rattle.file_server.specs.declared.serve_mode.ServeMode.TheVariants.{Once}
use Rattle.file_end_to_end.specs.Turns.{server_turns}
use Rattle.file_end_to_end.specs.TwoClients.{contents, count, may_give}

-- ---- a turn of the server, by FILE's definition

-- a server, and what it put out
pub record Left : Type 0 where
  pub server : Server Files
  pub lots : List (List PacketView)

-- a slot was served so, and left these files and this session
abbrev left : Server Files → ℕ → Serving → Files → SessionView → HostActed Served → Left
left s place serving files session acted = record {
  server = record {
    host = acted.view;
    sessions = slice_set s.sessions place (serving_after serving session acted.answer);
    store = files;
  };
  lots = acted.packets ∷ [];
}

abbrev by_step : Server Files → ℕ → ℕ → Serving → ℕ → Slot → Stepped → Left
by_step s now place serving at slot step =
    left s place serving step.files step.session (in_slot s.host at slot (after_reply slot.conn step.reply now))

-- What a session makes of a command is given.
module _ (step : Files → SessionView → List ℕ → Stepped) where
  abbrev by_work : Server Files → ℕ → ℕ → Serving → ℕ → Slot → Work → Left
  by_work s now place serving at slot (NotOpen state) =
      left s place serving s.store serving.session (in_slot s.host at slot (quietly slot.conn (told.Ended state)))
  by_work s now place serving at slot Nothing =
      left s place serving s.store serving.session (in_slot s.host at slot (quietly slot.conn told.Idle))
  by_work s now place serving at slot Full =
      left s place serving s.store serving.session (in_slot s.host at slot (quietly slot.conn told.NoRoom))
  by_work s now place serving at slot LastItem =
      left s place serving s.store serving.session (in_slot s.host at slot (after_eof slot.conn))
  by_work s now place serving at slot (Command body) =
      by_step s now place serving at slot (step s.store serving.session body)

  abbrev by_slot : Server Files → ℕ → ℕ → Serving → ℕ → Option Slot → Left
  by_slot s now place serving at None = left s place serving s.store serving.session (no_effect s.host told.NoSuchConnection)
  by_slot s now place serving at (Some slot) = by_work s now place serving at slot (work_of slot.conn)

  abbrev by_index : Server Files → ℕ → ℕ → Option ℕ → Left
  by_index s now place None = record { server = s; lots = [] }
  by_index s now place (Some id) =
      by_slot s now place (serving_of id now (serving_at s.sessions place)) (place_of id) (named_slot s.host.slots id)

  abbrev both_left : Left → Left → Left
  both_left first last = record { server = last.server; lots = first.lots ++ last.lots }

  abbrev then_at : ℕ → ℕ → Left → Left
  then_at now place first = both_left first (by_index first.server now place (id_at first.server.host place))

  abbrev serve_slots : ℕ → ℕ → Server Files → Left
  serve_slots now zero s = record { server = s; lots = [] }
  serve_slots now (suc n) s = then_at now n (serve_slots now n s)

  abbrev ended : List (List PacketView) → Left → Effect → Left
  ended lots served last = record {
    server = after_giving_back (with_host served.server last.host);
    lots = lots ++ (served.lots ++ last.lots);
  }

  abbrev ending : ℕ → List (List PacketView) → Left → Left
  ending now lots served = ended lots served (end_phases (service_options []) served.server.sessions now served.server.host)

  abbrev served : ℕ → Server Files → Effect → Left
  served now s came = ending now came.lots (serve_slots now (length s.host.slots) (with_host s came.host))

  abbrev pub server_left : Arrival → ℕ → ℕ → Server Files → Left
  server_left came start now s = served now s (arrive_at_server came start now s.host)

  -- ---- it is a turn of the server, where the definition's step is what a session makes of a command

  abbrev pub IsToldWork : Files → SessionView → Work → Type 0
  IsToldWork m session (Command body) =
      IsAnswered (change contents may_give count m (step m session body).files) session
      (step m session body).session body (step m session body).reply
  IsToldWork m session _ = ⊤

  abbrev IsToldSlot : Files → SessionView → Option Slot → Type 0
  IsToldSlot m session None = ⊤
  IsToldSlot m session (Some slot) = IsToldWork m session (work_of slot.conn)

  abbrev IsToldAt : ℕ → Server Files → ℕ → Option ℕ → Type 0
  IsToldAt now s place None = ⊤
  IsToldAt now s place (Some id) =
      IsToldSlot s.store (serving_of id now (serving_at s.sessions place)).session (named_slot s.host.slots id)

  abbrev IsToldNext : ℕ → ℕ → Server Files → Type 0
  IsToldNext now place s = IsToldAt now s place (id_at s.host place)

  abbrev pub AreTold : ℕ → ℕ → Server Files → Type 0
  AreTold now zero s = ⊤
  AreTold now (suc n) s = AreTold now n s × IsToldNext now n (serve_slots now n s).server

  -- what serving one slot is to do
  abbrev SlotServes : Server Files → ℕ → Serving → ℕ → ℕ → Option Slot → Left → SessionView → Type 0
  SlotServes s place serving at now o l session =
      DoesWorkInSlot (change contents may_give count s.store l.server.store) serving.session session
      (λ acted. IsServedAt place s l.server l.lots (serving_after serving session acted.answer) acted) s.host at now o

  abbrev WorkServes : Server Files → ℕ → Serving → ℕ → ℕ → Slot → Work → Left → SessionView → Type 0
  WorkServes s place serving at now slot work l session =
      DoesWork (change contents may_give count s.store l.server.store) serving.session session
      (λ acted. IsServedAt place s l.server l.lots (serving_after serving session (in_slot s.host at slot acted).answer)
      (in_slot s.host at slot acted)) slot.conn now work

  work_serves : (s : Server Files) (now place : ℕ) (serving : Serving) (at : ℕ) (slot : Slot) (work : Work)
      → IsToldWork s.store serving.session work
      → (session : SessionView) × WorkServes s place serving at now slot work (by_work s now place serving at slot work) session
  work_serves s now place serving at slot (NotOpen state) is =
      (serving.session, ((refl, refl), record { host = refl; sessions = refl; out = refl }))
  work_serves s now place serving at slot Nothing is =
      (serving.session, ((refl, refl), record { host = refl; sessions = refl; out = refl }))
  work_serves s now place serving at slot Full is =
      (serving.session, ((refl, refl), record { host = refl; sessions = refl; out = refl }))
  work_serves s now place serving at slot LastItem is =
      (serving.session, ((refl, refl), record { host = refl; sessions = refl; out = refl }))
  work_serves s now place serving at slot (Command body) is = (
    (step s.store serving.session body).session,
    ((step s.store serving.session body).reply, is, record { host = refl; sessions = refl; out = refl }),
  )

  slot_serves : (s : Server Files) (now place : ℕ) (serving : Serving) (at : ℕ) (o : Option Slot)
      → IsToldSlot s.store serving.session o
      → (session : SessionView) × SlotServes s place serving at now o (by_slot s now place serving at o) session
  slot_serves s now place serving at None is =
      (serving.session, ((refl, refl), record { host = refl; sessions = refl; out = refl }))
  slot_serves s now place serving at (Some slot) is = work_serves s now place serving at slot (work_of slot.conn) is

  place_serves : (s : Server Files) (now place : ℕ) (o : Option ℕ) → IsToldAt now s place o
      → ServesPlace (change contents may_give count) now place o s (by_index s now place o).server (by_index s now place o).lots
  place_serves s now place None is = (refl, refl)
  place_serves s now place (Some id) is =
      slot_serves s now place (serving_of id now (serving_at s.sessions place)) (place_of id) (named_slot s.host.slots id) is

  slots_serve : (now n : ℕ) (s : Server Files) → AreTold now n s
      → ServesSlots (change contents may_give count) Once now n s (serve_slots now n s).server (serve_slots now n s).lots
  slots_serve now zero s are = (refl, refl)
  slots_serve now (suc n) s are =
      let first = serve_slots now n s in
      let last = by_index first.server now n (id_at first.server.host n) in
      (first.server, first.lots, last.lots, slots_serve now n s are.0, place_serves first.server now n (id_at first.server.host n) are.1, refl)

  pub server_turn : (came : Arrival) (start now : ℕ) (s : Server Files)
      → AreTold now (length s.host.slots) (with_host s (arrive_at_server came start now s.host).host)
      → server_turns (change contents may_give count) came start now s (server_left came start now s).server
      (server_left came start now s).lots
  server_turn came start now s are =
      let first = serve_slots now (length s.host.slots) (with_host s (arrive_at_server came start now s.host).host) in (
        Once,
        service_options [],
        record {
          served = first.server;
          replies = first.lots;
          serves = slots_serve now (length s.host.slots) (with_host s (arrive_at_server came start now s.host).host) are;
          ended = refl;
          out = refl;
        },
      )
