-- A slot that is passed over, since its connection has nothing to serve.
use Rattle.std.proofs.Common.{◌≡◌, ℕ, Bool, false, List, [], ◌∷◌, ◌++◌, Option, Some, None, option_map, Ok, inl, refl, ap, sym, subst, arith, ◌∙◌, slice_set}
use Rattle.std.proofs.lemmas.List.{append-nil}
use Rattle.chaos_packet.specs.Packet.{PacketView}
use Rattle.chaos_packet.specs.Outbox.{OutboxView}
use Rattle.chaos_conn.specs.View.{ConnView}
use Rattle.chaos_file.specs.Session.{SessionView}
use Rattle.chaos_host.specs.Acted.{HostActed, HostDoes, no_effect}
use Rattle.chaos_host.specs.Slot.{named_slot, place_of}
use Rattle.chaos_host.specs.View.{HostView, id_at, host_look, look_slot}
use Rattle.chaos_host.specs.declared.slot.Slot.{Slot}
use Rattle.chaos_link.specs.Link.{Ask, AskedSince, Asks, QueueView}
use Rattle.chaos_link.specs.declared.carriage.Carriage.{Carriage}
use Rattle.chaos_link.specs.declared.carriage.Carriage.TheVariants.{One, Two}
use Rattle.chaos_file.specs.ServeCalls.{DoesWorkByCalls, can_serve, is_served}
use Rattle.chaos_file.specs.ServeHost.{DoesWorkInSlotBy}
use Rattle.chaos_file.specs.ServeWork.{Work, NotOpen, Nothing, Full, LastItem, Command, work_of}
use Rattle.chaos_file.specs.declared.served.Served.{Served}
use Rattle.chaos_file.specs.declared.served.Served.TheVariants as told
use Rattle.chaos_file.proofs.ServeSlots.{serves_one}
use Rattle.chaos_node.specs.Link.{SendsLots, has_packets}
use Rattle.file_server.specs.Serve.{ServerDoes, ServesSlotBy, Uses, serving_after}
use Rattle.file_server.specs.Sessions.{Serving, eof_after, serving_at, serving_of}
use Rattle.chaos_node.specs.Station.{station}
use Rattle.file_server.specs.Server.{server}
use Rattle.file_server.specs.declared.serve_mode.ServeMode.{ServeMode}
use Rattle.file_server.specs.declared.serve_mode.ServeMode.TheVariants.{Burst, Once}
use Rattle.chaos_link.proofs.Asked.{asks_none}
use Rattle.chaos_node.proofs.Queue.{sends_nothing}
use Rattle.file_server.proofs.Burst.{HasEnded, next_so, none_so, slot_so}
use Rattle.file_server.proofs.Relation.{kept_so, placed_so}

-- what serving would tell, where it serves nothing
abbrev told_without : Work → Served
told_without (NotOpen state) = told.Ended state
told_without Full = told.NoRoom
told_without _ = told.Idle

stays : (work : Work) (eof : Bool) → eof_after eof (told_without work) ≡ eof
stays (NotOpen state) eof = refl
stays Nothing eof = refl
stays Full eof = refl
stays LastItem eof = refl
stays (Command body) eof = refl

nothing_put : (out : OutboxView) → out ≡ record out { packets = out.packets ++ [] }
nothing_put out = ap (λ (ps : List PacketView). record out { packets = ps }) (sym (append-nil out.packets))

nothing_done : (h : HostView) (out : OutboxView) (answer : Served) → HostDoes h 2 (no_effect h answer) h out out answer
nothing_done h out answer =
    record { view = refl; packets = nothing_put out; answers = refl; few = omega arith; config = refl; size = refl }

module _ (answered : List ℕ → List ℕ → Type 0) (unused : Type 0) (h : HostView) (id now : ℕ) (out : OutboxView)
    (rests : unused) where
  by_calls : (work : Work) → is_served (Some work) ≡ false
      → DoesWorkByCalls answered unused (λ acted. HostDoes h 2 acted h out out (told_without work)) h id now (Some work)
  by_calls (NotOpen state) e = (rests, nothing_done h out (told.Ended state))
  by_calls Nothing e = (rests, nothing_done h out told.Idle)
  by_calls Full e = (rests, nothing_done h out told.NoRoom)
  by_calls LastItem e = absurd (cc)
  by_calls (Command body) e = absurd (cc)

  serves_none : (slot : Slot) → named_slot h.slots id ≡ Some slot → is_served (Some (work_of slot.conn)) ≡ false
      → DoesWorkInSlotBy answered unused (λ acted. HostDoes h 2 acted h out out (told_without (work_of slot.conn))) h
      (place_of id) now (named_slot h.slots id)
  serves_none slot e none =
      let does : HostActed Served → Type 0 = λ acted. HostDoes h 2 acted h out out (told_without (work_of slot.conn)) in
      serves_one answered unused does h id now
      (subst (λ (o : Option Slot). DoesWorkByCalls answered unused does h id now (option_map (λ slot. work_of slot.conn) o))
      (sym e) (by_calls (work_of slot.conn) none))

-- the slot whose connection an index shows
looked_at : (found : Option Slot) (conn : ConnView) → look_slot (λ c. c) found ≡ Ok conn
    → (slot : Slot) × (found ≡ Some slot) × (slot.conn ≡ conn)
looked_at None conn e = absurd (cc)
looked_at (Some slot) conn e = (slot, refl, cc)

nothing_sent : {L : Type 0} {asked : AskedSince L Ask} (carriage : Carriage) (queue : Option QueueView)
    (packets : List PacketView)
    → packets ≡ [] → SendsLots (Asks asked asked) carriage queue (packets ∷ []) queue
nothing_sent {L} {asked} One queue packets e =
    rw e (record { sends = sends_nothing queue; asks = asks_none asked; read = refl })
nothing_sent {L} {asked} Two queue packets e =
    rw e (record { sends = sends_nothing queue; asks = asks_none asked; read = refl })

-- one command at most, and none in front: serving is at its end
rested : (mode : ServeMode) (h : HostView) (id : ℕ) (packets : List PacketView) → can_serve h id ≡ false
    → HasEnded mode h id 1 packets
rested Once h id packets none = refl
rested Burst h id packets none = (omega arith, omega arith, inl none)

module _ {S : Type 0} (uses : Uses S) where
  -- where it has nothing to serve, and its session is there, serving its slot changes nothing
  pub passed_so : {L : Type 0} {asked : AskedSince L Ask} (carriage : Carriage) (mode : ServeMode) (here : Serving) (sessions kept : List Serving) (store : S) (place id now : ℕ) (host : HostView) (conn : ConnView) (out : OutboxView) (queue : Option QueueView)
      → id_at host place ≡ Some id → here ≡ serving_at sessions place → kept ≡ slice_set sessions place here → serving_of id now here ≡ here → host_look host id (λ c. c) ≡ Ok conn → is_served (Some (work_of conn)) ≡ false
      → ((s : SessionView) → (uses store store host id s s).unused) → out.packets ≡ []
      → ServerDoes (Asks asked asked) carriage (ServesSlotBy uses mode now place) (station (server host sessions store) queue out) (station (server host kept store) queue out) false
  passed_so carriage mode here sessions kept store place id now host conn out queue e e' set serves shows none same empty =
      let found = looked_at (named_slot host.slots id) conn shows in
      let slot = found.0 in
      let idle : is_served (Some (work_of slot.conn)) ≡ false = ap (λ (c : ConnView). is_served (Some (work_of c))) found.2 ∙ none in
      let answer = told_without (work_of slot.conn) in
      let left : here ≡ serving_after (serving_of id now here) (serving_of id now here).session answer =
      ap (λ (b : Bool). record here { eof = b }) (sym (stays (work_of slot.conn) here.eof)) ∙ ap (λ (s : Serving). serving_after s s.session answer) (sym serves) in
      let over : out ≡ record { packets = []; cap = out.cap } = ap (λ (ps : List PacketView). record { packets = ps; cap = out.cap }) empty in
      let rests : can_serve host id ≡ false = ap (λ (o : Option Slot). is_served (option_map (λ slot. work_of slot.conn) o)) found.1 ∙ idle in
      slot_so uses carriage mode now place id 1 (server host sessions store) (server host kept store) out out out queue queue false e empty
      (next_so uses now place id 0 (server host sessions store) (server host sessions store) (server host kept store) out out out
      (none_so uses now place id (server host sessions store) (server host sessions store) out refl)
      (placed_so uses here here sessions kept store store place id now host host out out e' set
      (kept_so (uses store store host id) (serving_of id now here) here (serving_of id now here).session host id now host out out answer left (serves_none (uses store store host id (serving_of id now here).session (serving_of id now here).session).answered (uses store store host id (serving_of id now here).session (serving_of id now here).session).unused host id now out (same (serving_of id now here).session) slot found.1 idle))))
      (rested mode host id out.packets rests) (nothing_sent carriage queue out.packets empty) over (sym (ap (λ (ps : List PacketView). has_packets (ps ∷ [])) empty))
