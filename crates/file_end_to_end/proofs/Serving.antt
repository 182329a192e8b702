-- Each slot is served, once or in a burst: each time the read of what is in front, and the write of its reply.
use Rattle.std.proofs.Common.{◌≡◌, ℕ, zero, suc, Bool, true, false, List, [], ◌∷◌, ◌++◌, Option, Some, None, refl, sym, ap, ◌∙◌, subst, append_assoc, if◌then◌else◌}
use Rattle.chaos_packet.specs.Item.{ItemView}
use Rattle.chaos_packet.specs.Opcode.{op_data}
use Rattle.chaos_packet.specs.Packet.{PacketView}
use Rattle.chaos_conn.specs.Act.{FinishRead, Write}
use Rattle.chaos_conn.specs.Calls.{can_write, front_of}
use Rattle.chaos_conn.specs.State.{is_open}
use Rattle.chaos_conn.specs.declared.state.State.{State}
use Rattle.chaos_file.specs.Session.{SessionView}
use Rattle.chaos_file.specs.Store.{StoreChange}
use Rattle.chaos_host.specs.declared.slot.Slot.{Slot}
use Rattle.chaos_host.specs.Acted.{HostActed, no_effect}
use Rattle.chaos_host.specs.Calls.{host_call}
use Rattle.chaos_host.specs.Deeds.HostEvent.{Calls}
use Rattle.chaos_host.specs.Slot.{named_slot, place_of}
use Rattle.chaos_host.specs.View.{HostView, id_at}
use Rattle.chaos_lab.specs.declared.side.Side.{Side}
use Rattle.chaos_link.specs.Loads.{packets_of}
use Rattle.chaos_net.specs.Net.{Net, happens}
use Rattle.chaos_net.specs.Net.NetEvent.{At}
use Rattle.chaos_file.specs.ServeCalls.{after_eof_at, after_reply_at, reply_write_at}
use Rattle.chaos_file.specs.ServeHost.{DoesWorkInSlot, in_slot}
use Rattle.chaos_file.specs.Serve.{DoesWork}
use Rattle.chaos_file.specs.ServeWork.{Work, NotOpen, Nothing, Full, LastItem, Command, work_by, work_of}
use Rattle.chaos_file.specs.declared.served.Served.{Served}
use Rattle.chaos_file.specs.declared.served.Served.TheVariants as told
use Rattle.chaos_file.proofs.ServeSlots.{finished_in, quiet_in, replied_in}
use Rattle.chaos_node.specs.Phase.{Effect}
use Rattle.file_server.specs.Serve.{IsServedAt, ServesMode, ServesPlace, ServesSlots, ServesTimes, SessionServes, serving_after}
use Rattle.file_server.specs.Server.{Server}
use Rattle.file_server.specs.Sessions.{Serving, serving_at, serving_of}
use Rattle.file_server.specs.declared.serve_mode.ServeMode.{ServeMode}
use Rattle.file_server.specs.declared.serve_mode.ServeMode.TheVariants.{Burst, Once}
use Rattle.chaos_net.specs.MadeTurns.{IsMade, Makes, packets_sent}
use Rattle.chaos_net.proofs.Made.{both_made, none_made, own_made, effect_at}

-- ---- another way to tell what was made

abbrev pub effect : HostView → List (List PacketView) → Effect
effect h lots = record { host = h; lots = lots }

-- the same host, and the same packets in other lots
pub told_so : (n : Net) (x : Side) (g h : HostView) (ls ms : List (List PacketView)) → h ≡ g
    → packets_of ls ≡ packets_of ms → Makes n x (effect g ls) → Makes n x (effect h ms)
told_so n x g h ls ms host lots made = (
  made.0,
  record {
    events = made.1.events;
    run = made.1.run;
    host = made.1.host ∙ sym host;
    sent = made.1.sent ∙ ap (λ (ps : List PacketView). packets_sent (n x) ++ ps) lots;
    far = made.1.far;
  },
)

-- nothing was done
pub nothing_so : (n : Net) (x : Side) (h : HostView) (lots : List (List PacketView)) → h ≡ (n x).host
    → packets_of lots ≡ [] → Makes n x (effect h lots)
nothing_so n x h lots host none =
    told_so n x (n x).host h [] lots host (sym none) (n, none_made n x)

-- ---- one slot

-- what a host did while it served a connection is a run
abbrev pub IsActed : Net → Side → HostActed Served → Type 0
IsActed n x acted = Makes n x (effect acted.view (acted.packets ∷ []))

quiet_acted : (n : Net) (x : Side) (answer : Served) → IsActed n x (no_effect (n x).host answer)
quiet_acted n x answer = nothing_so n x (n x).host ([] ∷ []) refl refl

eof_acted : (n : Net) (x : Side) (id : ℕ) → IsActed n x (after_eof_at (n x).host id)
eof_acted n x id = (happens n (At x (Calls id FinishRead)), own_made n x (Calls id FinishRead) refl)

reply_acted : (n : Net) (x : Side) (id now : ℕ) (reply : List ℕ) → IsActed n x (after_reply_at (n x).host id reply now)
reply_acted n x id now reply =
    let h = (n x).host in
    let m = happens n (At x (Calls id FinishRead)) in
    let k = happens m (At x (Calls id (Write op_data reply now))) in
    let one = own_made n x (Calls id FinishRead) refl in
    let two : IsMade m k x (effect_at (host_call h id FinishRead).view (Calls id (Write op_data reply now))) =
    subst (λ g. IsMade m k x (effect_at g (Calls id (Write op_data reply now)))) one.host
    (own_made m x (Calls id (Write op_data reply now)) refl) in
    let ps = (host_call h id FinishRead).packets in
    let qs = (reply_write_at h id reply now).packets in
    told_so n x (reply_write_at h id reply now).view (reply_write_at h id reply now).view (ps ∷ qs ∷ [])
    ((ps ++ qs) ∷ []) refl (sym (append_assoc ps qs []))
    (k, both_made n m k x (effect_at h (Calls id FinishRead)) (effect_at (host_call h id FinishRead).view (Calls id (Write op_data reply now))) one two)

-- a command is taken at an open end alone
open_by : (state : State) (front : Option ItemView) (room : Bool) (body : List ℕ)
    → work_by state front room ≡ Command body → is_open state ≡ true
open_by state front room body e = by (is_open state) refl e
  where
    by : (b : Bool) → is_open state ≡ b
        → (if b then Rattle.chaos_file.specs.ServeWork.work_at_front front room else NotOpen state) ≡ Command body
        → b ≡ true
    by true is e = refl
    by false is e = absurd (cc)

module _ (n : Net) (x : Side) (store : StoreChange) (s t : SessionView) (id now : ℕ) (slot : Slot)
    (e : named_slot (n x).host.slots id ≡ Some slot) (P : Served → HostActed Served → Type 0) where
  -- what was done in a slot is a run
  work_acted : (work : Work) → work_of slot.conn ≡ work
      → DoesWork store s t (λ acted. P acted.answer (in_slot (n x).host (place_of id) slot acted)) slot.conn now work
      → (acted : HostActed Served) × IsActed n x acted × P acted.answer acted
  work_acted (NotOpen state) is done =
      let q = quiet_in (n x).host id slot (told.Ended state) e in
      (no_effect (n x).host (told.Ended state), quiet_acted n x (told.Ended state), subst (λ a. P a.answer a) (sym q) done.1)
  work_acted Nothing is done =
      let q = quiet_in (n x).host id slot told.Idle e in
      (no_effect (n x).host told.Idle, quiet_acted n x told.Idle, subst (λ a. P a.answer a) (sym q) done.1)
  work_acted Full is done =
      let q = quiet_in (n x).host id slot told.NoRoom e in
      (no_effect (n x).host told.NoRoom, quiet_acted n x told.NoRoom, subst (λ a. P a.answer a) (sym q) done.1)
  work_acted LastItem is done =
      let q = finished_in (n x).host id slot e in
      (after_eof_at (n x).host id, eof_acted n x id, subst (λ a. P a.answer a) (sym q) done.1)
  work_acted (Command body) is done =
      let opened = open_by slot.conn.state (front_of slot.conn) (can_write slot.conn) body is in
      let q = replied_in (n x).host id slot done.0 now e opened in
      (after_reply_at (n x).host id done.0 now, reply_acted n x id now done.0, subst (λ a. P a.answer a) (sym q) done.2)

module _ {S : Type 0} where
  -- a server that did that
  served_so : (n : Net) (x : Side) (place : ℕ) (s t : Server S) (lots : List (List PacketView)) (serving : Serving)
      (acted : HostActed Served) → IsActed n x acted → IsServedAt place s t lots serving acted
      → Makes n x (effect t.host lots)
  served_so n x place s t lots serving acted made is =
      told_so n x acted.view t.host (acted.packets ∷ []) lots is.host (ap packets_of (sym is.out)) made

  in_slot_made : (n : Net) (x : Side) (store : StoreChange) (now place id : ℕ) (serving : Serving) (s t : Server S)
      (lots : List (List PacketView)) (session : SessionView) (found : Option Slot)
      → named_slot (n x).host.slots id ≡ found
      → DoesWorkInSlot store serving.session session
      (λ acted. IsServedAt place s t lots (serving_after serving session acted.answer) acted) (n x).host (place_of id)
      now found
      → Makes n x (effect t.host lots)
  in_slot_made n x store now place id serving s t lots session None e done =
      served_so n x place s t lots (serving_after serving session told.NoSuchConnection)
      (no_effect (n x).host told.NoSuchConnection) (quiet_acted n x told.NoSuchConnection) done.1
  in_slot_made n x store now place id serving s t lots session (Some slot) e done =
      let r =
      work_acted n x store serving.session session id now slot e
      (λ answer acted. IsServedAt place s t lots (serving_after serving session answer) acted)
      (work_of slot.conn) refl done in
      served_so n x place s t lots (serving_after serving session r.0.answer) r.0 r.1 r.2

module _ {S : Type 0} (changes : S → S → StoreChange) (x : Side) (now : ℕ) where
  place_made : (n : Net) (place : ℕ) (o : Option ℕ) (s t : Server S) (lots : List (List PacketView))
      → (n x).host ≡ s.host → ServesPlace changes now place o s t lots → Makes n x (effect t.host lots)
  place_made n place None s t lots is one =
      nothing_so n x t.host lots (ap (λ (v : Server S). v.host) one.0 ∙ sym is) (ap packets_of one.1)
  place_made n place (Some id) s t lots is one =
      let serving = serving_of id now (serving_at s.sessions place) in
      let here : SessionServes (changes s.store t.store) now id serving (IsServedAt place s t lots) (n x).host =
      subst (SessionServes (changes s.store t.store) now id serving (IsServedAt place s t lots)) (sym is) one in
      in_slot_made n x (changes s.store t.store) now place id serving s t lots here.0
      (named_slot (n x).host.slots id) refl here.1

  -- the connection at a place was served so many times
  times_made : (times : ℕ) (n : Net) (place id : ℕ) (s t : Server S) (packets : List PacketView) → (n x).host ≡ s.host
      → ServesTimes changes now place id times s t packets → Makes n x (effect t.host (packets ∷ []))
  times_made zero n place id s t packets is serves =
      nothing_so n x t.host (packets ∷ []) (ap (λ (v : Server S). v.host) serves.0 ∙ sym is)
      (ap (λ (ps : List PacketView). packets_of (ps ∷ [])) serves.1)
  times_made (suc times) n place id s t packets is serves =
      let mid = serves.0 in
      let first = serves.1 in
      let last = serves.2 in
      let one = times_made times n place id s mid first is serves.3 in
      let two = place_made one.0 place (Some id) mid t (last ∷ []) one.1.host serves.4 in
      told_so n x t.host t.host (first ∷ last ∷ []) (packets ∷ []) refl
      (sym (append_assoc first last []) ∙ ap (λ (ps : List PacketView). ps ++ []) (sym serves.5))
      (two.0, both_made n one.0 two.0 x (effect mid.host (first ∷ [])) (effect t.host (last ∷ [])) one.1 two.1)

  -- once, or in a burst
  mode_made : (mode : ServeMode) (n : Net) (place : ℕ) (o : Option ℕ) (s t : Server S) (lots : List (List PacketView))
      → (n x).host ≡ s.host → ServesMode changes mode now place o s t lots → Makes n x (effect t.host lots)
  mode_made Once n place o s t lots is one = place_made n place o s t lots is one
  mode_made Burst n place None s t lots is one = place_made n place None s t lots is one
  mode_made Burst n place (Some id) s t lots is one =
      told_so n x t.host t.host (one.packets ∷ []) lots refl (ap packets_of (sym one.out))
      (times_made one.times n place id s t one.packets is one.serves)

  pub slots_served : (mode : ServeMode) (size : ℕ) (n : Net) (s t : Server S) (lots : List (List PacketView))
      → (n x).host ≡ s.host → ServesSlots changes mode now size s t lots → Makes n x (effect t.host lots)
  slots_served mode zero n s t lots is serves =
      nothing_so n x t.host lots (ap (λ (v : Server S). v.host) serves.0 ∙ sym is) (ap packets_of serves.1)
  slots_served mode (suc size) n s t lots is serves =
      let mid = serves.0 in
      let first = serves.1 in
      let last = serves.2 in
      let one = slots_served mode size n s mid first is serves.3 in
      let two = mode_made mode one.0 size (id_at mid.host size) mid t last one.1.host serves.4 in
      told_so n x t.host t.host (first ++ last) lots refl (ap packets_of (sym serves.5))
      (two.0, both_made n one.0 two.0 x (effect mid.host first) (effect t.host last) one.1 two.1)
