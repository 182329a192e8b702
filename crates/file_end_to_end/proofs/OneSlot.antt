-- A turn of a server of sixteen slots, of which the first alone is in use: what the first slot does, and nothing else. The
-- turn has no timers.
use Rattle.std.proofs.Common.{◌≡◌, ℕ, zero, suc, List, [], ◌∷◌, ◌++◌, codes, replicate, Some, None, refl, sym, ap, ◌∙◌, subst, append-nil}
use Rattle.std.specs.Prelude.{slice_get, slice_set}
use Rattle.chaos_packet.specs.Packet.{PacketView}
use Rattle.chaos_conn.specs.Config.{usual_config}
use Rattle.chaos_conn.specs.View.{ConnView}
use Rattle.chaos_file.specs.Store.{Files, change}
use Rattle.chaos_host.specs.Acted.{no_effect}
use Rattle.chaos_host.specs.Tick.{tick_slot}
use Rattle.chaos_host.specs.View.{HostView, id_at, id_in, new_slot}
use Rattle.chaos_host.specs.declared.slot.Slot.{Slot}
use Rattle.chaos_conn.specs.declared.answers.Ticked.TheVariants.{Quiet}
use Rattle.chaos_node.specs.Arrive.{Arrival}
use Rattle.chaos_node.specs.Phase.{Effect, and_then, effect_singly_of, no_effect_on, over_slots}
use Rattle.chaos_node.specs.Slots.{tick_at}
use Rattle.chaos_node.specs.Timer.{tick_by}
use Rattle.file_server.specs.Arrive.{arrive_at_server}
use Rattle.file_server.specs.Serve.{ServesMode, ServesPlace, ServesSlots}
use Rattle.file_server.specs.Server.{Server, after_giving_back, server, with_host}
use Rattle.file_server.specs.Service.{service_options}
use Rattle.file_server.specs.Sessions.{Serving, new_serving, serving_at, without_files}
use Rattle.file_server.specs.Slots.{close_at, close_for, end_phases, given_back, given_back_at, release_at, release_by}
use Rattle.file_server.specs.Turn.{IsTurn}
use Rattle.file_server.specs.declared.limits.TheConstants.{SILENT_MILLIS}
use Rattle.file_server.specs.declared.serve_mode.ServeMode.TheVariants.{Once}
use Rattle.file_end_to_end.specs.TwoClients.{contents, count, may_give}

-- ---- such a server

abbrev pub free_slots : List Slot
free_slots = replicate 15 (new_slot usual_config)

abbrev pub other_servings : List Serving
other_servings = replicate 15 new_serving

abbrev pub server_at : ConnView → HostView
server_at d = record {
  address = 258;
  config = usual_config;
  listeners = codes "FILE" ∷ [];
  slots = (record { generation = 0; conn = d }) ∷ free_slots;
}

abbrev pub served_by : Files → ConnView → Serving → Server Files
served_by m d serving = server (server_at d) (serving ∷ other_servings) m

-- ---- the other slots

free_in : (k n place : ℕ) → id_in place (slice_get (replicate k (new_slot usual_config)) n) ≡ None
free_in zero n place = refl
free_in (suc k) zero place = refl
free_in (suc k) (suc n) place = free_in k n place

free_at : (d : ConnView) (n : ℕ) → id_at (server_at d) (suc n) ≡ None
free_at d n = free_in 15 n (suc n)

quiet_in : (k n : ℕ) (h : HostView) (place now : ℕ)
    → tick_slot h place now (slice_get (replicate k (new_slot usual_config)) n) ≡ no_effect h Quiet
quiet_in zero n h place now = refl
quiet_in (suc k) zero h place now = refl
quiet_in (suc k) (suc n) h place now = quiet_in k n h place now

given_in : (k n : ℕ)
    → slice_set (replicate k new_serving) n (without_files (serving_at (replicate k new_serving) n)) ≡ replicate k new_serving
given_in zero n = refl
given_in (suc k) zero = refl
given_in (suc k) (suc n) = ap (λ l. new_serving ∷ l) (given_in k n)

given_all : (d : ConnView) (serving : Serving) (id : ℕ) → id_at (server_at d) 0 ≡ Some id → (n : ℕ)
    → given_back (server_at d) (suc n) (serving ∷ other_servings) ≡ serving ∷ other_servings
given_all d serving id used zero =
    ap (λ o. given_back_at o 0 (serving ∷ other_servings)) used
given_all d serving id used (suc n) =
    ap (λ o. given_back_at o (suc n) (given_back (server_at d) (suc n) (serving ∷ other_servings))) (free_at d n)
    ∙ ap (given_back_at None (suc n)) (given_all d serving id used n)
    ∙ ap (λ l. serving ∷ l) (given_in 15 n)

-- ---- phases

over_first : (phase : ℕ → HostView → Effect) (h k : HostView) (lots : List (List PacketView))
    → phase 0 h ≡ record { host = k; lots = lots } → ((n : ℕ) → phase (suc n) k ≡ no_effect_on k) → (n : ℕ)
    → over_slots phase (suc n) h ≡ record { host = k; lots = lots }
over_first phase h k lots first free zero = first
over_first phase h k lots first free (suc n) =
    ap (λ (e : Effect). and_then e (phase (suc n))) (over_first phase h k lots first free n)
    ∙ ap (λ (e : Effect). record { host = e.host; lots = lots ++ e.lots }) (free n)
    ∙ ap (λ (l : List (List PacketView)). record { host = k; lots = l }) (append-nil lots)

ends_so : (now : ℕ) (d k : ConnView) (serving : Serving) (close release ticks : List (List PacketView))
    → close_at (Some SILENT_MILLIS) now (serving ∷ other_servings) 0 (server_at d) ≡ record { host = server_at d; lots = close }
    → release_at 0 (server_at d) ≡ record { host = server_at d; lots = release }
    → tick_at now 0 (server_at d) ≡ record { host = server_at k; lots = ticks }
    → end_phases (service_options []) (serving ∷ other_servings) now (server_at d)
    ≡ record { host = server_at k; lots = (close ++ release) ++ ticks }
ends_so now d k serving close release ticks closed released ticked =
    let closing = close_at (Some SILENT_MILLIS) now (serving ∷ other_servings) in
    let one = over_first closing (server_at d) (server_at d) close closed
    (λ n. ap (close_for (Some SILENT_MILLIS) now (serving_at (serving ∷ other_servings) (suc n)) (server_at d)) (free_at d n)) 15 in
    let two = over_first release_at (server_at d) (server_at d) release released
    (λ n. ap (release_by (server_at d)) (free_at d n)) 15 in
    let three = over_first (tick_by [] now) (server_at d) (server_at k) ticks ticked
    (λ n. ap effect_singly_of (quiet_in 15 n (server_at k) (suc n) now)) 15 in
    ap (λ (e : Effect). and_then (and_then e (over_slots release_at 16)) (over_slots (tick_by [] now) 16)) one
    ∙ ap (λ (e : Effect). and_then (record { host = e.host; lots = close ++ e.lots }) (over_slots (tick_by [] now) 16)) two
    ∙ ap (λ (e : Effect). record { host = e.host; lots = (close ++ release) ++ e.lots }) three

-- ---- each slot is served

slots_so : (m n : Files) (now : ℕ) (d k : ConnView) (serving left : Serving) (lots : List (List PacketView))
    → ServesPlace (change contents may_give count) now 0 (id_at (server_at d) 0) (served_by m d serving) (served_by n k left) lots
    → (place : ℕ)
    → ServesSlots (change contents may_give count) Once now (suc place) (served_by m d serving) (served_by n k left) lots
slots_so m n now d k serving left lots first zero =
    (served_by m d serving, [], lots, (refl, refl), first, refl)
slots_so m n now d k serving left lots first (suc place) = (
  served_by n k left,
  lots,
  [],
  slots_so m n now d k serving left lots first place,
  subst
      (λ o. ServesMode (change contents may_give count) Once now (suc place) o (served_by n k left) (served_by n k left) [])
      (sym (free_at k place)) (refl, refl),
  sym (append-nil lots),
)

-- ---- the turn

-- What came made d of the connection, serving made e of it, and the ticks made k of it; it was neither closed nor released.
pub turns_so : (m n : Files) (came : Arrival) (start now : ℕ) (b d e k : ConnView) (serving left : Serving) (id : ℕ)
    (arrival replies close release ticks : List (List PacketView))
    → arrive_at_server came start now (server_at b) ≡ record { host = server_at d; lots = arrival }
    → ServesPlace (change contents may_give count) now 0 (id_at (server_at d) 0) (served_by m d serving) (served_by n e left) replies
    → close_at (Some SILENT_MILLIS) now (left ∷ other_servings) 0 (server_at e) ≡ record { host = server_at e; lots = close }
    → release_at 0 (server_at e) ≡ record { host = server_at e; lots = release }
    → tick_at now 0 (server_at e) ≡ record { host = server_at k; lots = ticks }
    → id_at (server_at k) 0 ≡ Some id
    → IsTurn (change contents may_give count) Once (service_options []) came start now (served_by m b serving)
    (served_by n k left) (arrival ++ (replies ++ ((close ++ release) ++ ticks)))
turns_so m n came start now b d e k serving left id arrival replies close release ticks arrives serves closed released ticked used =
    let ends = ends_so now e k left close release ticks closed released ticked in
    record {
      served = served_by n e left;
      replies = replies;
      serves = subst
          (λ (h : HostView). ServesSlots (change contents may_give count) Once now 16 (with_host (served_by m b serving) h) (served_by n e left) replies)
          (ap (λ (x : Effect). x.host) (sym arrives)) (slots_so m n now d e serving left replies serves 15);
      ended =
          ap (λ (l : List Serving). server (server_at k) l n) (sym (given_all k left id used 15))
          ∙ ap (λ (x : Effect). after_giving_back (with_host (served_by n e left) x.host)) (sym ends);
      out = λ j. (sym arrives j).lots ++ (replies ++ (sym ends j).lots);
    }
