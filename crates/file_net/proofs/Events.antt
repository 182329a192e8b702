-- What a server of FILE does at one connection is an event.
use Rattle.std.proofs.Common.{◌≡◌, ℕ, List, [], ◌∷◌, ◌++◌, map, Option, Some, None, option_map, refl, sym, ap, ◌∙◌, subst, inl, inr, append_assoc}
use Rattle.std.specs.Prelude.{IfSome}
use Rattle.std.proofs.lemmas.List.{append-nil, map-append}
use Rattle.std.proofs.lemmas.Bool.{cond-true, cond-false}
use Rattle.chaos_packet.specs.Opcode.{op_data}
use Rattle.chaos_packet.specs.Packet.{PacketView}
use Rattle.chaos_conn.specs.Act.{Call}
use Rattle.chaos_conn.specs.Act.Call.{Write, FinishRead}
use Rattle.chaos_conn.specs.Acted.{quietly}
use Rattle.chaos_host.specs.declared.slot.Slot.{Slot}
use Rattle.chaos_host.specs.Slot.{named_slot, place_of}
use Rattle.chaos_host.specs.View.{HostView}
use Rattle.chaos_host.specs.Acted.{HostActed, HostDoes, no_effect}
use Rattle.chaos_host.specs.Deeds.{host_made}
use Rattle.chaos_host.specs.Deeds.HostEvent.{Calls}
use Rattle.chaos_file.specs.Apply.{Applies}
use Rattle.chaos_file.specs.Session.{SessionView}
use Rattle.chaos_file.specs.Store.{Files, StoreChange, change}
use Rattle.chaos_file.specs.ServeAnswer.{IsUnused}
use Rattle.chaos_file.specs.ServeCalls.{after_reply_at}
use Rattle.chaos_file.specs.ServeHost.{in_slot, DoesWorkInSlot}
use Rattle.chaos_file.specs.Serve.{DoesWork, after_reply, after_eof}
use Rattle.chaos_file.specs.ServeWork.{Work, NotOpen, Nothing, Full, LastItem, Command, work_of}
use Rattle.chaos_file.specs.declared.served.Served.{Served}
use Rattle.chaos_file.specs.declared.served.Served.TheVariants as told
use Rattle.chaos_file.proofs.ServeSlots.{quiet_in, finished_in, replied_in}
use Rattle.chaos_lab.specs.declared.side.Side.{Side}
use Rattle.chaos_lab.specs.declared.side.Side.TheVariants.{B}
use Rattle.chaos_net.specs.Net.{Name, Sent, Station, Net, is_name, sent_by, happens}
use Rattle.chaos_net.specs.Net.NetEvent.{At}
use Rattle.chaos_net.specs.Present.{named}
use Rattle.chaos_net.proofs.Next.{same_name, other_name}
use Rattle.file_net.specs.History.{Way, AsDefined, NoMemory, StoreFault, MayGo, reply_by, files_by, session_by}
use Rattle.file_net.specs.FileNet.{FileNet, Serves, CanHappen, after_reading, served_by, file_happens, CanServe}
use Rattle.file_net.specs.Serving.{SendsMore, Leads, ServingIsEvent}
use Rattle.file_lab.proofs.ServedTurns.{is_work}

-- A store is honest here: it keeps these files, and where it is as it was it keeps them still.
pub record IsHonest (store : StoreChange) (m : Files) : Type 0 where
  pub before : store.before ≡ Some m
  pub same : store.same → store.after ≡ store.before

-- ---- how a command went

pub record Went (store : StoreChange) (m : Files) (s t : SessionView) (command reply : List ℕ) : Type 0 where
  pub way : Way
  pub may : MayGo s command way
  pub reply_is : reply ≡ reply_by m s command way
  pub session : t ≡ session_by m s command way
  pub files : store.after ≡ Some (files_by m s command way)

went : (store : StoreChange) (m : Files) (s t : SessionView) (command reply : List ℕ)
    → Applies store m s t command reply → Went store m s t command reply
went store m s t command reply (inl h) =
    record { way = AsDefined; may = tt; reply_is = h.0; session = h.1; files = h.2 }
went store m s t command reply (inr (inl h)) =
    record { way = StoreFault; may = h.1; reply_is = h.2; session = h.3.0; files = h.3.1 }
went store m s t command reply (inr (inr h)) =
    record { way = NoMemory; may = h.0; reply_is = h.1; session = h.2.0; files = h.2.1 }

-- ---- what is sent

packets_back : (by : Option Name) (lengths : Side → Name → ℕ) (ps : List PacketView)
    → map (λ (q : Sent). q.packet) (map (sent_by by lengths) ps) ≡ ps
packets_back by lengths [] = refl
packets_back by lengths (p ∷ ps) = ap (λ l. p ∷ l) (packets_back by lengths ps)

sends_none : (st : Station) → SendsMore st st []
sends_none st = ([], sym (append-nil st.sent), refl)

sends_call : (n : Net) (id : ℕ) (call : Call)
    → SendsMore (n B) (happens n (At B (Calls id call)) B) (host_made (n B).host (Calls id call)).packets
sends_call n id call = (_, refl, packets_back _ _ (host_made (n B).host (Calls id call)).packets)

sends_both : (a b c : Station) (ps qs : List PacketView) → SendsMore a b ps → SendsMore b c qs
    → SendsMore a c (ps ++ qs)
sends_both a b c ps qs h k = (
  h.0 ++ k.0,
  k.1 ∙ ap (λ l. l ++ k.0) h.1 ∙ append_assoc a.sent h.0 k.0,
  map-append (λ (q : Sent). q.packet) h.0 k.0 ∙ (λ j. h.2 j ++ k.2 j),
)

-- ---- each kind of work

module _ (f : FileNet) (store : StoreChange) (session : SessionView) (id now : ℕ) (does : HostActed Served → Type 0)
    (honest : IsHonest store f.service.files) where
  -- an event by what is to be done
  abbrev IsEvent : Option Work → Type 0
  IsEvent o = (way : Way) × (acted : HostActed Served) × does acted × CanServe f id way o
      × Leads f (served_by f id now way o) id acted store.after session

  -- nothing was served
  unused : (acted : HostActed Served) → IsUnused store (f.service.session (named (f.net B) id)) session
      → (f.net B).host ≡ acted.view → acted.packets ≡ [] → Leads f f id acted store.after session
  unused acted u view packets = record {
    host = view;
    sent = subst (SendsMore (f.net B) (f.net B)) (sym packets) (sends_none (f.net B));
    files_are = honest.same u.1 ∙ honest.before;
    own = sym u.0;
    others = λ c apart. refl;
  }

  module _ (slot : Slot) (names : named_slot (f.net B).host.slots id ≡ Some slot) where
    rests : (answer : Served) → IsUnused store (f.service.session (named (f.net B) id)) session
        → Leads f f id (in_slot (f.net B).host (place_of id) slot (quietly slot.conn answer)) store.after session
    rests answer u =
        unused (in_slot (f.net B).host (place_of id) slot (quietly slot.conn answer)) u
        (ap (λ (a : HostActed Served). a.view) (quiet_in (f.net B).host id slot answer names)) refl

    -- an EOF was read
    reads : IsUnused store (f.service.session (named (f.net B) id)) session
        → Leads f (record f { net = after_reading f.net id }) id
        (in_slot (f.net B).host (place_of id) slot (after_eof slot.conn)) store.after session
    reads u =
        let same = finished_in (f.net B).host id slot names in
        record {
          host = ap (λ (a : HostActed Served). a.view) same;
          sent =
              subst (SendsMore (f.net B) (after_reading f.net id B)) (ap (λ (a : HostActed Served). a.packets) same)
              (sends_call f.net id FinishRead);
          files_are = honest.same u.1 ∙ honest.before;
          own = sym u.0;
          others = λ c apart. refl;
        }

    -- a command was answered
    answers : (body reply : List ℕ) → Command body ≡ work_of slot.conn
        → (w : Went store f.service.files (f.service.session (named (f.net B) id)) session body reply)
        → Leads f (served_by f id now w.way (Some (Command body))) id
        (in_slot (f.net B).host (place_of id) slot (after_reply slot.conn reply now)) store.after session
    answers body reply is w =
        let c : Name = named (f.net B) id in
        let h : HostView = (f.net B).host in
        let said : List ℕ = reply_by f.service.files (f.service.session c) body w.way in
        let one : Net = after_reading f.net id in
        let two : Net = happens one (At B (Calls id (Write op_data said now))) in
        let same : after_reply_at h id said now ≡ in_slot h (place_of id) slot (after_reply slot.conn reply now) =
        ap (λ r. after_reply_at h id r now) (sym w.reply_is)
        ∙ replied_in h id slot reply now names (is_work slot.conn (Command body) (sym is)).0 in
        record {
          host = ap (λ (a : HostActed Served). a.view) same;
          sent =
              subst (SendsMore (f.net B) (two B)) (ap (λ (a : HostActed Served). a.packets) same)
              (sends_both (f.net B) (one B) (two B) (host_made h (Calls id FinishRead)).packets
              (host_made (one B).host (Calls id (Write op_data said now))).packets
              (sends_call f.net id FinishRead) (sends_call one id (Write op_data said now)));
          files_are = w.files;
          own = cond-true (is_name c c) _ (f.service.session c) (same_name c) ∙ sym w.session;
          others = λ d apart. cond-false (is_name d c) _ (f.service.session d) (other_name d c (λ e. apart (sym e)));
        }

    by_work : (work : Work) → work ≡ work_of slot.conn
        → DoesWork store (f.service.session (named (f.net B) id)) session
        (λ acted. does (in_slot (f.net B).host (place_of id) slot acted)) slot.conn now work
        → IsEvent (Some work)
    by_work (NotOpen state) is d = (AsDefined, _, d.1, tt, rests (told.Ended state) d.0)
    by_work Nothing is d = (AsDefined, _, d.1, tt, rests told.Idle d.0)
    by_work Full is d = (AsDefined, _, d.1, tt, rests told.NoRoom d.0)
    by_work LastItem is d = (AsDefined, _, d.1, tt, reads d.0)
    by_work (Command body) is d =
        let applied = d.1.applied in
        let w = went store f.service.files (f.service.session (named (f.net B) id)) session body d.0
        (subst (λ o. IfSome o (λ m. Applies store m (f.service.session (named (f.net B) id)) session body d.0))
        honest.before applied.honest) in
        (w.way, _, d.2, w.may, answers body d.0 is w)

  by_slot : (o : Option Slot) → named_slot (f.net B).host.slots id ≡ o
      → DoesWorkInSlot store (f.service.session (named (f.net B) id)) session does (f.net B).host (place_of id) now o
      → IsEvent (option_map (λ slot. work_of slot.conn) o)
  by_slot None names d =
      (AsDefined, _, d.1, tt, unused (no_effect (f.net B).host told.NoSuchConnection) d.0 refl refl)
  by_slot (Some slot) names d = by_work slot names (work_of slot.conn) refl d

-- for a whole server too, which serves each slot in its turn. `does`: the host did this
pub slot_serving_is_event : (f : FileNet) (store : StoreChange) (session : SessionView) (id now : ℕ)
    (does : HostActed Served → Type 0) → IsHonest store f.service.files
    → DoesWorkInSlot store (f.service.session (named (f.net B) id)) session does (f.net B).host (place_of id) now
    (named_slot (f.net B).host.slots id)
    → (way : Way) × (acted : HostActed Served) × does acted × CanHappen f (Serves id now way)
    × Leads f (file_happens f (Serves id now way)) id acted store.after session
slot_serving_is_event f store session id now does honest d =
    by_slot f store session id now does honest (named_slot (f.net B).host.slots id) refl d

pub serving_is_event : {S : Type 0} (contents : S → Option Files) (may_give : S → List ℕ → ℕ → List ℕ → Type 0)
    (count : S → ℕ) → ServingIsEvent contents may_give count
serving_is_event contents may_give count f old new session id now host before after answer keeps serves =
    slot_serving_is_event f (change contents may_give count old new) session id now
    (λ acted. HostDoes (f.net B).host 2 acted host before after answer)
    (record { before = keeps; same = λ same. ap contents same }) serves
