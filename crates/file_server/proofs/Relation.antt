-- What serving does, told of a slot, and of slots one after the other.
use Rattle.std.proofs.Common.{◌≡◌, ℕ, suc, Bool, true, if◌then◌else◌, List, [], ◌∷◌, ◌++◌, Option, Some, None, slice_set, length, refl, ap, sym, ◌∙◌, subst}
use Rattle.std.proofs.lemmas.List.{length-set}
use Rattle.chaos_packet.specs.Packet.{PacketView}
use Rattle.chaos_packet.specs.Outbox.{OutboxView}
use Rattle.chaos_link.specs.Link.{Ask, AskedSince, Asks}
use Rattle.chaos_conn.specs.View.{ConnView}
use Rattle.chaos_conn.specs.Acted.{Acted}
use Rattle.chaos_file.specs.Session.{SessionView}
use Rattle.chaos_host.specs.Acted.{HostActed, HostDoes}
use Rattle.chaos_host.specs.Slot.{named_slot, place_of}
use Rattle.chaos_host.specs.View.{HostView}
use Rattle.chaos_host.specs.declared.slot.Slot.{Slot}
use Rattle.chaos_file.specs.ServeHost.{DoesWorkInSlotBy, in_slot}
use Rattle.chaos_file.specs.Serve.{DoesWorkBy}
use Rattle.chaos_file.specs.ServeWork.{Work, NotOpen, Nothing, Full, LastItem, Command, work_of}
use Rattle.chaos_file.specs.declared.served.Served.{Served}
use Rattle.chaos_link.specs.declared.carriage.Carriage.{Carriage}
use Rattle.chaos_node.specs.Link.{has_packets}
use Rattle.file_server.specs.Serve.{IsServedAt, ServerDoes, ServesPlaceBy, ServesSlotBy, ServesSlotsBy, SessionServesBy, SlotDoes, Use, Uses, serving_after}
use Rattle.file_server.specs.Sessions.{Serving, serving_at, serving_of}
use Rattle.file_server.specs.declared.serve_mode.ServeMode.{ServeMode}
use Rattle.chaos_node.specs.Station.{Station}
use Rattle.file_server.specs.Server.{Server, server}
use Rattle.chaos_node.proofs.Queue.{sends_both, has_both}

module _ (answered : List ℕ → List ℕ → Type 0) (unused : Type 0) where
  by_work : (P Q : Acted Served → Type 0) (v : ConnView) (now : ℕ) (work : Work)
      → ((acted : Acted Served) → P acted → Q acted) → DoesWorkBy answered unused P v now work → DoesWorkBy answered unused Q v now work
  by_work P Q v now (NotOpen state) f done = (done.0, f _ done.1)
  by_work P Q v now Nothing f done = (done.0, f _ done.1)
  by_work P Q v now Full f done = (done.0, f _ done.1)
  by_work P Q v now LastItem f done = (done.0, f _ done.1)
  by_work P Q v now (Command body) f done = (done.0, done.1, f _ done.2)

  -- what holds of what the host did holds still where something weaker is asked
  pub serves_so : (P Q : HostActed Served → Type 0) (h : HostView) (place now : ℕ) (found : Option Slot)
      → ((acted : HostActed Served) → P acted → Q acted)
      → DoesWorkInSlotBy answered unused P h place now found → DoesWorkInSlotBy answered unused Q h place now found
  serves_so P Q h place now None f done = (done.0, f _ done.1)
  serves_so P Q h place now (Some slot) f done =
      by_work (λ acted. P (in_slot h place slot acted)) (λ acted. Q (in_slot h place slot acted)) slot.conn now
      (work_of slot.conn) (λ acted p. f (in_slot h place slot acted) p) done

  -- what the host did, where it was told of all that it may have done
  work_found : (P : Acted Served → Type 0) (v : ConnView) (now : ℕ) (work : Work) → DoesWorkBy answered unused P v now work
      → (acted : Acted Served) × DoesWorkBy answered unused (λ a. acted ≡ a) v now work × P acted
  work_found P v now (NotOpen state) done = (_, (done.0, refl), done.1)
  work_found P v now Nothing done = (_, (done.0, refl), done.1)
  work_found P v now Full done = (_, (done.0, refl), done.1)
  work_found P v now LastItem done = (_, (done.0, refl), done.1)
  work_found P v now (Command body) done = (_, (done.0, done.1, refl), done.2)

  pub in_found : (P : HostActed Served → Type 0) (h : HostView) (place now : ℕ) (found : Option Slot)
      → DoesWorkInSlotBy answered unused P h place now found
      → (acted : HostActed Served) × DoesWorkInSlotBy answered unused (λ a. acted ≡ a) h place now found × P acted
  in_found P h place now None done = (_, (done.0, refl), done.1)
  in_found P h place now (Some slot) done =
      let found = work_found (λ acted. P (in_slot h place slot acted)) slot.conn now (work_of slot.conn) done in
      (in_slot h place slot found.0, by_work (λ a. found.0 ≡ a) (λ a. in_slot h place slot found.0 ≡ in_slot h place slot a) slot.conn now (work_of slot.conn) (λ a e. ap (in_slot h place slot) e) found.1, found.2)

-- a connection was served by a slot's session
pub kept_so : (u : SessionView → SessionView → Use) (serving left : Serving) (t : SessionView) (old : HostView) (id now : ℕ)
    (new : HostView) (before after : OutboxView) (answer : Served)
    → left ≡ serving_after serving t answer → DoesWorkInSlotBy (u serving.session t).answered (u serving.session t).unused
    (λ acted. HostDoes old 2 acted new before after answer) old (place_of id) now (named_slot old.slots id)
    → SessionServesBy u now id serving (λ s acted. SlotDoes s left old acted new before after) old
kept_so u serving left t old id now new before after answer e done = (
  t,
  serves_so (u serving.session t).answered (u serving.session t).unused (λ acted. HostDoes old 2 acted new before after answer)
      (λ acted. SlotDoes (serving_after serving t acted.answer) left old acted new before after)
      old (place_of id) now (named_slot old.slots id)
      (λ acted d.
      record { session = e ∙ ap (serving_after serving t) d.answers; does = record { view = d.view; packets = d.packets; answers = refl; few = d.few; config = d.config; size = d.size } })
      done,
)

-- what became of a slot that was served, and what its host did
found_so : (u : SessionView → SessionView → Use) (now id : ℕ) (serving : Serving) (P : Serving → HostActed Served → Type 0)
    (h : HostView)
    → SessionServesBy u now id serving P h
    → (left : Serving) × (acted : HostActed Served)
    × SessionServesBy u now id serving (λ l a. (left ≡ l) × (acted ≡ a)) h × P left acted
found_so u now id serving P h done =
    let became = λ (acted : HostActed Served). serving_after serving done.0 acted.answer in
    let one =
    in_found (u serving.session done.0).answered (u serving.session done.0).unused (λ acted. P (became acted) acted) h (place_of id) now
    (named_slot h.slots id) done.1 in (
      became one.0,
      one.0,
      (done.0, serves_so (u serving.session done.0).answered (u serving.session done.0).unused (λ a. one.0 ≡ a) (λ a. (became one.0 ≡ became a) × (one.0 ≡ a)) h (place_of id) now (named_slot h.slots id) (λ a e. (ap became e, e)) one.1),
      one.2,
    )

become_so : (u : SessionView → SessionView → Use) (now id : ℕ) (serving : Serving) (P Q : Serving → HostActed Served → Type 0)
    (h : HostView)
    → ((l : Serving) (a : HostActed Served) → P l a → Q l a)
    → SessionServesBy u now id serving P h → SessionServesBy u now id serving Q h
become_so u now id serving P Q h f done = (
  done.0,
  serves_so (u serving.session done.0).answered (u serving.session done.0).unused (λ a. P (serving_after serving done.0 a.answer) a)
      (λ a. Q (serving_after serving done.0 a.answer) a) h (place_of id) now (named_slot h.slots id)
      (λ a p. f (serving_after serving done.0 a.answer) a p) done.1,
)

-- serving leaves the outbox as much room in all
pub as_much_room : (u : SessionView → SessionView → Use) (now id : ℕ) (serving left : Serving) (old new : HostView)
    (before mid : OutboxView)
    → SessionServesBy u now id serving (λ s acted. SlotDoes s left old acted new before mid) old → mid.cap ≡ before.cap
as_much_room u now id serving left old new before mid done =
    let found = found_so u now id serving (λ s acted. SlotDoes s left old acted new before mid) old done in
    ap (λ (o : OutboxView). o.cap) found.3.does.packets

module _ {S : Type 0} (uses : Uses S) where
  -- The connection at a place was served once, and what was put out stands behind what waited.
  pub record Placed (now place id : ℕ) (s t : Server S) (before after : OutboxView) : Type 0 where
    pub packets : List PacketView
    pub serves : ServesPlaceBy uses now place (Some id) s t (packets ∷ [])
    pub put : after ≡ record before { packets = before.packets ++ packets }
    pub config : t.host.config ≡ s.host.config
    pub size : length t.host.slots ≡ length s.host.slots
    pub count : length t.sessions ≡ length s.sessions

  -- its slot's session served it
  pub placed_so : (here left : Serving) (sessions kept : List Serving) (store store' : S) (place id now : ℕ)
      (old new : HostView) (before after : OutboxView)
      → here ≡ serving_at sessions place → kept ≡ slice_set sessions place left
      → SessionServesBy (uses store store' old id) now id (serving_of id now here)
      (λ s acted. SlotDoes s left old acted new before after) old
      → Placed now place id (server old sessions store) (server new kept store') before after
  placed_so here left sessions kept store store' place id now old new before after e set done =
      let u = uses store store' old id in
      let found =
      found_so u now id (serving_of id now here) (λ s acted. SlotDoes s left old acted new before after) old done in
      let d = found.3 in
      let acted = found.1 in
      let is : Serving → HostActed Served → Type 0 =
      IsServedAt place (server old sessions store) (server new kept store') (acted.packets ∷ []) in
      let one : SessionServesBy u now id (serving_of id now here) is old
      = become_so u now id (serving_of id now here) (λ l a. (found.0 ≡ l) × (acted ≡ a)) is old
      (λ l a same. record {
        host = d.does.view ∙ ap (λ (x : HostActed Served). x.view) same.1;
        sessions = set ∙ ap (slice_set sessions place) (d.session ∙ same.0);
        out = ap (λ (x : HostActed Served). x.packets ∷ []) same.1;
      }) found.2 in
      record {
        packets = acted.packets;
        serves = subst (λ (x : Serving). SessionServesBy u now id (serving_of id now x) is old) e one;
        put = d.does.packets;
        config = d.does.config;
        size = d.does.size;
        count = ap length set ∙ length-set sessions place left;
      }

  -- the first slots were served, and then the next
  pub slots_so : {L : Type 0} {aa ab ac : AskedSince L Ask} (carriage : Carriage) (a b c : Station (Server S)) (mode : ServeMode) (place now : ℕ) (sent more all : Bool)
      → ServerDoes (Asks aa ab) carriage (ServesSlotsBy uses mode now place) a b sent
      → ServerDoes (Asks ab ac) carriage (ServesSlotBy uses mode now place) b c more
      → all ≡ (if more then true else sent) → ServerDoes (Asks aa ac) carriage (ServesSlotsBy uses mode now (suc place)) a c all
  slots_so carriage a b c mode place now sent more all one two e =
      record {
        lots = one.lots ++ two.lots;
        done = (b.node, one.lots, two.lots, one.done, two.done, refl);
        sends = sends_both carriage a.queue b.queue c.queue one.lots two.lots one.sends two.sends;
        outbox = two.outbox ∙ one.outbox;
        told =
            e
            ∙ (ap (λ (x : Bool). if x then true else sent) two.told
            ∙ (ap (λ (x : Bool). if has_packets two.lots then true else x) one.told
            ∙ sym (has_both one.lots two.lots)));
        config = two.config ∙ one.config;
        size = two.size ∙ one.size;
        count = two.count ∙ one.count;
      }
