-- Every event keeps that there is one history, and the law of the network does the rest.
use Rattle.std.proofs.Common.{◌≡◌, ℕ, true, false, List, [], ◌∷◌, ◌++◌, Option, Some, None, refl, sym, ap, ◌∙◌, subst, inl, inr, ⊎_elim, option_map, append_assoc}
use Rattle.std.proofs.lemmas.List.{append-nil}
use Rattle.std.proofs.lemmas.Bool.{false≢true, cond_both}
use Rattle.chaos_packet.specs.Begins.{Begins}
use Rattle.chaos_packet.specs.Item.{ItemView}
use Rattle.chaos_packet.specs.Opcode.{kind_of}
use Rattle.chaos_packet.specs.declared.opcode.Kind.TheVariants as kind
use Rattle.chaos_host.specs.declared.slot.Slot.{Slot}
use Rattle.chaos_host.specs.Slot.{named_slot}
use Rattle.chaos_file.specs.Store.{Files}
use Rattle.chaos_file.proofs.Fitting.{AreSmall}
use Rattle.chaos_file.specs.ServeWork.{Work, NotOpen, Nothing, Full, LastItem, Command, work_of}
use Rattle.chaos_file.specs.ServeCalls.{work_at}
use Rattle.chaos_file.proofs.ReplyTaken.{only_open}
use Rattle.chaos_lab.specs.declared.side.Side.TheVariants.{A, B}
use Rattle.chaos_lab.specs.Shown.{IsUsers}
use Rattle.chaos_net.specs.Net.{Name, Story, Net, Reached, IsNew, HoldsWith, is_name, happens}
use Rattle.chaos_net.specs.Present.{named, read_of, written_of}
use Rattle.chaos_net.proofs.Holding.{name_eq}
use Rattle.chaos_net.proofs.Lists.{some_eq}
use Rattle.chaos_net.proofs.Network.{network, reached_is_played}
use Rattle.chaos_net.proofs.Standing.{reached_on}
use Rattle.file_lab.specs.Bodies.{data_bodies}
use Rattle.file_net.specs.History.{Way, Transaction, new_service, after_one, after_all, IsRight, commands_by, replies_to}
use Rattle.file_net.specs.FileNet.{FileNet, FileEvent, Nets, Serves, transaction_of, after_reading, after_transaction, served_by, file_happens, CanServe, CanHappen, FileRun, new_file_net, FileReached, HasOneHistory, IsServedBy, FileNetLaw, HistoriesGrow}
use Rattle.file_lab.proofs.BodyLists.{begins_whole, bodies_begin}
use Rattle.file_net.proofs.Lists.{of_kind, one_body, after_more, right_more, commands_own, replies_own, commands_other, replies_other}
use Rattle.file_net.proofs.Fits.{reply_fits, session_small}
use Rattle.file_net.proofs.Quiet.{SameBodies, net_bodies}
use Rattle.file_lab.proofs.ServedTurns.{is_work}
use Rattle.file_net.proofs.Served.{HasItem, has_read, has_replied, item_is_users}

-- A file net whose net is reached, which has one history, and whose sessions hold no more than the greatest file in a handle, so that each reply fits into a packet
pub record IsSound (m : Files) (f : FileNet) : Type 0 where
  pub reached : Reached f.net
  pub history : HasOneHistory m f
  pub small : (c : Name) → AreSmall (f.service.session c).handles

-- ---- an event of the net

same_history : (m : Files) (f : FileNet) (n : Net) → HasOneHistory m f
    → ((c : Name) → SameBodies ((f.net B).story c) ((n B).story c)) → HasOneHistory m (record f { net = n })
same_history m f n h same = record {
  service = h.service;
  right = h.right;
  commands = λ c. (same c).read ∙ h.commands c;
  replies = λ c. (same c).written ∙ h.replies c;
}

-- ---- an EOF is read

data_or_eof : (item : ItemView) → IsUsers item → (kind_of item.op ≡ kind.Eof → ⊥) → kind_of item.op ≡ kind.Data
data_or_eof item (inl h) isnt = h
data_or_eof item (inr h) isnt = absurd (isnt h.0)

eof_keeps : (m : Files) (f : FileNet) (id : ℕ) (slot : Slot) (item : ItemView) → HasItem f.net id slot item
    → kind_of item.op ≡ kind.Eof → IsSound m f → IsSound m (record f { net = after_reading f.net id })
eof_keeps m f id slot item has is h =
    let k = has_read f.net id slot item has in
    let c : Name = named (f.net B) id in
    record {
      reached = k.1.reached;
      history = same_history m f (after_reading f.net id) h.history
          (λ d. ⊎_elim
          (λ (same : c ≡ d).
          subst (λ e. SameBodies ((f.net B).story e) ((after_reading f.net id B).story e)) same
          (record {
            read =
                ap (λ o. data_bodies (read_of o)) k.1.called.own ∙ ap data_bodies k.1.read
                ∙ of_kind k.0.end.read item kind.Eof is (λ body. refl)
                ∙ ap (λ o. data_bodies (read_of o)) (sym k.1.called.there);
            written =
                ap (λ o. data_bodies (written_of o)) k.1.called.own ∙ ap data_bodies k.1.written
                ∙ ap (λ o. data_bodies (written_of o)) (sym k.1.called.there);
          }))
          (λ (apart : c ≡ d → ⊥).
          record {
            read = ap (λ o. data_bodies (read_of o)) (k.1.called.others d apart);
            written = ap (λ o. data_bodies (written_of o)) (k.1.called.others d apart);
          })
          (name_eq c d));
      small = h.small;
    }

-- ---- a command is served

command_keeps : (m : Files) (f : FileNet) (id now : ℕ) (way : Way) (slot : Slot) (item : ItemView) (body : List ℕ)
    → HasItem f.net id slot item → (kind_of item.op ≡ kind.Eof → ⊥) → item.body ≡ body
    → Rattle.chaos_conn.specs.Calls.can_write slot.conn ≡ true
    → CanServe f id way (Some (Command body)) → IsSound m f
    → IsSound m (served_by f id now way (Some (Command body)))
command_keeps m f id now way slot item body has isnt is can may h =
    let c : Name = named (f.net B) id in
    let t : Transaction = transaction_of f.service c body way in
    let k = has_replied f.net id now slot item t.reply has can
    (reply_fits f.service.files (f.service.session c) body way (h.small c)) in
    let is_data : kind_of item.op ≡ kind.Data = data_or_eof item (item_is_users f.net id slot item has) isnt in
    let g : FileNet = after_transaction f id now t in
    let right : IsRight (after_all (new_service m) f.history) t =
    subst (λ v. IsRight v t) h.history.service (record { may = may; reply = refl }) in
    record {
      reached = k.reached;
      history = record {
        service = ap (λ v. after_one v t) h.history.service ∙ sym (after_more (new_service m) f.history t);
        right = right_more (new_service m) f.history t h.history.right right;
        commands = λ d. ⊎_elim
            (λ (same : c ≡ d).
            subst (λ e. data_bodies (read_of ((g.net B).story e)) ≡ commands_by e g.history) same
            (ap (λ o. data_bodies (read_of o)) k.own ∙ ap data_bodies k.read ∙ one_body k.before.end.read item is_data
            ∙ (λ j. ((ap (λ o. data_bodies (read_of o)) (sym k.there) ∙ h.history.commands c) j) ++ is j ∷ [])
            ∙ sym (commands_own f.history t)))
            (λ (apart : c ≡ d → ⊥).
            ap (λ o. data_bodies (read_of o)) (k.others d apart) ∙ h.history.commands d
            ∙ sym (commands_other f.history t d apart))
            (name_eq c d);
        replies = λ d. ⊎_elim
            (λ (same : c ≡ d).
            subst (λ e. data_bodies (written_of ((g.net B).story e)) ≡ replies_to e g.history) same
            (ap (λ o. data_bodies (written_of o)) k.own ∙ ap data_bodies k.written
            ∙ one_body k.before.end.written (record { op = Rattle.chaos_packet.specs.Opcode.op_data; body = t.reply }) refl
            ∙ ap (λ bodies. bodies ++ t.reply ∷ [])
            (ap (λ o. data_bodies (written_of o)) (sym k.there) ∙ h.history.replies c)
            ∙ sym (replies_own f.history t)))
            (λ (apart : c ≡ d → ⊥).
            ap (λ o. data_bodies (written_of o)) (k.others d apart) ∙ h.history.replies d
            ∙ sym (replies_other f.history t d apart))
            (name_eq c d);
      };
      small = λ d. cond_both (is_name d c) _ (f.service.session d) (λ s. AreSmall s.handles)
          (λ _. session_small f.service.files (f.service.session c) body way (h.small c))
          (λ _. h.small d);
    }

-- ---- B's server serves once

work_keeps : (m : Files) (f : FileNet) (id now : ℕ) (way : Way) (slot : Slot)
    → named_slot (f.net B).host.slots id ≡ Some slot → (work : Work) → work_of slot.conn ≡ work
    → CanServe f id way (Some work) → IsSound m f → IsSound m (served_by f id now way (Some work))
work_keeps m f id now way slot names (NotOpen state) is may h = h
work_keeps m f id now way slot names Nothing is may h = h
work_keeps m f id now way slot names Full is may h = h
work_keeps m f id now way slot names LastItem is may h =
    let w = is_work slot.conn LastItem is in
    eof_keeps m f id slot w.1
    (record { reached = h.reached; names = names; state = only_open slot.conn.state w.0; front = w.2 }) w.3 h
work_keeps m f id now way slot names (Command body) is may h =
    let w = is_work slot.conn (Command body) is in
    command_keeps m f id now way slot w.1 body
    (record { reached = h.reached; names = names; state = only_open slot.conn.state w.0; front = w.2 }) w.5 w.4 w.3 may h

slot_keeps : (m : Files) (f : FileNet) (id now : ℕ) (way : Way) (o : Option Slot)
    → named_slot (f.net B).host.slots id ≡ o
    → CanServe f id way (option_map (λ slot. work_of slot.conn) o) → IsSound m f
    → IsSound m (served_by f id now way (option_map (λ slot. work_of slot.conn) o))
slot_keeps m f id now way None names may h = h
slot_keeps m f id now way (Some slot) names may h =
    work_keeps m f id now way slot names (work_of slot.conn) refl may h

-- ---- every run

pub event_keeps : (m : Files) (f : FileNet) (event : FileEvent) → CanHappen f event → IsSound m f
    → IsSound m (file_happens f event)
event_keeps m f (Nets event) can h = record {
  reached = reached_on f.net event h.reached can.0;
  history =
      same_history m f (happens f.net event) h.history
      (net_bodies f.net event (reached_is_played f.net h.reached) can.0 can.1);
  small = h.small;
}
event_keeps m f (Serves id now way) can h =
    slot_keeps m f id now way (named_slot (f.net B).host.slots id) refl can h

pub run_keeps : (m : Files) (events : List FileEvent) (f g : FileNet) → FileRun f events g → IsSound m f → IsSound m g
run_keeps m [] f g is h = subst (IsSound m) (sym is) h
run_keeps m (event ∷ events) f g r h =
    run_keeps m events (file_happens f event) g r.1 (event_keeps m f event r.0 h)

pub start_is_sound : (m : Files) (n : Net) → IsNew (n A) → IsNew (n B) → IsSound m (new_file_net n m)
start_is_sound m n a b = record {
  reached = record { start = n; a = a; b = b; events = []; run = refl };
  history = record {
    service = refl;
    right = tt;
    commands = λ c. ap (λ st. data_bodies (read_of (st.story c))) b.is;
    replies = λ c. ap (λ st. data_bodies (written_of (st.story c))) b.is;
  };
  small = λ c. tt;
}

pub reached_is_sound : (m : Files) (f : FileNet) → FileReached m f → IsSound m f
reached_is_sound m f r = run_keeps m r.events (new_file_net r.start m) f r.run (start_is_sound m r.start r.a r.b)

-- ---- the history grows

-- so much more
abbrev Grows : List Transaction → List Transaction → Type 0
Grows h k = (more : List Transaction) × (k ≡ h ++ more)

grows_none : (h : List Transaction) → Grows h h
grows_none h = ([], sym (append-nil h))

work_grows : (f : FileNet) (id now : ℕ) (way : Way) (o : Option Work) → Grows f.history (served_by f id now way o).history
work_grows f id now way None = grows_none f.history
work_grows f id now way (Some (NotOpen state)) = grows_none f.history
work_grows f id now way (Some Nothing) = grows_none f.history
work_grows f id now way (Some Full) = grows_none f.history
work_grows f id now way (Some LastItem) = grows_none f.history
work_grows f id now way (Some (Command body)) =
    (transaction_of f.service (named (f.net B) id) body way ∷ [], refl)

event_grows : (f : FileNet) (event : FileEvent) → Grows f.history (file_happens f event).history
event_grows f (Nets event) = grows_none f.history
event_grows f (Serves id now way) = work_grows f id now way (work_at (f.net B).host id)

run_grows : (events : List FileEvent) (f g : FileNet) → FileRun f events g → Grows f.history g.history
run_grows [] f g is = ([], ap (λ z. z.history) is ∙ sym (append-nil f.history))
run_grows (event ∷ events) f g r =
    let one = event_grows f event in
    let rest = run_grows events (file_happens f event) g r.1 in
    (one.0 ++ rest.0, rest.1 ∙ ap (λ l. l ++ rest.0) one.1 ∙ append_assoc f.history one.0 rest.0)

pub histories_grow : HistoriesGrow
histories_grow f g events r =
    let k = run_grows events f g r in begins_whole f.history g.history k.0 k.1

-- ---- the law

client_served : (f : FileNet) (a : Name) (s : Story) (c : Name) → Reached f.net → (f.net A).story a ≡ Some s
    → s.asked ≡ true → s.peer ≡ Some c
    → ((d : Name) → data_bodies (read_of ((f.net B).story d)) ≡ commands_by d f.history)
    → ((d : Name) → data_bodies (written_of ((f.net B).story d)) ≡ replies_to d f.history)
    → IsServedBy f s c
client_served f a s c r there asked peer commands replies =
    let h : HoldsWith f.net A a s c = subst (Rattle.chaos_net.specs.Net.HoldsBy f.net A a s) peer (network f.net A a r s there) in
    let t : Story = h.story in
    let back : t.peer ≡ Some a = ⊎_elim (λ (is : t.peer ≡ Some a). is)
    (λ (isnt : (s.asked ≡ false) × _). absurd (false≢true (sym isnt.0 ∙ asked))) h.named in
    let k : HoldsWith f.net B c t a = subst (Rattle.chaos_net.specs.Net.HoldsBy f.net B c t) back (network f.net B c r t h.there) in
    let same : k.story ≡ s = some_eq (sym k.there ∙ there) in
    record {
      replies =
          subst (Begins (data_bodies s.end.read)) (ap (λ o. data_bodies (written_of o)) (sym h.there) ∙ replies c)
          (bodies_begin s.end.read t.end.written h.begins);
      commands =
          subst (λ (z : List (List ℕ) × List (List ℕ)). Begins z.0 z.1)
          (λ j. ((ap (λ o. data_bodies (read_of o)) (sym h.there) ∙ commands c) j, data_bodies (same j).end.written))
          (bodies_begin t.end.read k.story.end.written k.begins);
    }

pub file_net : FileNetLaw
file_net m f r =
    let h = reached_is_sound m f r in (
      h.history,
      λ a s c there asked peer.
          client_served f a s c h.reached there asked peer h.history.commands h.history.replies,
    )
