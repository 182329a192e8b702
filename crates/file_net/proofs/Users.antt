-- What users of A said and heard is what their connections have written and read.
use Rattle.std.proofs.Common.{◌≡◌, ℕ, Bool, true, false, if◌then◌else◌, List, [], ◌∷◌, ◌++◌, Option, Some, None, Result, Ok, Err, refl, sym, ap, ◌∙◌, subst, ⊎_elim, append_assoc}
use Rattle.std.specs.Prelude.{slice_get}
use Rattle.std.proofs.lemmas.Bool.{cond-true, cond-false}
use Rattle.std.proofs.lemmas.List.{append-nil}
use Rattle.chaos_packet.specs.Item.{ItemView}
use Rattle.chaos_conn.specs.declared.answers.ReadEnd.{ReadEnd}
use Rattle.chaos_conn.specs.declared.answers.ReadEnd.TheVariants as gave
use Rattle.chaos_conn.specs.declared.fault.ConnFault.{ConnFault}
use Rattle.chaos_conn.specs.View.{ConnView}
use Rattle.chaos_conn.specs.Calls.{act_read, act_write}
use Rattle.chaos_conn.specs.Act.{Call}
use Rattle.chaos_conn.specs.Act.Call.{Request, TakeRequest, Accept, Answer, Reject, Deliver, Write, Unc, Read, FinishRead, Announce, Close, Tick}
use Rattle.chaos_conn.specs.Act.Reply.{Wrote, Gave}
use Rattle.chaos_conn.specs.Names.{is_refused}
use Rattle.chaos_file.specs.Store.{Files}
use Rattle.chaos_host.specs.declared.slot.Slot.{Slot}
use Rattle.chaos_host.specs.Slot.{named_slot, place_of}
use Rattle.chaos_host.specs.Calls.{HostReply, call_slot}
use Rattle.chaos_host.specs.Deeds.{HostEvent, deed_of, by_named}
use Rattle.chaos_host.specs.Deeds.HostEvent.{Comes, Calls, Ends, Releases, Connects, Listens, Ticks}
use Rattle.chaos_host.proofs.Indices.{named_is}
use Rattle.chaos_lab.specs.declared.side.Side.TheVariants.{A, B}
use Rattle.chaos_lab.specs.Laboratory.{with_given}
use Rattle.chaos_net.specs.Net.{Name, Story, Station, Sent, Net, Reached, is_name, goes_on, story_after, after_slot, after_deed, arrives, happens}
use Rattle.chaos_net.specs.Net.NetEvent.{At, Arrives}
use Rattle.chaos_net.specs.Played.{ArePlayed}
use Rattle.chaos_net.specs.Present.{named, read_of, written_of}
use Rattle.chaos_net.proofs.Holding.{name_eq}
use Rattle.chaos_net.proofs.Network.{reached_is_played}
use Rattle.chaos_net.proofs.Next.{look_own, look_other, other_name, same_name}
use Rattle.chaos_net.proofs.Present.{named_is_present}
use Rattle.chaos_file.specs.ServeWork.{Work, NotOpen, Nothing as Idle, Full, LastItem, Command}
use Rattle.chaos_file.specs.ServeCalls.{work_at}
use Rattle.file_lab.specs.Bodies.{data_bodies}
use Rattle.file_net.specs.History.{Way}
use Rattle.file_net.specs.FileNet.{FileNet, FileEvent, Nets, Serves, FileRun, FileReached, served_by, file_happens}
use Rattle.file_net.specs.FileNet as file
use Rattle.file_net.specs.Users.{item_taken, item_given, written_by, read_by, said_at, heard_at, said_in, heard_in, IsSaid, UsersAreTold}
use Rattle.file_net.proofs.Kept.{IsSound, event_keeps, reached_is_sound}
use Rattle.file_lab.proofs.BodyLists.{bodies_append}
use Rattle.file_net.proofs.Quiet.{SameBodies, IsQuietEvent, deed_bodies, quiet_deed}

-- the bodies after these items more
record Adds (o p : Option Story) (ws rs : List ItemView) : Type 0 where
  written : data_bodies (written_of p) ≡ data_bodies (written_of o) ++ data_bodies ws
  read : data_bodies (read_of p) ≡ data_bodies (read_of o) ++ data_bodies rs

adds_none : (o p : Option Story) → SameBodies o p → Adds o p [] []
adds_none o p h = record {
  written = h.written ∙ sym (append-nil (data_bodies (written_of o)));
  read = h.read ∙ sym (append-nil (data_bodies (read_of o)));
}

same : (o : Option Story) → Adds o o [] []
same o = adds_none o o (record { read = refl; written = refl })

-- ---- a user's call

either_same : {X : Type 0} (b : Bool) (x : X) → (if b then x else x) ≡ x
either_same true x = refl
either_same false x = refl

-- the items that a write of a connection took
wrote : (s : Story) (op : ℕ) (bytes : List ℕ) (now : ℕ) (r : Result ℕ ConnFault)
    → (act_write s.end.conn op bytes now).answer ≡ r
    → Adds (Some s) (Some (goes_on s (Write op bytes now) None))
    (item_taken (Ok (Wrote r)) (record { op = op; body = bytes })) []
wrote s op bytes now (Ok number) is = record {
  written =
      ap (λ (r : Result ℕ ConnFault). data_bodies (if is_refused (Wrote r) then s.end.written else (s.end.written ++ record { op = op; body = bytes } ∷ []))) is
      ∙ bodies_append s.end.written (record { op = op; body = bytes } ∷ []);
  read =
      ap data_bodies (either_same (is_refused (Wrote (act_write s.end.conn op bytes now).answer)) s.end.read)
      ∙ sym (append-nil (data_bodies s.end.read));
}
wrote s op bytes now (Err why) is = record {
  written =
      ap (λ (r : Result ℕ ConnFault). data_bodies (if is_refused (Wrote r) then s.end.written else (s.end.written ++ record { op = op; body = bytes } ∷ []))) is
      ∙ sym (append-nil (data_bodies s.end.written));
  read =
      ap data_bodies (either_same (is_refused (Wrote (act_write s.end.conn op bytes now).answer)) s.end.read)
      ∙ sym (append-nil (data_bodies s.end.read));
}

-- and those that a read gave
given : (items : List ItemView) (r : ReadEnd)
    → data_bodies (with_given r items) ≡ data_bodies items ++ data_bodies (item_given (Ok (Gave r)))
given items (gave.Item item) = bodies_append items (item ∷ [])
given items gave.Nothing = sym (append-nil (data_bodies items))
given items (gave.Ended state) = sym (append-nil (data_bodies items))

-- ---- at a host

module _ (n : Net) (r : Reached n) (id : ℕ) (call : Call) (a : Name) where
  -- what a call made of the story of a connection, by the slot that its index names
  called : (slot : Slot) → named_slot (n A).host.slots id ≡ Some slot
      → (s : Story) × ((n A).story (named (n A) id) ≡ Some s) × (s.end.conn ≡ slot.conn)
      × ((happens n (At A (Calls id call)) A).story (named (n A) id) ≡ Some (goes_on s call None))
      × ((a ≡ named (n A) id → ⊥) → (happens n (At A (Calls id call)) A).story a ≡ (n A).story a)
  called slot names =
      let own : Station = n A in
      let place : ℕ = place_of id in
      let c : Name = named own id in
      let p = named_is_present n A id slot r names in
      let i = named_is id (slice_get own.host.slots place) slot names in
      let made : (d : Name) → (happens n (At A (Calls id call)) A).story d
      ≡ (after_slot own place call None (Some slot)).story d =
      λ d. ap (λ o. (after_deed own (by_named id call o) None).story d) names
      ∙ ap (λ o. (after_slot own place call None o).story d) i.0 in (
        p.story,
        p.there,
        p.conn,
        made c ∙ look_own own.story c (story_after (own.story c) slot.conn call None)
            ∙ ap (λ o. story_after o slot.conn call None) p.there,
        λ apart. made a ∙ look_other own.story c (story_after (own.story c) slot.conn call None) a apart,
      )

  -- where there is none, nothing changes
  uncalled : named_slot (n A).host.slots id ≡ None → (happens n (At A (Calls id call)) A).story a ≡ (n A).story a
  uncalled none = ap (λ o. (after_deed (n A) (by_named id call o) None).story a) none

  -- a call by which a connection's own story adds these items
  adds_by : (ws rs : HostReply → List ItemView)
      → ws (Err Rattle.chaos_host.specs.declared.fault.CallFault.TheVariants.NoSuchConnection) ≡ []
      → rs (Err Rattle.chaos_host.specs.declared.fault.CallFault.TheVariants.NoSuchConnection) ≡ []
      → (reply : ConnView → HostReply)
      → ((s : Story) → Adds (Some s) (Some (goes_on s call None)) (ws (reply s.end.conn)) (rs (reply s.end.conn)))
      → (o : Option Slot) → named_slot (n A).host.slots id ≡ o → (answer : Option Slot → HostReply)
      → ((slot : Slot) → answer (Some slot) ≡ reply slot.conn)
      → answer None ≡ Err Rattle.chaos_host.specs.declared.fault.CallFault.TheVariants.NoSuchConnection
      → Adds ((n A).story a) ((happens n (At A (Calls id call)) A).story a)
      (if is_name a (named (n A) id) then ws (answer o) else []) (if is_name a (named (n A) id) then rs (answer o) else [])
  adds_by ws rs no_w no_r reply own None names answer is none =
      let ws_none : (if is_name a (named (n A) id) then ws (answer None) else []) ≡ [] =
      ap (λ (l : List ItemView). if is_name a (named (n A) id) then l else []) (ap ws none ∙ no_w)
      ∙ either_same (is_name a (named (n A) id)) [] in
      let rs_none : (if is_name a (named (n A) id) then rs (answer None) else []) ≡ [] =
      ap (λ (l : List ItemView). if is_name a (named (n A) id) then l else []) (ap rs none ∙ no_r)
      ∙ either_same (is_name a (named (n A) id)) [] in
      subst (λ (z : Option Story × List ItemView × List ItemView). Adds ((n A).story a) z.0 z.1 z.2)
      (λ j. (sym (uncalled names) j, sym ws_none j, sym rs_none j)) (same ((n A).story a))
  adds_by ws rs no_w no_r reply own (Some slot) names answer is none =
      let c : Name = named (n A) id in
      let k = called slot names in
      let told : answer (Some slot) ≡ reply k.0.end.conn = is slot ∙ ap reply (sym k.2) in
      ⊎_elim
      (λ (e : a ≡ c).
      let test : is_name a c ≡ true = ap (λ z. is_name z c) e ∙ same_name c in
      subst (λ (z : Option Story × Option Story × List ItemView × List ItemView). Adds z.0 z.1 z.2 z.3)
      (λ j. (
        (sym k.1 ∙ ap (n A).story (sym e)) j,
        (sym k.3 ∙ ap (happens n (At A (Calls id call)) A).story (sym e)) j,
        (ap ws (sym told) ∙ sym (cond-true (is_name a c) (ws (answer (Some slot))) [] test)) j,
        (ap rs (sym told) ∙ sym (cond-true (is_name a c) (rs (answer (Some slot))) [] test)) j,
      ))
      (own k.0))
      (λ (apart : a ≡ c → ⊥).
      let test : is_name a c ≡ false = other_name a c apart in
      subst (λ (z : Option Story × List ItemView × List ItemView). Adds ((n A).story a) z.0 z.1 z.2)
      (λ j. (
        sym (k.4 apart) j,
        sym (cond-false (is_name a c) (ws (answer (Some slot))) [] test) j,
        sym (cond-false (is_name a c) (rs (answer (Some slot))) [] test) j,
      ))
      (same ((n A).story a)))
      (name_eq a c)

-- what each call answers
write_adds : (n : Net) (r : Reached n) (id op : ℕ) (bytes : List ℕ) (now : ℕ) (a : Name)
    → Adds ((n A).story a) ((happens n (At A (Calls id (Write op bytes now))) A).story a)
    (written_by (n A) (Calls id (Write op bytes now)) a) []
write_adds n r id op bytes now a =
    let x =
    adds_by n r id (Write op bytes now) a (λ z. item_taken z (record { op = op; body = bytes })) (λ z. []) refl refl
    (λ v. Ok (Wrote (act_write v op bytes now).answer))
    (λ s. wrote s op bytes now (act_write s.end.conn op bytes now).answer refl)
    (named_slot (n A).host.slots id) refl (λ o. (call_slot (n A).host id (Write op bytes now) o).answer) (λ slot. refl) refl in
    record { written = x.written; read = x.read ∙ ap (λ (l : List ItemView). data_bodies (read_of ((n A).story a)) ++ data_bodies l) (either_same (is_name a (named (n A) id)) []) }

read_own : (s : Story) → Adds (Some s) (Some (goes_on s Read None)) [] (item_given (Ok (Gave (act_read s.end.conn).answer)))
read_own s = record {
  written = sym (append-nil (data_bodies s.end.written));
  read = given s.end.read (act_read s.end.conn).answer;
}

finish_own : (s : Story)
    → Adds (Some s) (Some (goes_on s FinishRead None)) [] (item_given (Ok (Gave (act_read s.end.conn).answer)))
finish_own s = record {
  written = sym (append-nil (data_bodies s.end.written));
  read = given s.end.read (act_read s.end.conn).answer;
}

reads_add : (n : Net) (r : Reached n) (id : ℕ) (call : Call) (a : Name)
    → ((s : Story) → Adds (Some s) (Some (goes_on s call None)) [] (item_given (Ok (Gave (act_read s.end.conn).answer))))
    → Adds ((n A).story a) ((happens n (At A (Calls id call)) A).story a) [] (read_by (n A) (Calls id Read) a)
reads_add n r id call a own =
    let x =
    adds_by n r id call a (λ z. []) item_given refl refl (λ v. Ok (Gave (act_read v).answer)) own
    (named_slot (n A).host.slots id) refl (λ o. (call_slot (n A).host id Read o).answer) (λ slot. refl) refl in
    record { written = x.written ∙ ap (λ (l : List ItemView). data_bodies (written_of ((n A).story a)) ++ data_bodies l) (either_same (is_name a (named (n A) id)) []); read = x.read }

-- any other event of a host
quiet_adds : (n : Net) → ArePlayed n → (event : HostEvent) → IsQuietEvent event → (from : Option Name) (a : Name)
    → Adds ((n A).story a) ((after_deed (n A) (deed_of (n A).host event) from).story a) [] []
quiet_adds n h event quiet from a =
    adds_none ((n A).story a) ((after_deed (n A) (deed_of (n A).host event) from).story a)
    (deed_bodies (n A) (n B) (h A).station (deed_of (n A).host event) from (quiet_deed (n A).host event quiet) a)

calls_add : (n : Net) (r : Reached n) (id : ℕ) (call : Call) (a : Name)
    → Adds ((n A).story a) ((happens n (At A (Calls id call)) A).story a) (written_by (n A) (Calls id call) a)
    (read_by (n A) (Calls id call) a)
calls_add n r id (Write op bytes now) a = write_adds n r id op bytes now a
calls_add n r id Read a = reads_add n r id Read a read_own
calls_add n r id FinishRead a = reads_add n r id FinishRead a finish_own
calls_add n r id (Request me peer contact start now) a =
    quiet_adds n (reached_is_played n r) (Calls id (Request me peer contact start now)) refl None a
calls_add n r id (TakeRequest rfc me now) a =
    quiet_adds n (reached_is_played n r) (Calls id (TakeRequest rfc me now)) refl None a
calls_add n r id (Accept start now) a = quiet_adds n (reached_is_played n r) (Calls id (Accept start now)) refl None a
calls_add n r id (Answer bytes) a = quiet_adds n (reached_is_played n r) (Calls id (Answer bytes)) refl None a
calls_add n r id (Reject text) a = quiet_adds n (reached_is_played n r) (Calls id (Reject text)) refl None a
calls_add n r id (Deliver p now) a = quiet_adds n (reached_is_played n r) (Calls id (Deliver p now)) refl None a
calls_add n r id (Unc bytes) a = quiet_adds n (reached_is_played n r) (Calls id (Unc bytes)) refl None a
calls_add n r id (Announce window) a = quiet_adds n (reached_is_played n r) (Calls id (Announce window)) refl None a
calls_add n r id (Close text) a = quiet_adds n (reached_is_played n r) (Calls id (Close text)) refl None a
calls_add n r id (Tick now) a = quiet_adds n (reached_is_played n r) (Calls id (Tick now)) refl None a

-- ---- events of the file net

-- the data after an event
record Tells (f : FileNet) (event : FileEvent) (a : Name) : Type 0 where
  said : data_bodies (written_of (((file_happens f event).net A).story a))
      ≡ data_bodies (written_of ((f.net A).story a)) ++ said_at f event a
  heard : data_bodies (read_of (((file_happens f event).net A).story a))
      ≡ data_bodies (read_of ((f.net A).story a)) ++ heard_at f event a

-- A's stories stayed
silent : (o p : Option Story) → p ≡ o
    → (data_bodies (written_of p) ≡ data_bodies (written_of o) ++ [])
    × (data_bodies (read_of p) ≡ data_bodies (read_of o) ++ [])
silent o p is = (
  ap (λ z. data_bodies (written_of z)) is ∙ sym (append-nil (data_bodies (written_of o))),
  ap (λ z. data_bodies (read_of z)) is ∙ sym (append-nil (data_bodies (read_of o))),
)

work_silent : (f : FileNet) (id now : ℕ) (way : Way) (a : Name) (o : Option Work)
    → ((served_by f id now way o).net A).story a ≡ (f.net A).story a
work_silent f id now way a None = refl
work_silent f id now way a (Some (NotOpen state)) = refl
work_silent f id now way a (Some Idle) = refl
work_silent f id now way a (Some Full) = refl
work_silent f id now way a (Some LastItem) = refl
work_silent f id now way a (Some (Command body)) = refl

comes_adds : (n : Net) → ArePlayed n → (now : ℕ) (o : Option Sent) (a : Name)
    → Adds ((n A).story a) ((arrives n A now o A).story a) [] []
comes_adds n h now None a = same ((n A).story a)
comes_adds n h now (Some q) a = quiet_adds n h (Comes q.packet now) tt q.by a

event_tells : (f : FileNet) (event : FileEvent) (a : Name) → Reached f.net → file.CanHappen f event → Tells f event a
event_tells f (Nets (At A (Comes p now))) a r can = absurd can.0
event_tells f (Nets (At A (Calls id call))) a r can =
    let x = calls_add f.net r id call a in record { said = x.written; heard = x.read }
event_tells f (Nets (At A (Ends id call))) a r can =
    let x = quiet_adds f.net (reached_is_played f.net r) (Ends id call) can.0 None a in record { said = x.written; heard = x.read }
event_tells f (Nets (At A (Releases id))) a r can =
    let x = quiet_adds f.net (reached_is_played f.net r) (Releases id) tt None a in record { said = x.written; heard = x.read }
event_tells f (Nets (At A (Connects peer contact start now))) a r can =
    let x = quiet_adds f.net (reached_is_played f.net r) (Connects peer contact start now) tt None a in
    record { said = x.written; heard = x.read }
event_tells f (Nets (At A (Listens contact))) a r can =
    let x = quiet_adds f.net (reached_is_played f.net r) (Listens contact) tt None a in record { said = x.written; heard = x.read }
event_tells f (Nets (At A (Ticks place now))) a r can =
    let x = quiet_adds f.net (reached_is_played f.net r) (Ticks place now) tt None a in record { said = x.written; heard = x.read }
event_tells f (Nets (At B event)) a r can =
    let x = silent ((f.net A).story a) ((f.net A).story a) refl in record { said = x.0; heard = x.1 }
event_tells f (Nets (Arrives A number now)) a r can =
    let x = comes_adds f.net (reached_is_played f.net r) now (slice_get (f.net B).sent number) a in
    record { said = x.written; heard = x.read }
event_tells f (Nets (Arrives B number now)) a r can =
    let x = silent ((f.net A).story a) ((arrives f.net B now (slice_get (f.net A).sent number) A).story a)
    (far (slice_get (f.net A).sent number)) in
    record { said = x.0; heard = x.1 }
  where
    far : (o : Option Sent) → (arrives f.net B now o A).story a ≡ (f.net A).story a
    far None = refl
    far (Some q) = refl
event_tells f (Serves id now way) a r can =
    let x = silent ((f.net A).story a) (((file_happens f (Serves id now way)).net A).story a)
    (work_silent f id now way a (work_at (f.net B).host id)) in
    record { said = x.0; heard = x.1 }

-- ---- runs

run_tells : (m : Files) (events : List FileEvent) (f g : FileNet) (a : Name) → IsSound m f → FileRun f events g
    → IsSaid f g events a
run_tells m [] f g a h is =
    let x = silent ((f.net A).story a) ((g.net A).story a) (ap (λ z. (z.net A).story a) is) in record { said = x.0; heard = x.1 }
run_tells m (event ∷ events) f g a h r =
    let one = event_tells f event a h.reached r.0 in
    let rest = run_tells m events (file_happens f event) g a (event_keeps m f event r.0 h) r.1 in
    record {
      said =
          rest.said ∙ ap (λ l. l ++ said_in (file_happens f event) events a) one.said
          ∙ append_assoc (data_bodies (written_of ((f.net A).story a))) (said_at f event a)
          (said_in (file_happens f event) events a);
      heard =
          rest.heard ∙ ap (λ l. l ++ heard_in (file_happens f event) events a) one.heard
          ∙ append_assoc (data_bodies (read_of ((f.net A).story a))) (heard_at f event a)
          (heard_in (file_happens f event) events a);
    }

pub users_are_told : UsersAreTold
users_are_told m f g events a reached run = run_tells m events f g a (reached_is_sound m f reached) run
