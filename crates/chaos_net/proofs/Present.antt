-- What a caller of a host holds is what the stories tell.
use Rattle.std.proofs.Common.{◌≡◌, ℕ, ◌+◌, ◌*◌, [], ◌∷◌, ◌++◌, Bool, true, false, not, if◌then◌else◌, Option, Some, None, Ok, Err, refl, sym, ap, ◌∙◌}
use Rattle.std.specs.Prelude.{slice_get}
use Rattle.chaos_packet.specs.Item.{ItemView}
use Rattle.chaos_conn.specs.declared.answers.ReadEnd.{ReadEnd}
use Rattle.chaos_conn.specs.declared.answers.ReadEnd.TheVariants as gave
use Rattle.chaos_conn.specs.declared.answers.ReadDone.{ReadDone}
use Rattle.chaos_conn.specs.declared.answers.ReadDone.TheVariants as done
use Rattle.chaos_conn.specs.State.{is_open, is_opening}
use Rattle.chaos_conn.specs.View.{ConnView}
use Rattle.chaos_conn.specs.Acted.{quietly}
use Rattle.chaos_conn.specs.Sending.{with_sts}
use Rattle.chaos_conn.specs.Calls.{act_read, read_at_open, read_at_end, front_of, done_of}
use Rattle.chaos_conn.specs.Act.{Call, Reply, act}
use Rattle.chaos_conn.specs.Act.Call.{Write, Read, FinishRead}
use Rattle.chaos_conn.specs.Act.Reply.{Wrote, Gave, Finished}
use Rattle.chaos_conn.specs.Names.{is_refused}
use Rattle.chaos_host.specs.declared.slot.Slot.{Slot}
use Rattle.chaos_host.specs.declared.fault.CallFault.TheVariants.{NoSuchConnection}
use Rattle.chaos_host.specs.Slot.{is_free, named_slot, place_of}
use Rattle.chaos_host.specs.View.{look_slot}
use Rattle.chaos_host.specs.Calls.{call_slot, host_call}
use Rattle.chaos_host.specs.Deeds.{HostEvent, deed_of, by_named}
use Rattle.chaos_host.specs.Deeds.HostEvent.{Calls}
use Rattle.chaos_host.proofs.Indices.{named_is}
use Rattle.chaos_lab.specs.declared.side.Side.{Side}
use Rattle.chaos_lab.specs.declared.side.Side.TheVariants.{A, B}
use Rattle.chaos_lab.specs.Laboratory.{with_given}
use Rattle.chaos_net.specs.Net.{Name, Story, Station, Net, present, goes_on, story_after, after_slot, after_deed, after_event}
use Rattle.chaos_net.specs.Present.{IsPresent, NamedIsPresent, ReadsAreTold, FrontIsTold, WritesAreTold, named, read_of, written_of}
use Rattle.chaos_net.proofs.Lists.{some_eq}
use Rattle.chaos_net.proofs.Next.{look_own}
use Rattle.chaos_net.proofs.Network.{reached_is_played}

not_free : (b : Bool) → not b ≡ true → b ≡ false
not_free false h = refl
not_free true h = absurd (cc)

pub named_is_present : NamedIsPresent
named_is_present n x id slot r names =
    let i = named_is id (slice_get (n x).host.slots (place_of id)) slot names in
    let is = ((reached_is_played n r) x).station.slots (place_of id) slot i.0 in
    let u = is.used (not_free (is_free slot) i.1) in
    record {
      index = ap (λ g. 256 * g + (place_of id + 1)) (sym is.generation) ∙ i.2;
      story = u.0;
      there = u.1;
      conn = u.2;
    }

-- ---- the story after a user's call

stories_after : (n : Net) (x : Side) (event : HostEvent) (name : Name)
    → (after_event n x event None x).story name ≡ (after_deed (n x) (deed_of (n x).host event) None).story name
stories_after n A event name = refl
stories_after n B event name = refl

called : (n : Net) (x : Side) (id : ℕ) (call : Call) (slot : Slot) → named_slot (n x).host.slots id ≡ Some slot
    → (p : IsPresent (n x) id slot)
    → (after_event n x (Calls id call) None x).story (named (n x) id) ≡ Some (goes_on p.story call None)
called n x id call slot names p =
    let st : Station = n x in
    let place : ℕ = place_of id in
    let c : Name = present st place in
    let i = named_is id (slice_get st.host.slots place) slot names in
    stories_after n x (Calls id call) c
    ∙ ap (λ o. (after_deed st (by_named id call o) None).story c) names
    ∙ ap (λ o. (after_slot st place call None o).story c) i.0
    ∙ look_own st.story c (story_after (st.story c) slot.conn call None)
    ∙ ap (λ o. story_after o slot.conn call None) p.there

-- a call that answers is made on a slot
answering : (n : Net) (x : Side) (id : ℕ) (call : Call) (reply : Reply)
    → (host_call (n x).host id call).answer ≡ Ok reply
    → (slot : Slot) × (named_slot (n x).host.slots id ≡ Some slot) × ((act slot.conn call).answer ≡ reply)
answering n x id call reply h = by (named_slot (n x).host.slots id) refl
  where
    by : (o : Option Slot) → named_slot (n x).host.slots id ≡ o
        → (slot : Slot) × (named_slot (n x).host.slots id ≡ Some slot) × ((act slot.conn call).answer ≡ reply)
    by None is =
        let no : Err NoSuchConnection ≡ Ok reply = sym (ap (λ o. (call_slot (n x).host id call o).answer) is)
        ∙ h in absurd (cc)
    by (Some slot) is =
        let same : Ok (act slot.conn call).answer
        ≡ Ok reply = sym (ap (λ o. (call_slot (n x).host id call o).answer) is)
        ∙ h in (slot, is, cc)

-- ---- reads

gave_eq : {a b : ReadEnd} → Gave a ≡ Gave b → a ≡ b
gave_eq h = cc

pub reads_are_told : ReadsAreTold
reads_are_told n x id item r h =
    let a = answering n x id Read (Gave (gave.Item item)) h in
    let p = named_is_present n x id a.0 r a.1 in
    let given : (act_read p.story.end.conn).answer ≡ gave.Item item =
    ap (λ v. (act_read v).answer) p.conn ∙ gave_eq a.2 in
    ap read_of (called n x id Read a.0 a.1 p)
    ∙ ap (λ g. with_given g p.story.end.read) given
    ∙ ap (λ o. read_of o ++ item ∷ []) (sym p.there)

finished_eq : {a b : ReadDone} → Finished a ≡ Finished b → a ≡ b
finished_eq h = cc

-- a read that is done gives the item in front
front_is_read : (v : ConnView) (item : ItemView) → front_of v ≡ Some item → done_of (act_read v).answer ≡ done.Done
    → (act_read v).answer ≡ gave.Item item
front_is_read v item front h = by (is_opening v.state) (is_open v.state) (front_of v) front h
  where
    told : (b : Bool) (w : ConnView) (one : ItemView)
        → (if b then with_sts w (gave.Item one) else quietly w (gave.Item one)).answer ≡ gave.Item one
    told true w one = refl
    told false w one = refl

    by : (a b : Bool) (o : Option ItemView) → o ≡ Some item
        → done_of (if a then quietly v gave.Nothing else (if b then read_at_open v o else read_at_end v o)).answer
        ≡ done.Done
        → (if a then quietly v gave.Nothing else (if b then read_at_open v o else read_at_end v o)).answer
        ≡ gave.Item item
    by true b o e h = let no : done.Nothing ≡ done.Done = h in absurd (cc)
    by false b None e h = absurd (cc)
    by false true (Some one) e h = told _ _ one ∙ ap gave.Item (some_eq e)
    by false false (Some one) e h = ap gave.Item (some_eq e)

looks : (o : Option Slot) (slot : Slot) (item : ItemView) → look_slot front_of o ≡ Ok (Some item) → o ≡ Some slot
    → front_of slot.conn ≡ Some item
looks o slot item h is =
    let same : Ok (front_of slot.conn) ≡ Ok (Some item) = sym (ap (look_slot front_of) is) ∙ h in cc

pub front_is_told : FrontIsTold
front_is_told n x id item r look h =
    let a = answering n x id FinishRead (Finished done.Done) h in
    let p = named_is_present n x id a.0 r a.1 in
    let front : front_of a.0.conn ≡ Some item = looks (named_slot (n x).host.slots id) a.0 item look a.1 in
    let given : (act_read p.story.end.conn).answer ≡ gave.Item item =
    ap (λ v. (act_read v).answer) p.conn ∙ front_is_read a.0.conn item front (finished_eq a.2) in
    ap read_of (called n x id FinishRead a.0 a.1 p)
    ∙ ap (λ g. with_given g p.story.end.read) given
    ∙ ap (λ o. read_of o ++ item ∷ []) (sym p.there)

-- ---- writes

pub writes_are_told : WritesAreTold
writes_are_told n x id op bytes now number r h =
    let a = answering n x id (Write op bytes now) (Wrote (Ok number)) h in
    let p = named_is_present n x id a.0 r a.1 in
    let taken : is_refused (act p.story.end.conn (Write op bytes now)).answer ≡ false =
    ap (λ v. is_refused (act v (Write op bytes now)).answer) p.conn ∙ ap is_refused a.2 in
    let s : Story = p.story in
    ap written_of (called n x id (Write op bytes now) a.0 a.1 p)
    ∙ ap (λ (b : Bool). if b then s.end.written else (s.end.written ++ record { op = op; body = bytes } ∷ [])) taken
    ∙ ap (λ o. written_of o ++ record { op = op; body = bytes } ∷ []) (sym p.there)
