-- Writing leaves what a look shows.
use Rattle.std.proofs.Common.{◌≡◌, ℕ, Bool, true, false, if◌then◌else◌, nat_lt, List, [], ◌∷◌, length, Option, Some, None, Result, Ok, Err, refl, ap, sym, ◌∙◌}
use Rattle.chaos_packet.specs.Item.{ItemView}
use Rattle.chaos_packet.specs.Opcode.{kind_of, op_data}
use Rattle.chaos_packet.specs.Outbox.{OutboxView, with_put}
use Rattle.chaos_conn.specs.State.{is_open, is_opening}
use Rattle.chaos_conn.specs.View.{ConnView, moment}
use Rattle.chaos_conn.specs.Acted.{Acted, quietly}
use Rattle.chaos_conn.specs.Sending.{with_sts}
use Rattle.chaos_conn.specs.Act.{Write, act}
use Rattle.chaos_conn.specs.Calls.{most_bytes, has_window, write_at_most, write_item, front_of, read_at_open, read_at_end, act_read}
use Rattle.chaos_conn.specs.declared.answers.ReadEnd.{ReadEnd}
use Rattle.chaos_conn.specs.declared.answers.ReadEnd.TheVariants as end
use Rattle.chaos_conn.specs.declared.state.State.{State}
use Rattle.chaos_host.specs.declared.fault.CallFault.{CallFault}
use Rattle.chaos_host.specs.declared.slot.Slot.{Slot}
use Rattle.chaos_host.specs.Slot.{named_slot}
use Rattle.chaos_host.specs.View.{HostView, look_slot}
use Rattle.chaos_host.specs.Acted.{HostDoes}
use Rattle.chaos_host.specs.Calls.{HostReply, call_slot, host_call}
use Rattle.chaos_host.proofs.InUse.{stays_in_use}
use Rattle.chaos_stream.specs.Reading.{Sight, read_sight, peek_of}
use Rattle.chaos_stream.specs.Writing.{can_put, Put, after_taking, put_cuts, cuts_of}
use Rattle.chaos_stream.specs.HostNamed.{DoesFound}
use Rattle.chaos_stream.specs.HostWriting.{PutsBytes}
use Rattle.chaos_stream.proofs.HostNamed.{named_used, named_with}

-- ---- of a connection

-- the state, and the item in front
record Leaves (v w : ConnView) : Type 0 where
  pub state : w.state ≡ v.state
  pub front : front_of w ≡ front_of v

leaves_same : (v : ConnView) → Leaves v v
leaves_same v = record { state = refl; front = refl }

leaves_then : (u v w : ConnView) → Leaves u v → Leaves v w → Leaves u w
leaves_then u v w l m = record { state = m.state ∙ l.state; front = m.front ∙ l.front }

-- what a read would give, by the state and the item in front
abbrev answer_by : (opening opened : Bool) → State → Option ItemView → ReadEnd
answer_by true opened state front = end.Nothing
answer_by false true state None = end.Nothing
answer_by false true state (Some item) = end.Item item
answer_by false false state None = end.Ended state
answer_by false false state (Some item) = end.Item item

told_or_not : {A : Type 0} (b : Bool) (v : ConnView) (answer : A)
    → (if b then with_sts v answer else quietly v answer).answer ≡ answer
told_or_not true v answer = refl
told_or_not false v answer = refl

answer_is : (opening opened : Bool) (v : ConnView) (front : Option ItemView)
    → (if opening then quietly v end.Nothing else (if opened then read_at_open v front else read_at_end v front)).answer
    ≡ answer_by opening opened v.state front
answer_is true opened v front = refl
answer_is false true v None = refl
answer_is false true v (Some item) = told_or_not _ _ _
answer_is false false v None = refl
answer_is false false v (Some item) = refl

answer_of : (v : ConnView) → (act_read v).answer ≡ answer_by (is_opening v.state) (is_open v.state) v.state (front_of v)
answer_of v = answer_is (is_opening v.state) (is_open v.state) v (front_of v)

looks_alike : (v w : ConnView) (place : ℕ) → Leaves v w → peek_of w place ≡ peek_of v place
looks_alike v w place l =
    let by_state = ap (λ state. answer_by (is_opening state) (is_open state) state (front_of w)) l.state in
    let by_front = ap (λ front. answer_by (is_opening v.state) (is_open v.state) v.state front) l.front in
    ap (λ read. read_sight read place) (answer_of w ∙ by_state ∙ by_front ∙ sym (answer_of v))

either : {A : Type 0} (v : ConnView) (b : Bool) (x y : Acted A) → Leaves v x.view → Leaves v y.view
    → Leaves v (if b then x else y).view
either v true x y l m = l
either v false x y l m = m

item_leaves : (v : ConnView) (item : ItemView) (t : ℕ) → Leaves v (write_item v item t).view
item_leaves v item t = either v (has_window v.send) _ _ (record { state = refl; front = refl }) (leaves_same v)

at_most_leaves : (v : ConnView) (most : Option ℕ) (item : ItemView) (t : ℕ)
    → Leaves v (write_at_most v most item t).view
at_most_leaves v None item t = leaves_same v
at_most_leaves v (Some most) item t =
    either v (nat_lt most (length item.body)) _ _ (leaves_same v) (item_leaves v item t)

write_leaves : (v : ConnView) (op : ℕ) (bytes : List ℕ) (now : ℕ) → Leaves v (act v (Write op bytes now)).view
write_leaves v op bytes now =
    either v (is_open v.state) _ _
    (at_most_leaves v (most_bytes (kind_of op)) (record { op = op; body = bytes }) (moment v now)) (leaves_same v)

put_or_stop : (b : Bool) (v : ConnView) (count : ℕ) (more stop : Put) → Leaves v more.view → Leaves v stop.view
    → Leaves v (if b then after_taking count more else stop).view
put_or_stop true v count more stop l m = l
put_or_stop false v count more stop l m = m

cuts_leave : (cuts : List (List ℕ)) (v : ConnView) (out : OutboxView) (now : ℕ)
    → Leaves v (put_cuts v out now cuts).view
cuts_leave [] v out now = leaves_same v
cuts_leave (cut ∷ cuts) v out now =
    let wrote = act v (Write op_data cut now) in
    put_or_stop (can_put v out) v (length cut) _ _
    (leaves_then v wrote.view _ (write_leaves v op_data cut now)
    (cuts_leave cuts wrote.view (with_put out wrote.packets) now))
    (leaves_same v)

-- ---- of the connection that an own index names

module _ (old new : HostView) (id place : ℕ) (before after : OutboxView) where
  -- the look
  abbrev Shown : Option Slot → Result Sight CallFault
  Shown found = look_slot (λ conn. peek_of conn place) found

  named_as : new ≡ old → named_slot new.slots id ≡ named_slot old.slots id
  named_as e = ap (λ (h : HostView). named_slot h.slots id) e

  put_in : (bytes : List ℕ) (now : ℕ) (answer : Result ℕ CallFault) (found : Option Slot)
      → named_slot old.slots id ≡ found
      → DoesFound (PutsBytes before bytes now after) old id found new before after answer
      → Shown (named_slot new.slots id) ≡ Shown found
  put_in bytes now answer None there did = ap Shown (named_as did.view ∙ there)
  put_in bytes now (Err fault) (Some slot) there did = absurd did
  put_in bytes now (Ok taken) (Some slot) there did =
      let same : peek_of did.conn place ≡ peek_of slot.conn place =
      ap (λ conn. peek_of conn place) did.did.exact.view
      ∙ looks_alike slot.conn _ place (cuts_leave (cuts_of bytes) slot.conn before now) in
      ap Shown did.named ∙ ap Ok same

  pub looks_after_bytes : (bytes : List ℕ) (now : ℕ) (answer : Result ℕ CallFault)
      → DoesFound (PutsBytes before bytes now after) old id (named_slot old.slots id) new before after answer
      → Shown (named_slot new.slots id) ≡ Shown (named_slot old.slots id)
  looks_after_bytes bytes now answer did = put_in bytes now answer (named_slot old.slots id) refl did

  wrote_in : (op : ℕ) (bytes : List ℕ) (now : ℕ) (reply : HostReply)
      → HostDoes old 1 (host_call old id (Write op bytes now)) new before after reply
      → (found : Option Slot) → named_slot old.slots id ≡ found → Shown (named_slot new.slots id) ≡ Shown found
  wrote_in op bytes now reply did None there =
      let called = ap (λ found. call_slot old id (Write op bytes now) found) there in
      ap Shown (named_as (did.view ∙ ap (λ acted. acted.view) called) ∙ there)
  wrote_in op bytes now reply did (Some slot) there =
      let write = Write op bytes now in
      let called = ap (λ found. call_slot old id write found) there in
      let conn = (act slot.conn write).view in
      let named =
      named_with old id slot conn there (stays_in_use slot.conn write refl (named_used old id slot there)) in
      ap (λ (h : HostView). Shown (named_slot h.slots id)) (did.view ∙ ap (λ acted. acted.view) called) ∙ ap Shown named
      ∙ ap Ok (looks_alike slot.conn conn place (write_leaves slot.conn op bytes now))

  pub looks_after_write : (op : ℕ) (bytes : List ℕ) (now : ℕ) (reply : HostReply)
      → HostDoes old 1 (host_call old id (Write op bytes now)) new before after reply
      → Shown (named_slot new.slots id) ≡ Shown (named_slot old.slots id)
  looks_after_write op bytes now reply did = wrote_in op bytes now reply did (named_slot old.slots id) refl
