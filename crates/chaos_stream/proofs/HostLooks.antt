-- Looks at a stream, and consuming, by the calls of a host.
use Rattle.std.proofs.Common.{◌≡◌, ℕ, ◌+◌, ◌≤◌, true, false, if◌then◌else◌, List, [], drop, length, Option, Some, None, Ok, refl, ap, sym, ◌∙◌, subst, arith, append-nil}
use Rattle.std.proofs.Math.Seq.{drop-nil}
use Rattle.chaos_packet.specs.Opcode.{kind_of}
use Rattle.chaos_packet.specs.Outbox.{OutboxView, with_put}
use Rattle.chaos_packet.specs.declared.opcode.Kind.{Kind}
use Rattle.chaos_packet.specs.declared.opcode.Kind.TheVariants as kind
use Rattle.chaos_conn.specs.View.{ConnView}
use Rattle.chaos_conn.specs.Calls.{act_read}
use Rattle.chaos_conn.specs.Act.{FinishRead, act}
use Rattle.chaos_conn.proofs.ConfigStays.{config_stays}
use Rattle.chaos_conn.specs.declared.answers.ReadEnd.{ReadEnd}
use Rattle.chaos_conn.specs.declared.answers.ReadEnd.TheVariants as end
use Rattle.chaos_host.specs.declared.slot.Slot.{Slot}
use Rattle.chaos_host.specs.Slot.{named_slot}
use Rattle.chaos_host.specs.View.{HostView, look_slot}
use Rattle.chaos_host.specs.Acted.{HostDoes}
use Rattle.chaos_host.specs.Calls.{HostReply, call_slot, host_call}
use Rattle.chaos_host.proofs.InUse.{stays_in_use}
use Rattle.chaos_stream.specs.Reading.{Sight, Bytes, Eof, Nothing, Ended, item_sight, read_sight, peek_of, uses_up, after_item, at_place}
use Rattle.chaos_stream.specs.HostStream.{StreamView}
use Rattle.chaos_stream.specs.HostReading.{sight_from, peek_at, ConsumesBytes, ConsumesFound, ConsumesAt}
use Rattle.chaos_stream.proofs.HostNamed.{with_same, named_used, became}

item_from : (k : Kind) (body : List ℕ) (place : ℕ)
    → sight_from (item_sight k (drop 0 body)) place ≡ item_sight k (drop place body)
item_from kind.Data body place = refl
item_from kind.Eof body place = refl
item_from _ body place = ap Bytes (drop-nil place)

read_from : (read : ReadEnd) (place : ℕ) → sight_from (read_sight read 0) place ≡ read_sight read place
read_from (end.Item item) place = item_from (kind_of item.op) item.body place
read_from end.Nothing place = refl
read_from (end.Ended state) place = refl

-- what a look shows from a place on, by one from the start
pub peek_from : (v : ConnView) (place : ℕ) → sight_from (peek_of v 0) place ≡ peek_of v place
peek_from v place = read_from (act_read v).answer place

-- and so of a connection that a host lends
pub peek_found : (found : Option Slot) (v : ConnView) (place : ℕ) (sight : Sight)
    → Ok v ≡ look_slot (λ conn. conn) found → sight ≡ sight_from (peek_of v 0) place
    → Ok sight ≡ look_slot (λ conn. peek_of conn place) found
peek_found None v place sight e shown = absurd (cc)
peek_found (Some slot) v place sight e shown =
    let same : v ≡ slot.conn = cc in
    ap Ok (shown ∙ peek_from v place ∙ ap (λ conn. peek_of conn place) same)

-- ---- consuming

module _ (h : HostView) (s t : StreamView) (count : ℕ) (sight : Sight) (before : OutboxView) where
  -- whether the item in front is used up is told by what was shown
  used_by : (v : ConnView)
      → Ok sight ≡ look_slot (λ conn. peek_of conn s.place) (Some (record { generation = 0; conn = v }))
      → uses_up (peek_of v s.place) count ≡ uses_up sight count
  used_by v shown = let same : peek_of v s.place ≡ sight = cc in ap (λ x. uses_up x count) same

  with_put-nil : (out : OutboxView) → out ≡ with_put out []
  with_put-nil out = ap (λ ps. record out { packets = ps }) (sym (append-nil out.packets))

  -- bytes that use the item in front up: it is read
  read_in : (new : HostView) (after : OutboxView) (reply : HostReply) → uses_up sight count ≡ true
      → t ≡ record { id = s.id; place = 0 } → HostDoes h 1 (host_call h s.id FinishRead) new before after reply
      → (found : Option Slot) → named_slot h.slots s.id ≡ found
      → Ok sight ≡ look_slot (λ conn. peek_of conn s.place) found
      → ConsumesFound h s count found t new before after (Ok tt)
  read_in new after reply used at does None there shown = absurd (cc)
  read_in new after reply used at does (Some slot) there shown =
      let v = slot.conn in
      let done = ap (λ b. if b then after_item v else at_place v (s.place + count)) (used_by v shown ∙ used) in
      let called = ap (λ found. call_slot h s.id FinishRead found) there in
      let few : length (act v FinishRead).packets ≤ 1 = subst (λ acted. length acted.packets ≤ 1) called does.few in
      became (ConsumesBytes before s t count after) h s.id new before after tt slot (act v FinishRead).view there
      (does.view ∙ ap (λ acted. acted.view) called) (stays_in_use v FinishRead refl (named_used h s.id slot there))
      record {
        consumes = record {
          place = ap (λ x. x.place) at ∙ sym (ap (λ c. c.place) done);
          view = sym (ap (λ c. c.view) done);
          packets =
              does.packets ∙ ap (λ acted. with_put before acted.packets) called
              ∙ sym (ap (λ c. with_put before c.packets) done);
          few = subst (λ c. length c.packets ≤ 1) (sym done) few;
          config = config_stays v FinishRead;
        };
        id = ap (λ x. x.id) at;
      }

  pub consumed_item : (new : HostView) (after : OutboxView) (reply : HostReply) → uses_up sight count ≡ true
      → t ≡ record { id = s.id; place = 0 } → HostDoes h 1 (host_call h s.id FinishRead) new before after reply
      → Ok sight ≡ peek_at h s → ConsumesAt h s count t new before after (Ok tt)
  consumed_item new after reply used at does shown =
      read_in new after reply used at does (named_slot h.slots s.id) refl shown

  -- others: the place alone moves
  passed_in : uses_up sight count ≡ false → t ≡ record { id = s.id; place = s.place + count }
      → (found : Option Slot) → named_slot h.slots s.id ≡ found
      → Ok sight ≡ look_slot (λ conn. peek_of conn s.place) found
      → ConsumesFound h s count found t h before before (Ok tt)
  passed_in used at None there shown = absurd (cc)
  passed_in used at (Some slot) there shown =
      let v = slot.conn in
      let done = ap (λ b. if b then after_item v else at_place v (s.place + count)) (used_by v shown ∙ used) in
      became (ConsumesBytes before s t count before) h s.id h before before tt slot v there
      (sym (with_same h s.id slot there)) (named_used h s.id slot there) record {
        consumes = record {
          place = ap (λ x. x.place) at ∙ sym (ap (λ c. c.place) done);
          view = sym (ap (λ c. c.view) done);
          packets = with_put-nil before ∙ sym (ap (λ c. with_put before c.packets) done);
          few = subst (λ c. length c.packets ≤ 1) (sym done) (omega arith);
          config = refl;
        };
        id = ap (λ x. x.id) at;
      }

  pub consumed_bytes : uses_up sight count ≡ false → t ≡ record { id = s.id; place = s.place + count }
      → Ok sight ≡ peek_at h s → ConsumesAt h s count t h before before (Ok tt)
  consumed_bytes used at shown = passed_in used at (named_slot h.slots s.id) refl shown
