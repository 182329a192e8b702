-- Putting bytes by the calls of a host.
use Rattle.std.proofs.Common.{◌≡◌, ℕ, ◌+◌, ◌<◌, true, false, List, take, drop, length, Some, refl, ap, sym, ◌∙◌}
use Rattle.chaos_packet.specs.Opcode.{op_data}
use Rattle.chaos_packet.specs.Outbox.{OutboxView, with_put}
use Rattle.chaos_packet.specs.declared.limits.TheConstants.{MAX_DATA}
use Rattle.chaos_conn.specs.State.{is_inactive}
use Rattle.chaos_conn.specs.View.{ConnView}
use Rattle.chaos_conn.specs.Act.{Write, act}
use Rattle.chaos_host.specs.declared.slot.Slot.{Slot}
use Rattle.chaos_host.specs.Slot.{named_slot}
use Rattle.chaos_host.specs.View.{HostView}
use Rattle.chaos_host.specs.Calls.{host_call}
use Rattle.chaos_host.proofs.InUse.{stays_in_use}
use Rattle.chaos_stream.specs.Writing.{can_put, after_taking, put_of}
use Rattle.chaos_stream.proofs.Putting.{after_taking-zero, put_turn, put_ended, is_put_ended, puts_ended}
use Rattle.chaos_stream.specs.HostNamed.{DoesInSlot}
use Rattle.chaos_stream.specs.HostWriting.{can_put_in, can_put_at, PutsBytes}
use Rattle.chaos_stream.proofs.HostNamed.{with_conn, with_same, named_used, named_with, call_with, became}

module _ (old : HostView) (before : OutboxView) (bytes : List ℕ) (now id : ℕ) (slot : Slot)
    (there : named_slot old.slots id ≡ Some slot) where
  -- Some bytes are put: what is put so far, and what comes of the rest, come to what comes of all.
  pub record Midway (host : HostView) (out : OutboxView) (taken : ℕ) : Type 0 where
    pub conn : ConnView
    pub view : host ≡ with_conn old id slot conn
    pub used : is_inactive conn.state ≡ false
    pub all : after_taking taken (put_of conn out (drop taken bytes) now) ≡ put_of slot.conn before bytes now

  pub midway_first : Midway old before 0
  midway_first = record {
    conn = slot.conn;
    view = sym (with_same old id slot there);
    used = named_used old id slot there;
    all = after_taking-zero (put_of slot.conn before bytes now);
  }

  -- whether more can be put is told by the connection
  can_put_is : (host : HostView) (out : OutboxView) (conn : ConnView) → host ≡ with_conn old id slot conn
      → is_inactive conn.state ≡ false → can_put_at host id out ≡ can_put conn out
  can_put_is host out conn is used =
      ap (λ (h : HostView). can_put_at h id out) is
      ∙ ap (λ found. can_put_in found out) (named_with old id slot conn there used)

  pub midway_next : (host : HostView) (out : OutboxView) (taken : ℕ) (cut : List ℕ) (new : HostView)
      (after : OutboxView)
      → cut ≡ take MAX_DATA (drop taken bytes) → new ≡ (host_call host id (Write op_data cut now)).view
      → after ≡ with_put out (host_call host id (Write op_data cut now)).packets
      → taken < length bytes → can_put_at host id out ≡ true → Midway host out taken
      → Midway new after (taken + length cut)
  midway_next host out taken cut new after cut_is view_is out_is less can m =
      let write = Write op_data cut now in
      let called =
      ap (λ (h : HostView). host_call h id write) m.view ∙ call_with old id slot m.conn write there m.used in
      record {
        conn = (act m.conn write).view;
        view = view_is ∙ ap (λ acted. acted.view) called;
        used = stays_in_use m.conn write refl m.used;
        all =
            put_turn m.conn out now taken bytes (put_of slot.conn before bytes now) cut (act m.conn write).view after
            cut_is refl
            (out_is ∙ ap (λ acted. with_put out acted.packets) called) less
            (sym (can_put_is host out m.conn m.view m.used) ∙ can) m.all;
      }

  pub midway_last : (host : HostView) (out : OutboxView) (taken : ℕ)
      → (taken < length bytes → can_put_at host id out ≡ false) → Midway host out taken
      → DoesInSlot (PutsBytes before bytes now out) old id slot host taken
  midway_last host out taken last m =
      let ended =
      put_ended m.conn out now taken bytes (put_of slot.conn before bytes now)
      (λ less. sym (can_put_is host out m.conn m.view m.used) ∙ last less) m.all in
      let put = is_put_ended slot.conn before bytes now m.conn out taken ended in
      became (PutsBytes before bytes now out) old id host before out taken slot m.conn there m.view m.used record {
        exact = puts_ended slot.conn before bytes now m.conn out taken ended;
        within = put.within;
        short = put.short;
        sent = put.sent;
      }
