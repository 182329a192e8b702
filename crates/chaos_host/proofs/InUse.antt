-- A connection in use stays so, but where its user ends it.
use Rattle.std.proofs.Common.{◌≡◌, ℕ, List, Bool, true, false, if◌then◌else◌, not, Option, Some, None, refl, length, ◌==◌, nat_lt, arith}
use Rattle.chaos_packet.specs.Item.{ItemView}
use Rattle.chaos_packet.specs.Opcode.{kind_of, is_rfc}
use Rattle.chaos_packet.specs.Packet.{PacketView, status_of}
use Rattle.chaos_packet.specs.declared.limits.TheConstants.{MAX_DATA}
use Rattle.chaos_packet.specs.declared.opcode.Kind.{Kind}
use Rattle.chaos_packet.specs.declared.opcode.Kind.TheVariants as kind
use Rattle.chaos_conn.specs.declared.state.State.{State}
use Rattle.chaos_conn.specs.declared.state.State.TheVariants as st
use Rattle.chaos_conn.specs.State.{is_inactive, is_live, is_open, is_opening, is_requested}
use Rattle.chaos_conn.specs.View.{ConnView, moment, heard_at}
use Rattle.chaos_conn.specs.Acted.{Acted}
use Rattle.chaos_conn.specs.Calls.{most_bytes, act_read, read_at_open, read_at_end, write_at_most}
use Rattle.chaos_conn.specs.Time.{act_tick, at_moment, is_down, is_resend_due, is_probe_due, due_of, ticked_by}
use Rattle.chaos_conn.specs.Arriving.{act_deliver, is_between_hosts, is_between_indices, is_index, deliver_in, deliver_open, deliver_asking, deliver_requested, after_opn_telling, after_second_opn_telling, after_sts_telling, after_item_came, heard_with_ack, after_rfc, repeated_request}
use Rattle.chaos_conn.specs.declared.state.End.{End}
use Rattle.chaos_conn.specs.Opening.{act_request, act_take_request}
use Rattle.chaos_conn.specs.Act.{Call, act, Request, TakeRequest, Accept, Answer, Reject, Deliver, Write, Unc, Read, FinishRead, Announce, Close, Tick}
use Rattle.chaos_host.specs.Law.{StaysInUse, may_end}

-- a test of states that fails at each one that a connection in use comes to
pub record Misses (misses : State → Bool) : Type 0 where
  pub opened : misses st.Open ≡ false
  pub answered : misses st.Answered ≡ false
  pub closed : misses st.ClsReceived ≡ false
  pub lost : misses st.LosReceived ≡ false
  pub down : misses st.HostDown ≡ false
  pub forwarded : misses st.Forwarded ≡ false

module _ (misses : State → Bool) (none : Misses misses) where
  -- the connection is in a state that the test misses
  abbrev Used : ConnView → Type 0
  Used v = misses v.state ≡ false

  -- a call that does one or the other
  either : {A : Type 0} (b : Bool) (x y : Acted A) → Used x.view → Used y.view → Used (if b then x else y).view
  either true x y hx hy = hx
  either false x y hx hy = hy

  -- ---- what arrives

  used_opn : (v : ConnView) (p : PacketView) (now : ℕ) (told : Option (ℕ × ℕ)) → Used v
      → Used (after_opn_telling v p now told).view
  used_opn v p now None h = h
  used_opn v p now (Some told) h = none.opened

  used_second_opn : (v : ConnView) (p : PacketView) (now : ℕ) (told : Option (ℕ × ℕ)) → Used v
      → Used (after_second_opn_telling v p now told).view
  used_second_opn v p now None h = h
  used_second_opn v p now (Some told) h = h

  used_sts : (v : ConnView) (p : PacketView) (now : ℕ) (told : Option (ℕ × ℕ)) → Used v
      → Used (after_sts_telling v p now told).view
  used_sts v p now None h = h
  used_sts v p now (Some told) h = h

  used_item : (v : ConnView) (number : ℕ) (item : ItemView) → Used v → Used (after_item_came v number item).view
  used_item v number item h = grind (arith, h)

  used_asking : (v : ConnView) (p : PacketView) (now : ℕ) (k : Kind) → Used v → Used (deliver_asking v p now k).view
  used_asking v p now kind.Rfc h = h
  used_asking v p now kind.Opn h = used_opn v p now (status_of p) h
  used_asking v p now kind.Cls h = none.closed
  used_asking v p now kind.Fwd h = none.forwarded
  used_asking v p now kind.Ans h = none.answered
  used_asking v p now kind.Sns h = h
  used_asking v p now kind.Sts h = h
  used_asking v p now kind.Los h = none.lost
  used_asking v p now kind.Lsn h = h
  used_asking v p now kind.Eof h = h
  used_asking v p now kind.Unc h = h
  used_asking v p now kind.Data h = h
  used_asking v p now kind.Other h = h

  used_requested : (v : ConnView) (p : PacketView) (now : ℕ) (k : Kind) → Used v
      → Used (deliver_requested v p now k).view
  used_requested v p now kind.Rfc h = h
  used_requested v p now kind.Opn h = h
  used_requested v p now kind.Cls h = none.closed
  used_requested v p now kind.Fwd h = h
  used_requested v p now kind.Ans h = h
  used_requested v p now kind.Sns h = h
  used_requested v p now kind.Sts h = h
  used_requested v p now kind.Los h = none.lost
  used_requested v p now kind.Lsn h = h
  used_requested v p now kind.Eof h = h
  used_requested v p now kind.Unc h = h
  used_requested v p now kind.Data h = h
  used_requested v p now kind.Other h = h

  used_open : (v : ConnView) (p : PacketView) (now : ℕ) (k : Kind) → Used v → Used (deliver_open v p now k).view
  used_open v p now kind.Rfc h = h
  used_open v p now kind.Opn h = used_second_opn v p now (status_of p) h
  used_open v p now kind.Cls h = none.closed
  used_open v p now kind.Fwd h = h
  used_open v p now kind.Ans h = h
  used_open v p now kind.Sns h = h
  used_open v p now kind.Sts h = used_sts v p now (status_of p) h
  used_open v p now kind.Los h = none.lost
  used_open v p now kind.Lsn h = h
  used_open v p now kind.Eof h = used_item (heard_with_ack v p now) p.num _ h
  used_open v p now kind.Unc h = h
  used_open v p now kind.Data h = used_item (heard_with_ack v p now) p.num _ h
  used_open v p now kind.Other h = h

  used_in : (s : State) (v : ConnView) (p : PacketView) (now : ℕ) → Used v → Used (deliver_in s v p now).view
  used_in st.Inactive v p now h = h
  used_in st.RfcSent v p now h = used_asking v p now (kind_of p.op) h
  used_in st.RfcReceived v p now h = used_requested v p now (kind_of p.op) h
  used_in st.Open v p now h = used_open v p now (kind_of p.op) h
  used_in st.Answered v p now h = h
  used_in st.ClsReceived v p now h = h
  used_in st.LosReceived v p now h = h
  used_in st.HostDown v p now h = h
  used_in st.Forwarded v p now h = h

  used_repeated : (v : ConnView) (s : State) → Used v → Used (repeated_request v s).view
  used_repeated v st.Inactive h = h
  used_repeated v st.RfcSent h = h
  used_repeated v st.RfcReceived h = h
  used_repeated v st.Open h = h
  used_repeated v st.Answered h = h
  used_repeated v st.ClsReceived h = h
  used_repeated v st.LosReceived h = h
  used_repeated v st.HostDown h = h
  used_repeated v st.Forwarded h = h

  used_rfc : (v : ConnView) (p : PacketView) (now : ℕ) → Used v → Used (after_rfc v p now).view
  used_rfc v p now h =
      either v.asked _ _ h
      (either (not (is_index v.peer_index p.src_index)) _ _ h
      (either (not (p.num == v.request)) _ _ h (used_repeated (heard_at v now) v.state h)))

  used_deliver : (v : ConnView) (p : PacketView) (now : ℕ) → Used v → Used (act_deliver v p now).view
  used_deliver v p now h =
      either (not (is_live v.state)) _ _ h (either (not (is_between_hosts v p)) _ _ h
      (either (is_rfc (kind_of p.op)) _ _ (used_rfc v p now h)
      (either (not (is_between_indices v p)) _ _ h (used_in v.state v p now h))))

  -- ---- time, and the user's calls

  -- what is due is one or the other
  used_due : {D A : Type 0} (does : D → ConnView → Acted A) (v : ConnView) (b : Bool) (x y : D) → Used (does x v).view
      → Used (does y v).view → Used (does (if b then x else y) v).view
  used_due does v true x y hx hy = hx
  used_due does v false x y hx hy = hy

  used_ticked : (v : ConnView) → Used v → Used (ticked_by (due_of v) v).view
  used_ticked v h =
      used_due ticked_by v (is_down v) _ _ none.down
      (used_due ticked_by v (is_resend_due v) _ _ h (used_due ticked_by v (is_probe_due v) _ _ h h))

  used_tick : (v : ConnView) (now : ℕ) → Used v → Used (act_tick v now).view
  used_tick v now h = used_ticked (at_moment v now) h

  used_write_at_most : (v : ConnView) (most : Option ℕ) (item : ItemView) (t : ℕ) → Used v
      → Used (write_at_most v most item t).view
  used_write_at_most v None item t h = h
  used_write_at_most v (Some most) item t h = either (nat_lt most (length item.body)) _ _ h (either _ _ _ h h)

  used_read_at_open : (v : ConnView) (o : Option ItemView) → Used v → Used (read_at_open v o).view
  used_read_at_open v None h = h
  used_read_at_open v (Some item) h = either _ _ _ h h

  used_read_at_end : (v : ConnView) (o : Option ItemView) → Used v → Used (read_at_end v o).view
  used_read_at_end v None h = h
  used_read_at_end v (Some item) h = h

  used_read : (v : ConnView) → Used v → Used (act_read v).view
  used_read v h =
      either (is_opening v.state) _ _ h
      (either (is_open v.state) _ _ (used_read_at_open v _ h) (used_read_at_end v _ h))

  used_request : (v : ConnView) (me : End) (peer : ℕ) (contact : List ℕ) (start now : ℕ) → is_inactive v.state ≡ false
      → Used v → Used (act_request v me peer contact start now).view
  used_request v me peer contact start now used h = either (nat_lt MAX_DATA (length contact)) _ _ h (rw used h)

  used_take_request : (v : ConnView) (p : PacketView) (me : End) (now : ℕ) → is_inactive v.state ≡ false → Used v
      → Used (act_take_request v p me now).view
  used_take_request v p me now used h = rw used h

  -- Each call but those by which a user ends the connection.
  pub goes_on : (v : ConnView) (call : Call) → may_end call ≡ false → is_inactive v.state ≡ false → Used v
      → Used (act v call).view
  goes_on v (Request me peer contact start now) e used h = used_request v me peer contact start now used h
  goes_on v (TakeRequest p me now) e used h = used_take_request v p me now used h
  goes_on v (Accept start now) e used h = either (is_requested v.state) _ _ none.opened h
  goes_on v (Answer bytes) e used h = absurd (cc)
  goes_on v (Reject text) e used h = absurd (cc)
  goes_on v (Deliver p now) e used h = used_deliver v p now h
  goes_on v (Write op bytes now) e used h =
      either (is_open v.state) _ _
      (used_write_at_most v (most_bytes (kind_of op)) (record { op = op; body = bytes }) (moment v now) h) h
  goes_on v (Unc bytes) e used h = either (is_open v.state) _ _ (either (nat_lt MAX_DATA (length bytes)) _ _ h h) h
  goes_on v Read e used h = used_read v h
  goes_on v FinishRead e used h = used_read v h
  goes_on v (Announce window) e used h =
      either (is_open v.state) _ _ (either (nat_lt v.config.recv_cap window) _ _ h h) h
  goes_on v (Close text) e used h = absurd (cc)
  goes_on v (Tick now) e used h = used_tick v now h

-- a connection in use isn't inactive after such a call
pub stays_in_use : StaysInUse
stays_in_use v call e used =
    goes_on is_inactive
    (record { opened = refl; answered = refl; closed = refl; lost = refl; down = refl; forwarded = refl }) v call e
    used used
