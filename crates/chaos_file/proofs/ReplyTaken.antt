-- A reply is taken after the read of its command.
use Rattle.std.proofs.Common.{◌≡◌, ℕ, ◌≤◌, ◌+◌, Bool, true, false, ◌&&◌, if◌then◌else◌, List, length, nat_lt, Option, Some, None, Ok, refl, ap, ◌∙◌, arith}
use Rattle.std.proofs.lemmas.Bool.Decides.{nat_tests}
use Rattle.chaos_packet.specs.Item.{ItemView}
use Rattle.chaos_packet.specs.Opcode.{op_data}
use Rattle.chaos_packet.specs.declared.limits.TheConstants.{MAX_DATA}
use Rattle.chaos_window.specs.Send.{SendView, next_of}
use Rattle.chaos_conn.specs.View.{ConnView}
use Rattle.chaos_conn.specs.Acted.{quietly}
use Rattle.chaos_conn.specs.Act.{Wrote}
use Rattle.chaos_conn.specs.Sending.{with_sts}
use Rattle.chaos_conn.specs.declared.answers.ReadEnd.TheVariants as end
use Rattle.chaos_conn.specs.declared.state.State.{State}
use Rattle.chaos_conn.specs.declared.state.State.TheVariants as st
use Rattle.chaos_conn.specs.Calls.{can_write, has_window, front_of, read_at_open, act_read, act_write}
use Rattle.chaos_conn.specs.State.{is_open, is_opening}
use Rattle.chaos_file.specs.Serve.{reply_write}

-- an end that can write
record CanWrite (v : ConnView) : Type 0 where
  pub is_in : v.state ≡ st.Open
  pub window : has_window v.send ≡ true

pub only_open : (s : State) → is_open s ≡ true → s ≡ st.Open
only_open st.Inactive e = absurd (cc)
only_open st.RfcSent e = absurd (cc)
only_open st.RfcReceived e = absurd (cc)
only_open st.Open e = refl
only_open st.Answered e = absurd (cc)
only_open st.ClsReceived e = absurd (cc)
only_open st.LosReceived e = absurd (cc)
only_open st.HostDown e = absurd (cc)
only_open st.Forwarded e = absurd (cc)

both : (a b : Bool) → (a && b) ≡ true → (a ≡ true) × (b ≡ true)
both true true e = (refl, refl)
both true false e = absurd (cc)
both false b e = absurd (cc)

can_both : (v : ConnView) → can_write v ≡ true → CanWrite v
can_both v e =
    let parts = both (has_window v.send) (is_open v.state)
    e in record { is_in = only_open v.state parts.1; window = parts.0 }

-- what a read leaves: the state and the send window
pub record Leaves (v w : ConnView) : Type 0 where
  pub state : w.state ≡ v.state
  pub send : w.send ≡ v.send

told_or_not : (b : Bool) (v : ConnView) (item : ItemView)
    → Leaves v (if b then with_sts v (end.Item item) else quietly v (end.Item item)).view
told_or_not true v item = record { state = refl; send = refl }
told_or_not false v item = record { state = refl; send = refl }

leaves_at : (v : ConnView) (front : Option ItemView) → Leaves v (read_at_open v front).view
leaves_at v None = record { state = refl; send = refl }
leaves_at v (Some item) =
    let l = told_or_not _
    (record v { recv = Rattle.chaos_window.specs.Receive.after_advance v.recv; untold = v.untold + 1 })
    item in record { state = l.state; send = l.send }

pub read_leaves : (v : ConnView) → v.state ≡ st.Open → Leaves v (act_read v).view
read_leaves v e =
    let l = leaves_at v (front_of v) in
    let opening : is_opening v.state ≡ false = ap is_opening e in
    let opened : is_open v.state ≡ true = ap is_open e in
    rw (opening, opened) l

-- an end that can write takes at most MAX_DATA bytes
write_taken : (v : ConnView) (bytes : List ℕ) (now : ℕ) → v.state ≡ st.Open → has_window v.send ≡ true
    → length bytes ≤ MAX_DATA → (act_write v op_data bytes now).answer ≡ Ok (next_of v.send)
write_taken v bytes now state window short =
    let fits : nat_lt MAX_DATA (length bytes) ≡ false = grind (arith, nat_tests) in
    rw state (rw fits (rw window refl))

pub reply_taken : (v : ConnView) (reply : List ℕ) (now : ℕ) → can_write v ≡ true → length reply ≤ MAX_DATA
    → (reply_write v reply now).answer ≡ Wrote (Ok (next_of v.send))
reply_taken v reply now can short =
    let w = can_both v can in
    let l = read_leaves v w.is_in in
    let window : has_window (act_read v).view.send ≡ true = rw l.send w.window in
    let still : (act_read v).view.state ≡ st.Open = rw l.state w.is_in in
    let taken = write_taken (act_read v).view reply now still window short in
    ap Wrote taken ∙ ap (λ (s : SendView). Wrote (Ok (next_of s))) l.send
