-- What an end that has met its peer holds: it stays where it is until it is read in its turn.
use Rattle.std.specs.Prelude.{◌≡◌, ℕ, ◌+◌, Bool, true, false, Option, Some, None, ◌⊎◌}
use Rattle.chaos_packet.specs.Item.{ItemView}
use Rattle.chaos_window.specs.Receive.{item_at}
use Rattle.chaos_conn.specs.declared.state.State.{State}
use Rattle.chaos_conn.specs.declared.state.State.TheVariants as st
use Rattle.chaos_conn.specs.declared.answers.ReadEnd.{ReadEnd}
use Rattle.chaos_conn.specs.declared.answers.ReadEnd.TheVariants as end
use Rattle.chaos_conn.specs.State.{is_inactive}
use Rattle.chaos_conn.specs.View.{ConnView}
use Rattle.chaos_conn.specs.Acted.{Acted}
use Rattle.chaos_conn.specs.Calls.{act_read, front_of}
use Rattle.chaos_conn.specs.Act.{Call, act}
use Rattle.chaos_conn.specs.Act.Call.{Read, FinishRead}
use Rattle.chaos_conn.specs.Names.{begins}

-- the end is open, or ended and not closed
abbrev pub has_met : State → Bool
has_met st.Inactive = false
has_met st.RfcSent = false
has_met st.RfcReceived = false
has_met _ = true

-- the item at a place among those to read: that at place 0 is read next
abbrev pub held_at : ConnView → ℕ → Option ItemView
held_at v place = item_at v.recv (place + 1)

-- the end has met its peer, and holds all that it held, where it held it
pub record HoldsAs (v w : ConnView) : Type 0 where
  pub met : has_met w.state ≡ true
  pub held : (place : ℕ) (item : ItemView) → held_at v place ≡ Some item → held_at w place ≡ Some item

abbrev pub is_read : Call → Bool
is_read Read = true
is_read FinishRead = true
is_read _ = false

-- Whatever comes, and whatever its user and the clock do but read, an end that has met its peer holds what it held, or
-- is closed.
abbrev pub HeldStays : Type 0
HeldStays = (v : ConnView) (call : Call) → begins call ≡ false → is_read call ≡ false → has_met v.state ≡ true
    → (is_inactive (act v call).view.state ≡ true) ⊎ HoldsAs v (act v call).view

-- what a read hands out
abbrev pub given_by : ReadEnd → Option ItemView
given_by (end.Item item) = Some item
given_by _ = None

-- The item in front was handed out, and each other is one place nearer; or none was in front, and all is where it was.
pub record IsReadBy (v : ConnView) (acted : Acted ReadEnd) : Type 0 where
  pub gives : given_by acted.answer ≡ front_of v
  pub met : has_met acted.view.state ≡ true
  pub nearer : (front : ItemView) → front_of v ≡ Some front → (place : ℕ) (item : ItemView)
      → held_at v (place + 1) ≡ Some item → held_at acted.view place ≡ Some item
  pub stays : front_of v ≡ None → HoldsAs v acted.view

-- So it is with each read of an end that has met its peer.
abbrev pub HeldIsRead : Type 0
HeldIsRead = (v : ConnView) → has_met v.state ≡ true → IsReadBy v (act_read v)
