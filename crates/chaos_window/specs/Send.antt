-- What contracts see of a send window.
use Rattle.std.specs.Prelude.{◌≡◌, ℕ, ◌<◌, ◌≤◌, Bool, nat_le, min, if◌then◌else◌, List, [], ◌∷◌, ◌++◌, length, drop}
use Rattle.chaos_packet.specs.Number.{num, off}
use Rattle.chaos_packet.specs.Item.{ItemView}
use Rattle.chaos_window.specs.declared.limits.TheConstants.{MAX_WINDOW}

-- The greatest window; the numbers last sent, receipted and acknowledged; the window that the other end announced; and
-- the items kept until they are receipted, the oldest first.
pub record SendView : Type 0 where
  pub cap : ℕ
  pub sent : ℕ
  pub receipted : ℕ
  pub acknowledged : ℕ
  pub window : ℕ
  pub kept : List ItemView

-- how many items are sent and not acknowledged
abbrev pub outstanding_of : SendView → ℕ
outstanding_of v = off v.sent v.acknowledged

-- how many items are sent and not receipted
abbrev pub unreceipted_of : SendView → ℕ
unreceipted_of v = off v.sent v.receipted

-- the number that the next item gets
abbrev pub next_of : SendView → ℕ
next_of v = num v.sent 1

-- a new or cleared window: every number 0, no items, and its window is its cap
abbrev pub clear_send : ℕ → SendView
clear_send cap = record { cap = cap; sent = 0; receipted = 0; acknowledged = 0; window = cap; kept = [] }

-- a window whose next item gets this number: the number before it was sent, receipted and acknowledged last
abbrev pub started_send : ℕ → ℕ → SendView
started_send cap number = let before = off number 1 in
    record { cap = cap; sent = before; receipted = before; acknowledged = before; window = cap; kept = [] }

-- after a push of an item with this opcode and these bytes: it has the next number, and is kept last
abbrev pub after_push : SendView → ℕ → List ℕ → SendView
after_push v op body = record v { sent = next_of v; kept = v.kept ++ (record { op = op; body = body }) ∷ [] }

-- whether a number lies between the present one and the last one sent, both included, round the circle
abbrev pub is_between : ℕ → ℕ → ℕ → Bool
is_between number present sent = nat_le (off number present) (off sent present)

-- after a receipt, which says that all up to a number arrived: just the items up to that number are dropped
abbrev pub after_receipt : SendView → ℕ → SendView
after_receipt v number = if is_between number v.receipted v.sent
    then record v { receipted = number; kept = drop (off number v.receipted) v.kept } else v

-- after an acknowledgement, which says that all up to a number were read, so that they arrived too
abbrev pub after_acknowledgement : SendView → ℕ → SendView
after_acknowledgement v number = if is_between number v.acknowledged v.sent
    then after_receipt (record v { acknowledged = number }) number else v

-- after the other end announced a window, which is cut to the cap
abbrev pub after_window : SendView → ℕ → SendView
after_window v window = record v { window = min window v.cap }

-- What holds of every send window. No more is kept than is outstanding, and no more is outstanding than the cap.
pub record IsSendWindow (v : SendView) : Type 0 where
  pub some_cap : 1 ≤ v.cap
  pub small_cap : v.cap ≤ MAX_WINDOW
  pub window_fits : v.window ≤ v.cap
  pub sent_fits : v.sent < 65536
  pub receipted_fits : v.receipted < 65536
  pub acknowledged_fits : v.acknowledged < 65536
  pub outstanding_fits : outstanding_of v ≤ v.cap
  pub in_order : unreceipted_of v ≤ outstanding_of v
  pub kept_is : length v.kept ≡ unreceipted_of v

-- the view of these parts
abbrev pub send_view : ℕ → ℕ → ℕ → ℕ → ℕ → List ItemView → SendView
send_view cap sent receipted acknowledged window kept = record {
  cap = cap;
  sent = sent;
  receipted = receipted;
  acknowledged = acknowledged;
  window = window;
  kept = kept;
}
