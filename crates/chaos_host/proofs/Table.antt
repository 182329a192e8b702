-- A table stays one, whatever call is made on the connection in a slot.
use Rattle.std.proofs.Common.{◌≡◌, ℕ, ◌<◌, ◌≤◌, List, length, slice_get, slice_set, slice_index_or, Some, All, Bool, true, false, if◌then◌else◌, refl, ap, ◌∙◌}
use Rattle.std.proofs.lemmas.List.{length-set}
use Rattle.std.proofs.lemmas.List.Elements.{All-set}
use Rattle.std.proofs.lemmas.Option.{slice_get_read, slice_get_within, get_or_from_slice_get}
use Rattle.chaos_conn.specs.Config.{ConfigView}
use Rattle.chaos_conn.specs.View.{ConnView}
use Rattle.chaos_conn.specs.Act.{Call, act}
use Rattle.chaos_host.specs.declared.slot.Slot.{Slot}
use Rattle.chaos_host.specs.Slot.{IsTable, HasConfig, IsBlank, HoldsRequestAlone, is_free, after_ending}
use Rattle.chaos_host.proofs.Settled.{IsSettled, stays_settled}

-- what holds of each element holds of the one at a place
pub at_place : {X : Type 0} (P : X → Type 0) (xs : List X) (i : ℕ) (x : X) → All P xs → slice_get xs i ≡ Some x → P x
at_place P xs i x all there =
    let here = all i x (slice_get_within xs i x there) in rw (get_or_from_slice_get xs i x x there) at here

-- the connection in a slot of a table is settled
settled_at : (config : ConfigView) (slots : List Slot) (place : ℕ) (slot : Slot) → IsTable config slots
    → slice_get slots place ≡ Some slot → IsSettled slot.conn
settled_at config slots place slot table there = record {
  blank = at_place (λ s. IsBlank s.conn) slots place slot table.blank there;
  pending = at_place (λ s. HoldsRequestAlone s.conn) slots place slot table.pending there;
}

settled_as : (v w : ConnView) → v ≡ w → IsSettled w → IsSettled v
settled_as v w e h = rw e h

-- A table with a slot whose connection did a call, and kept its configuration, is a table.
pub table_called : (config : ConfigView) (slots : List Slot) (place : ℕ) (slot new : Slot) (call : Call)
    → place < length slots → slot ≡ slice_index_or slots place slot → new.conn ≡ (act slot.conn call).view
    → new.conn.config ≡ slot.conn.config
    → IsTable config slots → IsTable config (slice_set slots place new)
table_called config slots place slot new call within read conn kept table =
    let there = slice_get_read slots (length slots) place slot refl within read in
    let one = at_place (HasConfig config) slots place slot table.alike there in
    let window : 1 ≤ slot.conn.config.recv_cap = rw one table.window in
    let settled =
    settled_as new.conn (act slot.conn call).view conn
    (stays_settled slot.conn call window (settled_at config slots place slot table there)) in
    let size : length (slice_set slots place new) ≡ length slots = length-set slots place new in
    record {
      some = rw size table.some;
      few = rw size table.few;
      alike = All-set (HasConfig config) slots place new (kept ∙ one) table.alike;
      window = table.window;
      blank = All-set (λ s. IsBlank s.conn) slots place new settled.blank table.blank;
      pending = All-set (λ s. HoldsRequestAlone s.conn) slots place new settled.pending table.pending;
    }

-- ---- a call that may end the connection

either_conn : (b : Bool) (x y : Slot) → x.conn ≡ y.conn → (if b then x else y).conn ≡ y.conn
either_conn true x y e = e
either_conn false x y e = refl

-- a slot that is freed keeps its connection
ended_conn : (slot new : Slot) → new ≡ after_ending slot → new.conn ≡ slot.conn
ended_conn slot new e = ap (λ (s : Slot). s.conn) e ∙ either_conn (is_free slot) _ slot refl

-- A table with a slot whose connection did such a call is a table.
pub table_ended : (config : ConfigView) (slots : List Slot) (place : ℕ) (slot acted new : Slot) (call : Call)
    → place < length slots → slot ≡ slice_index_or slots place slot → acted.conn ≡ (act slot.conn call).view
    → acted.conn.config ≡ slot.conn.config → new ≡ after_ending acted
    → IsTable config slots → IsTable config (slice_set slots place new)
table_ended config slots place slot acted new call within read conn kept e table =
    let same = ended_conn acted new e in
    table_called config slots place slot new call within read (same ∙ conn)
    (ap (λ (c : ConnView). c.config) same ∙ kept) table
