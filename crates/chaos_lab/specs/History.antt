-- What a history of items needs for the next one.
use Rattle.std.specs.Prelude.{ℕ, ◌<◌, List, vec_len, vec_capacity}
use Rattle.chaos_packet.specs.Item.{ItemView}
use Rattle.chaos_lab.specs.declared.history.History.{History}

-- an item of these data
abbrev pub item : ℕ → List ℕ → ItemView
item op bytes = record { op = op; body = bytes }

-- there is a place in the list, and a spare room for the data
pub record HasPlace (h : History) : Type 0 where
  pub place : vec_len h.list < vec_capacity h.list
  pub spare : 0 < vec_len h.spares
