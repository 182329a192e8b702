-- The bodies of the data items of a list.
use Rattle.std.specs.Prelude.{ℕ, ◌-◌, Bool, true, false, ◌&&◌, List, [], ◌∷◌, length, slice_get, Option, Some, None}
use Rattle.chaos_file.specs.Want.{is_want}
use Rattle.chaos_packet.specs.Item.{ItemView}
use Rattle.chaos_packet.specs.Opcode.{kind_of}
use Rattle.chaos_packet.specs.declared.opcode.Kind.{Kind}
use Rattle.chaos_packet.specs.declared.opcode.Kind.TheVariants as kind
use Rattle.chaos_file.specs.declared.served.Served.{Served}
use Rattle.chaos_file.specs.declared.served.Served.TheVariants as told

abbrev pub with_body : Kind → List ℕ → List (List ℕ) → List (List ℕ)
with_body kind.Data body bodies = body ∷ bodies
with_body _ body bodies = bodies

abbrev pub data_bodies : List ItemView → List (List ℕ)
data_bodies [] = []
data_bodies (item ∷ items) = with_body (kind_of item.op) item.body (data_bodies items)

abbrev pub is_data_kind : Kind → Bool
is_data_kind kind.Data = true
is_data_kind _ = false

-- a data item whose body is an out-of-memory reply
abbrev pub is_mem : ItemView → Bool
is_mem item = is_data_kind (kind_of item.op) && is_want item.body

abbrev pub some_mem : Option ItemView → Bool
some_mem None = false
some_mem (Some item) = is_mem item

-- serving ended with such a reply, the last of these items
abbrev pub told_want : Served → List ItemView → Bool
told_want told.Replied written = some_mem (slice_get written (length written - 1))
told_want _ written = false

-- the first of a list, and the others
abbrev pub first_of : List (List ℕ) → Option (List ℕ × List (List ℕ))
first_of [] = None
first_of (body ∷ bodies) = Some (body, bodies)
