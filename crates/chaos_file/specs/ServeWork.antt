-- What is to be done at an end.
use Rattle.std.specs.Prelude.{ℕ, Bool, if◌then◌else◌, List, Option, Some, None}
use Rattle.chaos_packet.specs.Item.{ItemView}
use Rattle.chaos_packet.specs.Opcode.{kind_of}
use Rattle.chaos_packet.specs.declared.opcode.Kind.{Kind}
use Rattle.chaos_packet.specs.declared.opcode.Kind.TheVariants as kind
use Rattle.chaos_conn.specs.Calls.{can_write, front_of}
use Rattle.chaos_conn.specs.State.{is_open}
use Rattle.chaos_conn.specs.View.{ConnView}
use Rattle.chaos_conn.specs.declared.state.State.{State}

pub data Work : Type 0 where
  NotOpen : (state : State) → Work
  Nothing : Work
  Full : Work
  LastItem : Work
  Command : (body : List ℕ) → Work

-- an item in front: an EOF, or a command, which needs room for its reply
abbrev pub work_of_kind : Kind → Bool → List ℕ → Work
work_of_kind kind.Eof room body = LastItem
work_of_kind _ room body = if room then Command body else Full

abbrev pub work_at_front : Option ItemView → Bool → Work
work_at_front None room = Nothing
work_at_front (Some item) room = work_of_kind (kind_of item.op) room item.body

-- an open end alone is served
abbrev pub work_by : State → Option ItemView → Bool → Work
work_by state front room = if is_open state then work_at_front front room else NotOpen state

abbrev pub work_of : ConnView → Work
work_of v = work_by v.state (front_of v) (can_write v)
