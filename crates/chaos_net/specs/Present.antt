-- What a caller of a host holds is what the stories tell of the connections that are there now.
use Rattle.std.specs.Prelude.{◌≡◌, ℕ, List, [], ◌∷◌, ◌++◌, Option, Some, None, Ok}
use Rattle.chaos_packet.specs.Item.{ItemView}
use Rattle.chaos_conn.specs.declared.answers.ReadEnd.TheVariants.{Item}
use Rattle.chaos_conn.specs.declared.answers.ReadDone.TheVariants.{Done}
use Rattle.chaos_conn.specs.Calls.{front_of}
use Rattle.chaos_conn.specs.Act.Call.{Write, Read, FinishRead}
use Rattle.chaos_conn.specs.Act.Reply.{Wrote, Gave, Finished}
use Rattle.chaos_host.specs.declared.slot.Slot.{Slot}
use Rattle.chaos_host.specs.Slot.{place_of, named_slot}
use Rattle.chaos_host.specs.View.{host_look}
use Rattle.chaos_host.specs.Calls.{host_call}
use Rattle.chaos_host.specs.Deeds.HostEvent.{Calls}
use Rattle.chaos_lab.specs.declared.side.Side.{Side}
use Rattle.chaos_net.specs.Net.{Name, Story, Station, Net, Reached, index_of, present, after_event}

-- the connection that an own index names now
abbrev pub named : Station → ℕ → Name
named st id = present st (place_of id)

-- what a connection has written, and what it has read
abbrev pub written_of : Option Story → List ItemView
written_of None = []
written_of (Some s) = s.end.written

abbrev pub read_of : Option Story → List ItemView
read_of None = []
read_of (Some s) = s.end.read

-- The connection that an own index names has that index and a story, whose end is what the host shows of it.
pub record IsPresent (st : Station) (id : ℕ) (slot : Slot) : Type 0 where
  pub index : index_of (named st id) ≡ id
  pub story : Story
  pub there : st.story (named st id) ≡ Some story
  pub conn : story.end.conn ≡ slot.conn

-- So it is in every net that is reached.
abbrev pub NamedIsPresent : Type 0
NamedIsPresent =
    (n : Net) (x : Side) (id : ℕ) (slot : Slot) → Reached n → named_slot (n x).host.slots id ≡ Some slot
    → IsPresent (n x) id slot

-- What a read of a host hands out is what its connection has read then.
abbrev pub ReadsAreTold : Type 0
ReadsAreTold =
    (n : Net) (x : Side) (id : ℕ) (item : ItemView) → Reached n
    → (host_call (n x).host id Read).answer ≡ Ok (Gave (Item item))
    → read_of ((after_event n x (Calls id Read) None x).story (named (n x) id))
    ≡ read_of ((n x).story (named (n x) id)) ++ item ∷ []

-- So is what it showed in front, where a read hands nothing out.
abbrev pub FrontIsTold : Type 0
FrontIsTold =
    (n : Net) (x : Side) (id : ℕ) (item : ItemView) → Reached n → host_look (n x).host id front_of ≡ Ok (Some item)
    → (host_call (n x).host id FinishRead).answer ≡ Ok (Finished Done)
    → read_of ((after_event n x (Calls id FinishRead) None x).story (named (n x) id))
    ≡ read_of ((n x).story (named (n x) id)) ++ item ∷ []

-- What a write of a host takes is what its connection has written then.
abbrev pub WritesAreTold : Type 0
WritesAreTold =
    (n : Net) (x : Side) (id op : ℕ) (bytes : List ℕ) (now number : ℕ) → Reached n
    → (host_call (n x).host id (Write op bytes now)).answer ≡ Ok (Wrote (Ok number))
    → written_of ((after_event n x (Calls id (Write op bytes now)) None x).story (named (n x) id))
    ≡ written_of ((n x).story (named (n x) id)) ++ record { op = op; body = bytes } ∷ []
