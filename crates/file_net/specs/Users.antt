-- What the users of A wrote and read, by the answers to their calls.
--
--    the user of a calls     Write c1     Read         Write c2     Read          Write c3
--    the answer              taken        no item      taken        reply r1      no room
--    said so far             c1           c1           c1 c2        c1 c2         c1 c2
--    heard so far                                                   r1            r1
use Rattle.std.specs.Prelude.{◌≡◌, ℕ, if◌then◌else◌, List, [], ◌∷◌, ◌++◌, Ok}
use Rattle.chaos_packet.specs.Item.{ItemView}
use Rattle.chaos_conn.specs.declared.answers.ReadEnd.TheVariants.{Item}
use Rattle.chaos_conn.specs.Act.Call.{Write, Read, FinishRead}
use Rattle.chaos_conn.specs.Act.Reply.{Wrote, Gave}
use Rattle.chaos_file.specs.Store.{Files}
use Rattle.chaos_host.specs.Calls.{HostReply, host_call}
use Rattle.chaos_host.specs.Deeds.{HostEvent}
use Rattle.chaos_host.specs.Deeds.HostEvent.{Calls}
use Rattle.chaos_lab.specs.declared.side.Side.TheVariants.{A}
use Rattle.chaos_net.specs.Net.{Name, Station, is_name}
use Rattle.chaos_net.specs.Net.NetEvent.{At}
use Rattle.chaos_net.specs.Present.{named, read_of, written_of}
use Rattle.file_lab.specs.Bodies.{data_bodies}
use Rattle.file_net.specs.FileNet.{FileNet, FileEvent, Nets, FileRun, FileReached, file_happens}

-- ---- one call

-- the item that a write took, and the item that a read gave
abbrev pub item_taken : HostReply → ItemView → List ItemView
item_taken (Ok (Wrote (Ok number))) item = item ∷ []
item_taken answer item = []

abbrev pub item_given : HostReply → List ItemView
item_given (Ok (Gave (Item item))) = item ∷ []
item_given answer = []

-- the items that an event of a host wrote to a connection, and the items that the event read from the connection; the call
-- FinishRead reads the item in front and hands out nothing
abbrev pub written_by : Station → HostEvent → Name → List ItemView
written_by st (Calls id (Write op bytes now)) a =
    if is_name a (named st id) then item_taken (host_call st.host id (Write op bytes now)).answer (record { op = op; body = bytes })
    else []
written_by st event a = []

abbrev pub read_by : Station → HostEvent → Name → List ItemView
read_by st (Calls id Read) a = if is_name a (named st id) then item_given (host_call st.host id Read).answer else []
read_by st (Calls id FinishRead) a = if is_name a (named st id) then item_given (host_call st.host id Read).answer else []
read_by st event a = []

-- ---- a run

abbrev pub said_at : FileNet → FileEvent → Name → List (List ℕ)
said_at f (Nets (At A event)) a = data_bodies (written_by (f.net A) event a)
said_at f event a = []

abbrev pub heard_at : FileNet → FileEvent → Name → List (List ℕ)
heard_at f (Nets (At A event)) a = data_bodies (read_by (f.net A) event a)
heard_at f event a = []

-- what the user of a connection of A wrote, and what the user read, in some events
abbrev pub said_in : FileNet → List FileEvent → Name → List (List ℕ)
said_in f [] a = []
said_in f (event ∷ events) a = said_at f event a ++ said_in (file_happens f event) events a

abbrev pub heard_in : FileNet → List FileEvent → Name → List (List ℕ)
heard_in f [] a = []
heard_in f (event ∷ events) a = heard_at f event a ++ heard_in (file_happens f event) events a

-- The data that a connection of A has written and read in these events are what its user wrote and read.
pub record IsSaid (f g : FileNet) (events : List FileEvent) (a : Name) : Type 0 where
  pub said : data_bodies (written_of ((g.net A).story a))
      ≡ data_bodies (written_of ((f.net A).story a)) ++ said_in f events a
  pub heard : data_bodies (read_of ((g.net A).story a))
      ≡ data_bodies (read_of ((f.net A).story a)) ++ heard_in f events a

-- This holds in every run.
abbrev pub UsersAreTold : Type 0
UsersAreTold = (m : Files) (f g : FileNet) (events : List FileEvent) (a : Name) → FileReached m f
    → FileRun f events g → IsSaid f g events a
