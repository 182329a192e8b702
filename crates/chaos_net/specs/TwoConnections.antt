-- Two hosts with two connections each, in which the premises of the laws of connections hold.
--
--      A, host 401 octal                     B, host 402
--                                            listens to HELLO
--      connects twice    -- 0, 1: RFC -->
--                                            accepts both
--                       <-- 0, 1: OPN --
--                        -- 2, 3: STS -->    never come
--      writes `Hello`    -- 4: data -->
use Rattle.std.specs.Prelude.{◌≡◌, ℕ, false, List, [], ◌∷◌, length, Some, Ok, codes, slice_get}
use Rattle.chaos_packet.specs.Item.{ItemView}
use Rattle.chaos_packet.specs.Opcode.{kind_of, op_data}
use Rattle.chaos_conn.specs.Act.Call.{Accept, FinishRead, Read, Write}
use Rattle.chaos_conn.specs.Act.Reply.{Finished, Gave, Wrote}
use Rattle.chaos_conn.specs.Calls.{front_of}
use Rattle.chaos_conn.specs.Config.{usual_config}
use Rattle.chaos_conn.specs.Sending.{carries_ack}
use Rattle.chaos_conn.specs.State.{is_inactive}
use Rattle.chaos_conn.specs.declared.answers.ReadDone.TheVariants.{Done}
use Rattle.chaos_conn.specs.declared.answers.ReadEnd.TheVariants.{Item}
use Rattle.chaos_host.specs.Calls.{host_call}
use Rattle.chaos_host.specs.Deeds.HostEvent.{Calls, Connects, Listens}
use Rattle.chaos_host.specs.Slot.{named_slot}
use Rattle.chaos_host.specs.View.{host_look}
use Rattle.chaos_host.specs.declared.slot.Slot.{Slot}
use Rattle.chaos_lab.specs.declared.side.Side.TheVariants.{A, B}
use Rattle.chaos_net.specs.Hello.{first_name}
use Rattle.chaos_net.specs.InTurn.{ComesInside}
use Rattle.chaos_net.specs.Net.{Name, Net, NetEvent, Reached, Sent, Story, after_events, happens, new_station}
use Rattle.chaos_net.specs.Net.NetEvent.{At, Arrives}
use Rattle.chaos_net.specs.Played.{ArePlayed}

-- two new hosts of two slots each
abbrev pub four_slots : Net
four_slots A = new_station 257 2 usual_config
four_slots B = new_station 258 2 usual_config

-- The indices of each host's first two connections are 1 and 2.
abbrev pub both_connect : List NetEvent
both_connect =
    At B (Listens (codes "HELLO"))
    ∷ At A (Connects 258 (codes "HELLO") 100 1)
    ∷ At A (Connects 258 (codes "HELLO") 100 1)
    ∷ Arrives B 0 2
    ∷ Arrives B 1 2
    ∷ At B (Calls 1 (Accept 200 3))
    ∷ At B (Calls 2 (Accept 200 3))
    ∷ Arrives A 0 4
    ∷ Arrives A 1 4
    ∷ At A (Calls 1 (Write op_data (codes "Hello") 5))
    ∷ []

-- the second connection of a host
abbrev pub second_name : Name
second_name = record { place = 1; turn = 0 }

-- before the data comes to B, and then
abbrev pub before_data : Net
before_data = after_events four_slots both_connect

abbrev pub with_data : Net
with_data = happens before_data (Arrives B 4 6)

-- The net is reached. The data is item 1 of A's first connection, and comes to the connection's peer inside the window. The item is the
-- next that this peer reads.
pub record ItemComes : Type 0 where
  pub reached : Reached before_data
  pub played : ArePlayed before_data
  pub from : Story
  pub to : Story
  pub comes : ComesInside before_data B 4 first_name first_name from to 1
  pub reader : Story
  pub there : (with_data B).story first_name ≡ Some reader
  pub unclosed : is_inactive reader.end.conn.state ≡ false
  pub next : length reader.end.read ≡ 1

-- The data is a packet of a connection whose peer isn't B's second connection. B has a second connection, to which an RFC, without an
-- acknowledgement, may come again.
pub record OtherIsThere : Type 0 where
  pub sender : Story
  pub from : (before_data A).story first_name ≡ Some sender
  pub apart : sender.peer ≡ Some second_name → ⊥
  pub other : Story
  pub there : (before_data B).story second_name ≡ Some other
  pub request : Sent
  pub sent : slice_get (before_data A).sent 1 ≡ Some request
  pub bare : carries_ack (kind_of request.packet.op) ≡ false

-- B's host has a connection under index 1, and shows the data in front. A read hands the data out, or ends the look at it. A write at A
-- is taken.
pub record CallsAreTaken : Type 0 where
  pub reached : Reached with_data
  pub slot : Slot
  pub named : named_slot (with_data B).host.slots 1 ≡ Some slot
  pub item : ItemView
  pub reads : (host_call (with_data B).host 1 Read).answer ≡ Ok (Gave (Item item))
  pub shows : host_look (with_data B).host 1 front_of ≡ Ok (Some item)
  pub finishes : (host_call (with_data B).host 1 FinishRead).answer ≡ Ok (Finished Done)
  pub number : ℕ
  pub writes : (host_call (with_data A).host 1 (Write op_data (codes "Hello") 7)).answer ≡ Ok (Wrote (Ok number))
