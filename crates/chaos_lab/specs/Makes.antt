-- What a call makes of one end of the laboratory.
use Rattle.std.specs.Prelude.{◌≡◌, ◌≤◌, List, [], length, Option, Some, None, Result, Ok, Err}
use Rattle.chaos_packet.specs.Outbox.{OutboxView}
use Rattle.chaos_packet.specs.Packet.{PacketView}
use Rattle.chaos_packet.specs.Item.{ItemView}
use Rattle.chaos_window.specs.declared.limits.TheConstants.{MAX_WINDOW}
use Rattle.chaos_conn.specs.declared.fault.ConnFault.{ConnFault}
use Rattle.chaos_conn.specs.Act.{Call, act}
use Rattle.chaos_lab.specs.declared.side.Side.{Side}
use Rattle.chaos_lab.specs.declared.side.Side.TheVariants.{A, B}
use Rattle.chaos_lab.specs.declared.event.Stepped.{Stepped}
use Rattle.chaos_lab.specs.declared.fault.LabFault.{LabFault}
use Rattle.chaos_lab.specs.declared.fault.LabFault.TheVariants as fault
use Rattle.chaos_lab.specs.declared.both_ends.BothEnds.{BothEnds}
use Rattle.chaos_lab.specs.Inside.{end_view}
use Rattle.chaos_lab.specs.Laboratory.{EndView, end_after, answer_of, refusal_of}

-- an end after a call, the packets that it put out, and its answer
pub record EndDone : Type 0 where
  pub end : EndView
  pub packets : List PacketView
  pub answer : Result Stepped LabFault

abbrev pub made_by : EndView → Call → Option ConnFault → EndDone
made_by e call (Some why) = record { end = e; packets = []; answer = Err (fault.Refused why) }
made_by e call None =
    record { end = end_after e call; packets = (act e.conn call).packets; answer = Ok (answer_of call (act e.conn call).answer) }

-- a call that is refused changes nothing
abbrev pub made : EndView → Call → EndDone
made e call = made_by e call (refusal_of (act e.conn call).answer)

-- the call did that, with an outbox that was empty
pub record Makes (old : EndView) (call : Call) (new : EndView) (before after : OutboxView)
    (reply : Result Stepped LabFault) : Type 0 where
  pub end : new ≡ (made old call).end
  pub packets : after ≡ record before { packets = (made old call).packets }
  pub answer : reply ≡ (made old call).answer
  pub few : length (made old call).packets ≤ MAX_WINDOW
  pub config : new.conn.config ≡ old.conn.config

-- all that the user at a side has read
abbrev pub read_at : Side → BothEnds → List ItemView
read_at A ends = ends.a.read.list.items
read_at B ends = ends.b.read.list.items

-- the call did that at one of both ends, and the other stays as it is
abbrev pub MakesAt : Side → Call → (old new : BothEnds) → (before after : OutboxView) → Result Stepped LabFault → Type 0
MakesAt A call old new before after reply =
    Makes (end_view old.a) call (end_view new.a) before after reply × (new.b ≡ old.b)
MakesAt B call old new before after reply =
    Makes (end_view old.b) call (end_view new.b) before after reply × (new.a ≡ old.a)
