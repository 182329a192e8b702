-- Every call of a connection, and what it does.
use Rattle.std.specs.Prelude.{◌≡◌, ℕ, ◌≤◌, List, [], length, Result}
use Rattle.chaos_packet.specs.Packet.{PacketView}
use Rattle.chaos_packet.specs.Outbox.{OutboxView, with_put}
use Rattle.chaos_conn.specs.declared.state.End.{End}
use Rattle.chaos_conn.specs.declared.fault.ConnFault.{ConnFault}
use Rattle.chaos_conn.specs.declared.answers.Delivered.{Delivered}
use Rattle.chaos_conn.specs.declared.answers.ReadDone.{ReadDone}
use Rattle.chaos_conn.specs.declared.answers.ReadEnd.{ReadEnd}
use Rattle.chaos_conn.specs.declared.answers.Ticked.{Ticked}
use Rattle.chaos_conn.specs.View.{ConnView}
use Rattle.chaos_conn.specs.Acted.{Acted, map_answer}
use Rattle.chaos_conn.specs.Opening.{Outcome, act_request, act_take_request, act_accept, act_answer, act_reject}
use Rattle.chaos_conn.specs.Arriving.{act_deliver}
use Rattle.chaos_conn.specs.Calls.{act_write, act_unc, act_close, act_read, act_read_done, act_announce}
use Rattle.chaos_conn.specs.Time.{act_tick}

-- the calls that change a connection
pub data Call : Type 0 where
  Request : (me : End) → (peer : ℕ) → (contact : List ℕ) → (start now : ℕ) → Call
  TakeRequest : (rfc : PacketView) → (me : End) → (now : ℕ) → Call
  Accept : (start now : ℕ) → Call
  Answer : (bytes : List ℕ) → Call
  Reject : (text : List ℕ) → Call
  Deliver : (packet : PacketView) → (now : ℕ) → Call
  Write : (op : ℕ) → (bytes : List ℕ) → (now : ℕ) → Call
  Unc : (bytes : List ℕ) → Call
  Read : Call
  FinishRead : Call
  Announce : (window : ℕ) → Call
  Close : (text : List ℕ) → Call
  Tick : (now : ℕ) → Call

-- what a call answers
pub data Reply : Type 0 where
  Did : Outcome → Reply
  Came : Delivered → Reply
  Wrote : Result ℕ ConnFault → Reply
  Gave : ReadEnd → Reply
  Finished : ReadDone → Reply
  Ticks : Ticked → Reply

-- what each call makes of an end
abbrev pub act : ConnView → Call → Acted Reply
act v (Request me peer contact start now) = map_answer Did (act_request v me peer contact start now)
act v (TakeRequest rfc me now) = map_answer Did (act_take_request v rfc me now)
act v (Accept start now) = map_answer Did (act_accept v start now)
act v (Answer bytes) = map_answer Did (act_answer v bytes)
act v (Reject text) = map_answer Did (act_reject v text)
act v (Deliver packet now) = map_answer Came (act_deliver v packet now)
act v (Write op bytes now) = map_answer Wrote (act_write v op bytes now)
act v (Unc bytes) = map_answer Did (act_unc v bytes)
act v Read = map_answer Gave (act_read v)
act v FinishRead = map_answer Finished (act_read_done v)
act v (Announce window) = map_answer Did (act_announce v window)
act v (Close text) = map_answer Did (act_close v text)
act v (Tick now) = map_answer Ticks (act_tick v now)

-- how many packets a call puts out at most
abbrev pub most_packets : ConnView → Call → ℕ
most_packets v (Tick now) = v.config.send_cap
most_packets v _ = 1

-- A call did what it is to do: the view after it, the packets that it put out, and its answer. The configuration stays.
pub record Does (old : ConnView) (call : Call) (new : ConnView) (before after : OutboxView) (reply : Reply) : Type 0
  where
    pub view : new ≡ (act old call).view
    pub packets : after ≡ with_put before (act old call).packets
    pub answer : reply ≡ (act old call).answer
    pub few : length (act old call).packets ≤ most_packets old call
    pub config : new.config ≡ old.config

-- A call without an outbox did what it is to do, and puts nothing out.
pub record DoesQuietly (old : ConnView) (call : Call) (new : ConnView) (reply : Reply) : Type 0 where
  pub view : new ≡ (act old call).view
  pub packets : (act old call).packets ≡ []
  pub answer : reply ≡ (act old call).answer
  pub config : new.config ≡ old.config
