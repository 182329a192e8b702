-- What serving one item of a connection does.
use Rattle.std.specs.Prelude.{◌≡◌, ℕ, ◌≤◌, true, List, ◌++◌, length, Ok}
use Rattle.chaos_packet.specs.Opcode.{op_data}
use Rattle.chaos_packet.specs.Outbox.{OutboxView, with_put}
use Rattle.chaos_packet.specs.declared.limits.TheConstants.{MAX_DATA}
use Rattle.chaos_window.specs.Send.{next_of}
use Rattle.chaos_conn.specs.View.{ConnView}
use Rattle.chaos_conn.specs.Acted.{Acted, quietly}
use Rattle.chaos_conn.specs.Act.{Reply, Write, Wrote, FinishRead, act}
use Rattle.chaos_conn.specs.Calls.{can_write}
use Rattle.chaos_file.specs.Session.{SessionView}
use Rattle.chaos_file.specs.Store.{StoreChange}
use Rattle.chaos_file.specs.ServeAnswer.{IsAnswered, IsUnused}
use Rattle.chaos_file.specs.ServeWork.{Work, NotOpen, Nothing, Full, LastItem, Command, work_of}
use Rattle.chaos_file.specs.declared.served.Served.{Served}
use Rattle.chaos_file.specs.declared.served.Served.TheVariants as told

-- the write of a reply, after the read of its command
abbrev pub reply_write : ConnView → List ℕ → ℕ → Acted Reply
reply_write v reply now = act (act v FinishRead).view (Write op_data reply now)

-- a command is read, and its reply is written
abbrev pub after_reply : ConnView → List ℕ → ℕ → Acted Served
after_reply v reply now = record {
  view = (reply_write v reply now).view;
  packets = (act v FinishRead).packets ++ (reply_write v reply now).packets;
  answer = told.Replied;
}

-- an EOF is read
abbrev pub after_eof : ConnView → Acted Served
after_eof v = record { view = (act v FinishRead).view; packets = (act v FinishRead).packets; answer = told.Eof }

-- What serving does. `answered`: a command was answered by this reply; `unused`: no command was given; `does`: the end
-- did this.
abbrev pub DoesWorkBy : (List ℕ → List ℕ → Type 0) → Type 0 → (Acted Served → Type 0) → ConnView → ℕ → Work → Type 0
DoesWorkBy answered unused does v now (NotOpen state) = unused × does (quietly v (told.Ended state))
DoesWorkBy answered unused does v now Nothing = unused × does (quietly v told.Idle)
DoesWorkBy answered unused does v now Full = unused × does (quietly v told.NoRoom)
DoesWorkBy answered unused does v now LastItem = unused × does (after_eof v)
DoesWorkBy answered unused does v now (Command body) =
    (reply : List ℕ) × answered body reply × does (after_reply v reply now)

-- What serving does, and what session and store make of it.
abbrev pub DoesWork : StoreChange → SessionView → SessionView → (Acted Served → Type 0) → ConnView → ℕ → Work → Type 0
DoesWork store s t = DoesWorkBy (IsAnswered store s t) (IsUnused store s t)

-- An end did this: at most two packets went out, and the configuration stayed.
pub record ActsTwice (old : ConnView) (acted : Acted Served) (new : ConnView) (before after : OutboxView)
    (answer : Served) : Type 0 where
  pub view : new ≡ acted.view
  pub packets : after ≡ with_put before acted.packets
  pub answers : answer ≡ acted.answer
  pub few : length acted.packets ≤ 2
  pub config : new.config ≡ old.config

-- the end of a connection is served
abbrev pub ServesConn : StoreChange → SessionView → SessionView → ConnView → ℕ → ConnView → OutboxView → OutboxView
    → Served → Type 0
ServesConn store s t old now new before after answer =
    DoesWork store s t (λ acted. ActsTwice old acted new before after answer) old now (work_of old)

-- Where an end can write, the write of a reply after the read is taken.
abbrev pub IsReplyTaken : Type 0
IsReplyTaken = (v : ConnView) (reply : List ℕ) (now : ℕ) → can_write v ≡ true → length reply ≤ MAX_DATA
    → (reply_write v reply now).answer ≡ Wrote (Ok (next_of v.send))
