-- What serving once makes of a session and its files, and the turn that it is.
use Rattle.std.specs.Prelude.{◌≡◌, ℕ, List}
use Rattle.chaos_packet.specs.Opcode.{op_data}
use Rattle.chaos_file.specs.Session.{SessionView}
use Rattle.chaos_file.specs.Store.{Files}
use Rattle.chaos_file.specs.Replies.{memory_change}
use Rattle.chaos_lab.specs.Turn.{Turn, Rests, Reads, Replies}
use Rattle.chaos_lab.specs.declared.user.Turned.{Turned}
use Rattle.chaos_lab.specs.declared.user.Turned.TheVariants as turned
use Rattle.chaos_file.specs.ServeAnswer.{IsAnswered}
use Rattle.chaos_file.specs.ServeWork.{Work, NotOpen, Nothing, Full, LastItem, Command}
use Rattle.chaos_file.specs.declared.served.Served.{Served}
use Rattle.chaos_file.specs.declared.served.Served.TheVariants as told

-- a session and its files
pub record Service : Type 0 where
  pub session : SessionView
  pub files : Files

-- by what is to be done at the connection: a command is applied once and answered, by the one item that the turn writes
abbrev pub ServesBy : (old new : Service) → Turn → Served → Work → Type 0
ServesBy old new turn served (NotOpen state) = (turn ≡ Rests) × (new ≡ old) × (served ≡ told.Ended state)
ServesBy old new turn served Nothing = (turn ≡ Rests) × (new ≡ old) × (served ≡ told.Idle)
ServesBy old new turn served Full = (turn ≡ Rests) × (new ≡ old) × (served ≡ told.NoRoom)
ServesBy old new turn served LastItem = (turn ≡ Reads) × (new ≡ old) × (served ≡ told.Eof)
ServesBy old new turn served (Command body) =
    (reply : List ℕ) × (turn ≡ Replies op_data reply) × (served ≡ told.Replied)
    × IsAnswered (memory_change old.files new.files) old.session new.session body reply

-- the turn that serving was
abbrev pub turned_by : Served → Turned
turned_by told.Replied = turned.Replied
turned_by told.Eof = turned.Read
turned_by _ = turned.Rested
