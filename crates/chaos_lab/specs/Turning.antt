-- What a turn makes of the parts of the laboratory.
use Rattle.std.specs.Prelude.{◌≡◌, ℕ, ◌+◌, List, [], ◌∷◌, ◌++◌}
use Rattle.std.specs.Option.{option_to_list}
use Rattle.chaos_packet.specs.Item.{ItemView}
use Rattle.chaos_packet.specs.Packet.{PacketView, item_of}
use Rattle.chaos_packet.specs.Outbox.{OutboxView}
use Rattle.chaos_conn.specs.View.{ConnView}
use Rattle.chaos_conn.specs.Calls.{front_of}
use Rattle.chaos_lab.specs.declared.side.Side.TheVariants.{B}
use Rattle.chaos_lab.specs.declared.stamped.Stamped.{Stamped}
use Rattle.chaos_lab.specs.declared.user.Turned.{Turned}
use Rattle.chaos_lab.specs.declared.user.Turned.TheVariants as turned
use Rattle.chaos_lab.specs.Laboratory.{EndView, stamp}
use Rattle.chaos_lab.specs.Turn.{Turn, TakesTurn}

-- a turn that isn't rest reads the item in front
abbrev pub read_in_turn : Turned → ConnView → List ItemView → List ItemView
read_in_turn turned.Rested v items = items
read_in_turn turned.Read v items = items ++ option_to_list (front_of v)
read_in_turn turned.Replied v items = items ++ option_to_list (front_of v)

-- an end whose user took this turn; what was written in it isn't in its list yet
pub record EndTurns (old : EndView) (now : ℕ) (turn : Turn) (new : EndView) (before after : OutboxView)
    (result : Turned) : Type 0 where
  pub conn : TakesTurn old.conn now turn new.conn before after result
  pub first : new.first ≡ old.first
  pub written : new.written ≡ old.written
  pub read : new.read ≡ read_in_turn result old.conn old.read

-- The packets of a turn that ended with a reply, which is the last of one or two. What went out before it is stamped
-- before the reply is counted.
abbrev pub stamped_reply : ℕ → ℕ → List PacketView → List Stamped
stamped_reply a b [] = []
stamped_reply a b (reply ∷ []) = stamp B a (b + 1) reply ∷ []
stamped_reply a b (status ∷ reply ∷ packets) = stamp B a b status ∷ stamp B a (b + 1) reply ∷ []

-- the item of that reply
abbrev pub reply_items : List PacketView → List ItemView
reply_items [] = []
reply_items (reply ∷ []) = item_of reply ∷ []
reply_items (status ∷ reply ∷ packets) = item_of reply ∷ []
