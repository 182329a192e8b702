-- A whole run of a client: what it sends, receives and prints.
use Rattle.std.specs.Prelude.{◌≡◌, ◌⊎◌, Bool, true, false, ℕ, ◌+◌, ◌-◌, ◌*◌, min, List, [], ◌∷◌, ◌++◌, All, length, take, Option, Some, None, IfSome, Result, Ok, Err}
use Rattle.std.specs.List.{flat_map}
use Rattle.std.specs.Io.KnownBytes.{Appends, Consumes}
use Rattle.chaos_packet.specs.Count.{max_count}
use Rattle.chaos_packet.specs.Item.{ItemView}
use Rattle.chaos_link.specs.Link.{QueueView}
use Rattle.chaosd_io.specs.declared.fault.RunFault.{RunFault}
use Rattle.chaosd_io.specs.declared.fault.RunFault.TheVariants.{ReadFault, WriteFault, InputTooLong, NoMemory, BadScript, LinkFault, ClockFault}
use Rattle.chaosd_io.specs.declared.limits.TheConstants.{INPUT_LIMIT}
use Rattle.chaosd_io.specs.Lines.{ended_lines}
use Rattle.chaosd_ask.specs.declared.limits.TheConstants.{LOOP_TURN}
use Rattle.chaosd_ask.specs.declared.end.ScriptEnd.{ScriptEnd}
use Rattle.chaosd_ask.specs.Command.{command_of}
use Rattle.chaosd_ask.specs.Printed.{PrintsReplies, ending_of, replies_text}
use Rattle.chaosd_ask.specs.Script.{IsCommand, lines_within}
use Rattle.file_client.specs.Caller.{CallerView, HangsUp}
use Rattle.file_client.specs.Pace.{Pace}
use Rattle.file_client.specs.Patience.{usual_patience}
use Rattle.file_client.specs.Talk.{Talker, Talk, Talks, Anything, Exchanges, SendsFarewell, command_item}

-- what the client of `loop` goes by: turns times 10 milliseconds, always the same first number, it asks but once, a
-- command waits for its reply for 1,000 turns, and a turn waits only where it may
abbrev pub loop_pace : Pace
loop_pace = record {
  Shows = λ moment. (turns : ℕ) × (moment ≡ min (turns * LOOP_TURN) max_count);
  starts = λ moment. 65534;
  wait = max_count;
  patience = usual_patience;
  Waits = λ allowed waits. waits ≡ true → allowed ≡ true;
}

abbrev pub item_for : Option (List ℕ) → List ItemView
item_for None = []
item_for (Some command) = command_item command ∷ []

-- the items of the commands that lines stand for
abbrev pub commands_sent : List (List ℕ) → List ItemView
commands_sent lines = flat_map (λ raw. item_for (command_of raw)) lines

-- Each line that was given stands for a command that got a reply, and the replies were printed. `last`: the client
-- after `first`, whose connection wrote these commands and read these replies.
pub record Asked (p : Pace) (first last : Talker) (before after : Option (List ℕ)) (replied : ℕ)
    (given : List (List ℕ)) : Type 0 where
  pub count : length given ≡ replied
  pub commands : All IsCommand given
  pub printed : PrintsReplies replied before after
  pub talk : Talk
  pub talks : Talks p first talk last
  pub sent : talk.sent ≡ commands_sent given
  pub received : talk.received ≡ printed.replies

-- A client wrote the commands of an input's first lines, one after another, each where the one before it had got its
-- reply, and what was printed are the data that it read. Behind the last command the EOF was tried; or one command more
-- was, and got no reply.
pub record AsksAll (p : Pace) (first parted : Talker) (input before after : Option (List ℕ)) (end : ScriptEnd) : Type 0
  where
    pub talk : Talk
    pub replied : Talker
    pub asks : Talks p first talk replied
    pub sent : IfSome input (λ all. talk.sent ≡ commands_sent (take end.replied (lines_within all)))
    pub received : length talk.received ≡ end.replied
    pub text : Appends before after (replies_text talk.received ++ ending_of end)
    pub to_end : end.replied ≡ end.commands → SendsFarewell p Anything replied parted
    pub in_part : end.commands ≡ end.replied + 1 → (command : List ℕ) × Exchanges p Anything replied command None parted
        × IfSome input
        (λ all. commands_sent (take end.commands (lines_within all)) ≡ talk.sent ++ command_item command ∷ [])

-- So many lines were asked before a fault of the script or of its reader: those before the bad one, those that ended in
-- what was read, or those that ended within the limit. Before a fault of the writer the client did what a client does.
abbrev pub AsksBefore : Pace → Talker → Talker → Option (List ℕ) → Option (List ℕ) → Option (List ℕ) → Option (List ℕ)
    → RunFault → Type 0
AsksBefore p first parted input rest before after (BadScript number) =
    (given : List (List ℕ)) × Asked p first parted before after (number - 1) given
    × IfSome input (λ all. given ≡ take (number - 1) (lines_within all))
AsksBefore p first parted input rest before after ReadFault =
    (read : List ℕ) × Consumes input rest read
    × Asked p first parted before after (length (ended_lines read)) (ended_lines read)
AsksBefore p first parted input rest before after InputTooLong =
    (given : List (List ℕ)) × Asked p first parted before after (length given) given
    × IfSome input (λ all. given ≡ ended_lines (take INPUT_LIMIT all))
AsksBefore p first parted input rest before after WriteFault = (talk : Talk) × Talks p first talk parted
AsksBefore p first parted input rest before after NoMemory = ⊥
AsksBefore p first parted input rest before after LinkFault = Unit {0}
AsksBefore p first parted input rest before after ClockFault = Unit {0}

-- What was asked, however a run ended.
abbrev pub Asks : Pace → Talker → Talker → Option (List ℕ) → Option (List ℕ) → Option (List ℕ) → Option (List ℕ)
    → Result ScriptEnd RunFault → Type 0
Asks p first parted input rest before after (Ok end) = AsksAll p first parted input before after end
Asks p first parted input rest before after (Err fault) = AsksBefore p first parted input rest before after fault

-- No turn is taken behind a fault of a link or of the clock.
abbrev pub is_broken : Result ScriptEnd RunFault → Bool
is_broken (Err LinkFault) = true
is_broken (Err ClockFault) = true
is_broken _ = false

-- So it is where a run ended well, or by a fault of its script, its reader or its writer.
abbrev pub IfAsked : Result ScriptEnd RunFault → Type 0 → Type 0
IfAsked (Ok end) P = P
IfAsked (Err (BadScript number)) P = P
IfAsked (Err ReadFault) P = P
IfAsked (Err InputTooLong) P = P
IfAsked (Err WriteFault) P = P
IfAsked (Err NoMemory) P = Unit {0}
IfAsked (Err LinkFault) P = Unit {0}
IfAsked (Err ClockFault) P = Unit {0}

-- Its connection was closed, where there was one, and the CLS was sent. `queue`: what its link is then.
abbrev pub Parts : Pace → Talker → Option QueueView → Type 0
Parts p parted queue = (left : CallerView) × HangsUp p Anything parted.queue queue parted.caller left

-- A run that ended well asked all and then hung up. One that met a fault hung up, too, or that `Failed`.
abbrev pub Converses : Pace → Type 0 → Talker → Option QueueView → Option (List ℕ) → Option (List ℕ) → Option (List ℕ)
    → Option (List ℕ) → Result ScriptEnd RunFault → Type 0
Converses p Failed first queue input rest before after (Ok end) =
    (parted : Talker) × AsksAll p first parted input before after end × Parts p parted queue
Converses p Failed first queue input rest before after (Err fault) =
    (parted : Talker) × AsksBefore p first parted input rest before after fault
    × IfAsked (Err fault) (Parts p parted queue ⊎ Failed)
