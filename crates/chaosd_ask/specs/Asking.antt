-- What a run over a script has done so far, and what becomes of a line.
use Rattle.std.specs.Prelude.{◌≡◌, ℕ, ◌+◌, Bool, true, false, List, [], Option, Some, None, Result, Ok, Err}
use Rattle.std.specs.Io.KnownBytes.{Appends}
use Rattle.chaos_link.specs.Link.{Ask}
use Rattle.chaosd_io.specs.declared.fault.RunFault.{RunFault}
use Rattle.chaosd_io.specs.declared.fault.RunFault.TheVariants.{ReadFault, WriteFault, InputTooLong, NoMemory, BadScript, LinkFault, ClockFault}
use Rattle.chaosd_io.specs.declared.limits.TheConstants.{INPUT_LIMIT, KEPT_LEN}
use Rattle.chaosd_io.specs.Reader.{LinesView, Gives, Done}
use Rattle.chaosd_ask.specs.Command.{command_of}
use Rattle.chaosd_ask.specs.Conversation.{Asked}
use Rattle.chaosd_ask.specs.Printed.{reply_line, no_reply_line}
use Rattle.file_client.specs.Pace.{Pace}
use Rattle.file_client.specs.Talk.{Talker, Anything, Exchanges, Talks}

-- A client took turns, and sent and received nothing.
abbrev pub Idles : Pace → Talker → Talker → Type 0
Idles p first last =
    (turns : ℕ) × (asks : List Ask) × Talks p first (record { sent = []; received = []; turns = turns; asks = asks }) last

-- So it is with the lines that the reader gave of an input.
abbrev pub AskedGiven : Pace → Talker → Talker → Option (List ℕ) → Option (List ℕ) → Option (List ℕ) → Option (List ℕ)
    → ℕ → LinesView → Type 0
AskedGiven p first last input rest before after replied lines =
    (given : List (List ℕ)) × Asked p first last before after replied given
    × Gives KEPT_LEN INPUT_LIMIT input rest given lines

-- So it is with all lines of an input.
abbrev pub AskedAll : Pace → Talker → Talker → Option (List ℕ) → Option (List ℕ) → Option (List ℕ) → Option (List ℕ) → ℕ
    → Type 0
AskedAll p first last input rest before after replied =
    (given : List (List ℕ)) × Asked p first last before after replied given × Done INPUT_LIMIT input rest given

-- The line stands for a command, and its reply was printed; or that it got none was. Or it stands for none, and nothing
-- was printed or done by the client; or what was to be printed met a fault, or a turn did.
abbrev pub AsksLine : Pace → Talker → Talker → ℕ → List ℕ → Option (List ℕ) → Option (List ℕ) → Result Bool RunFault
    → Type 0
AsksLine p first last replied line before after (Ok true) =
    (command : List ℕ) × (reply : List ℕ) × (command_of line ≡ Some command)
    × Exchanges p Anything first command (Some reply) last × Appends before after (reply_line reply)
AsksLine p first last replied line before after (Ok false) =
    (command : List ℕ) × (command_of line ≡ Some command) × Exchanges p Anything first command None last
    × Appends before after no_reply_line
AsksLine p first last replied line before after (Err (BadScript number)) =
    (command_of line ≡ None) × (number ≡ replied + 1) × (after ≡ before) × (last ≡ first)
AsksLine p first last replied line before after (Err WriteFault) =
    (command : List ℕ) × (reply : Option (List ℕ)) × (command_of line ≡ Some command) × Exchanges p Anything first command reply last
AsksLine p first last replied line before after (Err LinkFault) = Unit {0}
AsksLine p first last replied line before after (Err ClockFault) = Unit {0}
AsksLine p first last replied line before after (Err NoMemory) = ⊥
AsksLine p first last replied line before after (Err ReadFault) = ⊥
AsksLine p first last replied line before after (Err InputTooLong) = ⊥
