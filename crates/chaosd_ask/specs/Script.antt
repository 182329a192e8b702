-- A run over a FILE script.
use Rattle.std.specs.Prelude.{◌≡◌, ℕ, ◌+◌, ◌-◌, ◌<◌, ◌≤◌, nat_lt, if◌then◌else◌, true, List, ◌∷◌, ◌++◌, All, length, take, Option, None, is_some, IfSome, Result, Ok, Err}
use Rattle.std.specs.Io.KnownBytes.{Consumes, IsAtEnd}
use Rattle.chaosd_io.specs.declared.fault.RunFault.{RunFault}
use Rattle.chaosd_io.specs.declared.fault.RunFault.TheVariants.{ReadFault, WriteFault, InputTooLong, NoMemory, BadScript, LinkFault, ClockFault}
use Rattle.chaosd_io.specs.declared.limits.TheConstants.{INPUT_LIMIT}
use Rattle.chaosd_io.specs.Lines.{lines_of, ended_lines}
use Rattle.chaosd_ask.specs.declared.end.ScriptEnd.{ScriptEnd}
use Rattle.chaosd_ask.specs.Command.{command_of}
use Rattle.chaosd_ask.specs.Printed.{PrintsReplies, PrintsScript}

-- the lines that can be had of an input: all where it is within the limit, else those that end within it
abbrev pub lines_within : List ℕ → List (List ℕ)
lines_within input = if nat_lt INPUT_LIMIT (length input) then ended_lines (take INPUT_LIMIT input) else lines_of input

-- A line stands for a command.
abbrev pub IsCommand : List ℕ → Type 0
IsCommand raw = is_some (command_of raw) ≡ true

-- The lines before this one, counted from 1, stand for commands, and it doesn't.
pub record IsFirstBad (number : ℕ) (lines : List (List ℕ)) : Type 0 where
  pub good : List (List ℕ)
  pub bad : List ℕ
  pub others : List (List ℕ)
  pub whole : lines ≡ good ++ bad ∷ others
  pub commands : All IsCommand good
  pub none : command_of bad ≡ None
  pub count : number ≡ length good + 1

-- There are so many lines and maybe more, and the first so many stand for commands.
pub record BeginWithCommands (count : ℕ) (lines : List (List ℕ)) : Type 0 where
  pub tried : List (List ℕ)
  pub others : List (List ℕ)
  pub whole : lines ≡ tried ++ others
  pub commands : All IsCommand tried
  pub number : length tried ≡ count

-- There are so many lines, and each stands for a command.
abbrev pub AreCommands : ℕ → List (List ℕ) → Type 0
AreCommands count lines = All IsCommand lines × (length lines ≡ count)

-- These lines stand for commands, and a reply to each was printed, each on its line, and nothing else.
abbrev pub PrintsRepliesTo : List (List ℕ) → Option (List ℕ) → Option (List ℕ) → Type 0
PrintsRepliesTo lines before after = All IsCommand lines × PrintsReplies (length lines) before after

-- What was printed are replies to the lines that ended in what was read of an input.
abbrev pub RepliesRead : Option (List ℕ) → Option (List ℕ) → Option (List ℕ) → Option (List ℕ) → Type 0
RepliesRead input rest before after =
    (read : List ℕ) × Consumes input rest read × PrintsRepliesTo (ended_lines read) before after

-- ---- the parts in one

-- A script was tried to its end, or to the first command that got no reply.
pub record Ran (input rest before after : Option (List ℕ)) (end : ScriptEnd) : Type 0 where
  pub counts : (end.replied ≤ end.commands) × (end.commands ≤ end.replied + 1)
  pub text : PrintsScript end before after
  pub tried : IfSome input (λ all. BeginWithCommands end.commands (lines_within all))
  pub whole : end.replied ≡ end.commands
      → IfSome input (λ all. (length all ≤ INPUT_LIMIT) × AreCommands end.commands (lines_of all))
  pub ended : end.replied ≡ end.commands → IsAtEnd rest

-- How a run over a script ended: what was read of the input, and what was printed.
abbrev pub Runs : Option (List ℕ) → Option (List ℕ) → Option (List ℕ) → Option (List ℕ) → Result ScriptEnd RunFault
    → Type 0
Runs input rest before after (Ok end) = Ran input rest before after end
Runs input rest before after (Err ReadFault) = RepliesRead input rest before after
Runs input rest before after (Err InputTooLong) =
    IfSome input (λ all. (INPUT_LIMIT < length all) × PrintsRepliesTo (ended_lines (take INPUT_LIMIT all)) before after)
Runs input rest before after (Err (BadScript number)) =
    IfSome input (λ all. IsFirstBad number (lines_within all)) × PrintsReplies (number - 1) before after
Runs input rest before after (Err WriteFault) = Unit {0}
Runs input rest before after (Err NoMemory) = Unit {0}
Runs input rest before after (Err LinkFault) = Unit {0}
Runs input rest before after (Err ClockFault) = Unit {0}
