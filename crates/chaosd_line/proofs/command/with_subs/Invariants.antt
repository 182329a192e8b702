use Rattle.std.proofs.Common.{◌≡◌, take}
use Rattle.clap.specs.Words.{app_of}
use Rattle.chaosd_line.specs.CommandLine.{with_subs}
use Rattle.chaosd_line.proofs.command.with_subs.Given as goal

-- the subcommands so far are those that were added
abbrev pub invariant-loop-name : goal.invariant-loop-name
invariant-loop-name l = app_of l.full ≡ with_subs (app_of l.initial.full) (take l.name-index l.names)
