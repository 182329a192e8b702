use Rattle.std.proofs.Common.{◌≡◌, false, map, take}
use Rattle.clap.specs.Words.{app_of}
use Rattle.clap.specs.declared.builder.command.Command.TheViews.{out-Command}
use Rattle.chaosd_line.specs.CommandLine.{with_rules}
use Rattle.chaosd_line.specs.Plan.{rule_of_word}
use Rattle.chaosd_line.proofs.command.with_words.Given as goal

-- the words so far are those that were added
abbrev pub invariant-loop-word : goal.invariant-loop-word
invariant-loop-word l =
    (app_of l.full ≡ with_rules (app_of l.initial.full) (map rule_of_word (take l.word-index l.words)))
    × ((out-Command l.full).has_globals ≡ false)
