-- The rules that clap reads the words of a table by.
use Rattle.std.specs.Prelude.{map}
use Rattle.clap.specs.Words.{App, Rule, Text, new_app}
use Rattle.chaosd_line.specs.CommandLine.{flag, optional, some_words, with_default, with_rules, with_short}
use Rattle.chaosd_line.specs.declared.sub.Sub.{Sub}
use Rattle.chaosd_line.specs.declared.argument.Arity.{Arity}
use Rattle.chaosd_line.specs.declared.argument.Arity.TheVariants as arity
use Rattle.chaosd_line.specs.declared.argument.Argument.{Argument}

abbrev pub rule_with : Text → Arity → Rule
rule_with id arity.Several = some_words id
rule_with id (arity.Default name value) = with_default id value.now
rule_with id (arity.Optional name) = optional id
rule_with id (arity.ShortOptional letter name) = with_short letter (optional id)
rule_with id arity.Flag = flag id
rule_with id (arity.ShortFlag letter) = with_short letter (flag id)
rule_with id (arity.HiddenFlag letter) = with_short letter (flag id)

abbrev pub rule_of_word : Argument → Rule
rule_of_word word = rule_with word.0.now word.1

abbrev pub app_of_sub : Sub → App
app_of_sub sub = with_rules (new_app sub.name.now) (map rule_of_word sub.words.now)
