-- The command that `chaosd` takes: a row for each subcommand, with its name and the rules of its words.
use Rattle.std.specs.Prelude.{◌++◌, ◌∷◌, ℕ, List, true, Some, [], codes}
use Rattle.clap.specs.declared.builder.action.ArgAction.TheVariants.{SetTrue}
use Rattle.clap.specs.Lexer.{usize_max}
use Rattle.clap.specs.Words.{App, Rule, Text, new_app, new_rule, with_subcommand}
use Rattle.chaosd_line.specs.declared.sub.SubName.{SubName}
use Rattle.chaosd_line.specs.declared.sub.SubName.TheVariants as name

-- an option with a value that stands where it isn't given
abbrev pub with_default : Text → Text → Rule
with_default id value = record (new_rule id) {
  long = Some id;
  value_names = 1;
  defaults = value ∷ [];
}

-- an option that need not be given
abbrev pub optional : Text → Rule
optional id = record (new_rule id) {
  long = Some id;
  value_names = 1;
}

-- a flag
abbrev pub flag : Text → Rule
flag id = record (new_rule id) {
  long = Some id;
  action = Some SetTrue;
}

-- an option or a flag that has a short name too: a letter
abbrev pub with_short : ℕ → Rule → Rule
with_short letter rule = record rule { short = Some letter }

-- words of which there is one at least
abbrev pub some_words : Text → Rule
some_words id = record (new_rule id) {
  range = Some (record { start_inclusive = 1; end_inclusive = usize_max });
  required = true;
}

-- these rules, behind those that stand there
abbrev pub with_rules : App → List Rule → App
with_rules app rules = record app { top = record app.top { rules = app.top.rules ++ rules } }

abbrev pub carriage_option : Rule
carriage_option = with_default (codes "carriage") (codes "1")

-- of all that send packets to other hosts
abbrev pub framing_rules : List Rule → List Rule
framing_rules more =
    carriage_option ∷ flag (codes "chudp") ∷ optional (codes "bridge") ∷ optional (codes "key") ∷ more

abbrev pub contact_option : Rule
contact_option = with_default (codes "contact") (codes "FILE")

abbrev pub retransmit_option : Rule
retransmit_option = optional (codes "retransmit")

-- -q, -v and -t
abbrev pub report_rules : List Rule → List Rule
report_rules more = with_short 113 (flag (codes "quiet")) ∷ with_short 118 (flag (codes "verbose")) ∷ more

abbrev pub timeout_option : Rule
timeout_option = with_short 116 (optional (codes "timeout"))

-- the words that a subcommand's own function takes apart
abbrev pub word_rules : List Rule
word_rules = optional (codes "hosts") ∷ some_words (codes "WORD") ∷ []

-- of all that call a server
abbrev pub call_rules : List Rule → List Rule
call_rules more = framing_rules
    (contact_option
    ∷ with_default (codes "login") (codes "CHAOSD")
    ∷ with_default (codes "window") (codes "64")
    ∷ timeout_option
    ∷ flag (codes "any-source")
    ∷ report_rules more)

-- -o and -r
abbrev pub output_option : Rule
output_option = with_short 111 (optional (codes "output"))

abbrev pub recursive_flag : Rule
recursive_flag = with_short 114 (flag (codes "recursive"))

-- each subcommand, with the rules of its words in the order of its table
abbrev pub sub : Text → List Rule → App
sub text rules = with_rules (new_app text) rules

abbrev pub app_named : SubName → App
app_named name.Show = sub (codes "show") (flag (codes "file") ∷ flag (codes "chudp") ∷ [])
app_named name.Lab = sub (codes "lab") []
app_named name.FileLab = sub (codes "filelab") []
app_named name.Loop = sub (codes "loop") (carriage_option ∷ [])
app_named name.Serve = sub (codes "serve")
    (with_default (codes "turns") (codes "1000000000")
    ∷ framing_rules
    (with_default (codes "window") (codes "13")
    ∷ retransmit_option
    ∷ with_short 113 (flag (codes "quiet"))
    ∷ with_default (codes "log") (codes "normal")
    ∷ flag (codes "log-time")
    ∷ flag (codes "only-peers")
    ∷ flag (codes "read-only")
    ∷ word_rules))
app_named name.Ask = sub (codes "ask")
    (framing_rules
    (contact_option
    ∷ timeout_option
    ∷ retransmit_option
    ∷ flag (codes "any-source")
    ∷ flag (codes "strict")
    ∷ report_rules word_rules))
app_named name.Get = sub (codes "get") (call_rules (flag (codes "text") ∷ output_option ∷ word_rules))
app_named name.Put = sub (codes "put")
    (call_rules
    (flag (codes "text")
    ∷ flag (codes "rename")
    ∷ optional (codes "as")
    ∷ recursive_flag
    ∷ word_rules))
app_named name.Delete = sub (codes "delete") (call_rules word_rules)
app_named name.Rename = sub (codes "rename") (call_rules word_rules)

-- the subcommands in the order of the help
abbrev pub sub_names : List SubName
sub_names = name.Show
    ∷ name.Lab
    ∷ name.FileLab
    ∷ name.Loop
    ∷ name.Serve
    ∷ name.Ask
    ∷ name.Get
    ∷ name.Put
    ∷ name.Delete
    ∷ name.Rename
    ∷ []

-- the subcommands of these names, one after another
abbrev pub with_subs : App → List SubName → App
with_subs app [] = app
with_subs app (n ∷ names) = with_subs (with_subcommand app (app_named n).top) names

-- a subcommand has to be given, no program's name stands in front of the words, and there is a version to be shown
abbrev pub bare_chaosd : App
bare_chaosd = let app = new_app (codes "chaosd") in
    record app { top = record app.top { no_binary_name = true; subcommand_required = true; has_version = true } }

-- the command with its subcommands
abbrev pub chaosd : App
chaosd = with_subs bare_chaosd sub_names
