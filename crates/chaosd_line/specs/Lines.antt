-- The line that the words ask for: a function of the subcommand and the values that clap gives.
use Rattle.std.specs.Prelude.{◌≡◌, ◌&&◌, ⊤, Bool, List, not, None, Option, Some, Result, MatchResult, codes, map, option_map, if◌then◌else◌}
use Rattle.std.specs.Option.{option_and_then, option_zip}
use Rattle.std.specs.Result.{result_ok}
use Rattle.std.specs.Str.{bytes_eq}
use Rattle.clap.specs.Words.{Row, Text, first_of, subcommand_of}
use Rattle.chaos_link.specs.declared.carriage.Carriage.{Carriage}
use Rattle.chaosd_line.specs.CommandLine.{chaosd}
use Rattle.chaosd_line.specs.Files.{file_view, fits_output, put_files}
use Rattle.chaosd_line.specs.Framings.{framing_at}
use Rattle.chaosd_line.specs.Keys.{key_at, serve_key_at}
use Rattle.chaosd_line.specs.Places.{hosts_in, words_in}
use Rattle.chaosd_line.specs.Remote.{file_paths, local_words, new_path, old_path, output_with, remote_words}
use Rattle.chaosd_line.specs.Targets.{ask_target, ask_view, call_target, follows, place_view, serve_folder, serve_place, target_view}
use Rattle.chaosd_line.specs.Values.{flag_of, given, given_if, kept_if, log_of, retransmit_of, seconds_of, turns_of, version_of, window_of, word_of}
use Rattle.chaosd_line.specs.declared.line.Ask.{Ask}
use Rattle.chaosd_line.specs.declared.line.Calling.{Calling}
use Rattle.chaosd_line.specs.declared.line.Copying.{Copying}
use Rattle.chaosd_line.specs.declared.line.Delete.{Delete}
use Rattle.chaosd_line.specs.declared.line.Get.{Get}
use Rattle.chaosd_line.specs.declared.line.Line.{Line}
use Rattle.chaosd_line.specs.declared.line.Line.TheVariants as line
use Rattle.chaosd_line.specs.declared.line.Put.{Put}
use Rattle.chaosd_line.specs.declared.line.Rename.{Rename}
use Rattle.chaosd_line.specs.declared.line.Serve.{Serve}
use Rattle.chaosd_line.specs.declared.line.Show.{Show}
use Rattle.chaosd_line.specs.declared.line_problem.LineProblem.{LineProblem}
use Rattle.chaosd_line.specs.declared.line_problem.LineProblem.TheVariants.{Bad, Clash, NoMemory}
use Rattle.chaosd_line.specs.declared.target.HostWord.{HostWord}
use Rattle.chaosd_line.specs.declared.target.HostWord.TheVariants as host
use Rattle.chaosd_line.specs.declared.word.Word.TheVariants as word

-- How the values of a line are read: what is seen of them, wherever their texts lie, and what that is by the words at their places.
pub record Reading (T : Type 0) : Type 1 where
  pub View : Type 0
  pub view : T → View
  pub value : List Row → Option View

-- one value
abbrev pub field : {T V : Type 0} → (T → V) → (List Row → Option V) → Reading T
field {T} {V} view value = record { View = V; view = view; value = value }

-- values, one after another
infixr 10 ◌&◌
abbrev pub ◌&◌ : {T : Type 0} → Reading T → Reading T → Reading T
a & b = record {
  View = a.View × b.View;
  view = λ x. (a.view x, b.view x);
  value = λ rows. option_zip (a.value rows) (b.value rows);
}

-- the values of a part
abbrev pub within : {T U : Type 0} → (T → U) → Reading U → Reading T
within part reading = record { View = reading.View; view = λ x. reading.view (part x); value = reading.value }

-- values of which the test holds
abbrev pub only_if : {T : Type 0} (reading : Reading T) → (reading.View → Bool) → Reading T
only_if reading test = record {
  View = reading.View;
  view = reading.view;
  value = λ rows. option_and_then (kept_if test) (reading.value rows);
}

-- values of which none is there if a flag is given
abbrev pub only_without : {T : Type 0} → Text → Reading T → Reading T
only_without flag reading = record {
  View = reading.View;
  view = reading.view;
  value = λ rows. option_and_then (λ is_given. if is_given then None else reading.value rows) (given flag_of flag rows);
}

-- ---- the values of each subcommand

unfoldable pub show : Reading Show
show = field (λ s. s.is_file) (given flag_of (codes "file"))
    & field (λ s. s.is_chudp) (given flag_of (codes "chudp"))

-- a host whose UDP address isn't known can't be heard alone
unfoldable pub serve : Reading Serve
serve = field (λ s. s.turns) (given turns_of (codes "turns"))
    & field (λ s. s.framing) framing_at
    & field (λ s. option_map (λ t. t.now) s.key) serve_key_at
    & field (λ s. s.window) (given window_of (codes "window"))
    & field (λ s. s.retransmit) (given_if retransmit_of (codes "retransmit"))
    & field (λ s. s.is_quiet) (given flag_of (codes "quiet"))
    & field (λ s. s.log) (given log_of (codes "log"))
    & field (λ s. s.is_timed) (given flag_of (codes "log-time"))
    & field (λ s. s.is_read_only) (given flag_of (codes "read-only"))
    & field (λ s. option_map (λ t. t.now) s.hosts) hosts_in
    & field (λ s. s.folder.now) (λ rows. serve_folder (words_in rows))
    & only_if (field (λ s. s.hears_only_peers) (given flag_of (codes "only-peers"))
    & field (λ s. place_view s.place) (λ rows. serve_place (words_in rows))) (λ v. not (v.0 && follows v.1))

unfoldable pub ask : Reading Ask
ask = field (λ a. a.framing) framing_at
    & field (λ a. option_map (λ t. t.now) a.key) key_at
    & field (λ a. a.contact.now) (given (word_of word.Contact) (codes "contact"))
    & field (λ a. a.timeout) (given_if seconds_of (codes "timeout"))
    & field (λ a. a.retransmit) (given_if retransmit_of (codes "retransmit"))
    & field (λ a. a.hears_anybody) (given flag_of (codes "any-source"))
    & field (λ a. a.is_strict) (given flag_of (codes "strict"))
    & field (λ a. a.is_quiet) (given flag_of (codes "quiet"))
    & field (λ a. a.is_verbose) (given flag_of (codes "verbose"))
    & field (λ a. option_map (λ t. t.now) a.hosts) hosts_in
    & field (λ a. ask_view a.target) (λ rows. ask_target (words_in rows))

-- of all that call a server, but for the server
unfoldable pub call_options : Reading Calling
call_options = field (λ c. c.framing) framing_at
    & field (λ c. option_map (λ t. t.now) c.key) key_at
    & field (λ c. c.contact.now) (given (word_of word.Contact) (codes "contact"))
    & field (λ c. c.login.now) (given (word_of word.Login) (codes "login"))
    & field (λ c. c.window) (given window_of (codes "window"))
    & field (λ c. c.timeout) (given_if seconds_of (codes "timeout"))
    & field (λ c. c.hears_anybody) (given flag_of (codes "any-source"))
    & field (λ c. option_map (λ t. t.now) c.hosts) hosts_in

-- with the server, which these words name
abbrev pub calling : HostWord → (List Text → List Text) → Reading Calling
calling place words =
    call_options & field (λ c. target_view c.target) (λ rows. call_target place (words (words_in rows)))

-- of `get` and `put`
abbrev pub copying : HostWord → (List Text → List Text) → Reading Copying
copying place words = within (λ c. c.calling) (calling place words)
    & field (λ c. c.is_text) (given flag_of (codes "text"))
    & field (λ c. c.is_quiet) (given flag_of (codes "quiet"))
    & field (λ c. c.is_verbose) (given flag_of (codes "verbose"))

-- `get` has paths that differ, and a local file for one of them alone
unfoldable pub get : Reading Get
get = only_if (within (λ g. g.copying) (copying host.First remote_words)
    & field (λ g. option_map (λ t. t.now) g.output) (λ rows. output_with (first_of (codes "output") rows) (words_in rows))
    & field (λ g. map (λ t. t.now) g.paths.items) (λ rows. file_paths (remote_words (words_in rows))))
    (λ v. fits_output v.1.0 v.1.1)

-- `put` has files with their paths: paths of their own, or for one file the path that is given
abbrev pub files_at : List Row → Option (List (Text × Option Text))
files_at rows = option_and_then
    (λ v. put_files v.0 (first_of (codes "as") rows) v.1)
    (option_zip (given flag_of (codes "rename") rows) (local_words (words_in rows)))

-- FILE has no folders, so `--recursive` asks for nothing
unfoldable pub put : Reading Put
put = only_without (codes "recursive") (within (λ p. p.copying) (copying host.Last (λ words. words))
    & field (λ p. map file_view p.files.items) files_at)

unfoldable pub delete : Reading Delete
delete = within (λ d. d.calling) (calling host.First (λ words. words))
    & field (λ d. d.is_quiet) (given flag_of (codes "quiet"))
    & field (λ d. d.is_verbose) (given flag_of (codes "verbose"))
    & field (λ d. map (λ t. t.now) d.paths.items) (λ rows. file_paths (words_in rows))

unfoldable pub rename : Reading Rename
rename = within (λ r. r.calling) (calling host.First (λ words. words))
    & field (λ r. r.is_quiet) (given flag_of (codes "quiet"))
    & field (λ r. r.is_verbose) (given flag_of (codes "verbose"))
    & field (λ r. r.from.now) (λ rows. old_path (words_in rows))
    & field (λ r. r.to.now) (λ rows. new_path (words_in rows))

-- ---- lines

-- a subcommand with what is seen of its values
pub data LineView : Type 0 where
  ShowLine : show.View → LineView
  LabLine : LineView
  FileLabLine : LineView
  LoopLine : Carriage → LineView
  ServeLine : serve.View → LineView
  AskLine : ask.View → LineView
  GetLine : get.View → LineView
  PutLine : put.View → LineView
  DeleteLine : delete.View → LineView
  RenameLine : rename.View → LineView

abbrev pub line_view : Line → LineView
line_view (line.Show s) = ShowLine (show.view s)
line_view line.Lab = LabLine
line_view line.FileLab = FileLabLine
line_view (line.Loop carriage) = LoopLine carriage
line_view (line.Serve s) = ServeLine (serve.view s)
line_view (line.Ask a) = AskLine (ask.view a)
line_view (line.Get g) = GetLine (get.view g)
line_view (line.Put p) = PutLine (put.view p)
line_view (line.Delete d) = DeleteLine (delete.view d)
line_view (line.Rename r) = RenameLine (rename.view r)

-- the line that a subcommand's name and its values ask for
abbrev pub line_named : Text → List Row → Option LineView
line_named text rows = if bytes_eq text (codes "show") then option_map ShowLine (show.value rows)
    else (if bytes_eq text (codes "lab") then Some LabLine
    else (if bytes_eq text (codes "filelab") then Some FileLabLine
    else (if bytes_eq text (codes "loop") then option_map LoopLine (given version_of (codes "carriage") rows)
    else (if bytes_eq text (codes "serve") then option_map ServeLine (serve.value rows)
    else (if bytes_eq text (codes "ask") then option_map AskLine (ask.value rows)
    else (if bytes_eq text (codes "get") then option_map GetLine (get.value rows)
    else (if bytes_eq text (codes "put") then option_map PutLine (put.value rows)
    else (if bytes_eq text (codes "delete") then option_map DeleteLine (delete.value rows)
    else (if bytes_eq text (codes "rename") then option_map RenameLine (rename.value rows)
    else None)))))))))

abbrev pub line_of : Option (Text × List Row) → Option LineView
line_of found = option_and_then (λ f. line_named f.0 f.1) found

-- the line that the words ask for, by what clap gives for them
abbrev pub asked_line : List Text → Option LineView
asked_line words = line_of (subcommand_of chaosd words)

-- a word is bad, or two clash, only where this holds
abbrev pub IfBad : LineProblem → Type 0 → Type 0
IfBad (Bad word) T = T
IfBad (Clash files) T = T
IfBad NoMemory T = ⊤

-- the answer is the value, and a problem only where there is none
abbrev pub Reads : {T E : Type 0} → Reading T → List Row → Result T E → Type 0
Reads reading rows r = option_map reading.view (result_ok r) ≡ reading.value rows

-- the same where memory may run out: a word is bad, or two clash, only where there is no value
abbrev pub Answers : {T V : Type 0} → (T → V) → Option V → Result T LineProblem → Type 0
Answers view value r = MatchResult r (λ x. value ≡ Some (view x)) (λ e. IfBad e (value ≡ None))
