-- A run over a script, command by command.
use Rattle.std.proofs.Common.{◌≡◌, ℕ, ◌+◌, ◌-◌, ◌<◌, ◌≤◌, ◌⊎◌, inl, inr, Bool, true, false, cond, eqb, ltb, List, [], ◌∷◌, ◌++◌, All, length, take, refl, sym, ap, ◌∙◌, subst, arith, append_assoc, append-nil, take_all, length-take, length-append}
use Rattle.std.specs.Prelude.{Option, None, Some, is_some, IfSome, IfErr, OnOk, Result, Ok, Err}
use Rattle.std.specs.Io.BufRead.{strip_last}
use Rattle.std.specs.Io.KnownBytes.{Appends}
use Rattle.std.proofs.KnownBytes.{Appends-nil, Appends-trans}
use Rattle.std.proofs.lemmas.Bool.{le-ltb, lt-ltb}
use Rattle.std.proofs.lemmas.Bool.Decides.{nat_tests}
use Rattle.std.proofs.Math.Seq.{take-append-add, take-append_seam}
use Rattle.std.proofs.lemmas.List.Concat.{flat_map-append}
use Rattle.std.proofs.lemmas.List.Elements.{All-nil, All-push}
use Rattle.std.proofs.lemmas.List.Splits.{length-slice_split}
use Rattle.chaos_node.specs.declared.fault.NodeFault.{NodeFault}
use Rattle.chaos_node.specs.declared.fault.NodeFault.TheVariants as node
use Rattle.chaosd_io.specs.Fault.{run_fault}
use Rattle.chaosd_io.specs.declared.fault.RunFault.{RunFault}
use Rattle.chaosd_io.specs.declared.fault.RunFault.TheVariants.{ReadFault, WriteFault, InputTooLong, NoMemory, BadScript, LinkFault, ClockFault}
use Rattle.chaosd_io.specs.declared.limits.TheConstants.{INPUT_LIMIT, KEPT_LEN, LINE_LIMIT}
use Rattle.chaosd_io.specs.Escapes.{data_of}
use Rattle.chaosd_io.specs.Lines.{all_but_last, is_newline, pieces_of, without_empty_last, ended_lines, lines_of}
use Rattle.chaosd_io.specs.Reader.{LinesView, Gives, Done, GivesMore, GivesNext, GivesLast}
use Rattle.chaosd_io.proofs.Steps.{length-strip_last}
use Rattle.chaosd_ask.specs.Command.{command_of}
use Rattle.file_client.specs.Fault.{IsTurnFault}
use Rattle.chaosd_ask.specs.Printed.{ending_of, reply_line, replies_text, no_reply_line, PrintsReplies}
use Rattle.chaosd_ask.specs.Script.{IsCommand, IsFirstBad, BeginWithCommands, AreCommands, lines_within, Ran, Runs}
use Rattle.chaosd_ask.specs.Asking.{AskedAll, AskedGiven, AsksLine, Idles}
use Rattle.chaosd_ask.specs.Conversation.{Asked, Asks, AsksAll, AsksBefore, Converses, IfAsked, Parts, commands_sent, is_broken, item_for}
use Rattle.chaos_link.specs.Link.{Ask, QueueView}
use Rattle.chaos_node.specs.declared.clock.Epoch.{Epoch}
use Rattle.file_client.specs.Caller.{CallerView, HangsUp, TurnsAt, asked_again}
use Rattle.file_client.specs.Pace.{Pace}
use Rattle.file_client.specs.Talk.{Talker, Anything, SendsFarewell, Talk, Turns, and_later, command_item, silence}
use Rattle.chaosd_ask.specs.declared.end.ScriptEnd.{ScriptEnd}
use Rattle.chaos_packet.specs.Item.{ItemView}
use Rattle.file_client.proofs.Asked.{asks_of, hangs_up_by}
use Rattle.file_client.proofs.Talking.{talks_none, talks_on}

-- ---- what is kept of a line decides what it stands for

long_command : (raw : List ℕ) → KEPT_LEN ≤ length raw → command_of raw ≡ None
unfolding command_of
long_command raw long =
    let test : ltb LINE_LIMIT (length (strip_last 13 raw)) ≡ true =
    lt-ltb LINE_LIMIT _ (omega (arith, length-strip_last 13 raw)) in
    ap (λ b. cond b None (data_of (strip_last 13 raw))) test

front_decides : (f g : List ℕ) (is_short : Bool) → ltb (length f) KEPT_LEN ≡ is_short
    → take KEPT_LEN f ≡ take KEPT_LEN g → command_of f ≡ command_of g
front_decides f g true short e =
    let len : length (take KEPT_LEN f) ≡ length (take KEPT_LEN g) = ap length e in
    let few : length f < KEPT_LEN = grind (arith, nat_tests) in
    ap command_of
    (sym (take_all KEPT_LEN f (omega arith)) ∙ e
    ∙ take_all KEPT_LEN g (omega (arith, length-take KEPT_LEN f, length-take KEPT_LEN g)))
front_decides f g false long e =
    let len : length (take KEPT_LEN f) ≡ length (take KEPT_LEN g) = ap length e in
    let many : KEPT_LEN ≤ length f = grind (arith, nat_tests) in
    long_command f many ∙ sym (long_command g (omega (arith, length-take KEPT_LEN f, length-take KEPT_LEN g)))

pub kept_decides : (line raw : List ℕ) → take KEPT_LEN line ≡ take KEPT_LEN raw → command_of raw ≡ command_of line
kept_decides line raw e = sym (front_decides line raw (ltb (length line) KEPT_LEN) refl e)

-- ---- the lines that were given are the first

without_empty_last-append : (lines pieces : List (List ℕ)) → 0 < length pieces
    → without_empty_last (lines ++ pieces) ≡ lines ++ without_empty_last pieces
without_empty_last-append [] pieces some = refl
without_empty_last-append (first ∷ []) [] some = absurd (omega (arith, some))
without_empty_last-append (first ∷ []) (piece ∷ pieces) some = refl
without_empty_last-append (first ∷ next ∷ others) pieces some =
    ap (λ l. first ∷ l) (without_empty_last-append (next ∷ others) pieces some)

all_but_last-append : (lines pieces : List (List ℕ)) → 0 < length pieces
    → all_but_last (lines ++ pieces) ≡ lines ++ all_but_last pieces
all_but_last-append [] pieces some = refl
all_but_last-append (first ∷ []) [] some = absurd (omega (arith, some))
all_but_last-append (first ∷ []) (piece ∷ pieces) some = refl
all_but_last-append (first ∷ next ∷ others) pieces some =
    ap (λ l. first ∷ l) (all_but_last-append (next ∷ others) pieces some)

begins_short : (all rest : List ℕ) (given : List (List ℕ)) (v : LinesView)
    → Gives KEPT_LEN INPUT_LIMIT (Some all) (Some rest) given v
    → (others : List (List ℕ)) × (lines_of all ≡ given ++ others)
begins_short all rest given v s =
    let after : List ℕ = s.begun ++ (v.waiting ++ rest) in (
      without_empty_last (pieces_of after),
      ap lines_of s.came ∙ ap without_empty_last (s.goes_on rest)
          ∙ without_empty_last-append given (pieces_of after) (omega (arith, length-slice_split is_newline after)),
    )

begins_long : (all rest : List ℕ) (given : List (List ℕ)) (v : LinesView)
    → Gives KEPT_LEN INPUT_LIMIT (Some all) (Some rest) given v
    → (others : List (List ℕ)) × (ended_lines (take INPUT_LIMIT all) ≡ given ++ others)
begins_long all rest given v s =
    let near : List ℕ = s.begun ++ (v.waiting ++ take v.room rest) in
    let limited : take INPUT_LIMIT all ≡ s.read ++ take v.room rest =
    ap (take INPUT_LIMIT) s.came ∙ ap (λ n. take n (s.read ++ rest)) (sym s.room ∙ omega arith)
    ∙ take-append-add s.read rest v.room in (
      all_but_last (pieces_of near),
      ap ended_lines limited ∙ ap all_but_last (s.goes_on (take v.room rest))
          ∙ all_but_last-append given (pieces_of near) (omega (arith, length-slice_split is_newline near)),
    )

begin_by : (is_long : Bool) (all rest : List ℕ) (given : List (List ℕ)) (v : LinesView)
    → Gives KEPT_LEN INPUT_LIMIT (Some all) (Some rest) given v
    → (others : List (List ℕ)) × (cond is_long (ended_lines (take INPUT_LIMIT all)) (lines_of all) ≡ given ++ others)
begin_by true all rest given v s = begins_long all rest given v s
begin_by false all rest given v s = begins_short all rest given v s

-- The lines begin those that can be had of an input.
abbrev pub Begins : Option (List ℕ) → List (List ℕ) → Type 0
Begins input given = IfSome input (λ all. (others : List (List ℕ)) × (lines_within all ≡ given ++ others))

gives_begins : (input rest : Option (List ℕ)) (given : List (List ℕ)) (v : LinesView)
    → Gives KEPT_LEN INPUT_LIMIT input rest given v → Begins input given
gives_begins None rest given v s = tt
gives_begins (Some all) None given v s = absurd s.came
gives_begins (Some all) (Some rest) given v s = begin_by (ltb INPUT_LIMIT (length all)) all rest given v s

-- of an input within the limit all lines can be had
within_all : (all : List ℕ) → length all ≤ INPUT_LIMIT → lines_within all ≡ lines_of all
within_all all few =
    ap (λ b. cond b (ended_lines (take INPUT_LIMIT all)) (lines_of all)) (le-ltb INPUT_LIMIT (length all) few)

done_begins : (input rest : Option (List ℕ)) (given : List (List ℕ)) → Done INPUT_LIMIT input rest given
    → Begins input given
done_begins None rest given s = tt
done_begins (Some all) rest given s = ([], within_all all s.lines.0 ∙ s.lines.1 ∙ sym (append-nil given))

-- The present line is the next one, as far as it is kept, and goes on those before.
abbrev pub IsNext : Option (List ℕ) → List (List ℕ) → List ℕ → Type 0
IsNext input given line = (raw : List ℕ) × (take KEPT_LEN line ≡ take KEPT_LEN raw) × Begins input (given ++ raw ∷ [])

pub next_is : (input rest : Option (List ℕ)) (given : List (List ℕ)) (v : LinesView) (line : List ℕ) → line ≡ v.line → GivesNext KEPT_LEN INPUT_LIMIT input rest given v true → IsNext input given line
next_is input rest given v line e (raw, front, gives) = (raw, ap (take KEPT_LEN) e ∙ front, gives_begins input rest (given ++ raw ∷ []) v gives)

pub last_is : (input rest : Option (List ℕ)) (given : List (List ℕ)) (line : List ℕ)
    → GivesLast KEPT_LEN INPUT_LIMIT input rest given (Some line) → IsNext input given line
last_is input rest given line (raw, front, done) = (raw, front, done_begins input rest (given ++ raw ∷ []) done)

-- ---- a command

some_command : (line raw : List ℕ) (command : List ℕ) → take KEPT_LEN line ≡ take KEPT_LEN raw
    → command_of line ≡ Some command → IsCommand raw
some_command line raw command e h = ap is_some (kept_decides line raw e ∙ h)

-- one reply more
pub text_more : (before between after : Option (List ℕ)) (replies : List (List ℕ)) (reply : List ℕ)
    → Appends before between (replies_text replies) → Appends between after (reply_line reply)
    → Appends before after (replies_text (replies ++ reply ∷ []))
text_more before between after replies reply printed more =
    subst (Appends before after)
    (sym
    (flat_map-append reply_line replies (reply ∷ [])
    ∙ ap (λ l. replies_text replies ++ l) (append-nil (reply_line reply))))
    (Appends-trans before between after (replies_text replies) (reply_line reply) printed more)

one_sent : (raw command : List ℕ) → command_of raw ≡ Some command → commands_sent (raw ∷ []) ≡ command_item command ∷ []
one_sent raw command is = ap (λ o. item_for o ++ []) is

-- one command more
sent_more : (given : List (List ℕ)) (before sent : List ItemView) (raw command : List ℕ) → before ≡ commands_sent given
    → sent ≡ command_item command ∷ [] → command_of raw ≡ Some command
    → before ++ sent ≡ commands_sent (given ++ raw ∷ [])
sent_more given before sent raw command so_far now is =
    ap (λ l. l ++ sent) so_far ∙ ap (λ l. commands_sent given ++ l) (now ∙ sym (one_sent raw command is))
    ∙ sym (flat_map-append (λ line. item_for (command_of line)) given (raw ∷ []))

-- a command got its reply
pub asked_more : (p : Pace) (first mid last : Talker) (before between after : Option (List ℕ)) (replied : ℕ) (given : List (List ℕ)) (line raw : List ℕ) → take KEPT_LEN line ≡ take KEPT_LEN raw → Asked p first mid before between replied given
    → AsksLine p mid last replied line between after (Ok true) → Asked p first last before after (replied + 1) (given ++ raw ∷ [])
asked_more p first mid last before between after replied given line raw front s (command, reply, is, (talk, talks, any, (sent, received)), printed) = record {
  count = length-append given (raw ∷ []) ∙ ap (λ n. n + 1) s.count;
  commands = All-push IsCommand given raw s.commands (some_command line raw command front is);
  printed = record {
    replies = s.printed.replies ++ reply ∷ [];
    number = length-append s.printed.replies (reply ∷ []) ∙ ap (λ n. n + 1) s.printed.number;
    text = text_more before between after s.printed.replies reply s.printed.text printed;
  };
  talk = and_later s.talk talk;
  talks = talks_on p first mid last s.talk talk s.talks talks;
  sent = sent_more given s.talk.sent talk.sent raw command s.sent sent (kept_decides line raw front ∙ is);
  received = ap (λ l. s.talk.received ++ l) received ∙ ap (λ l. l ++ reply ∷ []) s.received;
}

pub last_asked : (p : Pace) (first mid last : Talker) (input rest before between after : Option (List ℕ)) (replied : ℕ)
    (given : List (List ℕ)) (line : List ℕ)
    → Asked p first mid before between replied given
    → GivesLast KEPT_LEN INPUT_LIMIT input rest given (Some line)
    → AsksLine p mid last replied line between after (Ok true)
    → AskedAll p first last input rest before after (replied + 1)
last_asked p first mid last input rest before between after replied given line s (raw, front, done) asks =
    (given ++ raw ∷ [], asked_more p first mid last before between after replied given line raw front s asks, done)

-- ---- turns between commands

-- so many turns, in which nothing was sent or received
abbrev pub idle : ℕ → List Ask → Talk
idle turns asks = record { sent = []; received = []; turns = turns; asks = asks }

pub idles_none : (p : Pace) (c : Talker) → Idles p c c
idles_none p c = (0, [], talks_none p c)

-- one turn more
pub idles_on : (p : Pace) (Asked : List Ask → Type 0) (c d e : Talker) (now : ℕ) → Idles p c d → p.Shows now
    → TurnsAt Asked (p.Waits true) now d.queue e.queue (asked_again p now d.caller) e.caller → Idles p c e
idles_on p Asked c d e now (turns, asks, talks) shown turned =
    let (more, asked, exact) = asks_of Asked (p.Waits true) now d.queue e.queue (asked_again p now d.caller) e.caller turned in (
      turns + 1,
      asks ++ more,
      talks_on p c d e (idle turns asks) (idle 1 more) talks
          (record { steps = Turns now more ∷ []; goes = (d, refl, (shown, exact)); same = refl }),
    )

asked_idle : (p : Pace) (first mid last : Talker) (before after : Option (List ℕ)) (replied : ℕ)
    (given : List (List ℕ))
    → Asked p first mid before after replied given → Idles p mid last
    → Asked p first last before after replied given
asked_idle p first mid last before after replied given s (turns, asks, talks) = record {
  count = s.count;
  commands = s.commands;
  printed = s.printed;
  talk = and_later s.talk (idle turns asks);
  talks = talks_on p first mid last s.talk (idle turns asks) s.talks talks;
  sent = append-nil s.talk.sent ∙ s.sent;
  received = append-nil s.talk.received ∙ s.received;
}

-- what was asked stays asked where turns went by before more came
pub given_idle : (p : Pace) (first mid last : Talker) (input rest later before after : Option (List ℕ)) (replied : ℕ)
    (v : LinesView)
    → AskedGiven p first mid input rest before after replied v → Idles p mid last → later ≡ rest
    → AskedGiven p first last input later before after replied v
given_idle p first mid last input rest later before after replied v (given, s, gives) idles same = (
  given,
  asked_idle p first mid last before after replied given s idles,
  subst (λ r. Gives KEPT_LEN INPUT_LIMIT input r given v) (sym same) gives,
)

-- ---- how a run ends

tried_first : (input : Option (List ℕ)) (tried : List (List ℕ)) (count : ℕ) → All IsCommand tried → length tried ≡ count
    → Begins input tried → IfSome input (λ all. BeginWithCommands count (lines_within all))
tried_first None tried count commands number h = tt
tried_first (Some all) tried count commands number h =
    record { tried = tried; others = h.0; whole = h.1; commands = commands; number = number }

same_count : (n : ℕ) → eqb n n ≡ true
same_count n = grind (arith, nat_tests)

less_count : (n : ℕ) → eqb n (n + 1) ≡ false
less_count n = grind (arith, nat_tests)

-- where each command got a reply, nothing stands behind the replies; else it is said that one got none
pub whole_text : (before after : Option (List ℕ)) (replied : ℕ) (replies : List (List ℕ))
    → Appends before after (replies_text replies)
    → Appends before after (replies_text replies ++ ending_of (record { commands = replied; replied = replied }))
whole_text before after replied replies printed =
    subst (Appends before after)
    (sym (ap (λ b. replies_text replies ++ cond b [] no_reply_line) (same_count replied) ∙ append-nil _)) printed

pub part_text : (before between after : Option (List ℕ)) (replied : ℕ) (replies : List (List ℕ))
    → Appends before between (replies_text replies) → Appends between after no_reply_line
    → Appends before after (replies_text replies ++ ending_of (record { commands = replied + 1; replied = replied }))
part_text before between after replied replies printed none =
    subst (Appends before after) (sym (ap (λ b. replies_text replies ++ cond b [] no_reply_line) (less_count replied)))
    (Appends-trans before between after (replies_text replies) no_reply_line printed none)

all_given : (input rest : Option (List ℕ)) (given : List (List ℕ)) (replied : ℕ) → length given ≡ replied
    → All IsCommand given → Done INPUT_LIMIT input rest given
    → IfSome input (λ all. (length all ≤ INPUT_LIMIT) × AreCommands replied (lines_of all))
all_given None rest given replied count commands s = tt
all_given (Some all) rest given replied count commands s =
    (s.lines.0, (subst (All IsCommand) (sym s.lines.1) commands, ap length s.lines.1 ∙ count))

-- each command got a reply
pub ran_to_end : (p : Pace) (first last : Talker) (input rest before after : Option (List ℕ)) (replied : ℕ)
    → AskedAll p first last input rest before after replied
    → Ran input rest before after (record { commands = replied; replied = replied })
ran_to_end p first last input rest before after replied (given, s, done) = record {
  counts = (omega arith, omega arith);
  text = record {
    replies = s.printed.replies;
    number = s.printed.number;
    text = whole_text before after replied s.printed.replies s.printed.text;
  };
  tried = tried_first input given replied s.commands s.count (done_begins input rest given done);
  whole = λ _. all_given input rest given replied s.count s.commands done;
  ended = λ _. done.ended;
}

-- a command got no reply
pub ran_in_part : (p : Pace) (first mid last : Talker) (input rest before between after : Option (List ℕ)) (replied : ℕ)
    (given : List (List ℕ)) (line : List ℕ)
    → Asked p first mid before between replied given
    → IsNext input given line → AsksLine p mid last replied line between after (Ok false)
    → Ran input rest before after (record { commands = replied + 1; replied = replied })
ran_in_part p first mid last input rest before between after replied given line s (raw, front, begun)
    (command, is, exchange, printed) =
    let differ : replied ≡ replied + 1 → ⊥ = λ same. omega (arith, same) in
    record {
      counts = (omega arith, omega arith);
      text = record {
        replies = s.printed.replies;
        number = s.printed.number;
        text = part_text before between after replied s.printed.replies s.printed.text printed;
      };
      tried =
          tried_first input (given ++ raw ∷ []) (replied + 1)
          (All-push IsCommand given raw s.commands (some_command line raw command front is))
          (length-append given (raw ∷ []) ∙ ap (λ n. n + 1) s.count) begun;
      whole = λ same. absurd (differ same);
      ended = λ same. absurd (differ same);
    }

first_bad : (input : Option (List ℕ)) (given : List (List ℕ)) (raw : List ℕ) (replied : ℕ) → length given ≡ replied
    → All IsCommand given → command_of raw ≡ None → Begins input (given ++ raw ∷ [])
    → IfSome input (λ all. IsFirstBad (replied + 1) (lines_within all))
first_bad None given raw replied count commands none h = tt
first_bad (Some all) given raw replied count commands none h = record {
  good = given;
  bad = raw;
  others = h.0;
  whole = h.1 ∙ append_assoc given (raw ∷ []) h.0;
  commands = commands;
  none = none;
  count = ap (λ n. n + 1) (sym count);
}

met_bad : (p : Pace) (first last : Talker) (input rest before between after : Option (List ℕ)) (replied : ℕ)
    (given : List (List ℕ)) (line : List ℕ)
    → Asked p first last before between replied given
    → IsNext input given line → command_of line ≡ None → after ≡ between
    → Runs input rest before after (Err (BadScript (replied + 1)))
met_bad p first last input rest before between after replied given line s (raw, front, begun) is same =
    let number : replied ≡ replied + 1 - 1 = omega arith in (
      first_bad input given raw replied s.count s.commands (kept_decides line raw front ∙ is) begun,
      subst (λ n. PrintsReplies n before after) number (subst (PrintsReplies replied before) (sym same) s.printed),
    )

-- a line stands for no command, or its turns or its text met a fault
pub line_runs : (p q : Pace) (first mid last : Talker) (input rest before between after : Option (List ℕ)) (replied : ℕ) (given : List (List ℕ)) (line : List ℕ) (fault : RunFault) → Asked p first mid before between replied given
    → IsNext input given line → AsksLine q mid last replied line between after (Err fault) → Runs input rest before after (Err fault)
line_runs p q first mid last input rest before between after replied given line (BadScript number) s next (none, e, same, still) =
    subst (λ n. Runs input rest before after (Err (BadScript n))) (sym e) (met_bad p first mid input rest before between after replied given line s next none same)
line_runs p q first mid last input rest before between after replied given line WriteFault s next h = tt
line_runs p q first mid last input rest before between after replied given line LinkFault s next h = tt
line_runs p q first mid last input rest before between after replied given line ClockFault s next h = tt
line_runs p q first mid last input rest before between after replied given line NoMemory s next h = absurd h
line_runs p q first mid last input rest before between after replied given line ReadFault s next h = absurd h
line_runs p q first mid last input rest before between after replied given line InputTooLong s next h = absurd h

replies_to : (given lines : List (List ℕ)) (before after : Option (List ℕ)) (replied : ℕ) → given ≡ lines
    → length given ≡ replied → All IsCommand given → PrintsReplies replied before after
    → All IsCommand lines × PrintsReplies (length lines) before after
replies_to given lines before after replied e count commands printed =
    (subst (All IsCommand) e commands, subst (λ n. PrintsReplies n before after) (sym count ∙ ap length e) printed)

past_runs : (input before after : Option (List ℕ)) (given : List (List ℕ)) (replied : ℕ) → length given ≡ replied
    → All IsCommand given → PrintsReplies replied before after
    → IfSome input (λ all. (INPUT_LIMIT < length all) × (given ≡ ended_lines (take INPUT_LIMIT all)))
    → IfSome input
    (λ all. (INPUT_LIMIT < length all)
    × (All IsCommand (ended_lines (take INPUT_LIMIT all))
    × PrintsReplies (length (ended_lines (take INPUT_LIMIT all))) before after))
past_runs None before after given replied count commands printed h = tt
past_runs (Some all) before after given replied count commands printed h =
    (h.0, replies_to given _ before after replied h.1 count commands printed)

-- no more could be had
pub unread_runs : (p : Pace) (first last : Talker) (input rest before after : Option (List ℕ)) (replied : ℕ) (given : List (List ℕ)) (v : LinesView) (fault : RunFault) → Asked p first last before after replied given
    → GivesMore KEPT_LEN INPUT_LIMIT input rest given v (Err fault) → Runs input rest before after (Err fault)
unread_runs p first last input rest before after replied given v ReadFault s (read, consumed, e) = (read, consumed, replies_to given _ before after replied e s.count s.commands s.printed)
unread_runs p first last input rest before after replied given v InputTooLong s h = past_runs input before after given replied s.count s.commands s.printed h
unread_runs p first last input rest before after replied given v WriteFault s h = absurd h
unread_runs p first last input rest before after replied given v NoMemory s h = absurd h
unread_runs p first last input rest before after replied given v (BadScript number) s h = absurd h
unread_runs p first last input rest before after replied given v LinkFault s h = absurd h
unread_runs p first last input rest before after replied given v ClockFault s h = absurd h

-- nothing was asked yet
pub nothing_asked : (p : Pace) (first : Talker) (before : Option (List ℕ)) → Asked p first first before before 0 []
nothing_asked p first before = record {
  count = refl;
  commands = All-nil _;
  printed = record { replies = []; number = refl; text = Appends-nil before };
  talk = silence;
  talks = talks_none p first;
  sent = refl;
  received = refl;
}

-- ---- what was sent and received

-- the lines that were given are so many first ones
given_first : (input : Option (List ℕ)) (given : List (List ℕ)) (count : ℕ) → length given ≡ count → Begins input given
    → IfSome input (λ all. given ≡ take count (lines_within all))
given_first None given count number h = tt
given_first (Some all) given count number (others, whole) =
    sym
    (ap (λ n. take n (lines_within all)) (sym number) ∙ ap (take (length given)) whole ∙ take-append_seam given others)

sent_by : (input : Option (List ℕ)) (given : List (List ℕ)) (count : ℕ) (sent : List ItemView)
    → sent ≡ commands_sent given → IfSome input (λ all. given ≡ take count (lines_within all))
    → IfSome input (λ all. sent ≡ commands_sent (take count (lines_within all)))
sent_by None given count sent e h = tt
sent_by (Some all) given count sent e h = e ∙ ap commands_sent h

first_sent : (input : Option (List ℕ)) (given : List (List ℕ)) (count : ℕ) (sent : List ItemView)
    → sent ≡ commands_sent given → length given ≡ count → Begins input given
    → IfSome input (λ all. sent ≡ commands_sent (take count (lines_within all)))
first_sent input given count sent e number h = sent_by input given count sent e (given_first input given count number h)

tried_sent : (input : Option (List ℕ)) (given : List (List ℕ)) (count : ℕ) (sent last : List ItemView)
    → sent ++ last ≡ commands_sent given → length given ≡ count → Begins input given
    → IfSome input (λ all. commands_sent (take count (lines_within all)) ≡ sent ++ last)
tried_sent None given count sent last e number h = tt
tried_sent (Some all) given count sent last e number h =
    sym (first_sent (Some all) given count (sent ++ last) e number h)

fewer_begin : (input : Option (List ℕ)) (given : List (List ℕ)) (raw : List ℕ) → Begins input (given ++ raw ∷ [])
    → Begins input given
fewer_begin None given raw h = tt
fewer_begin (Some all) given raw (others, whole) = (raw ∷ others, whole ∙ append_assoc given (raw ∷ []) others)

received_text : (before after : Option (List ℕ)) (printed received : List (List ℕ)) (more : List ℕ) → received ≡ printed
    → Appends before after (replies_text printed ++ more) → Appends before after (replies_text received ++ more)
received_text before after printed received more e h = subst (λ l. Appends before after (replies_text l ++ more)) (sym e) h

-- each command got a reply
pub asks_to_end : (p : Pace) (first last parted : Talker) (input rest before after : Option (List ℕ)) (replied : ℕ)
    → AskedAll p first last input rest before after replied → SendsFarewell p Anything last parted
    → AsksAll p first parted input before after (record { commands = replied; replied = replied })
asks_to_end p first last parted input rest before after replied (given, s, done) farewell = record {
  talk = s.talk;
  replied = last;
  asks = s.talks;
  sent = first_sent input given replied s.talk.sent s.sent s.count (done_begins input rest given done);
  received = ap length s.received ∙ s.printed.number;
  text =
      received_text before after s.printed.replies s.talk.received _ s.received
      (whole_text before after replied s.printed.replies s.printed.text);
  to_end = λ _. farewell;
  in_part = λ differ. absurd (omega (arith, differ));
}

-- a command got no reply
pub asks_in_part : (p : Pace) (first last parted : Talker) (input before between after : Option (List ℕ)) (replied : ℕ)
    (given : List (List ℕ)) (line : List ℕ)
    → Asked p first last before between replied given
    → IsNext input given line → AsksLine p last parted replied line between after (Ok false)
    → AsksAll p first parted input before after (record { commands = replied + 1; replied = replied })
asks_in_part p first last parted input before between after replied given line s (raw, front, begun)
    (command, is, exchange, printed) = record {
      talk = s.talk;
      replied = last;
      asks = s.talks;
      sent = first_sent input given replied s.talk.sent s.sent s.count (fewer_begin input given raw begun);
      received = ap length s.received ∙ s.printed.number;
      text =
          received_text before after s.printed.replies s.talk.received _ s.received
          (part_text before between after replied s.printed.replies s.printed.text printed);
      to_end = λ same. absurd (omega (arith, same));
      in_part = λ _. (
        command,
        exchange,
        tried_sent input (given ++ raw ∷ []) (replied + 1) s.talk.sent (command_item command ∷ [])
            (sent_more given s.talk.sent (command_item command ∷ []) raw command s.sent refl
            (kept_decides line raw front ∙ is))
            (length-append given (raw ∷ []) ∙ ap (λ n. n + 1) s.count) begun,
      );
    }

-- ---- what was asked before a fault

asked_printed : (p : Pace) (first last : Talker) (before between after : Option (List ℕ)) (replied : ℕ)
    (given : List (List ℕ))
    → after ≡ between → Asked p first last before between replied given
    → Asked p first last before after replied given
asked_printed p first last before between after replied given same s =
    subst (λ o. Asked p first last before o replied given) (sym same) s

bad_before : (p : Pace) (first last : Talker) (input rest before after : Option (List ℕ)) (replied : ℕ)
    (given : List (List ℕ)) (raw : List ℕ)
    → Asked p first last before after replied given → Begins input (given ++ raw ∷ [])
    → AsksBefore p first last input rest before after (BadScript (replied + 1))
bad_before p first last input rest before after replied given raw s begun =
    let number : replied ≡ replied + 1 - 1 = omega arith in (
      given,
      subst (λ n. Asked p first last before after n given) number s,
      given_first input given (replied + 1 - 1) (s.count ∙ number) (fewer_begin input given raw begun),
    )

met_before : (p : Pace) (first mid last : Talker) (input rest before between after : Option (List ℕ))
    (replied number : ℕ) (given : List (List ℕ)) (line : List ℕ)
    → Asked p first mid before between replied given → IsNext input given line
    → AsksLine p mid last replied line between after (Err (BadScript number))
    → AsksBefore p first last input rest before after (BadScript number)
met_before p first mid last input rest before between after replied number given line s (raw, front, begun)
    (none, e, same, still) =
    subst (λ n. AsksBefore p first last input rest before after (BadScript n)) (sym e)
    (subst (λ t. AsksBefore p first t input rest before after (BadScript (replied + 1))) (sym still)
    (bad_before p first mid input rest before after replied given raw
    (asked_printed p first mid before between after replied given same s) begun))

-- at the same pace
pub line_paced : (q p : Pace) (mid last : Talker) (replied : ℕ) (line : List ℕ) (between after : Option (List ℕ))
    (fault : RunFault)
    → q ≡ p → AsksLine q mid last replied line between after (Err fault)
    → AsksLine p mid last replied line between after (Err fault)
line_paced q p mid last replied line between after fault same asks =
    subst (λ t. AsksLine t mid last replied line between after (Err fault)) same asks

-- a line stands for no command, or its turns or its text met a fault
pub line_before : (p : Pace) (first mid last : Talker) (input rest before between after : Option (List ℕ))
    (replied : ℕ) (given : List (List ℕ)) (line : List ℕ) (fault : RunFault)
    → Asked p first mid before between replied given → IsNext input given line
    → AsksLine p mid last replied line between after (Err fault)
    → AsksBefore p first last input rest before after fault
line_before p first mid last input rest before between after replied given line (BadScript number) s next h =
    met_before p first mid last input rest before between after replied number given line s next h
line_before p first mid last input rest before between after replied given line WriteFault s next
    (command, reply, is, (talk, talks, any, exchange)) =
    (and_later s.talk talk, talks_on p first mid last s.talk talk s.talks talks)
line_before p first mid last input rest before between after replied given line LinkFault s next h = tt
line_before p first mid last input rest before between after replied given line ClockFault s next h = tt
line_before p first mid last input rest before between after replied given line NoMemory s next h = absurd h
line_before p first mid last input rest before between after replied given line ReadFault s next h = absurd h
line_before p first mid last input rest before between after replied given line InputTooLong s next h = absurd h

asked_to : (p : Pace) (first last : Talker) (before after : Option (List ℕ)) (replied : ℕ) (given lines : List (List ℕ))
    → given ≡ lines → Asked p first last before after replied given
    → Asked p first last before after (length lines) lines
asked_to p first last before after replied given lines e s =
    subst (λ l. Asked p first last before after (length l) l) e
    (subst (λ n. Asked p first last before after n given) (sym s.count) s)

past_before : (input : Option (List ℕ)) (given : List (List ℕ))
    → IfSome input (λ all. (INPUT_LIMIT < length all) × (given ≡ ended_lines (take INPUT_LIMIT all)))
    → IfSome input (λ all. given ≡ ended_lines (take INPUT_LIMIT all))
past_before None given h = tt
past_before (Some all) given h = h.1

-- no more could be had
pub unread_before : (p : Pace) (first last : Talker) (input rest before after : Option (List ℕ)) (replied : ℕ)
    (given : List (List ℕ)) (v : LinesView) (fault : RunFault)
    → Asked p first last before after replied given
    → GivesMore KEPT_LEN INPUT_LIMIT input rest given v (Err fault)
    → AsksBefore p first last input rest before after fault
unread_before p first last input rest before after replied given v ReadFault s (read, consumed, e) =
    (read, consumed, asked_to p first last before after replied given _ e s)
unread_before p first last input rest before after replied given v InputTooLong s h =
    (given, asked_to p first last before after replied given given refl s, past_before input given h)
unread_before p first last input rest before after replied given v WriteFault s h = absurd h
unread_before p first last input rest before after replied given v NoMemory s h = absurd h
unread_before p first last input rest before after replied given v (BadScript number) s h = absurd h
unread_before p first last input rest before after replied given v LinkFault s h = absurd h
unread_before p first last input rest before after replied given v ClockFault s h = absurd h

-- ---- a whole run

-- what was asked stays asked where the writer fails
pub unwritten_before : (p : Pace) (first last : Talker) (input rest before after : Option (List ℕ)) (replied : ℕ)
    (given : List (List ℕ)) (fault : RunFault)
    → fault ≡ WriteFault → Asked p first last before after replied given
    → AsksBefore p first last input rest before after fault
unwritten_before p first last input rest before after replied given fault is s =
    let talked : AsksBefore p first last input rest before after WriteFault = (s.talk, s.talks) in
    subst (λ f. AsksBefore p first last input rest before after f) (sym is) talked

-- ---- a fault of a turn

-- where it is the link's, failures were counted
pub turn_failed : (Stops : Type 0) (count : ℕ) (fault : NodeFault) → IsTurnFault Stops count fault
    → run_fault fault ≡ LinkFault → 0 < count
turn_failed Stops count node.Link h same = h
turn_failed Stops count node.Clock h same = absurd (cc)
turn_failed Stops count node.NoMemory h same = absurd h

pub line_broken : (p : Pace) (Stops : Type 0) (count : ℕ) (first last : Talker) (replied : ℕ) (line : List ℕ)
    (before after : Option (List ℕ)) (fault : NodeFault)
    → IsTurnFault Stops count fault → AsksLine p first last replied line before after (Err (run_fault fault))
line_broken p Stops count first last replied line before after node.Link h = tt
line_broken p Stops count first last replied line before after node.Clock h = tt
line_broken p Stops count first last replied line before after node.NoMemory h = absurd h

pub run_broken : (input rest before after : Option (List ℕ)) (fault : NodeFault)
    → Runs input rest before after (Err (run_fault fault))
run_broken input rest before after node.Link = tt
run_broken input rest before after node.Clock = tt
run_broken input rest before after node.NoMemory = tt

pub asks_broken : (p : Pace) (Stops : Type 0) (count : ℕ) (first parted : Talker) (input rest before after : Option (List ℕ))
    (fault : NodeFault)
    → IsTurnFault Stops count fault → Asks p first parted input rest before after (Err (run_fault fault))
asks_broken p Stops count first parted input rest before after node.Link h = tt
asks_broken p Stops count first parted input rest before after node.Clock h = tt
asks_broken p Stops count first parted input rest before after node.NoMemory h = absurd h

-- It hung up, or met a fault of a turn.
pub parts_or_failed : (p : Pace) (Asked : List Ask → Type 0) (Stops : Type 0) (count : ℕ) (parted : Talker) (queue : Option QueueView)
    (left : CallerView) (later : Result (Unit {0}) NodeFault)
    → OnOk later (HangsUp p Asked parted.queue queue parted.caller left) → IfErr later (IsTurnFault Stops count)
    → Parts p parted queue ⊎ (Stops ⊎ (0 < count))
parts_or_failed p Asked Stops count parted queue left (Ok done) well faults =
    inl (left, hangs_up_by Asked Anything (λ asks asked. tt) p parted.queue queue parted.caller left well)
parts_or_failed p Asked Stops count parted queue left (Err node.Link) well faults = inr (inr faults)
parts_or_failed p Asked Stops count parted queue left (Err node.Clock) well faults = inr (inl faults)
parts_or_failed p Asked Stops count parted queue left (Err node.NoMemory) well faults = absurd faults

pub if_asked : (result : Result ScriptEnd RunFault) (P : Type 0) → P → IfAsked result P
if_asked (Ok end) P h = h
if_asked (Err (BadScript number)) P h = h
if_asked (Err ReadFault) P h = h
if_asked (Err InputTooLong) P h = h
if_asked (Err WriteFault) P h = h
if_asked (Err NoMemory) P h = tt
if_asked (Err LinkFault) P h = tt
if_asked (Err ClockFault) P h = tt

-- a run that ended by a fault
pub broke_off : (p : Pace) (Failed : Type 0) (first parted : Talker) (queue : Option QueueView)
    (input rest before after : Option (List ℕ)) (fault : RunFault)
    → Asks p first parted input rest before after (Err fault) → Parts p parted queue ⊎ Failed
    → Converses p Failed first queue input rest before after (Err fault)
broke_off p Failed first parted queue input rest before after fault asks parts =
    (parted, asks, if_asked (Err fault) (Parts p parted queue ⊎ Failed) parts)

-- a run that couldn't hang up
pub not_parted : (p : Pace) (Stops Failed : Type 0) (count : ℕ) (first parted : Talker) (queue : Option QueueView)
    (input rest before after : Option (List ℕ)) (fault : NodeFault)
    → IsTurnFault Stops count fault → Converses p Failed first queue input rest before after (Err (run_fault fault))
not_parted p Stops Failed count first parted queue input rest before after node.Link h = (parted, tt, tt)
not_parted p Stops Failed count first parted queue input rest before after node.Clock h = (parted, tt, tt)
not_parted p Stops Failed count first parted queue input rest before after node.NoMemory h = absurd h

asked_by : (result : Result ScriptEnd RunFault) (P Q : Type 0) → (P → Q) → IfAsked result P → IfAsked result Q
asked_by (Ok end) P Q f h = f h
asked_by (Err (BadScript number)) P Q f h = f h
asked_by (Err ReadFault) P Q f h = f h
asked_by (Err InputTooLong) P Q f h = f h
asked_by (Err WriteFault) P Q f h = f h
asked_by (Err NoMemory) P Q f h = tt
asked_by (Err LinkFault) P Q f h = tt
asked_by (Err ClockFault) P Q f h = tt

no_other : (P Q : Type 0) → P ⊎ (⊥ ⊎ Q) → P ⊎ Q
no_other P Q (inl p) = inl p
no_other P Q (inr (inl never)) = absurd never
no_other P Q (inr (inr q)) = inr q

-- a run whose moments can always be told
pub failed_there : (p : Pace) (Failed : Type 0) (first : Talker) (queue : Option QueueView)
    (input rest before after : Option (List ℕ)) (result : Result ScriptEnd RunFault)
    → Converses p (⊥ ⊎ Failed) first queue input rest before after result
    → Converses p Failed first queue input rest before after result
failed_there p Failed first queue input rest before after (Ok end) speaks = speaks
failed_there p Failed first queue input rest before after (Err fault) (parted, asks, parts) = (
  parted,
  asks,
  asked_by (Err fault) (Parts p parted queue ⊎ (⊥ ⊎ Failed)) (Parts p parted queue ⊎ Failed)
      (no_other (Parts p parted queue) Failed) parts,
)

-- what follows of a run in which all was asked
pub if_asked_by : (result : Result ScriptEnd RunFault) (P Q : Type 0) → (P → Q) → IfAsked result P → IfAsked result Q
if_asked_by (Ok end) P Q f h = f h
if_asked_by (Err (BadScript number)) P Q f h = f h
if_asked_by (Err ReadFault) P Q f h = f h
if_asked_by (Err InputTooLong) P Q f h = f h
if_asked_by (Err WriteFault) P Q f h = f h
if_asked_by (Err NoMemory) P Q f h = tt
if_asked_by (Err LinkFault) P Q f h = tt
if_asked_by (Err ClockFault) P Q f h = tt

-- a run by a clock that began then
pub by_clock : (Begins Speaks : Epoch → Type 0) (result : Result ScriptEnd RunFault) (epoch : Epoch)
    → Begins epoch → IfAsked result (Speaks epoch) → IfAsked result ((x : Epoch) × Begins x × Speaks x)
by_clock Begins Speaks result epoch begins speaks =
    let run : Speaks epoch → (x : Epoch) × Begins x × Speaks x = λ h. (epoch, begins, h) in
    if_asked_by result (Speaks epoch) ((x : Epoch) × Begins x × Speaks x) run speaks

-- of the same queue, and of as many failures
pub same_link : (p : Pace) (Stops : Type 0) (was count : ℕ) (first : Talker) (before after : Option QueueView)
    (input rest printed all : Option (List ℕ)) (result : Result ScriptEnd RunFault)
    → Converses p (Stops ⊎ (0 < was)) first before input rest printed all result → before ≡ after → was ≡ count
    → Converses p (Stops ⊎ (0 < count)) first after input rest printed all result
same_link p Stops was count first before after input rest printed all result speaks same alike =
    subst (λ q. Converses p (Stops ⊎ (0 < count)) first q input rest printed all result) same
    (subst (λ (n : ℕ). Converses p (Stops ⊎ (0 < n)) first before input rest printed all result) alike speaks)

-- the same of a run in which all was asked
pub asked_link : (p : Pace) (Stops : Type 0) (was count : ℕ) (first : Talker) (before after : Option QueueView)
    (input rest printed all : Option (List ℕ)) (result : Result ScriptEnd RunFault)
    → IfAsked result (Converses p (Stops ⊎ (0 < was)) first before input rest printed all result) → before ≡ after
    → was ≡ count → IfAsked result (Converses p (Stops ⊎ (0 < count)) first after input rest printed all result)
asked_link p Stops was count first before after input rest printed all result speaks same alike =
    if_asked_by result (Converses p (Stops ⊎ (0 < was)) first before input rest printed all result)
    (Converses p (Stops ⊎ (0 < count)) first after input rest printed all result)
    (λ h. same_link p Stops was count first before after input rest printed all result h same alike) speaks

pub asked_there : (p : Pace) (Failed : Type 0) (first : Talker) (queue : Option QueueView)
    (input rest before after : Option (List ℕ)) (result : Result ScriptEnd RunFault)
    → IfAsked result (Converses p (⊥ ⊎ Failed) first queue input rest before after result)
    → IfAsked result (Converses p Failed first queue input rest before after result)
asked_there p Failed first queue input rest before after result speaks =
    if_asked_by result (Converses p (⊥ ⊎ Failed) first queue input rest before after result)
    (Converses p Failed first queue input rest before after result)
    (λ h. failed_there p Failed first queue input rest before after result h) speaks

-- of a run that a fault of a link or of the clock ended nothing follows
pub broken_asked : (result : Result ScriptEnd RunFault) (P : Type 0) → is_broken result ≡ true → IfAsked result P
broken_asked (Ok end) P is = absurd (cc)
broken_asked (Err (BadScript number)) P is = absurd (cc)
broken_asked (Err ReadFault) P is = absurd (cc)
broken_asked (Err InputTooLong) P is = absurd (cc)
broken_asked (Err WriteFault) P is = absurd (cc)
broken_asked (Err NoMemory) P is = tt
broken_asked (Err LinkFault) P is = tt
broken_asked (Err ClockFault) P is = tt
