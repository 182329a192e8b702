-- What is noted of the replies that a run prints.
use Rattle.std.proofs.Common.{◌≡◌, ℕ, ◌+◌, ◌-◌, ◌<◌, ◌≤◌, Bool, true, false, cond, ltb, List, [], ◌∷◌, ◌++◌, All, length, take, refl, sym, ap, ◌∙◌, subst, arith, append_assoc, length-append, length-take, take_all}
use Rattle.std.specs.Prelude.{Option, Some, None, IfSome, position, Result, Ok, Err}
use Rattle.std.specs.Io.BufRead.{strip_last}
use Rattle.std.specs.Io.KnownBytes.{Appends, Keeps}
use Rattle.std.proofs.KnownBytes.{Appends-nil, Appends-kept}
use Rattle.std.proofs.lemmas.Bool.{lt-ltb}
use Rattle.std.proofs.lemmas.Bool.Decides.{nat_tests}
use Rattle.chaos_node.specs.declared.fault.NodeFault.{NodeFault}
use Rattle.chaos_node.specs.declared.fault.NodeFault.TheVariants as node
use Rattle.chaosd_io.specs.BadText.{bad_bytes, is_unprinting, why_text}
use Rattle.chaosd_io.specs.Buffer.{written_of}
use Rattle.chaosd_io.specs.declared.bad_text.BadText.{BadText}
use Rattle.chaosd_io.specs.declared.bad_text.BadText.TheVariants.{TooLong}
use Rattle.chaosd_io.specs.Fault.{run_fault}
use Rattle.chaosd_io.specs.Reader.{LinesView, GivesMore}
use Rattle.chaosd_io.specs.declared.fault.RunFault.{RunFault}
use Rattle.chaosd_io.specs.declared.fault.RunFault.TheVariants.{ReadFault, WriteFault, InputTooLong, NoMemory, BadScript, LinkFault, ClockFault}
use Rattle.chaosd_io.specs.declared.limits.TheConstants.{INPUT_LIMIT, KEPT_LEN, LINE_LIMIT}
use Rattle.file_client.specs.Pace.{Pace}
use Rattle.file_client.specs.Talk.{Talker}
use Rattle.chaosd_ask.specs.declared.end.ScriptEnd.{ScriptEnd}
use Rattle.chaosd_ask.specs.Asking.{AsksLine}
use Rattle.chaosd_ask.specs.Command.{command_of, wrong_command}
use Rattle.chaosd_ask.specs.Conversation.{Asked, is_broken}
use Rattle.chaosd_ask.specs.Notes.{NotesView, NotesLine, NotesReplies, NotesRun, NotesScript, no_notes, notes_after, notes_over}
use Rattle.chaosd_ask.specs.Printed.{no_reply_line}
use Rattle.chaosd_ask.specs.Script.{IsCommand, IsFirstBad, lines_within}
use Rattle.chaosd_io.proofs.Steps.{length-strip_last}
use Rattle.chaosd_ask.proofs.Asking.{Begins, IsNext, kept_decides, part_text, text_more, whole_text}
use Rattle.chaosd_ask.proofs.Handed.{begun_with, nothing_waits}

over_more : (v : NotesView) (replies : List (List ℕ)) (reply : List ℕ)
    → notes_over v (replies ++ reply ∷ []) ≡ notes_after (notes_over v replies) reply
over_more v [] reply = refl
over_more v (first ∷ others) reply = over_more (notes_after v first) others reply

-- nothing was printed yet
pub noted_none : (before : Option (List ℕ)) (v : NotesView) → v ≡ no_notes → NotesReplies 0 before before v
noted_none before v same = record { replies = []; number = refl; text = Appends-nil before; noted = same }

-- one reply more
pub noted_more : (count : ℕ) (before between after : Option (List ℕ)) (v w : NotesView)
    → NotesReplies count before between v → NotesLine between after v w (Ok true)
    → NotesReplies (count + 1) before after w
noted_more count before between after v w s (reply, printed, same) = record {
  replies = s.replies ++ reply ∷ [];
  number = length-append s.replies (reply ∷ []) ∙ ap (λ n. n + 1) s.number;
  text = text_more before between after s.replies reply s.text printed;
  noted = same ∙ ap (λ x. notes_after x reply) s.noted ∙ sym (over_more no_notes s.replies reply);
}

-- the same, once the replies were handed on
pub noted_kept : (count : ℕ) (before between after : Option (List ℕ)) (v : NotesView)
    → NotesReplies count before between v → Keeps between after → NotesReplies count before after v
noted_kept count before between after v s kept = record {
  replies = s.replies;
  number = s.number;
  text = Appends-kept before between after _ s.text kept;
  noted = s.noted;
}

-- ---- how a run ends

-- each command got a reply
pub noted_to_end : (before after : Option (List ℕ)) (replied : ℕ) (v : NotesView) → NotesReplies replied before after v
    → NotesScript (record { commands = replied; replied = replied }) before after v
noted_to_end before after replied v s = record {
  replies = s.replies;
  number = s.number;
  text = whole_text before after replied s.replies s.text;
  noted = s.noted;
}

-- a command got no reply
pub noted_in_part : (p : Pace) (first last : Talker) (line : List ℕ) (before between after : Option (List ℕ)) (replied : ℕ)
    (v w : NotesView)
    → NotesReplies replied before between v → AsksLine p first last replied line between after (Ok false)
    → NotesLine between after v w (Ok false)
    → NotesScript (record { commands = replied + 1; replied = replied }) before after w
noted_in_part p first last line before between after replied v w s (command, is, exchange, printed) same = record {
  replies = s.replies;
  number = s.number;
  text = part_text before between after replied s.replies s.text printed;
  noted = same ∙ s.noted;
}

-- ---- what is wrong with a line

long_wrong : (raw : List ℕ) → KEPT_LEN ≤ length raw → wrong_command raw ≡ TooLong
unfolding wrong_command why_text
long_wrong raw long =
    let text = strip_last 13 raw in
    let test : ltb LINE_LIMIT (length text) ≡ true = lt-ltb LINE_LIMIT _ (omega (arith, length-strip_last 13 raw)) in
    ap (λ b. cond b TooLong (bad_bytes 0 text (position is_unprinting text))) test

front_wrong : (f g : List ℕ) (is_short : Bool) → ltb (length f) KEPT_LEN ≡ is_short
    → take KEPT_LEN f ≡ take KEPT_LEN g → wrong_command f ≡ wrong_command g
front_wrong f g true short e =
    let len : length (take KEPT_LEN f) ≡ length (take KEPT_LEN g) = ap length e in
    let few : length f < KEPT_LEN = grind (arith, nat_tests) in
    ap wrong_command
    (sym (take_all KEPT_LEN f (omega arith)) ∙ e
    ∙ take_all KEPT_LEN g (omega (arith, length-take KEPT_LEN f, length-take KEPT_LEN g)))
front_wrong f g false long e =
    let len : length (take KEPT_LEN f) ≡ length (take KEPT_LEN g) = ap length e in
    let many : KEPT_LEN ≤ length f = grind (arith, nat_tests) in
    long_wrong f many ∙ sym (long_wrong g (omega (arith, length-take KEPT_LEN f, length-take KEPT_LEN g)))

-- what is kept of a line decides that
wrong_kept : (line raw : List ℕ) → take KEPT_LEN line ≡ take KEPT_LEN raw → wrong_command line ≡ wrong_command raw
wrong_kept line raw e = front_wrong line raw (ltb (length line) KEPT_LEN) refl e

bad_first : (input : Option (List ℕ)) (given : List (List ℕ)) (raw : List ℕ) (replied : ℕ) (wrong : Option BadText)
    → length given ≡ replied → All IsCommand given → command_of raw ≡ None → Begins input (given ++ raw ∷ [])
    → wrong ≡ Some (wrong_command raw)
    → IfSome input (λ all. (first : IsFirstBad (replied + 1) (lines_within all)) × (wrong ≡ Some (wrong_command first.bad)))
bad_first None given raw replied wrong count commands none h is = tt
bad_first (Some all) given raw replied wrong count commands none h is = (
  record {
    good = given;
    bad = raw;
    others = h.0;
    whole = h.1 ∙ append_assoc given (raw ∷ []) h.0;
    commands = commands;
    none = none;
    count = ap (λ n. n + 1) (sym count);
  },
  is,
)

-- ---- a line

-- It stands for no command, or its turns or its text met a fault.
pub line_noted : (p q : Pace) (first mid other last : Talker) (input before between after : Option (List ℕ)) (replied : ℕ)
    (given : List (List ℕ)) (line : List ℕ) (wrong : Option BadText) (v w : NotesView) (fault : RunFault)
    → Asked p first mid before between replied given → IsNext input given line
    → NotesReplies replied before between v
    → ((number : ℕ) → fault ≡ BadScript number → wrong ≡ Some (wrong_command line))
    → AsksLine q other last replied line between after (Err fault)
    → NotesLine between after v w (Err fault) → NotesRun input before after wrong w (Err fault)
line_noted p q first mid other last input before between after replied given line wrong v w (BadScript number) s
    (raw, front, begun) noted why (none, is, same, still) now =
    let count : replied ≡ number - 1 = omega (arith, is) in
    let bad : wrong ≡ Some (wrong_command raw) = why number refl ∙ ap Some (wrong_kept line raw front) in (
      subst (λ n. NotesReplies n before after w) count
          (subst (λ x. NotesReplies replied before after x) (sym now)
          (subst (λ o. NotesReplies replied before o v) (sym same) noted)),
      subst (λ n. IfSome input (λ all. (first : IsFirstBad n (lines_within all)) × (wrong ≡ Some (wrong_command first.bad))))
          (sym is)
          (bad_first input given raw replied wrong s.count s.commands (kept_decides line raw front ∙ none) begun bad),
    )
line_noted p q first mid other last input before between after replied given line wrong v w WriteFault s next noted why h now = tt
line_noted p q first mid other last input before between after replied given line wrong v w LinkFault s next noted why h now = tt
line_noted p q first mid other last input before between after replied given line wrong v w ClockFault s next noted why h now = tt
line_noted p q first mid other last input before between after replied given line wrong v w NoMemory s next noted why h now = tt
line_noted p q first mid other last input before between after replied given line wrong v w ReadFault s next noted why h now = absurd h
line_noted p q first mid other last input before between after replied given line wrong v w InputTooLong s next noted why h now = absurd h

-- no more could be had
pub unread_noted : (input rest before after : Option (List ℕ)) (given : List (List ℕ)) (lines : LinesView) (replied : ℕ)
    (wrong : Option BadText) (v : NotesView) (fault : RunFault)
    → NotesReplies replied before after v → GivesMore KEPT_LEN INPUT_LIMIT input rest given lines (Err fault)
    → NotesRun input before after wrong v (Err fault)
unread_noted input rest before after given lines replied wrong v ReadFault s h = (replied, s)
unread_noted input rest before after given lines replied wrong v InputTooLong s h = (replied, s)
unread_noted input rest before after given lines replied wrong v (BadScript number) s h = absurd h
unread_noted input rest before after given lines replied wrong v WriteFault s h = tt
unread_noted input rest before after given lines replied wrong v NoMemory s h = tt
unread_noted input rest before after given lines replied wrong v LinkFault s h = tt
unread_noted input rest before after given lines replied wrong v ClockFault s h = tt

-- the writer failed
pub unwritten_noted : (input before after : Option (List ℕ)) (wrong : Option BadText) (v : NotesView) (fault : RunFault) → fault ≡ WriteFault
    → NotesRun input before after wrong v (Err fault)
unwritten_noted input before after wrong v fault is =
    let nothing : NotesRun input before after wrong v (Err WriteFault) = tt in
    subst (λ f. NotesRun input before after wrong v (Err f)) (sym is) nothing

-- a turn met a fault
pub broken_noted : (input before after : Option (List ℕ)) (wrong : Option BadText) (v : NotesView) (fault : NodeFault)
    → NotesRun input before after wrong v (Err (run_fault fault))
broken_noted input before after wrong v node.Link = tt
broken_noted input before after wrong v node.Clock = tt
broken_noted input before after wrong v node.NoMemory = tt

-- so it ended before what waited was handed on
pub ended_noted : (input before after : Option (List ℕ)) (wrong : Option BadText) (v : NotesView) (result : Result ScriptEnd RunFault)
    → is_broken result ≡ true → NotesRun input before after wrong v result
ended_noted input before after wrong v (Err LinkFault) is = tt
ended_noted input before after wrong v (Err ClockFault) is = tt
ended_noted input before after wrong v (Err WriteFault) is = tt
ended_noted input before after wrong v (Err NoMemory) is = tt
ended_noted input before after wrong v (Err ReadFault) is = absurd (cc)
ended_noted input before after wrong v (Err InputTooLong) is = absurd (cc)
ended_noted input before after wrong v (Err (BadScript number)) is = absurd (cc)
ended_noted input before after wrong v (Ok end) is = absurd (cc)

script_kept : (end : ScriptEnd) (before between after : Option (List ℕ)) (v : NotesView)
    → NotesScript end before between v → Keeps between after → NotesScript end before after v
script_kept end before between after v s kept = record {
  replies = s.replies;
  number = s.number;
  text = Appends-kept before between after _ s.text kept;
  noted = s.noted;
}

run_kept : (input before between after : Option (List ℕ)) (wrong : Option BadText) (v : NotesView) (result : Result ScriptEnd RunFault)
    → NotesRun input before between wrong v result → Keeps between after → NotesRun input before after wrong v result
run_kept input before between after wrong v (Ok end) s kept = script_kept end before between after v s kept
run_kept input before between after wrong v (Err (BadScript number)) (s, bad) kept =
    (noted_kept (number - 1) before between after v s kept, bad)
run_kept input before between after wrong v (Err ReadFault) (count, s) kept = (count, noted_kept count before between after v s kept)
run_kept input before between after wrong v (Err InputTooLong) (count, s) kept = (count, noted_kept count before between after v s kept)
run_kept input before between after wrong v (Err WriteFault) s kept = tt
run_kept input before between after wrong v (Err NoMemory) s kept = tt
run_kept input before between after wrong v (Err LinkFault) s kept = tt
run_kept input before between after wrong v (Err ClockFault) s kept = tt

-- The run began with nothing that waits, and what waited in the end was handed on.
pub run_noted : (input before between held : Option (List ℕ)) (begun waiting : List ℕ) (wrong : Option BadText) (v : NotesView)
    (result : Result ScriptEnd RunFault)
    → begun ≡ [] → NotesRun input (written_of before begun) between wrong v result → Keeps between (written_of held waiting)
    → waiting ≡ [] → NotesRun input before held wrong v result
run_noted input before between held begun waiting wrong v result none noted kept empty =
    let from : written_of before begun ≡ before = ap (written_of before) none ∙ begun_with before in
    run_kept input before between held wrong v result (subst (λ o. NotesRun input o between wrong v result) from noted)
    (nothing_waits between held waiting empty kept)
