-- A run over a script whose last replies were handed on.
use Rattle.std.proofs.Common.{◌≡◌, ℕ, ◌+◌, ◌-◌, ◌≤◌, Bool, true, false, eqb, arith, List, [], ◌++◌, length, ◌∙◌, refl, sym, ap, subst, append-nil}
use Rattle.std.specs.Prelude.{Option, None, Some, Result, Ok, Err}
use Rattle.std.specs.Io.KnownBytes.{Keeps}
use Rattle.std.proofs.KnownBytes.{Appends-kept}
use Rattle.std.proofs.lemmas.Bool.Decides.{nat_tests}
use Rattle.chaosd_io.specs.Buffer.{written_of}
use Rattle.chaosd_io.specs.Lines.{ended_lines}
use Rattle.chaosd_io.specs.declared.fault.RunFault.{RunFault}
use Rattle.chaosd_io.specs.declared.fault.RunFault.TheVariants.{ReadFault, WriteFault, InputTooLong, NoMemory, BadScript, LinkFault, ClockFault}
use Rattle.chaosd_ask.specs.Asking.{AskedGiven}
use Rattle.chaosd_ask.specs.Conversation.{Asked, Asks, AsksAll, is_broken}
use Rattle.chaosd_ask.specs.Printed.{PrintsReplies}
use Rattle.chaosd_ask.specs.Script.{PrintsRepliesTo, Ran, Runs}
use Rattle.file_client.specs.Pace.{Pace}
use Rattle.file_client.specs.Talk.{Talker, Talk, Talks, and_later}
use Rattle.file_client.proofs.Talking.{talks_on}
use Rattle.chaosd_ask.specs.declared.end.ScriptEnd.{ScriptEnd}
use Rattle.chaosd_io.specs.Reader.{LinesView, Gives, GivesMore}

prints_kept : (count : ℕ) (before between after : Option (List ℕ)) → PrintsReplies count before between
    → Keeps between after → PrintsReplies count before after
prints_kept count before between after s kept =
    record { replies = s.replies; number = s.number; text = Appends-kept before between after _ s.text kept }

prints_to_kept : (lines : List (List ℕ)) (before between after : Option (List ℕ)) → PrintsRepliesTo lines before between
    → Keeps between after → PrintsRepliesTo lines before after
prints_to_kept lines before between after (commands, printed) kept
    = (commands, prints_kept _ before between after printed kept)

asked_kept : (p : Pace) (first last : Talker) (before between after : Option (List ℕ)) (replied : ℕ)
    (given : List (List ℕ))
    → Asked p first last before between replied given → Keeps between after
    → Asked p first last before after replied given
unfolding prints_kept
asked_kept p first last before between after replied given s kept = record {
  count = s.count;
  commands = s.commands;
  printed = prints_kept replied before between after s.printed kept;
  talk = s.talk;
  talks = s.talks;
  sent = s.sent;
  received = s.received;
}

-- what was asked stays asked where the replies are handed on
pub given_kept : (p : Pace) (first last : Talker) (input rest before between after : Option (List ℕ)) (replied : ℕ)
    (v : LinesView)
    → AskedGiven p first last input rest before between replied v → Keeps between after
    → AskedGiven p first last input rest before after replied v
given_kept p first last input rest before between after replied v (given, asked, gives)
    kept = (given, asked_kept p first last before between after replied given asked kept, gives)

-- more lines came
pub some_came : (kept limit : ℕ) (input rest : Option (List ℕ)) (given : List (List ℕ)) (v : LinesView) (more : Bool)
    → more ≡ true → GivesMore kept limit input rest given v (Ok more)
    → Gives kept limit input rest given v
some_came kept limit input rest given v true e gives = gives
some_came kept limit input rest given v false e gives = absurd (cc)

-- what a writer holds, where nothing waits behind it
pub nothing_waits : (between held : Option (List ℕ)) (waiting : List ℕ) → waiting ≡ []
    → Keeps between (written_of held waiting) → Keeps between held
nothing_waits None held waiting none kept = tt
nothing_waits (Some xs) None waiting none kept = absurd kept
nothing_waits (Some xs) (Some ys) waiting none kept = sym (append-nil ys) ∙ (ap (λ l. ys ++ l) (sym none) ∙ kept)

too_long_kept : (input before between after : Option (List ℕ)) → Runs input input before between (Err InputTooLong)
    → Keeps between after → Runs input input before after (Err InputTooLong)
too_long_kept None before between after h kept = tt
too_long_kept (Some all) before between after (long, printed) kept
    = (long, prints_to_kept _ before between after printed kept)

ran_kept : (input rest before between after : Option (List ℕ)) (end : ScriptEnd) → Ran input rest before between end
    → Keeps between after → Ran input rest before after end
ran_kept input rest before between after end s kept = record {
  counts = s.counts;
  text =
      record { replies = s.text.replies; number = s.text.number; text = Appends-kept before between after _ s.text.text kept };
  tried = s.tried;
  whole = s.whole;
  ended = s.ended;
}

runs_kept : (input rest before between after : Option (List ℕ)) (result : Result ScriptEnd RunFault)
    → Runs input rest before between result → Keeps between after → Runs input rest before after result
runs_kept input rest before between after (Ok end) s kept = ran_kept input rest before between after end s kept
runs_kept input rest before between after (Err ReadFault) (read, consumed, printed)
    kept = (read, consumed, prints_to_kept _ before between after printed kept)
runs_kept input rest before between after (Err InputTooLong) s kept = too_long_kept input before between after s kept
runs_kept input rest before between after (Err (BadScript number)) (first, printed) kept
    = (first, prints_kept _ before between after printed kept)
runs_kept input rest before between after (Err WriteFault) s kept = tt
runs_kept input rest before between after (Err NoMemory) s kept = tt
runs_kept input rest before between after (Err LinkFault) s kept = tt
runs_kept input rest before between after (Err ClockFault) s kept = tt

-- The run began with nothing that waits, and what waited in the end was handed on.
pub begun_with : (before : Option (List ℕ)) → written_of before [] ≡ before
begun_with None = refl
begun_with (Some xs) = ap Some (append-nil xs)

pub runs_handed : (input rest before between held : Option (List ℕ)) (begun waiting : List ℕ)
    (result : Result ScriptEnd RunFault)
    → begun ≡ [] → Runs input rest (written_of before begun) between result
    → Keeps between (written_of held waiting) → waiting ≡ [] → Runs input rest before held result
runs_handed input rest before between held begun waiting result none runs kept empty =
    let from : written_of before begun ≡ before = ap (written_of before) none ∙ begun_with before in
    runs_kept input rest before between held result (subst (λ o. Runs input rest o between result) from runs)
    (nothing_waits between held waiting empty kept)

all_kept : (p : Pace) (first parted : Talker) (input before between after : Option (List ℕ)) (end : ScriptEnd)
    → AsksAll p first parted input before between end → Keeps between after
    → AsksAll p first parted input before after end
all_kept p first parted input before between after end s kept = record {
  talk = s.talk;
  replied = s.replied;
  asks = s.asks;
  sent = s.sent;
  received = s.received;
  text = Appends-kept before between after _ s.text kept;
  to_end = s.to_end;
  in_part = s.in_part;
}

asks_kept : (p : Pace) (first parted : Talker) (input rest before between after : Option (List ℕ))
    (result : Result ScriptEnd RunFault)
    → Asks p first parted input rest before between result → Keeps between after
    → Asks p first parted input rest before after result
asks_kept p first parted input rest before between after (Ok end) s kept =
    all_kept p first parted input before between after end s kept
asks_kept p first parted input rest before between after (Err (BadScript number)) (given, s, is) kept =
    (given, asked_kept p first parted before between after (number - 1) given s kept, is)
asks_kept p first parted input rest before between after (Err ReadFault) (read, consumed, s) kept =
    (read, consumed, asked_kept p first parted before between after _ (ended_lines read) s kept)
asks_kept p first parted input rest before between after (Err InputTooLong) (given, s, is) kept =
    (given, asked_kept p first parted before between after (length given) given s kept, is)
asks_kept p first parted input rest before between after (Err WriteFault) s kept = s
asks_kept p first parted input rest before between after (Err NoMemory) s kept = absurd s
asks_kept p first parted input rest before between after (Err LinkFault) s kept = tt
asks_kept p first parted input rest before between after (Err ClockFault) s kept = tt

pub asks_handed : (p : Pace) (first parted : Talker) (input rest before between held : Option (List ℕ))
    (begun waiting : List ℕ) (result : Result ScriptEnd RunFault)
    → begun ≡ [] → Asks p first parted input rest (written_of before begun) between result
    → Keeps between (written_of held waiting) → waiting ≡ [] → Asks p first parted input rest before held result
asks_handed p first parted input rest before between held begun waiting result none asks kept empty =
    let from : written_of before begun ≡ before = ap (written_of before) none ∙ begun_with before in
    asks_kept p first parted input rest before between held result
    (subst (λ o. Asks p first parted input rest o between result) from asks)
    (nothing_waits between held waiting empty kept)

-- ---- where the last replies couldn't be handed on

-- what a client did for a whole script
all_talks : (p : Pace) (first parted : Talker) (input before after : Option (List ℕ)) (commands replied : ℕ)
    (is_whole : Bool) → eqb replied commands ≡ is_whole
    → (replied ≤ commands) × (commands ≤ replied + 1)
    → AsksAll p first parted input before after (record { commands = commands; replied = replied })
    → (talk : Talk) × Talks p first talk parted
all_talks p first parted input before after commands replied true same counts s =
    let (talk, talks, any, farewell) = s.to_end (grind (arith, nat_tests)) in
    (and_later s.talk talk, talks_on p first s.replied parted s.talk talk s.asks talks)
all_talks p first parted input before after commands replied false differ counts s =
    let (command, (talk, talks, any, exchange), sent) = s.in_part (grind (arith, nat_tests)) in
    (and_later s.talk talk, talks_on p first s.replied parted s.talk talk s.asks talks)

-- what a client did, however its run ended
any_talks : (p : Pace) (first parted : Talker) (input rest before after : Option (List ℕ))
    (result : Result ScriptEnd RunFault)
    → is_broken result ≡ false → Runs input rest before after result
    → Asks p first parted input rest before after result → (talk : Talk) × Talks p first talk parted
any_talks p first parted input rest before after (Ok end) is runs s =
    all_talks p first parted input before after end.commands end.replied (eqb end.replied end.commands) refl runs.counts s
any_talks p first parted input rest before after (Err (BadScript number)) is runs (given, s, first_ones) = (s.talk, s.talks)
any_talks p first parted input rest before after (Err ReadFault) is runs (read, consumed, s) = (s.talk, s.talks)
any_talks p first parted input rest before after (Err InputTooLong) is runs (given, s, first_ones) = (s.talk, s.talks)
any_talks p first parted input rest before after (Err WriteFault) is runs s = s
any_talks p first parted input rest before after (Err NoMemory) is runs s = absurd s
any_talks p first parted input rest before after (Err LinkFault) is runs s = absurd (cc)
any_talks p first parted input rest before after (Err ClockFault) is runs s = absurd (cc)

pub not_handed : (p : Pace) (first parted : Talker) (input rest printed between before after : Option (List ℕ))
    (result : Result ScriptEnd RunFault) (fault : RunFault)
    → fault ≡ WriteFault → is_broken result ≡ false → Runs input rest printed between result
    → Asks p first parted input rest printed between result
    → Asks p first parted input rest before after (Err fault)
not_handed p first parted input rest printed between before after result fault writes is runs s =
    let talked : Asks p first parted input rest before after (Err WriteFault) =
    any_talks p first parted input rest printed between result is runs s in
    subst (λ f. Asks p first parted input rest before after (Err f)) (sym writes) talked
