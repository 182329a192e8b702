-- What one line does.
use Rattle.std.proofs.Common.{◌≡◌, ◌≢◌, ℕ, Bool, true, false, cond, List, [], ◌++◌, length, drop, append_assoc, append-nil, refl, ap, subst, ◌∙◌, sym, inl, inr, arith}
use Rattle.std.specs.Prelude.{◌⊎◌, Option, Some, None, Result, Ok, Err, is_err, IfOk, OnErr, option_map}
use Rattle.chaos_lab.specs.declared.fault.LabFault.{LabFault}
use Rattle.chaos_lab.specs.declared.fault.LabFault.TheVariants.{NoMemory}
use Rattle.file_lab.specs.declared.event.FileStepped.{FileStepped}
use Rattle.file_lab.specs.View.{FileLabView, wrote_mem}
use Rattle.file_lab.specs.Events.{FileHappening, FileHappens, At, Serve}
use Rattle.file_lab.specs.Exact.{file_happen, IsExact}
use Rattle.chaosd_io.specs.declared.fault.RunFault.{RunFault}
use Rattle.chaosd_io.specs.declared.fault.RunFault.TheVariants as run
use Rattle.chaosd_lab.specs.Answers.{refusal_text, copies_text}
use Rattle.chaosd_lab.specs.Play.{refused_or_ended}
use Rattle.chaosd_io.specs.Buffer.{written_of}
use Rattle.std.specs.Io.KnownBytes.{Appends}
use Rattle.chaosd_lab.specs.Script.{PlaysLine}
use Rattle.chaosd_lab.proofs.Events.{by_answer, is_want, no_copies, some_said}
use Rattle.chaosd_lab.proofs.Plays.{waits_more}
use Rattle.chaosd_lab.specs.FileAnswers.{file_answer_text}
use Rattle.chaosd_lab.specs.FileEvent.{file_line_of}
use Rattle.chaosd_lab.specs.FileHappen.{event_text, event_done, PlaysFileEvent, WantsEvent}
use Rattle.chaosd_lab.specs.FileSettle.{settle_done, WantsSettling}
use Rattle.chaosd_lab.specs.Settle.{settle_word}
use Rattle.std.specs.Str.{bytes_eq}
use Rattle.chaosd_lab.specs.FilePlay.{line_done, WantsBy, filelab_script}

-- an event that was let happen
pub event_plays : (before after : FileLabView) (old mid new : List ℕ) (event : FileHappening)
    (answer : Result FileStepped LabFault) (result : Result Bool RunFault)
    → IsExact before event after answer → mid ≡ old ++ file_answer_text answer
    → new ≡ mid ++ copies_text (length before.lab.copies) (drop (length before.lab.copies) after.lab.copies)
    → result ≡ refused_or_ended answer → wrote_mem after ≡ false
    → IfOk result (λ refused. PlaysFileEvent event before after old new refused × (wrote_mem after ≡ false))
unfolding event_text
event_plays before after old mid new event answer result exact first last same none =
    let P : Bool → Type 0 = λ refused. PlaysFileEvent event before after old new refused × (wrote_mem after ≡ false) in
    let n = length before.lab.copies in
    let joined : List ℕ = copies_text n (drop n after.lab.copies) in
    subst (λ r. IfOk r P) (sym same) (elim exact [
      | inl h ↦ by_answer answer P (
        record {
          lab = h.0;
          text = last ∙ ap (λ l. l ++ joined) first ∙ append_assoc old (file_answer_text answer) joined
              ∙ ap (λ a. old ++ (file_answer_text a ++ joined)) h.1
              ∙ ap
              (λ (l : FileLabView). old
              ++ (file_answer_text (file_happen before event).answer ++ copies_text n (drop n l.lab.copies)))
              h.0;
          count = ap is_err h.1;
        },
        none,
      )
      | inr h ↦ subst (λ a. IfOk (refused_or_ended a) P) (sym h.1) tt
    ])

-- ---- out of memory

-- a refused event changes nothing
pub not_wanted : {X E P : Type 0} (answer : Result X E) (why : E) → OnErr answer P → answer ≡ Err why → P
not_wanted (Ok x) why h is = absurd (cc)
not_wanted (Err e) why h is = h

pub event_wants : (before after : FileLabView) (old mid new : List ℕ) (answer : Result FileStepped LabFault)
    (result : Result Bool RunFault)
    → (answer ≡ Err NoMemory → after ≡ before) → mid ≡ old ++ file_answer_text answer
    → new ≡ mid ++ copies_text (length before.lab.copies) (drop (length before.lab.copies) after.lab.copies)
    → result ≡ refused_or_ended answer → result ≡ Err run.NoMemory
    → (after ≡ before) × (new ≡ old ++ refusal_text NoMemory)
event_wants before after old mid new answer result refused first last same wants =
    let n = length before.lab.copies in
    let none : answer ≡ Err NoMemory = is_want answer (sym same ∙ wants) in (
      refused none,
      last ∙ ap (λ (l : FileLabView). mid ++ copies_text n (drop n l.lab.copies)) (refused none)
          ∙ ap (λ l. mid ++ l) (no_copies before.lab.copies n (omega arith)) ∙ append-nil mid
          ∙ first ∙ ap (λ a. old ++ file_answer_text a) none,
    )

-- a serve wrote an out-of-memory reply
pub serve_wants : (event : FileHappening) (before after : FileLabView) (old : List ℕ)
    (answer : Result FileStepped LabFault)
    → FileHappens before event after answer
    → (event ≡ Serve) ⊎ (wrote_mem after ≡ wrote_mem before) → wrote_mem after ≡ true → wrote_mem before ≡ false
    → (text : List ℕ) × WantsEvent before event after text × (old ≡ old ++ text)
serve_wants event before after old answer happens (inr same) mem ready = absurd (cc)
serve_wants (At event) before after old answer happens (inl is) mem ready = absurd (cc)
serve_wants Serve before after old answer (inl (served, serves, told)) (inl is) mem
    ready = ([], inr (refl, (served, serves, mem), refl), sym (append-nil old))
serve_wants Serve before after old answer (inr (same, told)) (inl is) mem ready
    = absurd (no_want (sym mem ∙ ap wrote_mem same ∙ ready))
  where
    no_want : true ≡ false → ⊥
    no_want h = cc

-- ---- what a line says

-- the line `settle` was played
pub settle_plays : (line : List ℕ) (before after : FileLabView) (old new : Option (List ℕ)) (refused : Bool)
    → bytes_eq line settle_word ≡ true
    → (after ≡ (settle_done before).lab) × (refused ≡ (settle_done before).is_refused)
    × Appends old new (settle_done before).text × (wrote_mem before ≡ false → wrote_mem after ≡ false)
    → wrote_mem before ≡ false → PlaysLine filelab_script line before after old new refused × (wrote_mem after ≡ false)
settle_plays line before after old new refused is (lab, count, text, none) ready = (
  record {
    does = settle_done;
    said = ap (λ b. cond b (Some settle_done) (option_map event_done (file_line_of line))) is;
    lab = lab;
    text = text;
    count = count;
  },
  none ready,
)

-- it ran out of memory
pub settle_wants : (line : List ℕ) (l after : FileLabView) (text : List ℕ) → bytes_eq line settle_word ≡ true
    → WantsSettling l after text → (line_done line ≢ None) × filelab_script.wants l line after text
settle_wants line l after text is wants = (
  λ none. some_done (sym (ap (λ b. cond b (Some settle_done) (option_map event_done (file_line_of line))) is) ∙ none),
  subst (λ b. WantsBy b line l after text) (sym is) wants,
)
  where
    some_done : Some settle_done ≡ None → ⊥
    some_done h = cc

-- another line was played
pub line_plays : (line : List ℕ) (before after : FileLabView) (held : Option (List ℕ)) (old new : List ℕ)
    (refused : Bool)
    → bytes_eq line settle_word ≡ false
    → (event : FileHappening) × (file_line_of line ≡ Some event) × PlaysFileEvent event before after old new refused
    × (wrote_mem after ≡ false)
    → PlaysLine filelab_script line before after (written_of held old) (written_of held new) refused
    × (wrote_mem after ≡ false)
line_plays line before after held old new refused is (event, said, plays, none) = (
  record {
    does = event_done event;
    said =
        ap (λ b. cond b (Some settle_done) (option_map event_done (file_line_of line))) is
        ∙ ap (option_map event_done) said;
    lab = plays.lab;
    text = waits_more held old new _ plays.text;
    count = plays.count;
  },
  none,
)

no_event : (said : Option FileHappening) → option_map event_done said ≡ None → said ≡ None
no_event None h = refl
no_event (Some event) h = absurd (cc)

-- it asks for no event
pub bad_line : (line : List ℕ) → bytes_eq line settle_word ≡ false → file_line_of line ≡ None → line_done line ≡ None
bad_line line is none =
    ap (λ b. cond b (Some settle_done) (option_map event_done (file_line_of line))) is ∙ ap (option_map event_done) none

-- it ran out of memory
pub line_wants : (line : List ℕ) (l after : FileLabView) (held : Option (List ℕ)) (old new : List ℕ)
    (event : FileHappening)
    → bytes_eq line settle_word ≡ false → file_line_of line ≡ Some event
    → (line_done line ≢ None)
    × ((text : List ℕ) × WantsEvent l event after text × (new ≡ old ++ text)
    → (text : List ℕ) × filelab_script.wants l line after text
    × Appends (written_of held old) (written_of held new) text)
line_wants line l after held old new event is said = (
  λ none. some_said (file_line_of line) event said
      (no_event (file_line_of line)
      (sym (ap (λ b. cond b (Some settle_done) (option_map event_done (file_line_of line))) is) ∙ none)),
  λ (text, wants, more).
      (text, subst (λ b. WantsBy b line l after text) (sym is) (event, said, wants), waits_more held old new text more),
)
