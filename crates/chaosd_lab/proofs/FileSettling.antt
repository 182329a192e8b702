-- The line `settle`.
use Rattle.std.proofs.Common.{◌≡◌, ℕ, Bool, true, false, List, [], ◌∷◌, ◌++◌, length, take, append_assoc, append-nil, refl, ap, subst, ◌∙◌, sym}
use Rattle.std.specs.Prelude.{◌↔◌, not, IsTrue, Option, slice_get}
use Rattle.std.specs.Io.KnownBytes.{Appends, Keeps}
use Rattle.std.proofs.KnownBytes.{Appends-kept, Appends-trans}
use Rattle.file_lab.specs.Events.{FileHappening}
use Rattle.file_lab.specs.Exact.{file_happen}
use Rattle.file_lab.specs.Progress.{CanServe}
use Rattle.file_lab.specs.Settling.{after_events, file_settling}
use Rattle.file_lab.specs.View.{FileLabView, wrote_mem}
use Rattle.chaosd_lab.specs.Settle.{can_settle, unsettled_text}
use Rattle.chaosd_lab.proofs.Settling.{both_true, and_true, alike, can_settle_said, said_can_settle, nothing, next_is, done_is}
use Rattle.chaosd_lab.specs.FileHappen.{event_text, WantsEvent}
use Rattle.chaosd_lab.specs.FileSettle.{file_line, can_serve, typed_text, settle_by, settle_done, WantsEvents}

-- ---- whether it can settle

not_false : (b : Bool) → not b ≡ true → b ≡ false
not_false true h = absurd (cc)
not_false false h = refl

said_not : (b : Bool) → b ≡ false → not b ≡ true
said_not b h = ap not h

says_can_serve : (l : FileLabView) (said : Bool) → IsTrue said ↔ CanServe l → said ≡ can_serve l
says_can_serve l said is =
    let ends = can_settle l.lab in
    let memory = not (wrote_mem l) in
    alike said (can_serve l)
    (λ told. let can : CanServe l = is.0 told in and_true ends memory (said_can_settle l.lab can.lab)
    (said_not (wrote_mem l) can.memory))
    (λ told. let (open_ends, none) = both_true ends memory told in is.1
    (record { lab = can_settle_said l.lab open_ends; memory = not_false (wrote_mem l) none }))

-- ---- events as if they were typed

after_events_both : (l : FileLabView) (events others : List FileHappening)
    → after_events l (events ++ others) ≡ after_events (after_events l events) others
after_events_both l [] others = refl
after_events_both l (event ∷ events) others = after_events_both (file_happen l event).view events others

typed_both : (l : FileLabView) (events others : List FileHappening)
    → typed_text l (events ++ others) ≡ typed_text l events ++ typed_text (after_events l events) others
unfolding typed_text
typed_both l [] others = refl
typed_both l (event ∷ events) others =
    ap (λ t. file_line event ++ event_text l event ++ t) (typed_both (file_happen l event).view events others)
    ∙ sym (append_assoc (file_line event ++ event_text l event) (typed_text (file_happen l event).view events) _)

-- one more
typed_more : (l now : FileLabView) (events : List FileHappening) (event : FileHappening) → now ≡ after_events l events
    → typed_text l (events ++ event ∷ []) ≡ typed_text l events ++ (file_line event ++ event_text now event)
unfolding typed_text
typed_more l now events event at =
    typed_both l events (event ∷ [])
    ∙ ap (λ t. typed_text l events ++ t)
    (append-nil (file_line event ++ event_text (after_events l events) event)
    ∙ ap (λ (m : FileLabView). file_line event ++ event_text m event) (sym at))

-- so many of the events of settling happened, and their text was written
pub record Typed (start now : FileLabView) (rest : List FileHappening) (old new : Option (List ℕ)) : Type 0 where
  pub done : List FileHappening
  pub at : now ≡ after_events start done
  pub all : file_settling start ≡ done ++ rest
  pub text : Appends old new (typed_text start done)

pub typed_none : (l : FileLabView) (rest : List FileHappening) (old : Option (List ℕ)) → rest ≡ file_settling l
    → Typed l l rest old old
unfolding typed_text
typed_none l rest old same = record { done = []; at = refl; all = sym same; text = nothing old }

pub typed_one : (start now next : FileLabView) (event : FileHappening) (rest others : List FileHappening)
    (old mid ready new : Option (List ℕ))
    → Typed start now rest old mid → rest ≡ event ∷ others
    → Keeps mid ready → next ≡ (file_happen now event).view
    → Appends ready new (file_line event ++ event_text now event) → Typed start next others old new
typed_one start now next event rest others old mid ready new t is keeps goes text = record {
  done = t.done ++ event ∷ [];
  at =
      goes ∙ ap (λ (m : FileLabView). (file_happen m event).view) t.at
      ∙ sym (after_events_both start t.done (event ∷ []));
  all = t.all ∙ ap (λ es. t.done ++ es) is ∙ sym (append_assoc t.done (event ∷ []) others);
  text =
      subst (Appends old new) (sym (typed_more start now t.done event t.at))
      (Appends-trans old ready new _ _ (Appends-kept old mid ready _ t.text keeps) text);
}

-- the next one ran out of memory
pub typed_wants : (start now after : FileLabView) (event : FileHappening) (rest others : List FileHappening)
    (old mid ready new : Option (List ℕ))
    → Typed start now rest old mid → rest ≡ event ∷ others
    → Keeps mid ready → (told : List ℕ) → WantsEvent now event after told → Appends ready new (file_line event ++ told)
    → (text : List ℕ) × WantsEvents start after text × Appends old new text
typed_wants start now after event rest others old mid ready new t is keeps told wants text =
    let all : file_settling start ≡ t.done ++ event ∷ others = t.all ∙ ap (λ es. t.done ++ es) is in
    let before : take (length t.done) (file_settling start) ≡ t.done =
    ap (take (length t.done)) all ∙ done_is t.done (event ∷ others) in (
      typed_text start t.done ++ (file_line event ++ told),
      (
        length t.done,
        event,
        ap (λ es. slice_get es (length t.done)) all ∙ next_is t.done others event,
        told,
        subst (λ (l : FileLabView). WantsEvent l event after told) (t.at ∙ ap (after_events start) (sym before)) wants,
        ap (λ es. typed_text start es ++ (file_line event ++ told)) (sym before)
            ∙ sym (append_assoc (typed_text start (take (length t.done) (file_settling start))) (file_line event) told),
      ),
      Appends-trans old ready new _ _ (Appends-kept old mid ready _ t.text keeps) text,
    )

-- ---- the line

-- the ends can't settle, and the line is refused
pub refused_line : (l : FileLabView) (said : Bool) (old new : Option (List ℕ)) → IsTrue said ↔ CanServe l → said ≡ false
    → Appends old new unsettled_text
    → (l ≡ (settle_done l).lab) × (true ≡ (settle_done l).is_refused) × Appends old new (settle_done l).text
    × (wrote_mem l ≡ false → wrote_mem l ≡ false)
refused_line l said old new is cannot text =
    let test : can_serve l ≡ false = sym (says_can_serve l said is) ∙ cannot in
    subst
    (λ b. (l ≡ (settle_by b l).lab) × (true ≡ (settle_by b l).is_refused) × Appends old new (settle_by b l).text
    × (wrote_mem l ≡ false → wrote_mem l ≡ false))
    (sym test) (refl, refl, text, λ ready. ready)
