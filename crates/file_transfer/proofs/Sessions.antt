-- Sessions, one operation after another, and runs over files.
use Rattle.std.proofs.Common.{◌≡◌, ℕ, Bool, true, false, List, [], ◌∷◌, ◌++◌, Option, map, ap, ◌∙◌, refl, sym, subst, inl, inr, append_assoc, append-nil}
use Rattle.std.specs.Prelude.{◌&&◌, ◌⊎◌}
use Rattle.std.proofs.lemmas.List.{map-append}
use Rattle.file_copy.specs.Ends.{login_command, login_reply}
use Rattle.file_copy.specs.Operation.{Operation, all_commands, all_replies, commands_of, replies_of}
use Rattle.file_copy.specs.Talk.{History, Since}
use Rattle.file_copy.proofs.Talks.{since_then}
use Rattle.file_transfer.specs.Outcome.{is_well}
use Rattle.file_transfer.specs.Runs.{Reported, Runs, Tried, Tries, none, tried, left, all_well}
use Rattle.file_transfer.specs.Done.{RanIn}
use Rattle.file_transfer.specs.Sessions.{AllDone, DoesAll, EntersAnd, ForEach, HasDone, Stays}
use Rattle.file_transfer.specs.Severity.{is_done}
use Rattle.file_transfer.specs.declared.outcome.Outcome.{Outcome}
use Rattle.file_transfer.specs.declared.outcome.Outcome.TheVariants.{NotTried}
use Rattle.file_transfer.specs.declared.severity.Severity.{Severity}
use Rattle.file_transfer.proofs.Running.{all_more}

-- ---- one operation after another

commands_on : (operations : List Operation) (operation : Operation)
    → all_commands (operations ++ operation ∷ []) ≡ all_commands operations ++ commands_of operation
commands_on [] operation = append-nil (commands_of operation)
commands_on (first ∷ operations) operation =
    ap (λ l. commands_of first ++ l) (commands_on operations operation)
    ∙ sym (append_assoc (commands_of first) (all_commands operations) (commands_of operation))

replies_on : (operations : List Operation) (operation : Operation)
    → all_replies (operations ++ operation ∷ []) ≡ all_replies operations ++ replies_of operation
replies_on [] operation = append-nil (replies_of operation)
replies_on (first ∷ operations) operation =
    ap (λ l. replies_of first ++ l) (replies_on operations operation)
    ∙ sym (append_assoc (replies_of first) (all_replies operations) (replies_of operation))

module _ {T : Type 0} (talked : T → History T) (connects : T → T → Type 0) (user : List ℕ) where
  -- a session, and one operation more
  pub session_on : (start old new : T) (operations : List Operation) (operation : Operation)
      → HasDone talked connects user start operations old
      → Since (talked old) (talked new) (commands_of operation) (replies_of operation)
      → HasDone talked connects user start (operations ++ operation ∷ []) new
  session_on start old new operations operation (asked, connected, before) made = (
    asked,
    connected,
    subst (λ l. Since (talked asked) (talked new) (login_command user ∷ l) (login_reply user ∷ all_replies (operations ++ operation ∷ [])))
        (sym (commands_on operations operation))
        (subst (λ l. Since (talked asked) (talked new) (login_command user ∷ (all_commands operations ++ commands_of operation)) (login_reply user ∷ l))
        (sym (replies_on operations operation))
        (since_then (talked asked) (talked old) (talked new) (login_command user ∷ all_commands operations) (login_reply user ∷ all_replies operations) (commands_of operation) (replies_of operation) before made)),
  )

-- ---- runs over files

for_each_on : {F : Type 0} (One : F → Operation → Type 0) (files : List F) (operations : List Operation) (file : F)
    (operation : Operation) → ForEach One files operations → One file operation
    → ForEach One (files ++ file ∷ []) (operations ++ operation ∷ [])
for_each_on One [] [] file operation all one = (one, tt)
for_each_on One [] (o ∷ operations) file operation all one = absurd all
for_each_on One (f ∷ files) [] file operation all one = absurd all
for_each_on One (f ∷ files) (o ∷ operations) file operation all one =
    (all.0, for_each_on One files operations file operation all.1 one)

both_true : (a b : Bool) → (a && b) ≡ true → (a ≡ true) × (b ≡ true)
both_true true true e = (refl, refl)
both_true true false e = absurd (cc)
both_true false b e = absurd (cc)

-- A task, with whether its user is logged in, the user's name and the talk. Each try that went well entered and did one operation.
module _ {T C F : Type 0} (talked : T → History T) (connects : T → T → Type 0) (One : F → Operation → Type 0)
    (one : C → F → Outcome → C → Type 0) (is_in : C → Bool) (user : C → List ℕ) (talk : C → T)
    (does : (c d : C) (file : F) (outcome : Outcome) → one c file outcome d → is_well outcome ≡ true
    → (operation : Operation) × One file operation × EntersAnd talked connects (is_in c) (user c) (talk c) operation (talk d)
    × (is_in d ≡ true) × (user d ≡ user c)) (start : C) (outside : is_in start ≡ false) where
  -- the session so far
  abbrev InSession : List Operation → C → Type 0
  InSession [] now = (talk now ≡ talk start) × (is_in now ≡ false)
  InSession (operation ∷ operations) now =
      HasDone talked connects (user start) (talk start) (operation ∷ operations) (talk now) × (is_in now ≡ true)

  abbrev Ran : List (Tried F) → C → Type 0
  Ran files now = (operations : List Operation) × ForEach One (map (λ t. t.file) files) operations × InSession operations now
      × (user now ≡ user start)

  session_after : (operations : List Operation) (c d : C) (operation : Operation) → InSession operations c
      → user c ≡ user start → EntersAnd talked connects (is_in c) (user c) (talk c) operation (talk d) → is_in d ≡ true
      → InSession (operations ++ operation ∷ []) d
  session_after [] c d operation (same, out) named enters inside = (
    subst (λ t. EntersAnd talked connects false (user start) t operation (talk d)) same
        (subst (λ u. EntersAnd talked connects false u (talk c) operation (talk d)) named
        (subst (λ b. EntersAnd talked connects b (user c) (talk c) operation (talk d)) out enters)),
    inside,
  )
  session_after (first ∷ operations) c d operation (has, within) named enters inside = (
    session_on talked connects (user start) (talk start) (talk c) (talk d) (first ∷ operations) operation has
        (subst (λ u. EntersAnd talked connects true u (talk c) operation (talk d)) named
        (subst (λ b. EntersAnd talked connects b (user c) (talk c) operation (talk d)) within enters)),
    inside,
  )

  all_ran : (files : List (Tried F)) (goes : Bool) (now : C) → Tries one start files goes now → all_well files ≡ true
      → Ran files now
  all_ran _ _ _ none well = ([], tt, (refl, outside), refl)
  all_ran _ _ _ (tried files c d file outcome before step) well =
      let wells = both_true (all_well files) (is_well outcome)
      (sym (all_more files (record { file = file; outcome = outcome })) ∙ well) in
      let ran = all_ran files true c before wells.0 in
      let did = does c d file outcome step wells.1 in (
        ran.0 ++ did.0 ∷ [],
        subst (λ l. ForEach One l (ran.0 ++ did.0 ∷ []))
            (sym (map-append (λ (t : Tried F). t.file) files (record { file = file; outcome = outcome } ∷ [])))
            (for_each_on One (map (λ t. t.file) files) ran.0 file did.0 ran.1 did.1),
        session_after ran.0 c d did.0 ran.2 ran.3 did.2 did.3,
        did.4 ∙ ran.3,
      )
  all_ran _ _ _ (left files c file before) well =
      let wells = both_true (all_well files) false
      (sym (all_more files (record { file = file; outcome = NotTried })) ∙ well) in
      absurd (cc)

  in_one_session : (operations : List Operation) (now : C) → InSession operations now
      → DoesAll talked connects (user start) (talk start) operations (talk now)
  in_one_session [] now in_it = in_it.0
  in_one_session (operation ∷ operations) now in_it = in_it.0

  -- A run that is Done did one operation for each file, in one session.
  pub all_done : (name : F → List ℕ) (reported after : Option (List Reported)) (files : List F) (severity : Severity)
      (goes : Bool) (now : C) → Runs one name start reported files severity goes now after → is_done severity ≡ true
      → AllDone talked connects One (user start) (talk start) files (talk now)
  all_done name reported after files severity goes now runs done =
      let ran = all_ran runs.tries goes now runs.tried (sym runs.all ∙ done) in (
        ran.0,
        subst (λ l. ForEach One l ran.0) runs.files_are ran.1,
        in_one_session ran.0 now ran.2,
      )

-- ---- runs in which files fail in between

-- A task, with whether its user is logged in, the user's name and the talk. Who is logged in after a try did nothing, or entered and
-- did one operation.
module _ {T C F : Type 0} (talked : T → History T) (connects : T → T → Type 0) (one : C → F → Outcome → C → Type 0)
    (is_in : C → Bool) (user : C → List ℕ) (talk : C → T)
    (stays : (c d : C) (file : F) (outcome : Outcome) → one c file outcome d
    → Stays talked connects (is_in c) (user c) (talk c) (is_in d) (talk d) × (user d ≡ user c)) (start : C)
    (outside : is_in start ≡ false) where
  abbrev InRun : List Operation → T → Type 0
  InRun operations now = RanIn talked connects one talk (user start) start operations now

  -- a user who is logged in has a session
  abbrev Known : C → Type 0
  Known c = (is_in c ≡ true → (operations : List Operation) × InRun operations (talk c)) × (user c ≡ user start)

  -- one operation more, by a user who is logged in or enters first
  one_more : (files : List (Tried F)) (c : C) (now : T) (operation : Operation) (b : Bool) → is_in c ≡ b
      → Tries one start files true c → Known c → EntersAnd talked connects (is_in c) (user c) (talk c) operation now
      → (operations : List Operation) × InRun (operations ++ operation ∷ []) now
  one_more files c now operation false is before known enters = (
    [],
    record {
      earlier = files;
      began = c;
      tried = before;
      has = subst (λ u. EntersAnd talked connects false u (talk c) operation now) known.1
          (subst (λ z. EntersAnd talked connects z (user c) (talk c) operation now) is enters);
    },
  )
  one_more files c now operation true is before known enters =
      let ran = known.0 is in (
        ran.0,
        record {
          earlier = ran.1.earlier;
          began = ran.1.began;
          tried = ran.1.tried;
          has = session_on talked connects (user start) (talk ran.1.began) (talk c) now ran.0 operation ran.1.has
              (subst (λ u. EntersAnd talked connects true u (talk c) operation now) known.1
              (subst (λ z. EntersAnd talked connects z (user c) (talk c) operation now) is enters));
        },
      )

  still_known : (files : List (Tried F)) (c d : C) → Tries one start files true c → Known c
      → ((is_in c ≡ true) × (talk d ≡ talk c)) ⊎ ((operation : Operation) × EntersAnd talked connects (is_in c) (user c) (talk c) operation (talk d))
      → (operations : List Operation) × InRun operations (talk d)
  still_known files c d before known (inl (within, same)) =
      let ran = known.0 within in (ran.0, subst (InRun ran.0) (sym same) ran.1)
  still_known files c d before known (inr (operation, enters)) =
      let more = one_more files c (talk d) operation (is_in c) refl before known enters in (more.0 ++ operation ∷ [], more.1)

  known_after : (files : List (Tried F)) (goes : Bool) (now : C) → Tries one start files goes now → Known now
  known_after _ _ _ none = ((λ is. absurd (cc)), refl)
  known_after _ _ _ (tried files c d file outcome before step) =
      let known = known_after files true c before in
      let stayed = stays c d file outcome step in (
        (λ is. still_known files c d before known (stayed.0 is)),
        stayed.1 ∙ known.1,
      )
  known_after _ _ _ (left files c file before) = known_after files false c before

  pub each_done : (files : List (Tried F)) (c : C) (now : T) (operation : Operation) → Tries one start files true c
      → EntersAnd talked connects (is_in c) (user c) (talk c) operation now
      → (operations : List Operation) × RanIn talked connects one talk (user start) start (operations ++ operation ∷ []) now
  each_done files c now operation before enters =
      one_more files c now operation (is_in c) refl before (known_after files true c before) enters
