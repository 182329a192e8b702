-- Commands that ask no store: what they do to their session, whatever others do.
use Rattle.std.proofs.Common.{◌≡◌, ℕ, zero, suc, ◌+◌, ◌<◌, Bool, true, false, if◌then◌else◌, List, [], ◌∷◌, ◌++◌, length, Option, Some, None, refl, sym, ap, ◌∙◌, subst, arith}
use Rattle.std.specs.Prelude.{nat_lt, ⊤}
use Rattle.std.proofs.lemmas.Bool.{cond-true, cond-false}
use Rattle.chaos_file.specs.declared.limits.TheConstants.{MAX_FILE}
use Rattle.chaos_file.specs.declared.error.FileError.{FileError}
use Rattle.chaos_file.specs.Apply.{AsksStore}
use Rattle.chaos_file.specs.Command.{CommandView, Login, OpenWrite, Read, Write, ParsedView, Good, word_said}
use Rattle.chaos_file.specs.Grammar.{parse_of}
use Rattle.chaos_file.specs.Spelling.{spelling_of, is_good}
use Rattle.chaos_file.specs.Session.{HandleView, SessionView, handle_named}
use Rattle.chaos_file.specs.Store.{Files}
use Rattle.chaos_file.specs.Plan.{Plan, Refuse, Tell, Grow, Ask, plan_of, plan_read, plan_write, plan_unless, open_error, may_say}
use Rattle.chaos_file.specs.Step.{file_step, step_of, outcome_of}
use Rattle.chaos_file.specs.Replies.{session_after, replies_from}
use Rattle.chaos_file.proofs.Spelling.{parsed_spelled}
use Rattle.chaos_net.specs.Net.{Name, is_name}
use Rattle.chaos_net.proofs.Next.{same_name}
use Rattle.file_copy.specs.Copy.{upto}
use Rattle.file_net.specs.History.{Transaction, Service, AsDefined, reply_by, session_by, files_by, after_one, after_all, AreRight, commands_by, replies_to}
use Rattle.file_net.specs.Operations.{LeavesFiles}
use Rattle.file_net.proofs.Parts.{is_same, is_apart, other_session}
use Rattle.file_net.proofs.Shown.{IsAnswer, as_defined}

-- ---- a command that doesn't ask the store

-- it does the same over any files, and leaves them
pub record OwnStep (m n : Files) (s : SessionView) (command : List ℕ) : Type 0 where
  pub files : (file_step m s command).files ≡ m
  pub session : (file_step m s command).session ≡ (file_step n s command).session
  pub reply : (file_step m s command).reply ≡ (file_step n s command).reply

pub own_step : (m n : Files) (s : SessionView) (command : List ℕ) → (AsksStore (plan_of s (parse_of command)) → ⊥)
    → OwnStep m n s command
own_step m n s command h = by (plan_of s (parse_of command)) refl h
  where
    p : ParsedView
    p = parse_of command

    at : (plan : Plan) → plan_of s (parse_of command) ≡ plan → (k : Files)
        → file_step k s command ≡ step_of k s (parse_of command) (outcome_of k s plan)
    at plan is k = ap (λ z. step_of k s (parse_of command) (outcome_of k s z)) is

    by : (plan : Plan) → plan_of s (parse_of command) ≡ plan → (AsksStore plan → ⊥) → OwnStep m n s command
    by (Refuse error) is h = record {
      files = ap (λ z. z.files) (at (Refuse error) is m);
      session = ap (λ z. z.session) (at (Refuse error) is m) ∙ ap (λ z. z.session) (sym (at (Refuse error) is n));
      reply = ap (λ z. z.reply) (at (Refuse error) is m) ∙ ap (λ z. z.reply) (sym (at (Refuse error) is n));
    }
    by (Tell u answer) is h = record {
      files = ap (λ z. z.files) (at (Tell u answer) is m);
      session = ap (λ z. z.session) (at (Tell u answer) is m) ∙ ap (λ z. z.session) (sym (at (Tell u answer) is n));
      reply = ap (λ z. z.reply) (at (Tell u answer) is m) ∙ ap (λ z. z.reply) (sym (at (Tell u answer) is n));
    }
    by (Grow u answer) is h = record {
      files = ap (λ z. z.files) (at (Grow u answer) is m);
      session = ap (λ z. z.session) (at (Grow u answer) is m) ∙ ap (λ z. z.session) (sym (at (Grow u answer) is n));
      reply = ap (λ z. z.reply) (at (Grow u answer) is m) ∙ ap (λ z. z.reply) (sym (at (Grow u answer) is n));
    }
    by (Ask request) is h = absurd (h tt)

-- in no session does it ask
abbrev pub NeverAsks : List ℕ → Type 0
NeverAsks command = (s : SessionView) → AsksStore (plan_of s (parse_of command)) → ⊥

either : (b : Bool) (x y : Plan) → (AsksStore x → ⊥) → (AsksStore y → ⊥) → AsksStore (if b then x else y) → ⊥
either true x y p q h = p h
either false x y p q h = q h

read_asks : (s : SessionView) (o : Option (ℕ × HandleView)) → AsksStore (plan_read s o) → ⊥
read_asks s None h = h
read_asks s (Some f) h = either f.1.writes _ _ (λ k. k) (λ k. k) h

write_asks : (bytes : List ℕ) (s : SessionView) (o : Option (ℕ × HandleView)) → AsksStore (plan_write bytes s o) → ⊥
write_asks bytes s None h = h
write_asks bytes s (Some f) h =
    either f.1.writes _ _
    (either (nat_lt MAX_FILE (length f.1.bytes + length bytes)) _ _ (λ k. k) (λ k. k))
    (λ k. k) h

open_asks : (o : Option FileError) (plan : Plan) → (AsksStore plan → ⊥) → AsksStore (plan_unless o plan) → ⊥
open_asks None plan p h = p h
open_asks (Some error) plan p h = h

spelled : (tid handle : List ℕ) (command : CommandView) → is_good tid handle command ≡ true
    → ((s : SessionView) → AsksStore (plan_of s (Good tid handle command)) → ⊥)
    → NeverAsks (spelling_of tid handle command)
spelled tid handle command good never s h =
    never s (subst (λ p. AsksStore (plan_of s p)) (parsed_spelled tid handle command good) h)

pub never_login : (tid handle name : List ℕ) → is_good tid handle (Login name) ≡ true
    → NeverAsks (spelling_of tid handle (Login name))
never_login tid handle name good = spelled tid handle (Login name) good (λ s h. h)

pub never_read : (tid handle : List ℕ) → is_good tid handle Read ≡ true → NeverAsks (spelling_of tid handle Read)
never_read tid handle good =
    spelled tid handle Read good
    (λ s. either (may_say s (word_said Read)) _ _ (read_asks s (handle_named handle s.handles)) (λ k. k))

pub never_write : (tid handle bytes : List ℕ) → is_good tid handle (Write bytes) ≡ true
    → NeverAsks (spelling_of tid handle (Write bytes))
never_write tid handle bytes good =
    spelled tid handle (Write bytes) good
    (λ s. either (may_say s (word_said (Write bytes))) _ _ (write_asks bytes s (handle_named handle s.handles)) (λ k. k))

pub never_open : (tid handle path : List ℕ) → is_good tid handle (OpenWrite path) ≡ true
    → NeverAsks (spelling_of tid handle (OpenWrite path))
never_open tid handle path good =
    spelled tid handle (OpenWrite path) good
    (λ s. either (may_say s (word_said (OpenWrite path))) _ _
    (open_asks (open_error s (handle_named handle s.handles)) _ (λ k. k)) (λ k. k))

-- ---- such commands, and their answers

abbrev pub AreOwn : List (List ℕ) → List (List ℕ) → Type 0
AreOwn [] [] = ⊤
AreOwn (c ∷ cs) (r ∷ rs) = NeverAsks c × IsAnswer c r × AreOwn cs rs
AreOwn cs rs = ⊥

pub own_append : (cs rs ds qs : List (List ℕ)) → AreOwn cs rs → AreOwn ds qs → AreOwn (cs ++ ds) (rs ++ qs)
own_append [] [] ds qs p q = q
own_append [] (r ∷ rs) ds qs p q = absurd p
own_append (c ∷ cs) [] ds qs p q = absurd p
own_append (c ∷ cs) (r ∷ rs) ds qs p q = (p.0, p.1, own_append cs rs ds qs p.2 q)

pub own_upto : (f g : ℕ → List ℕ) (k : ℕ) → ((i : ℕ) → i < k → NeverAsks (f i) × IsAnswer (f i) (g i))
    → AreOwn (upto f k) (upto g k)
own_upto f g zero h = tt
own_upto f g (suc k) h =
    let last = h k (omega arith) in
    own_append (upto f k) (upto g k) (f k ∷ []) (g k ∷ []) (own_upto f g k (λ i below. h i (omega (arith, below))))
    (last.0, last.1, tt)

-- ---- the law: whatever others do, a session goes on and replies as it would alone, over any files, and changes none

pub record GoesOn (c : Name) (v : Service) (h : List Transaction) (m : Files) (s : SessionView) : Type 0 where
  pub replies : replies_to c h ≡ replies_from m s (commands_by c h)
  pub session : (after_all v h).session c ≡ session_after m s (commands_by c h)
  pub alone : LeavesFiles c v h

pub goes_on : (c : Name) (h : List Transaction) (v : Service) (m : Files) (s : SessionView) → AreRight v h
    → v.session c ≡ s → AreOwn (commands_by c h) (replies_to c h) → GoesOn c v h m s
goes_on c [] v m s r is own = record { replies = refl; session = is; alone = tt }
goes_on c (t ∷ h) v m s r is own =
    by (is_name t.by c) refl (λ n u same rest. goes_on c h (after_one v t) n u r.1 same rest) own
  where
    by : (b : Bool) → is_name t.by c ≡ b
        → ((n : Files) (u : SessionView) → (after_one v t).session c ≡ u → AreOwn (commands_by c h) (replies_to c h)
        → GoesOn c (after_one v t) h n u)
        → AreOwn (if b then t.command ∷ commands_by c h else commands_by c h)
        (if b then t.reply ∷ replies_to c h else replies_to c h)
        → GoesOn c v (t ∷ h) m s
    by false test further own =
        let k = further m s (other_session v t c test ∙ is) own in
        let said : commands_by c (t ∷ h) ≡ commands_by c h = cond-false (is_name t.by c) _ _ test in
        record {
          replies = cond-false (is_name t.by c) _ _ test ∙ k.replies ∙ ap (replies_from m s) (sym said);
          session = k.session ∙ ap (session_after m s) (sym said);
          alone = ((λ same. absurd (is_apart t.by c test same)), k.alone);
        }
    by true test further own =
        let same : t.by ≡ c = is_same t.by c test in
        let at : v.session t.by ≡ s = ap v.session same ∙ is in
        let way : t.way ≡ AsDefined =
        as_defined v.files (v.session t.by) t.command t.way (own.1.0, sym r.0.reply ∙ own.1.1) in
        let mine = own_step v.files m s t.command (own.0 s) in
        let next : (after_one v t).session c ≡ (file_step m s t.command).session =
        cond-true (is_name c t.by) _ _ (ap (is_name c) same ∙ same_name c)
        ∙ (λ j. session_by v.files (at j) t.command (way j))
        ∙ mine.session in
        let k = further (file_step m s t.command).files (file_step m s t.command).session next own.2 in
        let said : commands_by c (t ∷ h) ≡ t.command ∷ commands_by c h = cond-true (is_name t.by c) _ _ test in
        record {
          replies =
              cond-true (is_name t.by c) _ _ test
              ∙ (λ j. (r.0.reply ∙ (λ i. reply_by v.files (at i) t.command (way i)) ∙ mine.reply) j ∷ k.replies j)
              ∙ ap (replies_from m s) (sym said);
          session = k.session ∙ ap (session_after m s) (sym said);
          alone = ((λ _. (λ j. files_by v.files (at j) t.command (way j)) ∙ mine.files), k.alone);
        }
