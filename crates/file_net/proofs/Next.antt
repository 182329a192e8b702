-- One command of a connection whose session is known.
use Rattle.std.proofs.Common.{◌≡◌, true, ℕ, List, [], ◌∷◌, ◌++◌, Ok, sym, ap, ◌∙◌, subst, append_assoc}
use Rattle.std.specs.Prelude.{◌&&◌}
use Rattle.std.proofs.lemmas.Bool.{cond-true}
use Rattle.chaos_file.specs.declared.limits.TheConstants.{MAX_TID, MAX_HANDLE}
use Rattle.chaos_file.specs.Names.{is_name}
use Rattle.chaos_file.specs.Command.{CommandView}
use Rattle.chaos_file.specs.Spelling.{is_good, is_legal}
use Rattle.chaos_file.specs.Answer.{reply_to}
use Rattle.chaos_file.specs.Grammar.{parse_of}
use Rattle.chaos_file.specs.Session.{SessionView}
use Rattle.chaos_file.specs.Step.{file_step}
use Rattle.chaos_net.specs.Net.{Name, is_name as is_own}
use Rattle.chaos_net.proofs.Next.{same_name}
use Rattle.file_net.specs.History.{Transaction, Service, AsDefined, reply_by, session_by, files_by, after_one, after_all, AreRight, commands_by, replies_to}
use Rattle.file_net.specs.Operations.{Moment}
use Rattle.file_net.proofs.Lists.{commands_append}
use Rattle.file_net.proofs.Parts.{First, first_of, head_eq, silent, is_same, after_append, right_back}
use Rattle.file_net.proofs.Shown.{IsAnswer, as_defined}

-- a command without a handle is of the right form
pub good_bare : (tid : List ℕ) (command : CommandView) → is_name 1 MAX_TID tid ≡ true → is_legal true command ≡ true
    → is_good tid [] command ≡ true
good_bare tid command named legal =
    ap (λ b. b && (is_name 0 MAX_HANDLE [] && is_legal true command)) named ∙ legal

-- the session at the end of a history, by the history's parts
pub session_on : (c : Name) (v : Service) (h front back : List Transaction) → h ≡ front ++ back
    → (after_all v h).session c ≡ (after_all (after_all v front) back).session c
session_on c v h front back is =
    ap (λ l. (after_all v l).session c) is ∙ ap (λ (z : Service). z.session c) (after_append v front back)

-- ---- the first command of a connection in a history

-- the command was served in the session s, and has an answer
pub record IsNext (c : Name) (v : Service) (h : List Transaction) (s : SessionView) (command : List ℕ)
    (rest : List (List ℕ)) (f : First c h command rest) : Type 0 where
  pub reply : f.transaction.reply ≡ (file_step (after_all v f.before).files s command).reply
  pub files : (after_one (after_all v f.before) f.transaction).files
      ≡ (file_step (after_all v f.before).files s command).files
  pub session : (after_one (after_all v f.before) f.transaction).session c
      ≡ (file_step (after_all v f.before).files s command).session
  pub right : AreRight (after_one (after_all v f.before) f.transaction) f.later
  pub told : f.transaction.reply ∷ replies_to c f.later ≡ replies_to c h

pub is_next : (c : Name) (v : Service) (h : List Transaction) (s : SessionView) (command reply : List ℕ)
    (rest answers : List (List ℕ)) (f : First c h command rest) → AreRight v h → v.session c ≡ s
    → replies_to c h ≡ reply ∷ answers → IsAnswer command reply → IsNext c v h s command rest f
is_next c v h s command reply rest answers f r is heard answer =
    let t : Transaction = f.transaction in
    let w : Service = after_all v f.before in
    let same : t.by ≡ c = is_same t.by c f.by in
    let here : w.session c ≡ s = silent c v f.before f.none ∙ is in
    let at : w.session t.by ≡ s = ap w.session same ∙ here in
    let right = right_back v f.before (t ∷ f.later) (subst (AreRight v) f.is r) in
    let both : t.reply ∷ replies_to c f.later ≡ reply ∷ answers = sym f.replies ∙ heard in
    let told : t.reply ≡ reply = head_eq both in
    let way : t.way ≡ AsDefined =
    as_defined w.files (w.session t.by) t.command t.way
    (answer.0, sym right.0.reply ∙ told ∙ answer.1 ∙ ap (λ x. reply_to (parse_of x) (Ok answer.0)) (sym f.said)) in
    record {
      reply = right.0.reply ∙ (λ j. reply_by w.files (at j) (f.said j) (way j));
      files = (λ j. files_by w.files (at j) (f.said j) (way j));
      session =
          cond-true (is_own c t.by) _ _ (ap (is_own c) same ∙ same_name c)
          ∙ (λ j. session_by w.files (at j) (f.said j) (way j));
      right = right.1;
      told = sym f.replies;
    }

-- ---- moments

-- a moment of the first command of a connection
abbrev pub first_moment : (c : Name) (h : List Transaction) (command : List ℕ) (rest : List (List ℕ)) → First c h command rest
    → Moment h c [] command
first_moment c h command rest f = record {
  before = f.before;
  transaction = f.transaction;
  later = f.later;
  is = f.is;
  by = is_same f.transaction.by c f.by;
  said = f.said;
  front = f.none;
}

-- a moment of the back of a history is a moment of the history
abbrev pub moment_on : (c : Name) (history front back : List Transaction) (first later earlier : List (List ℕ)) (command : List ℕ)
    → history ≡ front ++ back → commands_by c front ≡ first → first ++ later ≡ earlier → Moment back c later command
    → Moment history c earlier command
moment_on c history front back first later earlier command is own both o = record {
  before = front ++ o.before;
  transaction = o.transaction;
  later = o.later;
  is = is ∙ ap (λ l. front ++ l) o.is ∙ sym (append_assoc front o.before (o.transaction ∷ o.later));
  by = o.by;
  said = o.said;
  front = commands_append c front o.before ∙ (λ j. own j ++ o.front j) ∙ both;
}

-- ---- an operation of one command

pub record OneIn (c : Name) (v : Service) (h : List Transaction) (s : SessionView) (command reply : List ℕ)
    (more : List (List ℕ)) : Type 0 where
  pub at : Moment h c [] command
  pub told : (file_step (after_all v at.before).files s command).reply ≡ reply
  pub files : (after_one (after_all v at.before) at.transaction).files ≡ (file_step (after_all v at.before).files s command).files
  -- the session, if the connection sent no more
  pub session : more ≡ [] → (after_all v h).session c ≡ (file_step (after_all v at.before).files s command).session

pub one_in : (c : Name) (v : Service) (h : List Transaction) (s : SessionView) (command reply : List ℕ)
    (more heard : List (List ℕ)) → AreRight v h → v.session c ≡ s → commands_by c h ≡ command ∷ more
    → replies_to c h ≡ reply ∷ heard → IsAnswer command reply → OneIn c v h s command reply more
one_in c v h s command reply more heard right ready said told answer =
    let f = first_of c h command more said in
    let o = is_next c v h s command reply more heard f right ready told answer in
    record {
      at = first_moment c h command more f;
      told = sym o.reply ∙ head_eq (o.told ∙ told);
      files = o.files;
      session = λ none.
          session_on c v h f.before (f.transaction ∷ f.later) f.is
          ∙ silent c (after_one (after_all v f.before) f.transaction) f.later (f.rest ∙ none) ∙ o.session;
    }
