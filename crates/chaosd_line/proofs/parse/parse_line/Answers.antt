-- clap's answer at this command, which is one of those for which clap gives it exactly; and the name and the rows of the
-- subcommand that clap entered.
use Rattle.std.proofs.Common.{◌≡◌, ◌∙◌, List, [], ◌∷◌, ◌⊎◌, Option, None, Some, ap, inl, inr, map, option_map, subst, sym}
use Rattle.std.proofs.lemmas.Option.{same_Some}
use Rattle.clap.specs.Kinds.{IsAmong}
use Rattle.clap.specs.Values.{kind_of}
use Rattle.clap.specs.Words.{FailsBy, Row, Text, fault_of, found_of, is_simple, is_simple_and_free, rows_of, subcommand_of, subcommand_rows_of}
use Rattle.clap.specs.declared.error.kind.ErrorKind.{ErrorKind}
use Rattle.clap.specs.declared.error.kind.ErrorKind.TheVariants.{OutOfMemory}
use Rattle.clap.proofs.FaultLemmas.{fails_as}
use Rattle.chaosd_line.specs.CommandLine.{chaosd}
use Rattle.chaosd_line.specs.Fault.{IsKindFor, IsReported}
use Rattle.chaosd_line.specs.Lines.{IfBad, asked_line, line_of, line_view}
use Rattle.chaosd_line.specs.declared.line_problem.LineProblem.{LineProblem}
use Rattle.chaosd_line.specs.declared.line_problem.LineProblem.TheVariants as problem
use Rattle.chaosd_line.proofs.Simple.{is_free_chaosd, is_simple_chaosd}
use Rattle.chaosd_line.proofs.parse.parse_line.Goals as goal

entered : {B : Type 0} (o : Option B) (parts : B → Text × List Row) (n : Text) (r : List Row)
    → Some n ≡ option_map (λ b. (parts b).0) o
    → Some r ≡ option_map (λ (p : Text × List Row). p.1) (option_map parts o)
    → ◌≡◌ {A = Option (Text × List Row)} (Some (n, r)) (option_map parts o)
entered None parts n r e f = absurd cc
entered (Some b) parts n r e f = λ i. Some (same_Some n (parts b).0 e i, same_Some r (parts b).1 f i)

-- clap's own refusal, or one of the same kind with another text
refused : (words : List Text) (k kind : ErrorKind) → (k ≡ OutOfMemory) ⊎ IsAmong k (fault_of chaosd words)
    → (kind ≡ k) ⊎ (kind ≡ OutOfMemory) → IsKindFor words kind
refused words k kind h (inl e) = inl (subst (λ z. IsAmong z (OutOfMemory ∷ fault_of chaosd words)) (sym e) h)
refused words k kind h (inr e) = inl (inl e)

-- the report of a value that is bad
reported : (words : List Text) (p : LineProblem) (kind : ErrorKind) → fault_of chaosd words ≡ []
    → IfBad p (asked_line words ≡ None) → IsReported p kind → IsKindFor words kind
reported words (problem.Bad word) kind none bad (inl e) = inr (e, (none, bad))
reported words (problem.Bad word) kind none bad (inr e) = inl (inl e)
reported words (problem.Clash files) kind none bad (inl e) = inr (e, (none, bad))
reported words (problem.Clash files) kind none bad (inr e) = inl (inl e)
reported words problem.NoMemory kind none bad e = inl (inl e)

pub returns-in-Err-clause-kinds : goal.returns-in-Err-clause-kinds
returns-in-Err-clause-kinds g c =
    let words = map g.S.AsStr.text c.args.words.now in
    let kinds : FailsBy (fault_of chaosd words) c.try_get_matches_from_mut.result =
    fails_as _ _ _ (ap (λ a. fault_of a words) c.in_ok-command.ensures)
    (c.try_get_matches_from_mut.ensures.kinds (ap is_simple_and_free c.in_ok-command.ensures ∙ is_free_chaosd)) in
    refused words (kind_of c.in-Err.error) _ (rw c.in-Err.is at kinds) c.named.ensures

pub returns-in-Ok-line_named-clause-line : goal.returns-in-Ok-line_named-clause-line
returns-in-Ok-line_named-clause-line g c =
    let words = map g.S.AsStr.text c.args.words.now in
    let rows : subcommand_rows_of c.in-Ok.matches ≡ subcommand_of chaosd words =
    (c.in-Ok.ensures.ok.2 (ap is_simple c.in_ok-command.ensures ∙ is_simple_chaosd)).1
    ∙ ap (λ a. subcommand_of a words) c.in_ok-command.ensures in
    let found = entered _ _ c.in-Some.name.now (rows_of (found_of c.in-Some.values.now)) c.in-Some.ensures.name
    c.in-Some.ensures.rows in
    subst (λ f. line_of f ≡ Some (line_view c.in-Ok-line_named.line)) (found ∙ rows) c.in-Ok-line_named.ensures

pub returns-in-Ok-line_named-clause-kinds : goal.returns-in-Ok-line_named-clause-kinds
returns-in-Ok-line_named-clause-kinds g c =
    let words = map g.S.AsStr.text c.args.words.now in
    let kinds : FailsBy (fault_of chaosd words) c.try_get_matches_from_mut.result =
    fails_as _ _ _ (ap (λ a. fault_of a words) c.in_ok-command.ensures)
    (c.try_get_matches_from_mut.ensures.kinds (ap is_simple_and_free c.in_ok-command.ensures ∙ is_free_chaosd)) in
    rw c.in-Ok.is at kinds

pub returns-in-Some-clause-kinds : goal.returns-in-Some-clause-kinds
returns-in-Some-clause-kinds g c =
    let words = map g.S.AsStr.text c.args.words.now in
    let kinds : FailsBy (fault_of chaosd words) c.try_get_matches_from_mut.result =
    fails_as _ _ _ (ap (λ a. fault_of a words) c.in_ok-command.ensures)
    (c.try_get_matches_from_mut.ensures.kinds (ap is_simple_and_free c.in_ok-command.ensures ∙ is_free_chaosd)) in
    let rows : subcommand_rows_of c.in-Ok.matches ≡ subcommand_of chaosd words =
    (c.in-Ok.ensures.ok.2 (ap is_simple c.in_ok-command.ensures ∙ is_simple_chaosd)).1
    ∙ ap (λ a. subcommand_of a words) c.in_ok-command.ensures in
    let found = entered _ _ c.in-Some.name.now (rows_of (found_of c.in-Some.values.now)) c.in-Some.ensures.name
    c.in-Some.ensures.rows in
    reported words c.in-Err-line_named.problem _ (rw c.in-Ok.is at kinds)
    (subst (λ f. IfBad c.in-Err-line_named.problem (line_of f ≡ None)) (found ∙ rows) c.in-Err-line_named.ensures) c.report_of.ensures
