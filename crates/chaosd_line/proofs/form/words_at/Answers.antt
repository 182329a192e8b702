-- clap's getter gives all values of the rows.
use Rattle.std.proofs.Common.{◌≡◌, ◌∙◌, List, [], Option, None, Some, ap, map, option_map}
use Rattle.std.specs.Borrow.{Bor}
use Rattle.std.specs.Option.{UnwrapsOrElse, unwrap_or}
use Rattle.clap.specs.Words.{Text, found_of}
use Rattle.clap.proofs.WalkLemmas.{raw_values-rows}
use Rattle.chaosd_line.proofs.form.words_at.Goals as goal

or_none : (o : Option (Bor (List (Bor Text)))) (all : Option (List Text)) (r : Bor (List (Bor Text)))
    → option_map (λ s. map (λ t. t.now) s.now) o ≡ all → UnwrapsOrElse o (λ x. x.now ≡ []) r
    → map (λ t. t.now) r.now ≡ unwrap_or all []
or_none None all r e h = ap (map (λ t. t.now)) h ∙ ap (λ o. unwrap_or o []) e
or_none (Some x) all r e h = ap (λ s. map (λ t. t.now) s.now) h ∙ ap (λ o. unwrap_or o []) e

pub returns : goal.returns
returns c = or_none c.get_strs.result _ c.unwrap_or_default.result
    (c.get_strs.ensures ∙ raw_values-rows (found_of c.args.matches.now) c.args.place.now)
    c.unwrap_or_default.ensures
