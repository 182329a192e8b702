-- Words and subcommands that are added one after another.
use Rattle.std.proofs.Common.{◌≡◌, ◌∙◌, ◌+◌, ◌<◌, ◌++◌, ◌∷◌, ℕ, List, [], length, map, take, get_or, refl, ap, sym, append_assoc}
use Rattle.std.proofs.lemmas.List.{map_more, take_more}
use Rattle.clap.specs.Words.{App, Rule, with_rule, with_subcommand}
use Rattle.chaosd_line.specs.CommandLine.{app_named, with_rules, with_subs}
use Rattle.chaosd_line.specs.declared.sub.SubName.{SubName}

-- one word more
pub rules_step : {X : Type 0} (f : X → Rule) (xs : List X) (i : ℕ) (d : X) (start mid new : App) → i < length xs
    → mid ≡ with_rules start (map f (take i xs)) → new ≡ with_rule mid (f (get_or xs i d))
    → new ≡ with_rules start (map f (take (i + 1) xs))
rules_step f xs i d start mid new lt before added =
    added ∙ ap (λ a. with_rule a (f (get_or xs i d))) before
    ∙ ap (λ rules. record start { top = record start.top { rules = rules } })
    (append_assoc start.top.rules (map f (take i xs)) (f (get_or xs i d) ∷ []))
    ∙ ap (with_rules start) (sym (map_more f xs i d lt))

subs_more : (app : App) (subs : List SubName) (s : SubName)
    → with_subs app (subs ++ s ∷ []) ≡ with_subcommand (with_subs app subs) (app_named s).top
subs_more app [] s = refl
subs_more app (t ∷ subs) s = subs_more (with_subcommand app (app_named t).top) subs s

-- one subcommand more
pub subs_step : (subs : List SubName) (i : ℕ) (d : SubName) (start mid new : App) → i < length subs
    → mid ≡ with_subs start (take i subs) → new ≡ with_subcommand mid (app_named (get_or subs i d)).top
    → new ≡ with_subs start (take (i + 1) subs)
subs_step subs i d start mid new lt before added =
    added ∙ ap (λ a. with_subcommand a (app_named (get_or subs i d)).top) before
    ∙ sym (subs_more start (take i subs) (get_or subs i d)) ∙ ap (with_subs start) (sym (take_more subs i d lt))
