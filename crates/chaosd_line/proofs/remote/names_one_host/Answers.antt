-- A test of the texts is one of the references to them.
use Rattle.std.proofs.Common.{◌∙◌, ℕ, List, ap, map, sym}
use Rattle.std.specs.Borrow.{Bor}
use Rattle.std.specs.List.{list_all}
use Rattle.std.proofs.lemmas.List.Folds.{list_all-map}
use Rattle.chaosd_line.specs.Hosts.{is_at}
use Rattle.chaosd_line.specs.Remote.{first_host}
use Rattle.chaosd_line.proofs.remote.names_one_host.Goals as goal

abbrev text : Bor (List ℕ) → List ℕ
text t = t.now

pub returns : goal.returns
returns c = c.all_at.ensures
    ∙ ap (λ host. list_all (λ t. is_at host (text t)) c.args.words.now) c.first_host.ensures
    ∙ sym (list_all-map (is_at (first_host (map text c.args.words.now))) text c.args.words.now)
