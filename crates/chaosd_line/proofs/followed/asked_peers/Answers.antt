-- A test of the texts is one of the references to them.
use Rattle.std.proofs.Common.{◌≡◌, ◌∙◌, ℕ, List, false, map, refl, sym, true}
use Rattle.std.specs.Borrow.{Bor}
use Rattle.std.specs.List.{list_any}
use Rattle.chaosd_line.specs.Followed.{asked_peers, names_followed}
use Rattle.chaosd_line.proofs.Named.{any_of}
use Rattle.chaosd_line.proofs.followed.asked_peers.Goals as goal

abbrev text : Bor (List ℕ) → List ℕ
text t = t.now

pub returns-then-follows_any : goal.returns-then-follows_any
unfolding asked_peers
returns-then-follows_any c =
    let any : list_any names_followed (map text c.args.texts.now) ≡ true =
    any_of names_followed text c.args.texts.now ∙ sym c.follows_any.ensures ∙ c.if-follows_any.true in
    rw any refl

pub returns : goal.returns
unfolding asked_peers
returns c =
    let none : list_any names_followed (map text c.args.texts.now) ≡ false =
    any_of names_followed text c.args.texts.now ∙ sym c.follows_any.ensures ∙ c.if-follows_any.false in
    rw none c.peers_among.ensures
