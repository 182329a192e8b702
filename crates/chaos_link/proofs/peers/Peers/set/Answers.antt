use Rattle.std.proofs.Common.{◌≡◌, ◌∙◌, ◌==◌, ap, arith, length, refl, sym}
use Rattle.std.specs.Prelude.{position}
use Rattle.std.proofs.lemmas.Bool.Decides.{nat_tests}
use Rattle.chaos_link.specs.Peers.{PeersView, socket_of}
use Rattle.chaos_link.proofs.Entries.{added_found, added_others, changed_found, changed_others, known_at, unknown}
use Rattle.chaos_link.proofs.peers.Peers.set.Goals as goal

pub returns-in-None-clause-too_many : goal.returns-in-None-clause-too_many
returns-in-None-clause-too_many c =
    let none = unknown c.args.peer c.args.self.now.hosts (sym c.place_of.ensures.place ∙ c.in-None.is) in
    let full : length c.args.self.now.hosts ≡ 32 = (let is = c.if-is_full.ensures.value in grind (arith, nat_tests)) in
    (λ _. (full, none), λ _. refl)

pub returns-in-Some-clause-found : goal.returns-in-Some-clause-found
returns-in-Some-clause-found c =
    rw c.replace.ensures (changed_found c.args.peer c.args.self.now.hosts c.args.self.now.bridge c.in-Some.place
    (sym c.place_of.ensures.place ∙ c.in-Some.is))

pub returns-in-Some-clause-others : goal.returns-in-Some-clause-others
returns-in-Some-clause-others c =
    rw c.replace.ensures (changed_others c.args.peer c.args.self.now.hosts c.args.self.now.bridge c.in-Some.place
    (sym c.place_of.ensures.place ∙ c.in-Some.is))

pub returns-in-Some-clause-too_many : goal.returns-in-Some-clause-too_many
returns-in-Some-clause-too_many c =
    let known = known_at c.args.peer c.args.self.now.hosts c.in-Some.place (sym c.place_of.ensures.place ∙ c.in-Some.is) in
    (λ wrong. absurd (cc), λ full. absurd (full.1 known))

pub returns-in-None-2-clause-found : goal.returns-in-None-2-clause-found
returns-in-None-2-clause-found c =
    rw c.push.ensures.items (added_found c.args.peer c.self.inside.table.items c.self.inside.bridge
    (ap (λ (v : PeersView). position (λ host. host.address == c.args.peer.address) v.hosts) c.self.view_is
    ∙ sym c.place_of.ensures.place ∙ c.in-None-2.is))

pub returns-in-None-2-clause-others : goal.returns-in-None-2-clause-others
returns-in-None-2-clause-others c address other =
    rw c.push.ensures.items (added_others c.args.peer c.self.inside.table.items c.self.inside.bridge address other
    ∙ ap (socket_of address) c.self.view_is)
