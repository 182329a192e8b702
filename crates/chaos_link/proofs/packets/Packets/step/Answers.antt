use Rattle.std.proofs.Common.{◌≡◌, ◌∙◌, ◌*◌, ◌+◌, ◌-◌, ◌/◌, List, ℕ, drop, ap, sym, subst, arith, None}
use Rattle.chaos_link.specs.Datagram.{words_of}
use Rattle.chaos_link.specs.Packets.{packets_at, packets_fault}
use Rattle.chaos_link.proofs.Several.{Taken, taken}
use Rattle.chaos_link.proofs.packets.Packets.step.Goals as goal

took : (c : goal.After-self-1) → Taken c.self.inside.left c.in-Ok.count c.self.inside.words.now
took c =
    taken c.self.inside.left c.in-Ok.count c.self.inside.words.now (omega arith) c.in-Ok.ensures.count c.self.invariant

behind : (c : goal.After-self-1)
    → drop (2 * (8 + (c.in-Ok.count + 1) / 2)) c.self.inside.words.now ≡ c.split_at.result.1.now
behind c = sym (c.split_at.ensures.back ∙ ap (λ n. drop n c.self.inside.words.now) c.packet_bytes.ensures)

pub invariant_of-self : goal.invariant_of-self
invariant_of-self c =
    subst (λ (bs : List ℕ). packets_fault (c.self.inside.left - 1) 1 (words_of bs) ≡ None) (behind c) (took c).none

pub returns-clause-rest : goal.returns-clause-rest
returns-clause-rest c =
    ap (λ bs. packets_at (c.self.inside.left - 1) (words_of bs)) (sym (behind c)) ∙ ap (drop 1) (sym (took c).packets)
    ∙ ap (drop 1) c.self.view_is
