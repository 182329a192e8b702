use Rattle.std.proofs.Common.{◌≡◌, ℕ, true}
use Rattle.chaos_link.proofs.Either.{one_list}
use Rattle.chaos_seal.specs.Peers.{is_heard_in_clear}
use Rattle.chaos_seal.proofs.Carried.{each_source}
use Rattle.chaos_seal.proofs.seals.Seals.is_clear.Goals as goal

pub returns : goal.returns
returns c =
    let each =
    each_source (λ (source : ℕ). is_heard_in_clear source c.args.self.now ≡ true) c.args.bytes.now c.sources.result.items one_list
    c.sources.ensures in (
      λ yes. each.0 (rw c.as_slice.ensures.value at (c.hears_all.ensures.0 yes)),
      λ all. c.hears_all.ensures.1 (rw c.as_slice.ensures.value (each.1 all)),
    )
