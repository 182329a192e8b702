use Rattle.std.proofs.Common.{◌≡◌, ℕ}
use Rattle.chaos_link.proofs.Either.{one_list}
use Rattle.chaos_seal.proofs.Carried.{each_source}
use Rattle.chaos_seal.proofs.sources.is_all_from.Goals as goal

pub returns : goal.returns
returns c =
    let each = each_source (λ (source : ℕ). source ≡ c.args.from) c.args.bytes.now c.sources.result.items one_list c.sources.ensures in (
      λ yes. each.0 (rw c.as_slice.ensures.value at (c.are_all.ensures.0 yes)),
      λ all. c.are_all.ensures.1 (rw c.as_slice.ensures.value (each.1 all)),
    )
