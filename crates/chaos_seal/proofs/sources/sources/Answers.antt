use Rattle.std.proofs.Common.{◌≡◌, ◌∙◌, ◌++◌, ◌∷◌, [], Some, length, length-append, arith, ap, ap₂, sym, inl, inr, map, option_map, slice_get}
use Rattle.chaos_seal.proofs.Carried.{fewer, no_more, none_left, one_more, source_of}
use Rattle.chaos_seal.proofs.sources.sources.Goals as goal

pub returns-in_default : goal.returns-in_default
returns-in_default c =
    inr (λ packets carried. c.in_default.not-Ok packets (c.open_datagram.ensures.only packets carried), c.new-sources.ensures)

pub returns-in_default-source : goal.returns-in_default-source
returns-in_default-source c =
    let (packets, carried, whole) = c.loop-turn.invariant.whole in
    inl (
      packets,
      carried,
      sym (no_more c.loop-turn.sources.items c.loop-turn.packets (sym c.in_default-source.is ∙ c.source.ensures)) ∙ whole,
    )

pub loop-turn-preserved : goal.loop-turn-preserved
loop-turn-preserved c =
    let items = c.loop-turn.sources.items in
    let left = c.loop-turn.packets in
    let source = c.in-Some.source in
    let some : Some source ≡ option_map source_of (slice_get left 0) = sym c.in-Some.is ∙ c.source.ensures in
    let (packets, carried, whole) = c.loop-turn.invariant.whole in
    record {
      whole = (
        packets,
        carried,
        ap₂ (λ l r. l ++ map source_of r) c.push.ensures.items c.next_into.ensures.rest ∙ sym (one_more items left source some)
            ∙ whole,
      );
      taken = omega (arith, ap length c.push.ensures.items, length-append items (source ∷ []), c.loop-turn.invariant.taken);
      few = omega (arith, ap length c.next_into.ensures.rest, fewer left source some, c.loop-turn.invariant.few);
    }

pub returns : goal.returns
returns c =
    let (packets, carried, whole) = c.loop-turn.invariant.whole in
    inl (
      packets,
      carried,
      sym
          (none_left c.loop-turn.sources.items c.loop-turn.packets
          (omega (arith, c.loop-turn.invariant.few, c.loop-turn-test.false)))
          ∙ whole,
    )
