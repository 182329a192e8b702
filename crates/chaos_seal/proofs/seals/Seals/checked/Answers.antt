use Rattle.std.proofs.Common.{◌∙◌, ap, sym, arith}
use Rattle.chaos_seal.specs.Peers.{SealsView, peer_of}
use Rattle.chaos_seal.specs.Seal.{front, tag_of}
use Rattle.chaos_seal.specs.declared.peer.SealPeer.{SealPeer}
use Rattle.chaos_seal.proofs.Answered.{for_me, sent_by}
use Rattle.chaos_seal.proofs.Parts.{sealed_by_parts}
use Rattle.chaos_seal.proofs.Table.{none_found, seen}
use Rattle.chaos_seal.proofs.seals.Seals.checked.Goals as goal

pub returns-in_default-clause-fault : goal.returns-in_default-clause-fault
returns-in_default-clause-fault c =
    let h = c.read_head-head in (
      for_me c.args.self.now c.args.bytes.now h.result (omega (arith, c.if-bytes-lt-SEAL_BYTES.false))
          (omega (arith, c.if-bytes-ne0.false)) h.ensures.fits h.ensures.to
          (omega (arith, c.if-head-self.false, ap (λ (v : SealsView). v.me) c.self.view_is)),
      ap (λ a. peer_of a c.args.self.now.peers) (sent_by c.args.bytes.now h.result h.ensures.fits h.ensures.from)
          ∙ none_found h.result.from c.args.self.now.peers (sym c.place_of.ensures.place ∙ c.in_default.is),
    )

pub returns-then-not-has_right_tag-clause-fault : goal.returns-then-not-has_right_tag-clause-fault
returns-then-not-has_right_tag-clause-fault c =
    let h = c.read_head-head in
    let (at, found) =
    seen h.result.from c.args.self.now.peers c.as_slice.result.now c.in-Some.place c.index-as_slice-place.result
    (sym c.place_of.ensures.place ∙ c.in-Some.is)
    (c.as_slice.ensures.value ∙ ap (λ (v : SealsView). v.peers) c.self.view_is) c.index-as_slice-place.is in (
      for_me c.args.self.now c.args.bytes.now h.result (omega (arith, c.if-bytes-lt-SEAL_BYTES.false))
          (omega (arith, c.if-bytes-ne0.false)) h.ensures.fits h.ensures.to
          (omega (arith, c.if-head-self.false, ap (λ (v : SealsView). v.me) c.self.view_is)),
      (
        c.index-as_slice-place.result,
        ap (λ a. peer_of a c.args.self.now.peers) (sent_by c.args.bytes.now h.result h.ensures.fits h.ensures.from) ∙ found,
        λ right.
            let yes =
            c.has_right_tag.ensures.1
            (right ∙ ap (λ (q : SealPeer). tag_of q.key (front c.args.bytes.now)) c.index-as_slice-place.is) in
            cc (yes, c.if-not-has_right_tag.true),
      ),
    )

pub returns-clause-comes : goal.returns-clause-comes
returns-clause-comes c =
    let h = c.read_head-head in
    let p = c.index-as_slice-place.result in
    let first = sym c.place_of.ensures.place ∙ c.in-Some.is in
    let (at, found) =
    seen h.result.from c.args.self.now.peers c.as_slice.result.now c.in-Some.place p first
    (c.as_slice.ensures.value ∙ ap (λ (v : SealsView). v.peers) c.self.view_is) c.index-as_slice-place.is in
    record {
      peer = p;
      there = at;
      first = first;
      comes = record {
        known = found;
        me = omega (arith, c.if-head-self.false, ap (λ (v : SealsView). v.me) c.self.view_is);
        sealed =
            sealed_by_parts p.key c.args.bytes.now h.result (omega (arith, c.if-bytes-lt-SEAL_BYTES.false)) h.ensures.fits
            (record {
              to = h.ensures.to;
              from = h.ensures.from;
              session = h.ensures.session;
              peer = h.ensures.peer;
              counter = h.ensures.counter;
            })
            c.requires (omega (arith, c.if-bytes-ne0.false)) (c.has_right_tag.ensures.0 c.if-not-has_right_tag.false
            ∙ sym (ap (λ (q : SealPeer). tag_of q.key (front c.args.bytes.now)) c.index-as_slice-place.is));
      };
    }
