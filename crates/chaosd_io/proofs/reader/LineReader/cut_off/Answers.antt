use Rattle.std.proofs.Common.{◌≡◌, ◌+◌, ◌-◌, ◌∷◌, ◌++◌, ◌∙◌, length, take, drop, sym, ap, arith, rules}
use Rattle.chaosd_io.proofs.Cutting.{rest_cut, joined, nothing}
use Rattle.chaosd_io.proofs.reader.LineReader.cut_off.Goals as goal

pub returns-in-Some-clause-cut : goal.returns-in-Some-clause-cut
returns-in-Some-clause-cut g c =
    let r = c.self.inside in
    let piece = c.in-Some.piece.now in
    let begun : take (r.from - r.begin) (drop r.begin r.bytes) ≡ c.args.self.now.begun = search rules in
    let waits : take (r.to - r.from) (drop r.from r.bytes) ≡ c.args.self.now.waiting = search rules in
    let room : r.room ≡ c.args.self.now.room = search rules in
    let (within, rest, front) = rest_cut r.bytes piece _ r.from r.to (omega arith) (omega arith) c.in-Some.ensures.whole in (
      piece,
      c.in-Some.ensures.unended,
      sym waits ∙ c.in-Some.ensures.whole ∙ ap (λ l. piece ++ 10 ∷ l) (sym rest),
      joined r.bytes r.begin r.from (r.from + length piece) (omega arith) (omega arith)
          ∙ ap (λ l. l ++ take (r.from + length piece - r.from) (drop r.from r.bytes)) begun
          ∙ ap (λ l. c.args.self.now.begun ++ l) (ap (λ n. take n (drop r.from r.bytes)) (omega arith) ∙ front),
      nothing r.bytes (r.from + length piece + 1),
      room,
    )

pub returns-in-None-clause-cut : goal.returns-in-None-clause-cut
returns-in-None-clause-cut g c =
    let r = c.self.inside in
    let begun : take (r.from - r.begin) (drop r.begin r.bytes) ≡ c.args.self.now.begun = search rules in
    let waits : take (r.to - r.from) (drop r.from r.bytes) ≡ c.args.self.now.waiting = search rules in
    let room : r.room ≡ c.args.self.now.room = search rules in (
      search rules,
      nothing r.bytes r.to,
      joined r.bytes r.begin r.from r.to (omega arith) (omega arith)
          ∙ ap (λ l. l ++ take (r.to - r.from) (drop r.from r.bytes)) begun
          ∙ ap (λ l. c.args.self.now.begun ++ l) waits,
      room,
    )
