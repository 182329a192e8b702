use Rattle.std.proofs.Common.{◌≡◌, ◌-◌, ◌<◌, length, take, drop, sym, subst, rules}
use Rattle.std.specs.Prelude.{Some}
use Rattle.chaosd_io.specs.Reader.{GivesLast}
use Rattle.chaosd_io.proofs.Cutting.{none_last, one_last}
use Rattle.chaosd_io.proofs.reader.LineReader.last.Goals as goal

pub returns-then-self : goal.returns-then-self
returns-then-self g c limit input rest given s end =
    let none : length c.args.self.now.begun ≡ 0 = search rules in
    none_last _ limit input rest given _ c.requires.kept c.requires.waiting none s end

pub returns-else-self : goal.returns-else-self
returns-else-self g c limit input rest given s end =
    let r = c.self.inside in
    let begun : take (r.from - r.begin) (drop r.begin r.bytes) ≡ c.args.self.now.begun = search rules in
    let some : 0 < length c.args.self.now.begun = search rules in
    subst (λ l. GivesLast g.row.KEPT limit input rest given (Some l)) (sym begun)
    (one_last _ limit input rest given _ c.requires.kept c.requires.waiting some s end)
