use Rattle.std.proofs.Common.{◌≡◌, ℕ, ◌+◌, ◌<◌, false, List, All, MatchOption, length, take, drop, Option, Some, None}
use Rattle.memchr.specs.Find.{IsFirstByte, is_byte}
use Rattle.chaosd_io.specs.Lines.{is_newline, IsCut}
use Rattle.chaosd_io.proofs.FirstByte.{none_ends, first_cuts}
use Rattle.chaosd_io.proofs.lines.first_end.Goals as goal

ends : (xs : List ℕ) (r : Option ℕ) → IsFirstByte (is_byte 10) xs r
    → MatchOption r (All (λ b. is_newline b ≡ false) xs)
    (λ at. (at < length xs) × IsCut xs (take at xs) (drop (at + 1) xs))
ends xs None h = none_ends xs h
ends xs (Some at) h = (h.0.high, first_cuts xs at h.0.high h.0.before h.1)

pub returns : goal.returns
returns c = ends c.args.bytes.now c.memchr.result c.memchr.ensures
