use Rattle.std.proofs.Common.{◌≡◌, ◌++◌, codes, take}
use Rattle.std.specs.List.{flat_map}
use Rattle.chaosd_show.specs.Report.{hex_byte}
use Rattle.chaosd_show.proofs.report.put_data.Given as goal

abbrev pub invariant-loop-byte : goal.invariant-loop-byte
invariant-loop-byte l = l.out ≡ l.fn.out ++ (codes "data" ++ flat_map hex_byte (take l.byte-index l.body))
