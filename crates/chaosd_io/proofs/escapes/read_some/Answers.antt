use Rattle.std.proofs.Common.{rules, ◌≡◌, ◌<◌, ◌≤◌, ◌+◌, ◌++◌, true, length, take}
use Rattle.std.specs.List.{list_all}
use Rattle.chaos_packet.specs.declared.limits.TheConstants.{MAX_DATA}
use Rattle.chaosd_io.specs.Escapes.{is_plain}
use Rattle.chaosd_io.proofs.TextBytes.{plain_step, plain_too_many}
use Rattle.chaosd_io.proofs.escapes.read_some.Goals as goal

pub returns-in-Ok-clause-read : goal.returns-in-Ok-clause-read
returns-in-Ok-clause-read c =
    let text = c.args.text.now in
    let n = c.min-count.result in
    let plain : list_all is_plain (take n text) ≡ true = search rules in
    let taken : c.try_extend_from_slice.new.self.items ≡ c.args.bytes.now.items ++ take n text = search rules in
    let some : 0 < n = search rules in
    let within : n ≤ length text = search rules in
    record { some = some; within = within; value = plain_step text c.args.bytes.now.items c.try_extend_from_slice.new.self.items n plain taken }

pub returns-in-Err-clause-none : goal.returns-in-Err-clause-none
returns-in-Err-clause-none c none =
    let text = c.args.text.now in
    let n = c.min-count.result in
    let plain : list_all is_plain (take n text) ≡ true = search rules in
    let many : MAX_DATA < length c.args.bytes.now.items + length (take n text) = search rules in
    plain_too_many text c.args.bytes.now.items n plain many
